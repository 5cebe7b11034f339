-- A refusal is handed on, and what an accepted call was given is a plot.
use mathlib.Core.Path.{sym, ◌∙◌, ap}
use native.Mathlib.Omega.{arith}
use Rattle.surface.specs.Plot.{plot_of}
use Rattle.surface.specs.Refusals.{survey_verdict}
use Rattle.surface.specs.Calls.{plot_by}
use Rattle.surface.specs.declared.Answer.{Answer}
use Rattle.surface.proofs.OfCalls.Verdicts.{code}
use Rattle.surface.proofs.OfCalls.Outcomes.{refused-numbered, handed}
use Rattle.surface.proofs.OfCalls.Accepted.{Gridded, gridded}
use Rattle.surface.proofs.OfCalls.MarkCalls.{ForSurvey, survey-valid, survey-refused, survey-served, survey-filled}
use Rattle.survey.specs.Told.{counts_of}
use Rattle.survey.proofs.survey.Goals as goal
use Rattle.survey.proofs.survey.Goals.{In_ok-grid}

module _ (c : In_ok-grid) where
  -- the plot that the call goes on with, and what acceptance says of it
  served : let a = c.args in Gridded (plot_by a.sheet.now a.rows a.columns a.heights.now) c.in_ok-grid.grid (λ pl. survey_verdict pl a.marks.now)
  served = gridded _ _ _ c.in_ok-grid.ensures.value c.in_ok-grid.ensures.grid

  accepted : ForSurvey (plot_of c.in_ok-grid.grid c.args.heights.now) c.args.marks.now
  accepted = survey-valid _ _ served.passed

pub returns-in_err-grid : goal.returns-in_err-grid
returns-in_err-grid c =
    let e = c.in_err-grid.ensures.value in
    let r = survey-refused _ _ (λ z. refused-numbered _ (code e ∙ z)) in
    record {
      value = ap counts_of (handed _ _ c.from_residual.ensures.1)
          ∙ ap (λ (a : Answer). record { code = a.code; place = a.place; peaks = 0; pits = 0; saddles = 0 }) e
          ∙ sym r.0;
      marks_after = sym r.1;
    }

pub mark_plot-requires : goal.mark_plot-requires
mark_plot-requires c = let a = accepted (goal.at.mark_plot-requires c).In_ok-grid in (a.valid, a.marks_size)

pub count-counts-requires : goal.count-counts-requires
count-counts-requires c =
    let a = accepted (goal.at.count-counts-requires c).In_ok-grid in
    omega (arith, c.mark_plot.auto.marks, a.marks_size, a.valid.sides)

pub returns : goal.returns
returns c =
    let s = served (goal.at.returns c).In_ok-grid in
    let w = c.mark_plot.ensures ∙ sym (survey-filled _ _ s.passed) in
    let n = rw w at c.count-counts.ensures in
    rw s.same_plot
    record { value = rw (n.peaks_are, n.pits_are, n.saddles_are) (sym (survey-served _ _ s.passed)); marks_after = w }

-- A refusal is handed on, and an accepted call puts the height in and redraws the marks round it.
use mathlib.Core.Path.{◌≡◌, sym, ◌∙◌, ap}
use native.Mathlib.Omega.{arith}
use mir.Syntax.{w32}
use mir.Val.{to_z, of_z}
use borrow.Author.Rules.{rules}
use Rattle.surface.specs.Plot.{plot_of}
use Rattle.surface.specs.Refusals.{reshoot_verdict}
use Rattle.surface.specs.Refused.{outcome}
use Rattle.surface.specs.Calls.{plot_by, reshoot_answer}
use Rattle.surface.proofs.OfCalls.Verdicts.{code}
use Rattle.surface.proofs.OfCalls.Outcomes.{refused-numbered, handed}
use Rattle.surface.proofs.OfCalls.Accepted.{Gridded, gridded}
use Rattle.surface.proofs.OfCalls.MarkCalls.{ForReshoot, reshoot-valid, reshoot-refused, reshoot-filled}
use Rattle.surface.proofs.OfCalls.Series.{reshot-valid}
use Rattle.survey.proofs.reshoot.Goals as goal
use Rattle.survey.proofs.reshoot.Goals.{In_ok-grid, Start}

-- the new height, as the code holds it
held : (s : Start) → to_z w32 (of_z w32 s.args.height) ≡ s.args.height
held s = search rules

module _ (c : In_ok-grid) where
  -- the plot that the call goes on with, and what acceptance says of it
  served : let a = c.args in
      Gridded (plot_by a.sheet.now a.rows a.columns a.heights.now) c.in_ok-grid.grid (λ pl. reshoot_verdict pl a.marks.now a.post a.height)
  served = gridded _ _ _ (rw (held (goal.at.In_ok-grid c).Start) at c.in_ok-grid.ensures.value) c.in_ok-grid.ensures.grid

  accepted : let a = c.args in ForReshoot (plot_of c.in_ok-grid.grid a.heights.now) a.marks.now a.post a.height
  accepted = reshoot-valid _ _ _ _ served.passed

pub returns-in_err-grid : goal.returns-in_err-grid
unfolding reshoot_answer
returns-in_err-grid c =
    let e = rw (held (goal.at.returns-in_err-grid c).Start) at c.in_err-grid.ensures.value in
    let k = reshoot-refused _ _ _ _ (λ z. refused-numbered _ (code e ∙ z)) in
    record { value = ap outcome (handed _ _ c.from_residual.ensures.1) ∙ e; heights_after = sym k.0; marks_after = sym k.1 }

pub bounds-heights-p : goal.bounds-heights-p
bounds-heights-p c = let a = accepted (goal.at.bounds-heights-p c).In_ok-grid in omega (arith, a.valid.size, a.post_in)

pub redraw-requires : goal.redraw-requires
redraw-requires c =
    let a = accepted (goal.at.redraw-requires c).In_ok-grid in
    rw (held (goal.at.redraw-requires c).Start) (record { valid = reshot-valid _ c.args.post c.args.height a.valid a.in_range; post = a.post_in }, a.marks_size)

pub returns : goal.returns
unfolding reshoot_answer
returns c =
    let h = held (goal.at.returns c).Start in
    let s = served (goal.at.returns c).In_ok-grid in
    let k = reshoot-filled _ _ _ _ s.passed in
    record {
      value = rw h at c.in_ok-grid.ensures.value;
      heights_after = rw s.same_plot (rw h (sym k.0));
      marks_after = rw s.same_plot (rw h at c.redraw.ensures ∙ sym k.1);
    }

-- A refusal is handed on, and joins and splits are those of the patterns.
use mathlib.Core.Path.{sym, ◌∙◌, ap}
use Rattle.surface.specs.Plot.{plot_of}
use Rattle.surface.specs.Refusals.{joins_verdict}
use Rattle.surface.specs.Refused.{outcome}
use Rattle.surface.specs.Calls.{plot_by, joins_answer}
use Rattle.surface.proofs.OfCalls.Verdicts.{code}
use Rattle.surface.proofs.OfCalls.Outcomes.{refused-numbered, handed}
use Rattle.surface.proofs.OfCalls.Accepted.{Gridded, gridded}
use Rattle.surface.proofs.OfCalls.JoinsCall.{ForJoins, joins-valid, joins-refused, joins-filled}
use Rattle.joins.proofs.Patterned.{patterns-long, splits-long, splits-le, joins-told}
use Rattle.joins.proofs.joins_and_splits.Goals as goal
use Rattle.joins.proofs.joins_and_splits.Goals.{In_ok-grid}

module _ (c : In_ok-grid) where
  -- the plot that the call goes on with, and what acceptance says of it
  served : let a = c.args in
      Gridded (plot_by a.sheet.now a.rows a.columns a.heights.now) c.in_ok-grid.grid (λ pl. joins_verdict pl a.joins.now a.splits.now)
  served = gridded _ _ _ c.in_ok-grid.ensures.value c.in_ok-grid.ensures.grid

  -- what the call was lent
  lent : let a = c.args in ForJoins (plot_of c.in_ok-grid.grid a.heights.now) a.joins.now a.splits.now
  lent = joins-valid _ _ _ served.passed

pub returns-in_err-grid : goal.returns-in_err-grid
unfolding joins_answer
returns-in_err-grid c =
    let e = c.in_err-grid.ensures.value in
    let k = joins-refused _ _ _ (λ z. refused-numbered _ (code e ∙ z)) in
    record { value = ap outcome (handed _ _ c.from_residual.ensures.1) ∙ e; joins_after = sym k.0; splits_after = sym k.1 }

pub pattern_plot-requires : goal.pattern_plot-requires
pattern_plot-requires c = let f = lent (goal.at.pattern_plot-requires c).In_ok-grid in (f.valid, f.joins_size)

pub fill_splits-requires : goal.fill_splits-requires
fill_splits-requires c =
    let f = lent (goal.at.fill_splits-requires c).In_ok-grid in
    (f.valid, c.pattern_plot.ensures, f.splits_size)

pub fill_joins-requires : goal.fill_joins-requires
fill_joins-requires c =
    let v = (lent (goal.at.fill_joins-requires c).In_ok-grid).valid in
    let e = c.pattern_plot.ensures in
    let f = c.fill_splits.ensures in
    (splits-long _ v e f ∙ sym (patterns-long _ v e f), splits-le _ v e f)

pub returns : goal.returns
unfolding joins_answer
returns c =
    let after = (goal.at.returns c).In_ok-grid in
    let k = joins-filled _ _ _ (served after).passed in
    record {
      value = c.in_ok-grid.ensures.value;
      joins_after =
          rw (served after).same_plot
          (c.fill_joins.ensures ∙ joins-told _ (lent after).valid c.pattern_plot.ensures c.fill_splits.ensures ∙ sym k.0);
      splits_after = rw (served after).same_plot (c.fill_splits.ensures ∙ sym k.1);
    }

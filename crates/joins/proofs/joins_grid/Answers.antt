-- After the rows that lead, row 3, then row 4.
use mathlib.Core.Path.{◌≡◌, sym, ◌∙◌, ap}
use native.Mathlib.Omega.{arith}
use Rattle.surface.specs.Plot.{Plot}
use Rattle.surface.specs.Refusals.{verdict, leading}
use Rattle.surface.specs.Refused.{outcome}
use Rattle.surface.specs.Calls.{plot_by}
use Rattle.surface.proofs.OfCalls.Accepted.{led-sized}
use Rattle.surface.proofs.OfCalls.Verdicts.{code}
use Rattle.surface.proofs.OfCalls.Outcomes.{refused-numbered, handed}
use Rattle.surface.proofs.OfCalls.JoinsCall.{joins-led, joins-unequal, joins-equal}
use Rattle.joins.proofs.joins_grid.Goals as goal
use Rattle.joins.proofs.joins_grid.Goals.{In_ok-grid}

module _ (c : In_ok-grid) where
  abbrev asked : Plot
  asked = let a = c.args in plot_by a.sheet.now a.rows a.columns a.heights.now

  -- the rows that lead pass
  led : (verdict (leading asked)).code ≡ 0
  led = sym (code c.in_ok-grid.ensures.value)

pub returns-in_err-grid-clause-value : goal.returns-in_err-grid-clause-value
returns-in_err-grid-clause-value c =
    let e = c.in_err-grid.ensures.value in
    ap outcome (handed _ _ c.from_residual.ensures.1) ∙ e ∙ sym (joins-led _ _ _ (λ z. refused-numbered _ (code e ∙ z)))

pub returns-then-joins-posts-clause-value : goal.returns-then-joins-posts-clause-value
returns-then-joins-posts-clause-value c =
    let here = (goal.at.returns-then-joins-posts-clause-value c).In_ok-grid in
    sym (joins-unequal (asked here) _ _ (led here) c.if-joins-posts.true)

pub check_heights-requires : goal.check_heights-requires
check_heights-requires c =
    let here = (goal.at.check_heights-requires c).In_ok-grid in
    let k = led-sized (asked here) (led here) in omega (arith, k.0, k.1)

pub returns-in_err-check_heights-clause-value : goal.returns-in_err-check_heights-clause-value
returns-in_err-check_heights-clause-value c =
    let here = (goal.at.returns-in_err-check_heights-clause-value c).In_ok-grid in
    ap outcome (handed _ _ c.from_residual-in_err-check_heights.ensures.1)
    ∙ c.in_err-check_heights.ensures
    ∙ sym (joins-equal (asked here) _ _ (led here) c.if-joins-posts.false)

pub returns-clause-value : goal.returns-clause-value
returns-clause-value c =
    let here = (goal.at.returns-clause-value c).In_ok-grid in
    c.in_ok-check_heights.ensures ∙ sym (joins-equal (asked here) _ _ (led here) c.if-joins-posts.false)

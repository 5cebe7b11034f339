-- After the rows that lead, row 3, then rows 4 and 5.
use mathlib.Core.Path.{◌≡◌, sym, ◌∙◌, ap}
use mathlib.Core.List.{[], ◌∷◌}
use native.Mathlib.Omega.{arith}
use lib.ListN.{length}
use Rattle.surface.specs.Plot.{Plot, posts, Sides}
use Rattle.surface.specs.Refusals.{ring_verdict}
use Rattle.surface.specs.Refused.{outcome}
use Rattle.surface.specs.Calls.{plot_by}
use Rattle.surface.proofs.OfCalls.Verdicts.{code}
use Rattle.surface.proofs.OfCalls.Outcomes.{check-refused, check-passed, handed}
use Rattle.surface.proofs.OfCalls.Accepted.{led-sized}
use Rattle.limits.proofs.Table.{range-posts}
use Rattle.ring.proofs.ring_grid.Goals as goal
use Rattle.ring.proofs.ring_grid.Goals.{In_ok-grid}

module _ (c : In_ok-grid) where
  abbrev asked : Plot
  asked = let a = c.args in plot_by a.sheet.now a.rows a.columns a.heights.now

  sized : Sides asked.rows asked.columns × (length asked.heights ≡ posts asked)
  sized = led-sized asked (sym (code c.in_ok-grid.ensures.value))

pub returns-in_err-grid-clause-value : goal.returns-in_err-grid-clause-value
unfolding ring_verdict
returns-in_err-grid-clause-value c =
    ap outcome (handed _ _ c.from_residual.ensures.1) ∙ check-refused (_ ∷ _ ∷ _ ∷ _ ∷ []) _ tt _ c.in_err-grid.ensures.value

pub returns-in_err-unless-clause-value : goal.returns-in_err-unless-clause-value
unfolding ring_verdict
returns-in_err-unless-clause-value c =
    ap outcome (handed _ _ c.from_residual-in_err-unless.ensures.1)
    ∙ check-refused (_ ∷ []) _ tt _ c.in_err-unless.ensures
    ∙ sym (check-passed (_ ∷ _ ∷ _ ∷ _ ∷ []) _ tt c.in_ok-grid.ensures.value)

pub check_post-requires : goal.check_post-requires
check_post-requires c = let k = sized (goal.at.check_post-requires c).In_ok-grid in omega (arith, k.0, k.1)

pub returns-in_err-check_post-clause-value : goal.returns-in_err-check_post-clause-value
unfolding ring_verdict
returns-in_err-check_post-clause-value c =
    let here = (goal.at.returns-in_err-check_post-clause-value c).In_ok-grid in
    ap outcome (handed _ _ c.from_residual-in_err-check_post.ensures.1)
    ∙ c.in_err-check_post.ensures
    ∙ range-posts (asked here) _ (sized here).1
    ∙ sym (check-passed (_ ∷ _ ∷ _ ∷ _ ∷ []) _ tt c.in_ok-grid.ensures.value ∙ check-passed (_ ∷ []) _ tt c.in_ok-unless.ensures)

pub returns-clause-value : goal.returns-clause-value
unfolding ring_verdict
returns-clause-value c =
    let here = (goal.at.returns-clause-value c).In_ok-grid in
    c.in_ok-check_post.ensures
    ∙ range-posts (asked here) _ (sized here).1
    ∙ sym (check-passed (_ ∷ _ ∷ _ ∷ _ ∷ []) _ tt c.in_ok-grid.ensures.value ∙ check-passed (_ ∷ []) _ tt c.in_ok-unless.ensures)

-- After the rows that lead, rows 4 to 6.
use mathlib.Core.Path.{◌≡◌, sym, ◌∙◌, ap}
use mathlib.Core.List.{[], ◌∷◌}
use native.Mathlib.Omega.{arith}
use lib.ListN.{length}
use mir.Syntax.{w32}
use mir.Val.{to_z, of_z}
use borrow.Author.Rules.{rules}
use Rattle.surface.specs.Plot.{Plot, posts, Sides}
use Rattle.surface.specs.Refusals.{trial_verdict}
use Rattle.surface.specs.Refused.{outcome}
use Rattle.surface.specs.Calls.{plot_by}
use Rattle.surface.proofs.OfCalls.Verdicts.{code}
use Rattle.surface.proofs.OfCalls.Outcomes.{check-refused, check-passed, handed}
use Rattle.surface.proofs.OfCalls.Accepted.{led-sized}
use Rattle.limits.proofs.Table.{shot-posts}
use Rattle.trial.proofs.trial_grid.Goals as goal
use Rattle.trial.proofs.trial_grid.Goals.{In_ok-grid, Start}

-- the new height, as the code holds it
held : (s : Start) → to_z w32 (of_z w32 s.args.height) ≡ s.args.height
held s = search rules

module _ (c : In_ok-grid) where
  abbrev asked : Plot
  asked = let a = c.args in plot_by a.sheet.now a.rows a.columns a.heights.now

  sized : Sides asked.rows asked.columns × (length asked.heights ≡ posts asked)
  sized = led-sized asked (sym (code c.in_ok-grid.ensures.value))

pub returns-in_err-grid-clause-value : goal.returns-in_err-grid-clause-value
unfolding trial_verdict
returns-in_err-grid-clause-value c =
    ap outcome (handed _ _ c.from_residual.ensures.1) ∙ check-refused (_ ∷ _ ∷ _ ∷ _ ∷ []) _ tt _ c.in_err-grid.ensures.value

pub check_shot-requires : goal.check_shot-requires
check_shot-requires c = let k = sized c in omega (arith, k.0, k.1)

pub returns-in_err-check_shot-clause-value : goal.returns-in_err-check_shot-clause-value
unfolding trial_verdict
returns-in_err-check_shot-clause-value c =
    let at = goal.at.returns-in_err-check_shot-clause-value c in
    ap outcome (handed _ _ c.from_residual-in_err-check_shot.ensures.1)
    ∙ (rw (held at.Start) at c.in_err-check_shot.ensures)
    ∙ shot-posts (asked at.In_ok-grid) c.args.post c.args.height (sized at.In_ok-grid).1
    ∙ sym (check-passed (_ ∷ _ ∷ _ ∷ _ ∷ []) _ tt c.in_ok-grid.ensures.value)

pub returns-clause-value : goal.returns-clause-value
unfolding trial_verdict
returns-clause-value c =
    let at = goal.at.returns-clause-value c in
    (rw (held at.Start) at c.in_ok-check_shot.ensures)
    ∙ shot-posts (asked at.In_ok-grid) c.args.post c.args.height (sized at.In_ok-grid).1
    ∙ sym (check-passed (_ ∷ _ ∷ _ ∷ _ ∷ []) _ tt c.in_ok-grid.ensures.value)

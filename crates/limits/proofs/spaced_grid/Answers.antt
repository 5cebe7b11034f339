-- The rows of the sheet, then the others.
use mathlib.Core.Path.{sym, ◌∙◌, ap}
use mathlib.Core.List.{[], ◌∷◌}
use Rattle.surface.specs.Refused.{outcome}
use Rattle.surface.proofs.OfCalls.Outcomes.{check-refused, check-passed, handed}
use Rattle.limits.proofs.Table.{sheet-refused, sheet-passed}
use Rattle.limits.proofs.spaced_grid.Goals as goal

pub returns-in_err-said-clause-value : goal.returns-in_err-said-clause-value
returns-in_err-said-clause-value c =
    ap outcome (handed _ _ c.from_residual.ensures.1) ∙ check-refused (_ ∷ _ ∷ []) _ tt _ (sheet-refused _ _ c.in_err-said.ensures)

pub returns-in_err-check_spaced-clause-value : goal.returns-in_err-check_spaced-clause-value
returns-in_err-check_spaced-clause-value c =
    ap outcome (handed _ _ c.from_residual-in_err-check_spaced.ensures.1)
    ∙ c.in_err-check_spaced.ensures
    ∙ sym (check-passed (_ ∷ _ ∷ []) _ tt (sheet-passed _ _ c.in_ok-said.ensures))

pub returns-clause-value : goal.returns-clause-value
returns-clause-value c = c.in_ok-check_spaced.ensures ∙ sym (check-passed (_ ∷ _ ∷ []) _ tt (sheet-passed _ _ c.in_ok-said.ensures))

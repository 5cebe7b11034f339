-- The rows of the sheet, then the others.
use mathlib.Core.Path.{sym, ◌∙◌, ap}
use mathlib.Core.List.{[], ◌∷◌}
use Rattle.surface.specs.Refused.{outcome}
use Rattle.surface.proofs.OfCalls.Outcomes.{check-refused, check-passed, handed}
use Rattle.limits.proofs.Table.{sheet-refused, sheet-passed}
use Rattle.limits.proofs.plot_grid.Goals as goal

pub returns-in_err-sheet_says-clause-value : goal.returns-in_err-sheet_says-clause-value
returns-in_err-sheet_says-clause-value c =
    ap outcome (handed _ _ c.from_residual.ensures.1) ∙ check-refused (_ ∷ _ ∷ []) _ tt _ (sheet-refused _ _ c.in_err-sheet_says.ensures)

pub returns-in_err-check_plot-clause-value : goal.returns-in_err-check_plot-clause-value
returns-in_err-check_plot-clause-value c =
    ap outcome (handed _ _ c.from_residual-in_err-check_plot.ensures.1)
    ∙ c.in_err-check_plot.ensures
    ∙ sym (check-passed (_ ∷ _ ∷ []) _ tt (sheet-passed _ _ c.in_ok-sheet_says.ensures))

pub returns-clause-value : goal.returns-clause-value
returns-clause-value c = c.in_ok-check_plot.ensures ∙ sym (check-passed (_ ∷ _ ∷ []) _ tt (sheet-passed _ _ c.in_ok-sheet_says.ensures))

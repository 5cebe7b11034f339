-- After the rows up to 3, row 4.
use mathlib.Core.Path.{sym, ◌∙◌, ap}
use mathlib.Core.List.{[], ◌∷◌}
use native.Mathlib.Omega.{arith}
use Rattle.surface.specs.Refusals.{survey_verdict}
use Rattle.surface.specs.Refused.{outcome}
use Rattle.surface.specs.Calls.{plot_by}
use Rattle.surface.proofs.OfCalls.Verdicts.{code}
use Rattle.surface.proofs.OfCalls.Outcomes.{check-refused, check-passed, handed}
use Rattle.survey.proofs.Marked.{marked-sized}
use Rattle.survey.proofs.verdict.survey_grid.Goals as goal

pub returns-in_err-grid-clause-value : goal.returns-in_err-grid-clause-value
unfolding survey_verdict
returns-in_err-grid-clause-value c =
    ap outcome (handed _ _ c.from_residual.ensures.1) ∙ check-refused (_ ∷ _ ∷ _ ∷ _ ∷ _ ∷ []) _ tt _ c.in_err-grid.ensures.value

pub check_heights-requires : goal.check_heights-requires
check_heights-requires c =
    let k = marked-sized (plot_by c.args.sheet.now c.args.rows c.args.columns c.args.heights.now) c.args.marks.now (sym (code c.in_ok-grid.ensures.value)) in omega (arith, k.0, k.1)

pub returns-in_err-check_heights-clause-value : goal.returns-in_err-check_heights-clause-value
unfolding survey_verdict
returns-in_err-check_heights-clause-value c =
    ap outcome (handed _ _ c.from_residual-in_err-check_heights.ensures.1)
    ∙ c.in_err-check_heights.ensures
    ∙ sym (check-passed (_ ∷ _ ∷ _ ∷ _ ∷ _ ∷ []) _ tt c.in_ok-grid.ensures.value)

pub returns-clause-value : goal.returns-clause-value
unfolding survey_verdict
returns-clause-value c = c.in_ok-check_heights.ensures ∙ sym (check-passed (_ ∷ _ ∷ _ ∷ _ ∷ _ ∷ []) _ tt c.in_ok-grid.ensures.value)

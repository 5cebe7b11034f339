-- Row 4, then row 5.
use mathlib.Core.Path.{sym, ◌∙◌, ap}
use mathlib.Core.List.{[], ◌∷◌}
use Rattle.surface.specs.Refused.{outcome}
use Rattle.surface.proofs.OfCalls.Outcomes.{check-refused, check-passed, handed}
use Rattle.limits.proofs.check_post.Goals as goal

pub returns-in_err-check_heights : goal.returns-in_err-check_heights
returns-in_err-check_heights c =
    ap outcome (handed _ _ c.from_residual.ensures.1) ∙ check-refused (_ ∷ []) _ tt _ c.in_err-check_heights.ensures

pub returns : goal.returns
returns c = c.unless.ensures ∙ sym (check-passed (_ ∷ []) _ tt c.in_ok-check_heights.ensures)

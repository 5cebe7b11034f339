-- Row 1, then row 15, then row 2.
use mathlib.Core.Path.{sym, ◌∙◌, ap}
use mathlib.Core.List.{[], ◌∷◌}
use Rattle.surface.specs.Refused.{outcome}
use Rattle.surface.proofs.OfCalls.Outcomes.{check-refused, check-passed, handed}
use Rattle.limits.proofs.Table.{sides-passed}
use Rattle.limits.proofs.check_spaced.Goals as goal

pub returns-in_err-check_sides : goal.returns-in_err-check_sides
returns-in_err-check_sides c =
    ap outcome (handed _ _ c.from_residual.ensures.1) ∙ check-refused (_ ∷ []) _ tt _ c.in_err-check_sides.ensures

pub returns-in_err-check_spacings : goal.returns-in_err-check_spacings
returns-in_err-check_spacings c =
    ap outcome (handed _ _ c.from_residual-in_err-check_spacings.ensures.1)
    ∙ check-refused (_ ∷ []) _ tt _ c.in_err-check_spacings.ensures
    ∙ sym (check-passed (_ ∷ []) _ tt c.in_ok-check_sides.ensures)

pub check_length-requires : goal.check_length-requires
check_length-requires c = sides-passed c.args.rows c.args.columns c.in_ok-check_sides.ensures

pub returns : goal.returns
returns c =
    c.check_length.ensures
    ∙ sym (check-passed (_ ∷ []) _ tt c.in_ok-check_sides.ensures ∙ check-passed (_ ∷ []) _ tt c.in_ok-check_spacings.ensures)

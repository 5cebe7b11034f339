-- Rows 4 and 5, then row 6.
use mathlib.Core.Path.{◌≡◌, sym, ◌∙◌, ap}
use mathlib.Core.Bool.{Bool, not}
use mathlib.Core.List.{[], ◌∷◌}
use mir.Syntax.{w32}
use mir.Val.{to_z, of_z}
use borrow.Author.Rules.{rules}
use Rattle.surface.specs.Plot.{is_height}
use Rattle.surface.specs.Refusals.{verdict, row_of}
use Rattle.surface.specs.Refused.{outcome}
use Rattle.surface.proofs.OfCalls.Outcomes.{check-refused, check-passed, handed}
use Rattle.limits.proofs.check_shot.Goals as goal

pub returns-in_err-check_post : goal.returns-in_err-check_post
returns-in_err-check_post c =
    ap outcome (handed _ _ c.from_residual.ensures.1) ∙ check-refused (_ ∷ _ ∷ []) _ tt _ c.in_err-check_post.ensures

pub returns : goal.returns
returns c =
    let h = c.args.height in
    let r : to_z w32 (of_z w32 h) ≡ h = search rules in
    let e : c.is_height.result ≡ is_height h = rw r at c.is_height.ensures in
    c.unless.ensures ∙ ap (λ (b : Bool). verdict (row_of 6 (not b) ∷ [])) e ∙ sym (check-passed (_ ∷ _ ∷ []) _ tt c.in_ok-check_post.ensures)

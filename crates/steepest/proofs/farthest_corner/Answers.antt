-- Two, and then two.
use mathlib.Core.Path.{◌≡◌, refl, ◌∙◌}
use mathlib.Core.Bool.{Bool}
use mathlib.Core.List.{[], ◌∷◌}
use lib.IntN.{ℤ}
use mir.Syntax.{w32}
use mir.Val.{to_z, of_z}
use borrow.Author.Rules.{rules}
use Rattle.steepest.specs.Slopes.{farthest}
use Rattle.keys.proofs.KeyNumbers.{bits_of}
use Rattle.steepest.proofs.farthest_corner.Goals as goal

four : (up : Bool) (own x y z w : ℤ) → farthest up (farthest up own (x ∷ y ∷ [])) (z ∷ w ∷ []) ≡ farthest up own (x ∷ y ∷ z ∷ w ∷ [])
unfolding farthest
four up own x y z w = refl

pub returns : goal.returns
returns c =
    let first = c.farthest_beside-north in
    let b = c.args.b in
    let bpost : to_z w32 (of_z w32 b.post) ≡ b.post = search rules in
    let bne : to_z w32 (of_z w32 b.ne) ≡ b.ne = search rules in
    let bse : to_z w32 (of_z w32 b.se) ≡ b.se = search rules in
    let bsw : to_z w32 (of_z w32 b.sw) ≡ b.sw = search rules in
    let bnw = bits_of b.nw c.struct_told-5-1.given.1.1.1.1.1.1.1.1.0.1 in
    let one = rw (bpost, bne, bse) at first.ensures in
    bits_of c.farthest_beside.result c.farthest_beside.type_inv
    ∙ (rw (bits_of first.result first.type_inv, bsw, bnw, one) at c.farthest_beside.ensures)
    ∙ four c.args.up b.post b.ne b.se b.sw b.nw

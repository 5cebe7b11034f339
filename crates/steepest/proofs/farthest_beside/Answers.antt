-- One after the other.
use mathlib.Core.Path.{◌≡◌, refl, ◌∙◌}
use mathlib.Core.Bool.{Bool}
use mathlib.Core.List.{[], ◌∷◌}
use lib.IntN.{ℤ}
use mir.Facts.{to_z-of_z}
use Rattle.steepest.specs.Slopes.{farthest, farther_of}
use Rattle.keys.proofs.KeyNumbers.{bits_of}
use Rattle.steepest.proofs.farthest_beside.Goals as goal

two : (up : Bool) (own x y : ℤ) → farther_of up (farther_of up own x) y ≡ farthest up own (x ∷ y ∷ [])
unfolding farthest
two up own x y = refl

pub returns : goal.returns
returns c =
    let first = c.farther_of in
    let a = c.args in
    let one = rw (to_z-of_z c.ranges.own, to_z-of_z c.ranges.x) at first.ensures in
    bits_of c.farther_of-2.result c.farther_of-2.type_inv
    ∙ (rw (bits_of first.result first.type_inv, to_z-of_z c.ranges.y, one) at c.farther_of-2.ensures)
    ∙ two a.up a.own a.x a.y

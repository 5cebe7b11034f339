-- Slopes along sides, compared by products.
use Prim.Native.Nat.{ℕ, ◌*◌, ◌≤◌, ◌<◌}
use native.Mathlib.Omega.{arith}
use native.Mathlib.Nat.{mul-le-mul}
use mathlib.Core.Path.{◌≡◌, refl, ◌∙◌}
use mathlib.Core.Bool.{Bool, true, false}
use mir.Val.{bool_byte}
use mir.Facts.{to_z-of_z}
use Rattle.surface.specs.Lists.{one}
use Rattle.steepest.specs.Slopes.{drop_in}
use Rattle.steepest.proofs.Products.{side-compared}
use Rattle.steepest.proofs.takes_column.Goals as goal
use Rattle.steepest.proofs.takes_column.Goals.{After-drop_to-2}

-- a drop times a spacing
weight : (d s : ℕ) → d < 2097152 → s ≤ 1000 → d * s ≤ 2097151000
weight d s h k = let i : d ≤ 2097151 = omega arith in mul-le-mul i k

byte_one : (b : Bool) → bool_byte b ≡ one b
byte_one true = refl
byte_one false = refl

byte_small : (b : Bool) → bool_byte b ≤ 1
byte_small true = omega arith
byte_small false = omega arith

pub drop_to-requires : goal.drop_to-requires
drop_to-requires c = rw (to_z-of_z c.ranges.own, to_z-of_z c.ranges.row) c.requires.1

-- by either spacing
pub overflow_mul-along : goal.overflow_mul-along
overflow_mul-along c =
    let d = c.drop_to.ensures.1 in
    record { fits = omega (arith, weight _ c.args.spacings.south d c.requires.0.south_most, weight _ c.args.spacings.east d c.requires.0.east_most) }

pub drop_to-requires-2 : goal.drop_to-requires-2
drop_to-requires-2 c = rw (to_z-of_z c.ranges.own, to_z-of_z c.ranges.column) c.requires.2

across : (c : After-drop_to-2) → let a = c.args in c.drop_to-2.result * a.spacings.east ≤ 2097151000
across c = weight _ c.args.spacings.east c.drop_to-2.ensures.1 c.requires.0.east_most

pub overflow_mul-across : goal.overflow_mul-across
overflow_mul-across c = record { fits = omega (arith, across (goal.at.overflow_mul-across c).After-drop_to-2) }

pub overflow_add-result : goal.overflow_add-result
overflow_add-result c = record { fits = omega (arith, across (goal.at.overflow_add-result c).After-drop_to-2, byte_small c.is_farther.result) }

pub returns : goal.returns
returns c =
    let a = c.args in
    let own = to_z-of_z c.ranges.own in
    let row = rw (own, to_z-of_z c.ranges.row) at c.drop_to.ensures.0 in
    let column = rw (own, to_z-of_z c.ranges.column) at c.drop_to-2.ensures.0 in
    rw (row, column, byte_one c.is_farther.result)
    (side-compared (drop_in a.own a.row) (drop_in a.own a.column) a.spacings.east a.spacings.south c.is_farther.result
    ∙ rw (rw (to_z-of_z c.ranges.column, to_z-of_z c.ranges.row) at c.is_farther.ensures))

pub overflow_cast-result : goal.overflow_cast-result
overflow_cast-result c = tt

-- A corner against a side, by products of squares.
use Prim.Native.Nat.{ℕ, ◌+◌, ◌*◌, ◌≤◌, ◌<◌}
use native.Mathlib.Omega.{arith}
use native.Mathlib.Nat.{mul-le-mul}
use mathlib.Core.Path.{◌≡◌}
use mathlib.Core.Logic.{◌⊎◌, ⊎_elim}
use mir.Facts.{to_z-of_z}
use Rattle.surface.specs.Lines.{squared}
use Rattle.surface.specs.Spacings.{Spaced}
use Rattle.surface.specs.declared.Spacings.{Spacings}
use Rattle.steepest.specs.Slopes.{drop_in}
use Rattle.steepest.proofs.KeyHeights.{further-farther}
use Rattle.steepest.proofs.Products.{steeper-further, corner-compared}
use Rattle.steepest.proofs.takes_corner.Goals as goal
use Rattle.steepest.proofs.takes_corner.Goals.{After-drop_to, After-square}

-- spacings and a side's length in range
module _ (s : Spacings) (h : Spaced s) where
  east : squared s.east ≤ 1000000
  east = mul-le-mul h.east_most h.east_most

  south : squared s.south ≤ 1000000
  south = mul-le-mul h.south_most h.south_most

  module _ (l : ℕ) (e : (l ≡ s.east) ⊎ (l ≡ s.south)) where
    length_most : l ≤ 1000
    length_most = ⊎_elim (λ (i : l ≡ s.east). omega (arith, h)) (λ (i : l ≡ s.south). omega (arith, h)) e

    length-side : squared l ≤ squared s.east + squared s.south
    length-side = ⊎_elim (λ (i : l ≡ s.east). rw i (omega arith)) (λ (i : l ≡ s.south). rw i (omega arith)) e

-- a square of a drop, and of a drop times a length
module _ (d : ℕ) (small : d < 2097152) where
  drop-most : d ≤ 2097151
  drop-most = omega arith

  drop-square : squared d ≤ 4398042316801
  drop-square = mul-le-mul drop-most drop-most

  pub drop-times : (l : ℕ) → l ≤ 1000 → d * l ≤ 2097151000
  drop-times l k = mul-le-mul drop-most k

  pub times-square : (l : ℕ) → l ≤ 1000 → squared (d * l) < 9223372036854775808
  times-square l k = let m = drop-times l k in omega (arith, mul-le-mul m m)

  pub square-times : (e : ℕ) → e ≤ 2000000 → squared d * e < 9223372036854775808
  square-times e k = omega (arith, mul-le-mul drop-square k)

pub overflow_mul-across : goal.overflow_mul-across
overflow_mul-across c = record { fits = omega (arith, east c.args.spacings c.requires.0) }

pub overflow_mul-across-2 : goal.overflow_mul-across-2
overflow_mul-across-2 c = record { fits = omega (arith, south c.args.spacings c.requires.0) }

pub overflow_add-across : goal.overflow_add-across
overflow_add-across c = record { fits = omega (arith, east c.args.spacings c.requires.0, south c.args.spacings c.requires.0) }

pub drop_to-requires : goal.drop_to-requires
drop_to-requires c = rw (to_z-of_z c.ranges.own, to_z-of_z c.ranges.corner) c.requires.2

most : (c : After-drop_to) → let a = c.args in a.length ≤ 1000
most c = length_most c.args.spacings c.requires.0 c.args.length c.requires.3

pub overflow_mul-drop_to : goal.overflow_mul-drop_to
overflow_mul-drop_to c = record { fits = omega (arith, drop-times c.drop_to.result c.drop_to.ensures.1 c.args.length (most c)) }

pub drop_to-requires-2 : goal.drop_to-requires-2
drop_to-requires-2 c = rw (to_z-of_z c.ranges.own, to_z-of_z c.ranges.side) c.requires.1

abbrev diagonal : Spacings → ℕ
diagonal s = s.east * s.east + s.south * s.south

wide : (s : Spacings) → Spaced s → diagonal s ≤ 2000000
wide s h = omega (arith, east s h, south s h)

below : (c : After-square) → let a = c.args in squared c.drop_to-2.result * diagonal a.spacings < 9223372036854775808
below c =
    square-times c.drop_to-2.result c.drop_to-2.ensures.1 _ (wide c.args.spacings c.requires.0)

pub overflow_cast-drop : goal.overflow_cast-drop
overflow_cast-drop c = record { fits = omega (arith, wide c.args.spacings c.requires.0) }

pub overflow_mul-drop : goal.overflow_mul-drop
overflow_mul-drop c = rw c.square.ensures (record { fits = omega (arith, below c) })

pub at_least-requires : goal.at_least-requires
at_least-requires c =
    rw (c.square-cut.ensures, c.square.ensures)
    (times-square c.drop_to.result c.drop_to.ensures.1 _ (most (goal.at.at_least-requires c).After-drop_to), omega (arith, below c))

pub returns : goal.returns
returns c =
    let a = c.args in
    let own = to_z-of_z c.ranges.own in
    let cut = rw (own, to_z-of_z c.ranges.corner) at c.drop_to.ensures.0 in
    let drop = rw (own, to_z-of_z c.ranges.side) at c.drop_to-2.ensures.0 in
    let far = rw (to_z-of_z c.ranges.corner, to_z-of_z c.ranges.side) at c.is_farther.ensures in
    rw (c.at_least.ensures, c.square-cut.ensures, c.square.ensures, cut, drop, far)
    (corner-compared (drop_in a.own a.side) (drop_in a.own a.corner) a.length (diagonal a.spacings) _
    (λ h.
    further-farther a.up a.own a.side a.corner c.ranges.own.sfits c.ranges.side.sfits c.ranges.corner.sfits c.requires.1 c.requires.2
    (steeper-further (drop_in a.own a.side) (drop_in a.own a.corner) a.length (diagonal a.spacings) (length-side a.spacings c.requires.0 a.length c.requires.3) h)))

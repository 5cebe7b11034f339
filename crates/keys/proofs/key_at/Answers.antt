-- The post is one of the plot, and the key fits.
use Prim.Native.Nat.{ℕ, ◌+◌, ◌-◌, ◌*◌, ◌≤◌, ◌<◌}
use native.Mathlib.Omega.{arith}
use native.Mathlib.Nat.{mul-le-mul_right}
use mathlib.Core.Path.{◌≡◌, refl, sym, ap, ◌∙◌}
use mathlib.Core.Bool.{Bool, true}
use borrow.Author.Tests.{lt-ltb}
use lib.IntN.{ℤ, pos}
use lib.ListN.{get_or}
use mir.Syntax.{w32}
use mir.Val.{to_z, of_z}
use mir.Facts.{to_z-of_z}
use Rattle.surface.specs.Plot.{is_height}
use Rattle.surface.proofs.General.FirstNot.{all-at}
use Rattle.order.specs.Ties.{tie_place, place_at}
use Rattle.order.proofs.Places.{numbered, place-stands}
use Rattle.order.proofs.Level.{height-fits}
use Rattle.keys.proofs.KeyNumbers.{key_fits, part-fits}
use Rattle.keys.proofs.key_at.Goals as goal
use Rattle.keys.proofs.key_at.Goals.{Start}

-- its number, and that of the post that is there
number : (s : Start) → let a = s.args in (s.requires.2.q + a.grid.columns + 1 ≡ a.p + (a.down * a.grid.columns + a.along)) × (a.down * a.grid.columns ≤ 2 * a.grid.columns)
number s =
    let a = s.args in
    let t = s.requires.2 in
    (numbered a.grid.columns a.p t.q a.down a.along t.stands t.in_rows, mul-le-mul_right a.grid.columns t.in_rows)

-- the height that is read: in range, and told by its bits
abbrev read : Start → ℤ
read s = let a = s.args in get_or a.heights.now (a.p + (a.down * a.grid.columns + a.along) - (a.grid.columns + 1)) (pos 0)

in-range : (s : Start) → is_height (read s) ≡ true
in-range s = all-at is_height _ (pos 0) refl s.requires.0.valid.in_range _

bits : (s : Start) → to_z w32 (of_z w32 (read s)) ≡ read s
bits s = to_z-of_z (height-fits (read s) (in-range s))

place-bits : (n : ℕ) → n < 2048 → to_z w32 n ≡ pos n
place-bits n h = rw (lt-ltb n 2147483648 (omega arith))

pub overflow_add-result : goal.overflow_add-result
overflow_add-result c =
    let start = (goal.at.overflow_add-result c).Start in
    let h = c.tie_place.ensures.1 in
    rw (bits start, to_z-of_z (part-fits (read start) (in-range start)), place-bits _ h) (key_fits (read start) _ h (in-range start))

pub returns : goal.returns
returns c =
    let start = (goal.at.returns c).Start in
    let a = c.args in
    let t = c.requires.2 in
    let h = c.tie_place.ensures.1 in
    let q : a.p + (a.down * a.grid.columns + a.along) - (a.grid.columns + 1) ≡ t.q = omega (arith, number start) in
    let e : c.tie_place.result ≡ tie_place a.grid.columns a.p t.q =
    c.tie_place.ensures.0 ∙ ap (λ (b : Bool). place_at a.grid.columns b a.down a.along) c.requires.1 ∙ sym (place-stands t.stands t.in_rows t.in_columns)
    in
    rw (bits start, to_z-of_z (part-fits (read start) (in-range start)), place-bits _ h, to_z-of_z (key_fits (read start) _ h (in-range start)), q, e)

pub overflow_mul-q : goal.overflow_mul-q
overflow_mul-q c = omega (arith, number (goal.at.overflow_mul-q c).Start, c.requires.0.valid.sides)

pub overflow_add-q : goal.overflow_add-q
overflow_add-q c = omega (arith, number (goal.at.overflow_add-q c).Start, c.requires.0.valid.sides)

pub overflow_add-q-2 : goal.overflow_add-q-2
overflow_add-q-2 c = omega (arith, number (goal.at.overflow_add-q-2 c).Start, c.requires.0.valid.sides)

pub overflow_add-q-3 : goal.overflow_add-q-3
overflow_add-q-3 c = omega (arith, c.requires.0.valid.sides)

pub overflow_sub-q : goal.overflow_sub-q
overflow_sub-q c = omega (arith, number (goal.at.overflow_sub-q c).Start)

pub offset_bounds-heights-q : goal.offset_bounds-heights-q
offset_bounds-heights-q c = omega (arith, number (goal.at.offset_bounds-heights-q c).Start, c.requires.2.post, c.requires.0.valid.sides)

pub bounds-heights-q : goal.bounds-heights-q
bounds-heights-q c = omega (arith, number (goal.at.bounds-heights-q c).Start, c.requires.2.post, c.requires.0.valid.size)

pub overflow_mul-result : goal.overflow_mul-result
overflow_mul-result c =
    let start = (goal.at.overflow_mul-result c).Start in
    rw (bits start) (part-fits (read start) (in-range start))

pub tie_place-requires : goal.tie_place-requires
tie_place-requires c = (c.requires.0.valid.sides.narrow, c.requires.2.in_rows, c.requires.2.in_columns)

pub overflow_cast-result : goal.overflow_cast-result
overflow_cast-result c = record { sfits = omega (arith, c.tie_place.ensures.1) }

-- Four rows of comparisons, or the virtual pit.
use Prim.Native.Nat.{ℕ, ◌+◌, ◌-◌, ◌*◌, ◌≤◌, ◌<◌}
use native.Mathlib.Omega.{arith}
use mathlib.Core.Path.{◌≡◌, refl, sym, ap, ◌∙◌}
use mathlib.Core.Bool.{Bool, true, false, not}
use mathlib.Core.List.{List}
use lib.ListN.{length, take, drop, replicate}
use borrow.Rule.Slice.PartMut.{put_mid}
use borrow.Author.Rules.{rules}
use Rattle.std.proofs.lemmas.List.{places}
use Rattle.surface.specs.Lists.{stores}
use Rattle.surface.specs.Plot.{column, Sides}
use Rattle.surface.proofs.General.Slices.{fill-stores}
use Rattle.surface.proofs.AnyOrder.Grid.{column-is, column-south, left_false}
use Rattle.surface.proofs.OfPlots.Driven.{far-told, corner-told, odd-south}
use Rattle.order.specs.Ties.{Drives}
use Rattle.flags.specs.Rows.{RowOf}
use Rattle.flags.proofs.Beneath.{row_below}
use Rattle.flags.proofs.Stored.{south-stored, south-pit}
use Rattle.flags.proofs.south_rows.Goals as goal
use Rattle.flags.proofs.south_rows.Goals.{Then-next-heights}

-- the row below is driven past after this one
module _ {rows columns : ℕ} (s : Sides rows columns) where
  south-drives : (base : ℕ) → Drives columns false base (base + columns) columns
  south-drives base = record { told = λ k h. (far-told s (base + k) (base + columns + k) (omega arith)).second }

  fall-drives : (base : ℕ) → Drives columns false base (base + columns + 1) (columns - 1)
  fall-drives base = record { told = λ k h. (far-told s (base + k) (base + columns + 1 + k) (omega arith)).second }

  rise-drives : {base : ℕ} → RowOf rows columns base → Drives columns false (base + 1) (base + columns) (columns - 1)
  rise-drives {base} at =
      record {
        told = λ k h.
            let e : column columns (base + 1 + k) ≡ k + 1 = column-is s at.r (k + 1) (omega arith) (omega (arith, at.start)) in
            (corner-told s (base + 1 + k) (base + columns + k) ((left_false s (base + 1 + k)).1 (omega arith)) (omega arith)).second;
      }

  -- and starts where a row does
  next_row : {base : ℕ} → RowOf rows columns base → column columns (base + columns) ≡ 0
  next_row {base} at = column-south s base ∙ column-is s at.r 0 (omega arith) (omega (arith, at.start))

-- where there is a row below, it is whole
below : (c : Then-next-heights)
    → let a = c.args in
    let n = a.grid.rows * a.grid.columns in
    (a.base + a.grid.columns + a.grid.columns ≤ n) × (a.base + a.grid.columns < n)
below c =
    let a = c.args in
    let h : a.base + a.grid.columns < a.grid.rows * a.grid.columns = omega (arith, c.requires.valid.size, c.if-next-heights.true) in
    (row_below c.requires.valid c.requires.at h, h)

pub overflow_add-next : goal.overflow_add-next
overflow_add-next c = omega (arith, c.requires.valid.sides, c.requires.at)

pub later_row-requires : goal.later_row-requires
later_row-requires c =
    let b = below (goal.at.later_row-requires c).Then-next-heights in
    let s = c.requires.valid.sides in
    (c.requires.valid, omega (arith, s), omega (arith, b, s), south-drives s _, omega (arith, c.requires.long, s))

pub overflow_add-next-then-next-heights : goal.overflow_add-next-then-next-heights
overflow_add-next-then-next-heights c = omega (arith, c.requires.valid.sides, c.requires.at)

pub overflow_sub-columns : goal.overflow_sub-columns
overflow_sub-columns c = omega (arith, c.requires.valid.sides)

pub later_row-requires-then-next-heights : goal.later_row-requires-then-next-heights
later_row-requires-then-next-heights c =
    let b = below (goal.at.later_row-requires-then-next-heights c).Then-next-heights in
    let s = c.requires.valid.sides in
    (c.requires.valid, omega (arith, s), omega (arith, b, s), fall-drives s _, omega (arith, c.requires.long, s))

pub overflow_add-base : goal.overflow_add-base
overflow_add-base c = omega (arith, c.requires.valid.sides, c.requires.at)

pub overflow_sub-columns-then-next-heights : goal.overflow_sub-columns-then-next-heights
overflow_sub-columns-then-next-heights c = omega (arith, c.requires.valid.sides)

pub later_row-requires-then-next-heights-2 : goal.later_row-requires-then-next-heights-2
later_row-requires-then-next-heights-2 c =
    let b = below (goal.at.later_row-requires-then-next-heights-2 c).Then-next-heights in
    let s = c.requires.valid.sides in
    (c.requires.valid, omega (arith, s), omega (arith, b, s), rise-drives s c.requires.at, omega (arith, c.requires.long, s))

pub east_row-requires : goal.east_row-requires
east_row-requires c =
    let s = c.requires.valid.sides in
    (c.requires.valid, next_row s c.requires.at, ap not c.requires.parity ∙ sym (odd-south s c.args.base), (below (goal.at.east_row-requires c).Then-next-heights).0, omega (arith, c.requires.long.under_long))

pub returns-then-next-heights : goal.returns-then-next-heights
returns-then-next-heights c =
    let pre = c.requires in
    south-stored pre.valid pre.at pre.long pre.ends pre.sides (below (goal.at.returns-then-next-heights c).Then-next-heights).1 c.later_row.ensures c.later_row-then-next-heights.ensures c.later_row-then-next-heights-2.ensures c.east_row.ensures

-- the flags 1 and on, n of them, filled
filled : (x : Bool) (n e : ℕ) (l new : List Bool) → e ≡ n + 1 → e ≤ length l
    → (((y : Bool) → y ≡ x → y ≡ x) → new ≡ replicate (length (take (e - 1) (drop 1 l))) x)
    → put_mid 1 (e - 1) l new ≡ stores (λ _. x) 1 n l
filled x n e l new p h w =
    let m : length (take (e - 1) (drop 1 l)) ≡ e - 1 = search (rules, places) in
    fill-stores 1 n e l new x (omega arith) h (rw m at (w (λ y q. q)))

pub returns : goal.returns
returns c =
    let pre = c.requires in
    let n = c.args.grid.columns in
    south-pit pre.valid pre.at pre.long pre.ends pre.sides (omega (arith, pre.valid.size, c.if-next-heights.false))
    (filled true n _ _ _ refl (omega (arith, pre.long.south_long)) c.fill.ensures.after)
    (filled true (n - 1) _ _ _ (omega (arith, pre.valid.sides.wide)) pre.long.fall_long c.fill-2.ensures.after)
    (filled true (n - 1) _ _ _ (omega (arith, pre.valid.sides.wide)) pre.long.rise_long c.fill-3.ensures.after)
    (filled false n _ _ _ refl (omega (arith, pre.long.under_long)) c.fill-4.ensures.after)

-- The stores before the comparisons and after them.
use Prim.Native.Nat.{ℕ, ◌+◌}
use native.Mathlib.Omega.{arith}
use mathlib.Core.Path.{◌≡◌, sym, ap, ◌∙◌}
use mathlib.Core.Bool.{Bool, true, false, not}
use mathlib.Core.List.{List}
use lib.ListN.{set, length, length-set}
use Rattle.surface.specs.Plot.{row, column, is_odd, Sides}
use Rattle.surface.proofs.AnyOrder.Grid.{row_fits, row_is, column-is}
use Rattle.surface.proofs.OfPlots.Driven.{far-told}
use Rattle.heads.proofs.Top.{top-told}
use Rattle.heads.proofs.top_row.Goals as goal

pub is_below_by-requires : goal.is_below_by-requires
is_below_by-requires c =
    let f = c.requires.valid in
    (f, omega (arith, row_fits f.sides, f.sides), omega (arith, row_fits f.sides, f.sides), sym (far-told f.sides 0 _ (omega arith)).second)

pub bounds-under-0 : goal.bounds-under-0
bounds-under-0 c = omega (arith, c.requires.flags, length-set c.args.under.now c.args.grid.columns true)

-- the top row starts at post 0
first-column : {rows columns : ℕ} → Sides rows columns → column columns 0 ≡ 0
first-column s = column-is s 0 0 (omega (arith, s)) (omega arith)

first-row : {rows columns : ℕ} → Sides rows columns → false ≡ is_odd (row columns 0)
first-row s = ap is_odd (sym (row_is s 0 0 (omega (arith, s)) (omega arith)))

-- two stores leave the length
long : (l : List Bool) (i : ℕ) (x y : Bool) → length (set (set l i x) 0 y) ≡ length l
long l i x y = length-set (set l i x) 0 y ∙ length-set l i x

pub east_row-requires : goal.east_row-requires
east_row-requires c =
    (c.requires.valid, first-column c.requires.valid.sides, first-row c.requires.valid.sides, omega (arith, row_fits c.requires.valid.sides), omega (arith, long c.args.under.now c.args.grid.columns true (not c.is_below_by.result), c.requires.flags, c.requires.wide))

pub upper_row-requires : goal.upper_row-requires
upper_row-requires c =
    record {
      flags =
          record {
            side_long = c.requires.flags.side_long;
            south_long = omega (arith, length-set c.args.south.now (c.args.grid.columns + 1) true, c.requires.flags);
            fall_long = c.requires.flags.fall_long;
            rise_long = c.requires.flags.rise_long;
            under_long = omega (arith, c.east_row.auto.flags, long c.args.under.now c.args.grid.columns true (not c.is_below_by.result), c.requires.flags);
          };
      upper_long = c.requires.upper_long;
    }

pub bounds-under-0-2 : goal.bounds-under-0-2
bounds-under-0-2 c =
    omega (arith, c.east_row.auto.flags, long c.args.under.now c.args.grid.columns true (not c.is_below_by.result), c.requires.flags)

pub returns : goal.returns
returns c =
    top-told c.requires.valid c.requires.flags c.requires.wide c.requires.blank (rw c.is_below_by.ensures at c.east_row.ensures) c.args.upper.now _ c.requires.upper_long c.upper_row.ensures

pub overflow_add-south : goal.overflow_add-south
overflow_add-south c = omega (arith, c.requires.valid.sides)

pub bounds-south-columns : goal.bounds-south-columns
bounds-south-columns c = omega (arith, c.requires.flags, c.requires.wide)

pub bounds-under-columns : goal.bounds-under-columns
bounds-under-columns c = omega (arith, c.requires.flags, c.requires.wide)

pub bounds-fall-columns : goal.bounds-fall-columns
bounds-fall-columns c = omega (arith, c.requires.flags, c.requires.wide)

pub bounds-rise-0 : goal.bounds-rise-0
bounds-rise-0 c = omega (arith, c.requires.flags, c.requires.wide)

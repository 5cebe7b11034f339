use Prim.Native.Nat.{ℕ, ◌+◌, ◌-◌, ◌*◌, ◌≤◌, ◌<◌}
use native.Mathlib.Omega.{arith}
use native.Mathlib.Nat.{zero-mul, add-mul, one-mul, mul-le-mul_right}
use mathlib.Core.Path.{◌≡◌, refl, ap}
use Rattle.surface.specs.Plot.{plot_of, Sides}
use Rattle.rings.proofs.Rows.{top-border, bottom-border}
use Rattle.nexts.specs.Filled.{ForNexts, NextsFilled}
use Rattle.surface.proofs.AnyOrder.Grid.{row_in}
use Rattle.nexts.proofs.Filled.{filled_none, filled-join, filled-lists}
use Rattle.nexts.proofs.fill_nexts.Goals as goal
use Rattle.nexts.proofs.fill_nexts.Goals.{After-fill_border-2, At-loop-r}

lent : (l : At-loop-r)
    → let a = l.args in
    ForNexts (plot_of a.grid a.heights.now) a.spacings a.both l.loop-r.downs l.loop-r.ups
lent l = filled-lists l.loop-r.invariant (filled-lists l.fill_border.ensures l.requires)

-- the rows before row r, from the first on
rows-filled : (l : At-loop-r)
    → let a = l.args in
    NextsFilled (plot_of a.grid a.heights.now) a.spacings a.both 0 (l.loop-r.r * a.grid.columns) a.downs.now a.ups.now l.loop-r.downs l.loop-r.ups
rows-filled l =
    let k = l.args.grid.columns in
    filled-join l.fill_border.ensures l.loop-r.invariant _ (omega arith) (omega (arith, mul-le-mul_right k l.loop-r.auto.r, one-mul k))

pub fill_border-requires : goal.fill_border-requires
fill_border-requires c =
    let sides = c.requires.valid.sides in
    let k = c.args.grid.columns in
    record {
      for_nexts = (c.requires, omega (arith, row_in k 0 (some sides), zero-mul k));
      by_index = λ i h. top-border sides (0 + i) 0 i h (omega (arith, zero-mul k)) refl;
    }
  where
    some : {rows columns : ℕ} → Sides rows columns → 0 < rows
    some sides = omega (arith, sides)

pub loop-r-init : goal.loop-r-init
loop-r-init c =
    let k = c.args.grid.columns in
    let e : 1 * k - k ≡ 0 = omega (arith, one-mul k) in
    rw e (filled_none _ _ _ _ _ _)

pub fill_row-requires : goal.fill_row-requires
fill_row-requires c =
    (lent (goal.at.fill_row-requires c).At-loop-r, omega (arith, c.loop-r.auto.r), omega (arith, c.loop-r-test.true))

pub loop-r-preserved : goal.loop-r-preserved
loop-r-preserved c =
    let k = c.args.grid.columns in
    let one = add-mul c.loop-r.r 1 k in
    let m = mul-le-mul_right k c.loop-r.auto.r in
    filled-join c.loop-r.invariant c.fill_row.ensures _ (omega (arith, m, one-mul k)) (omega (arith, one, m, one-mul k))

-- the bottom row
bottom : (l : At-loop-r) → let g = l.args.grid in (g.rows - 1) * g.columns + g.columns ≤ g.rows * g.columns
bottom l = row_in l.args.grid.columns (l.args.grid.rows - 1) (omega (arith, l.requires.valid.sides))

pub overflow_mul-last : goal.overflow_mul-last
overflow_mul-last c = omega (arith, bottom (goal.at.overflow_mul-last c).At-loop-r, c.requires.valid.sides)

pub fill_border-requires-2 : goal.fill_border-requires-2
fill_border-requires-2 c =
    let head = (goal.at.fill_border-requires-2 c).At-loop-r in
    let sides = c.requires.valid.sides in
    let last = c.args.grid.rows - 1 in record { for_nexts = (lent head, bottom head); by_index = λ i h. bottom-border sides (last * c.args.grid.columns + i) last i h refl (omega (arith, sides)) }

filled : (c : After-fill_border-2)
    → let a = c.args in
    NextsFilled (plot_of a.grid a.heights.now) a.spacings a.both 0 (a.grid.rows * a.grid.columns) a.downs.now a.ups.now c.fill_border-2.new.downs c.fill_border-2.new.ups
filled c =
    let k = c.args.grid.columns in
    let e : c.loop-r.r ≡ c.args.grid.rows - 1 = omega (arith, c.loop-r-test.false, c.loop-r.auto, c.requires.valid.sides) in
    let rows : c.args.grid.rows ≡ c.loop-r.r + 1 = omega (arith, c.requires.valid.sides) in
    filled-join (rows-filled (goal.at.After-fill_border-2 c).At-loop-r) c.fill_border-2.ensures _ (omega (arith, ap (λ (n : ℕ). n * k) e))
    (omega (arith, ap (λ (n : ℕ). n * k) rows, add-mul c.loop-r.r 1 k, one-mul k))

pub returns : goal.returns
returns c = filled (goal.at.returns c).After-fill_border-2

pub overflow_sub-last : goal.overflow_sub-last
overflow_sub-last c = omega (arith, c.requires.valid.sides)

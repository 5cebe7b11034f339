-- A row's first post, those inside and its last post, one after the other.
use Prim.Native.Nat.{◌+◌, ◌-◌, ◌*◌, ◌≤◌}
use native.Mathlib.Omega.{arith}
use mathlib.Core.Path.{◌≡◌, refl, sym, ap}
use Rattle.surface.specs.Plot.{plot_of, is_odd}
use Rattle.surface.proofs.AnyOrder.Grid.{row_in, row_is}
use Rattle.rings.specs.Rows.{Between}
use Rattle.rings.proofs.Rows.{between-border, row-between, left-border, right-border}
use Rattle.nexts.specs.Filled.{NextsFilled}
use Rattle.nexts.proofs.Filled.{filled-join, filled-lists}
use Rattle.nexts.proofs.fill_row.Goals as goal
use Rattle.nexts.proofs.fill_row.Goals.{After-fill_border-2, Start}

-- the row's posts are posts of the plot, and it is neither the top nor the bottom row
within : (s : Start) → let g = s.args.grid in s.args.r * g.columns + g.columns ≤ g.rows * g.columns
within s = row_in s.args.grid.columns s.args.r (omega (arith, s.requires.2))

between : (s : Start) → let g = s.args.grid in Between g.rows g.columns (s.args.r * g.columns)
between s = row-between s.args.r s.requires.1 s.requires.2

-- the whole row
filled : (c : After-fill_border-2)
    → let a = c.args in
    NextsFilled (plot_of a.grid a.heights.now) a.spacings a.both (a.r * a.grid.columns) a.grid.columns a.downs.now a.ups.now c.fill_border-2.new.downs c.fill_border-2.new.ups
filled c =
    let w = c.requires.0.valid.sides.wide in
    filled-join (filled-join c.fill_border.ensures c.fill_inner.ensures _ refl refl) c.fill_border-2.ensures _ (omega arith) (omega arith)

pub overflow_mul-first : goal.overflow_mul-first
overflow_mul-first c = omega (arith, within (goal.at.overflow_mul-first c).Start, c.requires.0.valid.sides)

pub overflow_sub-inner : goal.overflow_sub-inner
overflow_sub-inner c = omega (arith, c.requires.0.valid.sides)

pub fill_border-requires : goal.fill_border-requires
fill_border-requires c =
    let sides = c.requires.0.valid.sides in
    let p = c.args.r * c.args.grid.columns in record { for_nexts = (c.requires.0, omega (arith, within (goal.at.fill_border-requires c).Start, sides)); by_index = λ i h. left-border sides (p + i) c.args.r 0 (omega (arith, sides)) (omega arith) refl }

pub overflow_add-first : goal.overflow_add-first
overflow_add-first c = omega (arith, within (goal.at.overflow_add-first c).Start, c.requires.0.valid.sides)

pub fill_inner-requires : goal.fill_inner-requires
fill_inner-requires c =
    let s = c.requires.0.valid.sides in
    let b = between (goal.at.fill_inner-requires c).Start in record {
      for_nexts = (filled-lists c.fill_border.ensures c.requires.0, omega (arith, b, s));
      by_index = λ i h.
          let r = c.args.r in
          let p = r * c.args.grid.columns in
          let e : p + 1 + i ≡ p + (1 + i) = omega arith in
          (rw e (between-border s b (1 + i) (omega arith) (omega (arith, s))), ap is_odd (sym (row_is s r (1 + i) (omega (arith, s)) (omega arith))));
    }

pub overflow_add-first-2 : goal.overflow_add-first-2
overflow_add-first-2 c = omega (arith, within (goal.at.overflow_add-first-2 c).Start, c.requires.0.valid.sides)

pub overflow_add-first-3 : goal.overflow_add-first-3
overflow_add-first-3 c = omega (arith, within (goal.at.overflow_add-first-3 c).Start, c.requires.0.valid.sides)

pub fill_border-requires-2 : goal.fill_border-requires-2
fill_border-requires-2 c =
    let sides = c.requires.0.valid.sides in
    let p = c.args.r * c.args.grid.columns in
    let k = c.args.grid.columns in record { for_nexts = (filled-lists c.fill_inner.ensures (filled-lists c.fill_border.ensures c.requires.0), omega (arith, within (goal.at.fill_border-requires-2 c).Start, sides)); by_index = λ j h. right-border sides (p + 1 + (k - 2) + j) c.args.r (k - 1) (omega (arith, sides)) (omega (arith, sides)) (omega (arith, sides)) }

pub returns : goal.returns
returns c = filled (goal.at.returns c).After-fill_border-2

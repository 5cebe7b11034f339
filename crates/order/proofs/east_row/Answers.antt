-- The row against itself, one post on: the row's parity tells every tie.
use Prim.Native.Nat.{ℕ, ◌+◌, ◌-◌, ◌*◌}
use native.Mathlib.Omega.{arith}
use mathlib.Core.Path.{◌≡◌, ◌∙◌}
use Rattle.surface.specs.Plot.{row, column, is_odd, Sides}
use Rattle.surface.proofs.AnyOrder.Grid.{post_is, row_is, column-is, right-false}
use Rattle.surface.proofs.OfPlots.Driven.{east-told}
use Rattle.order.specs.Ties.{Drives}
use Rattle.order.proofs.east_row.Goals as goal

along : {rows columns : ℕ} → Sides rows columns → (base : ℕ) → column columns base ≡ 0 → Drives columns (is_odd (row columns base)) base (base + 1) (columns - 1)
along {rows} {columns} s base e =
    record {
      told = λ k h.
          let f : base + k ≡ row columns base * columns + k = omega (arith, post_is columns base) in
          let i = row_is s (row columns base) k (omega arith) f in
          let j = column-is s (row columns base) k (omega arith) f in
          (east-told s (base + k) (base + 1 + k) ((right-false s (base + k)).1 (omega arith)) (omega arith)).first ∙ rw i;
    }

pub later_row-requires : goal.later_row-requires
later_row-requires c =
    let s = c.requires.0.sides in
    (c.requires.0, omega arith, omega (arith, s), rw c.requires.2 (along s c.args.base c.requires.1), omega (arith, s))

pub returns : goal.returns
returns c = c.later_row.ensures

pub overflow_sub-n : goal.overflow_sub-n
overflow_sub-n c = omega (arith, c.requires.0.sides)

pub overflow_add-base : goal.overflow_add-base
overflow_add-base c = omega (arith, c.requires.0.sides)

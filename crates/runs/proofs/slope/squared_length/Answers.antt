-- By rows, then by columns.
use native.Mathlib.Omega.{arith}
use native.Mathlib.Nat.{mul-le-mul}
use Prim.Native.Nat.{◌*◌, ◌≤◌}
use borrow.Author.Tests.{eq-eqb, ne_eqb}
use Rattle.surface.specs.Lines.{squared_length}
use Rattle.runs.proofs.slope.squared_length.Goals as goal
use Rattle.runs.proofs.slope.squared_length.Goals.{Start}

squares : (c : Start) → let s = c.args.spacings in (s.east * s.east ≤ 1000000) × (s.south * s.south ≤ 1000000)
squares c = let s = c.requires.0 in (mul-le-mul s.east_most s.east_most, mul-le-mul s.south_most s.south_most)

pub overflow_mul-east : goal.overflow_mul-east
overflow_mul-east c = omega (arith, squares (goal.at.overflow_mul-east c).Start)

pub overflow_mul-south : goal.overflow_mul-south
overflow_mul-south c = omega (arith, squares (goal.at.overflow_mul-south c).Start)

pub returns-then-p-grid : goal.returns-then-p-grid
unfolding squared_length
returns-then-p-grid c =
    (rw (eq-eqb _ _ c.if-p-grid.true), omega (arith, squares (goal.at.returns-then-p-grid c).Start))

pub returns-then-p-grid-2 : goal.returns-then-p-grid-2
unfolding squared_length
returns-then-p-grid-2 c =
    (rw (ne_eqb _ _ c.if-p-grid.false, eq-eqb _ _ c.if-p-grid-2.true), omega (arith, squares (goal.at.returns-then-p-grid-2 c).Start))

pub overflow_add-result : goal.overflow_add-result
overflow_add-result c = omega (arith, squares (goal.at.overflow_add-result c).Start)

pub returns : goal.returns
unfolding squared_length
returns c =
    (rw (ne_eqb _ _ c.if-p-grid.false, ne_eqb _ _ c.if-p-grid-2.false), omega (arith, squares (goal.at.returns c).Start))

-- A product with a flag is a choice; then the three cases of `mark_by`.
use Prim.Native.Nat.{ℕ, zero, suc, ◌+◌, ◌-◌, ◌*◌, ◌≤◌}
use mathlib.Core.Path.{◌≡◌, refl}
use mathlib.Core.Bool.{Bool, true, false, cond}
use native.Mathlib.Omega.{arith}
use lib.Dec.{ltb, eqb}
use mir.Val.{bool_byte}
use borrow.Author.Tests.{lt-ltb, ne_eqb}
use Rattle.surface.specs.Flags.{mark_by}
use Rattle.changes.proofs.mark_by.Goals as goal

times : (b : Bool) (n : ℕ) → bool_byte b * n ≡ cond b n 0
times true n = omega arith
times false n = omega arith

at_most : (b : Bool) (n m : ℕ) → n ≤ m → bool_byte b * n ≤ m
at_most true n m h = omega arith
at_most false n m h = omega arith

peak-or-pit : (side : Bool) → (bool_byte side ≤ 2) × (2 - bool_byte side ≡ cond side 1 2)
peak-or-pit true = (omega arith, refl)
peak-or-pit false = (omega arith, refl)

mark-by-runs : (first : Bool) (runs : ℕ) → cond (ltb 1 runs) (runs + 1) 0 + cond (eqb runs 0) (cond first 1 2) 0 ≡ mark_by first runs
unfolding mark_by
mark-by-runs true zero = refl
mark-by-runs false zero = refl
mark-by-runs first (suc zero) = refl
mark-by-runs first (suc (suc n)) =
    rw (lt-ltb 1 (suc (suc n)) (omega arith), ne_eqb (suc (suc n)) 0 (omega arith), ne_eqb (suc (suc n)) 1 (omega arith)) (omega arith)

pub overflow_mul-saddle : goal.overflow_mul-saddle
overflow_mul-saddle c = omega (arith, at_most (ltb 1 c.args.runs) (c.args.runs + 1) 9 (omega arith))

pub overflow_sub-extreme : goal.overflow_sub-extreme
overflow_sub-extreme c = (peak-or-pit c.args.first).0

pub overflow_mul-extreme : goal.overflow_mul-extreme
overflow_mul-extreme c = omega (arith, at_most (eqb c.args.runs 0) (2 - bool_byte c.args.first) 2 (omega arith))

pub overflow_add-result : goal.overflow_add-result
overflow_add-result c =
    omega (
      arith,
      at_most (ltb 1 c.args.runs) (c.args.runs + 1) 9 (omega arith),
      at_most (eqb c.args.runs 0) (2 - bool_byte c.args.first) 2 (omega arith),
    )

pub returns : goal.returns
returns c =
    rw ((peak-or-pit c.args.first).1, times (ltb 1 c.args.runs), times (eqb c.args.runs 0))
    (mark-by-runs c.args.first c.args.runs)

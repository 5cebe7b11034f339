-- The square of 32 bits fits 64.
use native.Mathlib.Omega.{arith}
use native.Mathlib.Nat.{mul-le-mul}
use Prim.Native.Nat.{◌≤◌}
use mathlib.Core.Path.{refl}
use Rattle.steepest.proofs.square.Goals as goal

pub overflow_mul-result : goal.overflow_mul-result
overflow_mul-result c =
    let h : c.args.x ≤ 4294967295 = omega (arith, c.ranges.x.fits) in
    record { fits = omega (arith, mul-le-mul h h) }

pub returns : goal.returns
returns c = refl

-- Four cases: below or not, of one height or not.
use Prim.Native.Nat.{◌+◌, ◌*◌}
use native.Mathlib.Omega.{arith}
use mathlib.Core.Path.{◌≡◌, refl}
use mathlib.Core.Bool.{Bool, true, false}
use mir.Val.{bool_byte}
use Rattle.surface.specs.Codes.{code_for}
use Rattle.surface.proofs.General.Bools.{flag}
use Rattle.ring.proofs.codes.code_by.Goals as goal

sum : (b t : Bool) → 1 + 2 * bool_byte b + bool_byte t ≡ code_for b t
sum true true = refl
sum true false = refl
sum false true = refl
sum false false = refl

pub returns : goal.returns
returns c = sum c.args.below c.args.tied

pub overflow_mul-result : goal.overflow_mul-result
overflow_mul-result c = omega (arith, (flag c.args.below).1)

pub overflow_add-result : goal.overflow_add-result
overflow_add-result c = omega (arith, (flag c.args.below).1)

pub overflow_add-result-2 : goal.overflow_add-result-2
overflow_add-result-2 c = omega (arith, (flag c.args.below).1, (flag c.args.tied).1)

-- At most six turns, and a number below 256.
use Prim.Native.Nat.{◌-◌, ◌*◌, ◌≤◌}
use native.Mathlib.Omega.{arith}
use native.Mathlib.Nat.{mul-le-mul_right}
use mathlib.Core.Path.{◌≡◌, ap, ◌∙◌}
use mathlib.Core.Bool.{Bool, cond, not}
use lib.Dec.{eqb}
use Rattle.surface.specs.Lists.{flipped}
use Rattle.surface.proofs.General.Bools.{xor-flipped}
use Rattle.order.proofs.tie_place.Goals as goal
use Rattle.order.proofs.tie_place.Goals.{After-struct_known-1}

-- the rows before are at most two
above : (c : After-struct_known-1) → let a = c.args in a.down * a.grid.columns ≤ 2 * a.grid.columns
above c = mul-le-mul_right c.args.grid.columns c.requires.1

pub returns : goal.returns
returns c =
    let turned = xor-flipped c.args.odd (not (eqb c.args.down 1)) in
    let t : c.turns_back.result ≡ cond (flipped (not (eqb c.args.down 1)) c.args.odd) (2 - c.args.along) 0 =
    c.turns_back.ensures.0 ∙ ap (λ (b : Bool). cond b (2 - c.args.along) 0) turned
    in
    (rw t, omega (arith, above c.before, c.requires, c.turns_back.ensures.1))

pub overflow_mul-number : goal.overflow_mul-number
overflow_mul-number c = omega (arith, above c, c.requires)

pub overflow_add-number : goal.overflow_add-number
overflow_add-number c = omega (arith, above c, c.requires)

pub overflow_mul-turns : goal.overflow_mul-turns
overflow_mul-turns c = omega (arith, c.requires)

pub turns_back-requires : goal.turns_back-requires
turns_back-requires c = c.requires.2

pub overflow_add-turns : goal.overflow_add-turns
overflow_add-turns c = omega (arith, c.requires, c.turns_back.ensures.1)

pub overflow_mul-result : goal.overflow_mul-result
overflow_mul-result c = omega (arith, c.requires, c.turns_back.ensures.1)

pub overflow_add-result : goal.overflow_add-result
overflow_add-result c = omega (arith, above c.before, c.requires, c.turns_back.ensures.1)

pub overflow_cast-result : goal.overflow_cast-result
overflow_cast-result c = omega (arith, above c.before, c.requires, c.turns_back.ensures.1)

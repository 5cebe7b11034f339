-- At most two.
use native.Mathlib.Omega.{arith}
use mathlib.Core.Path.{refl}
use Rattle.order.proofs.turns_back.Goals as goal

pub returns-then-turned : goal.returns-then-turned
returns-then-turned c = rw c.if-turned.true (refl, omega arith)

pub returns : goal.returns
returns c = rw c.if-turned.false (refl, omega arith)

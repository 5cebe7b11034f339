-- Sides that pass are few enough to be multiplied.
use native.Mathlib.Omega.{arith}
use Rattle.surface.proofs.AnyOrder.Grid.{test-sides}
use Rattle.limits.proofs.check_length.Goals as goal

pub overflow_mul-rows : goal.overflow_mul-rows
overflow_mul-rows c = omega (arith, test-sides c.args.rows c.args.columns c.requires)

pub overflow_cast-rows : goal.overflow_cast-rows
overflow_cast-rows c = omega (arith, test-sides c.args.rows c.args.columns c.requires)

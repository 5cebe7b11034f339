use Rattle.std.proofs.Common.{refl}
use Rattle.surface.specs.Refusals.{verdict}
use Rattle.surface.proofs.Refusal.unless.Goals as goal

pub returns-then-passes : goal.returns-then-passes
unfolding verdict
returns-then-passes c = rw c.if-passes.true refl

pub returns-else-passes : goal.returns-else-passes
unfolding verdict
returns-else-passes c = rw c.if-passes.false refl

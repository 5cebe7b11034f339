-- A post or the virtual pit.
use native.Mathlib.Omega.{arith}
use Rattle.surface.specs.Plot.{virtual_pit}
use Rattle.rings.proofs.ring.with_post.Goals as goal

pub overflow_sub-p : goal.overflow_sub-p
overflow_sub-p c = omega (arith, c.requires.3 c.if-filled.true)

pub returns-then-filled : goal.returns-then-filled
unfolding virtual_pit
returns-then-filled c = rw c.if-filled.true c.with_member.ensures

pub returns : goal.returns
unfolding virtual_pit
returns c = rw c.if-filled.false c.with_member-2.ensures

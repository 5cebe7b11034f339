-- The law of two steps.
use mathlib.Core.Bool.{true, false}
use borrow.Author.Tests.{lt-ltb, le-ltb}
use Rattle.paths.proofs.Shorter.{two_steps}
use Rattle.paths.proofs.ahead.Goals as goal

pub returns-then-next-list : goal.returns-then-next-list
returns-then-next-list c = two_steps c.args.list.now c.args.p c.requires true (lt-ltb _ _ c.if-next-list.true)

pub returns-else-next-list : goal.returns-else-next-list
returns-else-next-list c = two_steps c.args.list.now c.args.p c.requires false (le-ltb _ _ c.if-next-list.false)

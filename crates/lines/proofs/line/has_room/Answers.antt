-- In a list longer than the heights there is room for every walk that is no longer than the plot; in another what the walk counts tells.
use native.Mathlib.Omega.{arith}
use mathlib.Core.Path.{sym, ap}
use Prim.Native.Nat.{ℕ}
use lib.Dec.{ltb}
use borrow.Author.Tests.{lt-ltb}
use Rattle.lines.proofs.line.has_room.Goals as goal

pub entries_of-requires : goal.entries_of-requires
entries_of-requires c = c.requires.0

pub returns-then-room-heights : goal.returns-then-room-heights
returns-then-room-heights c = ap (λ (n : ℕ). ltb n c.args.room) c.entries_of.ensures

pub returns : goal.returns
returns c = sym (lt-ltb _ c.args.room (omega (arith, c.if-room-heights.false, c.requires.1, c.requires.0.valid.size)))

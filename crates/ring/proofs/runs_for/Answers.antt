-- Case by case as in `runs_for`.
use borrow.Author.Tests.{lt-leb, le-leb}
use Rattle.surface.specs.Flags.{runs_for}
use Rattle.surface.proofs.General.Bools.{flag}
use Rattle.ring.proofs.runs_for.Goals as goal

pub returns-then-mark-lt-SADDLE : goal.returns-then-mark-lt-SADDLE
unfolding runs_for
returns-then-mark-lt-SADDLE c = rw (lt-leb 3 _ c.if-mark-lt-SADDLE.true, (flag _).0)

pub returns : goal.returns
unfolding runs_for
returns c = rw (le-leb 3 _ c.if-mark-lt-SADDLE.false)

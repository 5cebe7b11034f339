-- The loop's invariant: the path from e ends where that from p does. The measure: the steps left.
use Prim.Native.Nat.{◌<◌}
use mathlib.Core.Path.{◌≡◌}
use Rattle.paths.specs.Paths.{path_end}
use Rattle.paths.proofs.Shorter.{steps_left}
use Rattle.paths.proofs.end_of.Given as goal

abbrev pub invariant-loop-next : goal.invariant-loop-next
invariant-loop-next l = (l.e < 65536) × (path_end l.list l.e ≡ path_end l.list l.p)

abbrev pub decreases-loop-next : goal.decreases-loop-next
decreases-loop-next l = steps_left l.list l.e

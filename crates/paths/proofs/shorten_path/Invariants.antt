-- The loop's invariant: paths were only made shorter, the path from e ends at `end`, and p has its entry
-- as soon as it is passed. The measure: the steps left from e before anything was stored.
use mathlib.Core.Path.{◌≡◌}
use mathlib.Core.Logic.{◌⊎◌}
use Rattle.paths.specs.Paths.{follow, path_end, Shorter}
use Rattle.paths.proofs.Shorter.{steps_left}
use Rattle.paths.proofs.shorten_path.Given as goal

abbrev pub invariant-loop-e : goal.invariant-loop-e
invariant-loop-e l = Shorter l.initial.list l.list × (path_end l.initial.list l.e ≡ l.end) × ((l.e ≡ l.p) ⊎ (follow l.list l.p ≡ l.end))

abbrev pub decreases-loop-e : goal.decreases-loop-e
decreases-loop-e l = steps_left l.initial.list l.e

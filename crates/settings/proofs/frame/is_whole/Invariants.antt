-- The loop's invariant: the entries end where `at` and the entries from there on say.
use Prim.Native.Nat.{◌+◌, ◌-◌}
use mathlib.Core.Path.{◌≡◌}
use lib.ListN.{length}
use Rattle.surface.specs.Settings.{extent}
use Rattle.settings.specs.Walk.{entries_from}
use Rattle.settings.proofs.frame.is_whole.Given as goal

abbrev pub invariant-loop-at : goal.invariant-loop-at
invariant-loop-at l = 5 + extent (entries_from l.sheet 5) ≡ l.at + extent (entries_from l.sheet l.at)

abbrev pub decreases-loop-at : goal.decreases-loop-at
decreases-loop-at l = length l.sheet - l.at

-- The loop's invariant: the first i marks are told, and the patterns after them are as they were.
use Prim.Native.Nat.{ℕ, ◌-◌, ◌≤◌}
use mathlib.Core.Path.{◌≡◌}
use mathlib.Core.List.{List}
use lib.ListN.{length, get_or}
use Rattle.surface.specs.Lists.{stores}
use Rattle.surface.specs.Patterns.{mark_in}
use Rattle.marks.proofs.mark_all.Given as goal

abbrev pub told : List ℕ → ℕ → ℕ
told marks₀ k = mark_in (get_or marks₀ k 0)

abbrev pub invariant-loop-i : goal.invariant-loop-i
invariant-loop-i l = (l.i ≤ l.n) × (length l.changes ≡ 240) × (l.marks ≡ stores (told l.initial.marks) 0 l.i l.initial.marks)

abbrev pub decreases-loop-i : goal.decreases-loop-i
decreases-loop-i l = l.n - l.i

-- The loop's invariant: the bodies of the first j starts are one.
use Prim.Native.Nat.{ℕ, ◌≤◌}
use lib.ListN.{length, get_or}
use Rattle.surface.specs.Plot.{plot_of}
use Rattle.surface.specs.Patterns.{upper_starts}
use Rattle.starts.specs.Starts.{post_at}
use Rattle.merges.specs.Merges.{Merged}
use Rattle.merges.proofs.Merging.{down_to}
use Rattle.merges.proofs.take_saddle.Given as goal

-- the j-th start
abbrev pub start_at : ℕ → ℕ → ℕ → ℕ → ℕ
start_at columns pattern p j = post_at columns p (get_or (upper_starts pattern) j 8)

abbrev pub invariant-loop-j : goal.invariant-loop-j
invariant-loop-j l =
    (l.j ≤ length (upper_starts l.pattern))
    × Merged (plot_of l.grid l.heights) l.initial.list l.list (down_to (start_at l.grid.columns l.pattern l.p) l.j) l.body.end l.body.splits

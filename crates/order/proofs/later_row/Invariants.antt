-- The loop's invariant: i flags were stored. The last block goes over their end.
use Prim.Native.Nat.{◌+◌, ◌-◌, ◌≤◌}
use mathlib.Core.Path.{◌≡◌}
use lib.ListN.{length}
use Rattle.surface.specs.Lists.{stores}
use Rattle.surface.specs.Plot.{plot_of, below}
use Rattle.order.proofs.later_row.Given as goal

abbrev pub invariant-loop-i : goal.invariant-loop-i
invariant-loop-i l =
    (l.i ≤ l.n) × (length l.flags ≡ length l.initial.flags) × (l.flags ≡ stores (λ k. below (plot_of l.grid l.heights) (l.q + (k - l.at)) (l.p + (k - l.at))) l.at l.i l.initial.flags)

abbrev pub decreases-loop-i : goal.decreases-loop-i
decreases-loop-i l = l.n - l.i

-- The loop's invariant: i flags were stored.
use Prim.Native.Nat.{◌+◌, ◌-◌}
use mathlib.Core.Path.{◌≡◌}
use Rattle.surface.specs.Lists.{stores}
use Rattle.surface.specs.Plot.{plot_of, below}
use Rattle.order.proofs.later_each.Given as goal

abbrev pub invariant-loop-i : goal.invariant-loop-i
invariant-loop-i l =
    l.flags ≡ stores (λ k. below (plot_of l.grid l.heights) (l.q + (k - l.at)) (l.p + (k - l.at))) l.at l.i l.initial.flags

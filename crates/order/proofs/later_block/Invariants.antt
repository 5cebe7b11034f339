-- The loop's invariant: k flags were stored.
use Prim.Native.Nat.{◌+◌}
use mathlib.Core.Path.{◌≡◌}
use Rattle.surface.specs.Lists.{stores}
use Rattle.surface.specs.Plot.{plot_of, below}
use Rattle.order.proofs.later_block.Given as goal

abbrev pub invariant-loop-k : goal.invariant-loop-k
invariant-loop-k l =
    l.flag-items ≡ stores (λ k. below (plot_of l.grid l.heights) (l.q + k) (l.p + k)) 0 l.k l.initial.flag-items

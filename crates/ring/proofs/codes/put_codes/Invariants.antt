-- The loop's invariant: i codes were stored.
use Prim.Native.Nat.{◌≤◌}
use mathlib.Core.Path.{◌≡◌}
use lib.ListN.{length, get_or}
use Rattle.surface.specs.Lists.{stores}
use Rattle.surface.specs.Plot.{plot_of}
use Rattle.surface.specs.Codes.{codes_of}
use Rattle.ring.proofs.codes.put_codes.Given as goal

abbrev pub invariant-loop-i : goal.invariant-loop-i
invariant-loop-i l =
    (l.i ≤ 8) × (length l.list ≡ 8) × (l.list ≡ stores (λ i. get_or (codes_of (plot_of l.grid l.heights) l.p) i 0) 0 l.i l.initial.list)

-- The loop's invariant: k flags were stored.
use Prim.Native.Nat.{◌-◌}
use mathlib.Core.Path.{◌≡◌}
use mathlib.Core.Bool.{false}
use lib.ListN.{get_or}
use Rattle.surface.specs.Lists.{stores}
use Rattle.order.proofs.put_block.Given as goal

abbrev pub invariant-loop-k : goal.invariant-loop-k
invariant-loop-k l = l.flags ≡ stores (λ k. get_or l.fn.block (k - l.at) false) l.at l.k l.initial.flags

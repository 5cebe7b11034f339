-- A block stored.
use Prim.Native.Nat.{ℕ, ◌+◌, ◌-◌}
use native.Mathlib.Omega.{arith}
use mathlib.Core.Path.{◌≡◌, ◌∙◌}
use mathlib.Core.Bool.{Bool, false}
use mathlib.Core.List.{List}
use lib.ListN.{get_or}
use Rattle.surface.specs.Lists.{list_of, stores}
use Rattle.surface.specs.Plot.{Plot, below}
use Rattle.surface.proofs.General.ListOf.{get_or-list_of}
use Rattle.surface.proofs.General.Stores.{stores_same}
use Rattle.order.proofs.later_flags.Goals as goal

stored : (pl : Plot) (p q at : ℕ) (block l : List Bool) → block ≡ list_of (λ k. below pl (q + k) (p + k)) 16
    → stores (λ k. get_or block (k - at) false) at 16 l ≡ stores (λ k. below pl (q + (k - at)) (p + (k - at))) at 16 l
stored pl p q at block l e =
    stores_same _ _ at 16 l
    (λ k h.
    let i : at + k - at ≡ k = omega arith in
    rw (i, e) (get_or-list_of (λ k. below pl (q + k) (p + k)) 16 k false h))

pub returns : goal.returns
returns c = c.put_block.ensures ∙ stored _ _ _ _ _ _ c.later_block.ensures

pub later_block-requires : goal.later_block-requires
later_block-requires c = let pre = c.requires in (pre.0, pre.1, pre.2, pre.3)

pub put_block-requires : goal.put_block-requires
put_block-requires c = omega (arith, c.requires.4)

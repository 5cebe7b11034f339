use Prim.Native.Nat.{◌+◌}
use native.Mathlib.Omega.{arith}
use mathlib.Core.Path.{◌≡◌, refl, sym, ◌∙◌}
use mathlib.Core.Bool.{false}
use Rattle.surface.specs.Lists.{stores}
use Rattle.surface.proofs.General.Stores.{store-next, stores-all}
use Rattle.order.proofs.later_block.Goals as goal

pub loop-k-init : goal.loop-k-init
unfolding stores
loop-k-init c = refl

pub is_below_by-requires : goal.is_below_by-requires
is_below_by-requires c =
    let pre = c.requires in
    (pre.0, omega arith, omega arith, sym (pre.3.told c.loop-k.k (omega arith)))

pub loop-k-preserved : goal.loop-k-preserved
loop-k-preserved c =
    let l = c.loop-k in
    store-next _ 0 l.k (l.k + 1) l.flag-items _ l.k _ l.invariant (omega arith) refl c.is_below_by.ensures

pub returns : goal.returns
returns c =
    let l = c.loop-k in
    let e : l.k ≡ 16 = omega arith in
    (rw e at l.invariant) ∙ stores-all _ 16 _ false refl

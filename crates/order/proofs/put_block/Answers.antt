use Prim.Native.Nat.{◌+◌, ◌-◌}
use native.Mathlib.Omega.{arith}
use mathlib.Core.Path.{◌≡◌, refl}
use Rattle.surface.specs.Lists.{stores}
use Rattle.surface.proofs.General.Stores.{store-next}
use Rattle.order.proofs.put_block.Goals as goal

pub loop-k-init : goal.loop-k-init
unfolding stores
loop-k-init c = refl

pub loop-k-preserved : goal.loop-k-preserved
loop-k-preserved c =
    let l = c.loop-k in
    let a = c.args in
    let e : a.at + l.k - a.at ≡ l.k = omega arith in
    store-next _ a.at l.k (l.k + 1) l.flags a.flags.now (a.at + l.k) _ l.invariant refl refl (rw e)

pub returns : goal.returns
returns c =
    let l = c.loop-k in
    let e : l.k ≡ 16 = omega arith in
    rw e at l.invariant

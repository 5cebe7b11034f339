-- Each turn stores one place more.
use Prim.Native.Nat.{◌+◌, ◌-◌}
use native.Mathlib.Omega.{arith}
use mathlib.Core.Path.{◌≡◌, refl}
use lib.ListN.{length}
use Rattle.surface.specs.Lists.{stores}
use Rattle.surface.proofs.General.Stores.{store-next}
use Rattle.settings.proofs.clear_from.Goals as goal

pub loop-i-init : goal.loop-i-init
unfolding stores
loop-i-init c =
    let e : c.args.n - c.args.n ≡ 0 = omega arith in
    rw e

pub loop-i-preserved : goal.loop-i-preserved
loop-i-preserved c =
    let l = c.loop-i in
    let n = c.args.n in
    store-next _ n (l.i - n) (l.i + 1 - n) l.list _ l.i _ l.invariant (omega arith) (omega arith) refl

pub returns : goal.returns
returns c =
    let l = c.loop-i in
    let e : l.i ≡ length c.args.list.now = omega arith in
    rw e at l.invariant

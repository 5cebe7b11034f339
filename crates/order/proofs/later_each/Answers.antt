use Prim.Native.Nat.{◌+◌, ◌-◌}
use native.Mathlib.Omega.{arith}
use mathlib.Core.Path.{◌≡◌, refl, sym}
use Rattle.surface.specs.Lists.{stores}
use Rattle.surface.proofs.General.Stores.{store-next}
use Rattle.order.proofs.later_each.Goals as goal

pub loop-i-init : goal.loop-i-init
unfolding stores
loop-i-init c = refl

pub overflow_add-q : goal.overflow_add-q
overflow_add-q c = omega (arith, c.requires.0.sides)

pub overflow_add-p : goal.overflow_add-p
overflow_add-p c = omega (arith, c.requires.0.sides)

pub is_below_by-requires : goal.is_below_by-requires
is_below_by-requires c =
    let pre = c.requires in
    (pre.0, omega arith, omega arith, sym (pre.3.told c.loop-i.i (omega arith)))

pub loop-i-preserved : goal.loop-i-preserved
loop-i-preserved c =
    let l = c.loop-i in
    let a = c.args in
    let e : a.at + l.i - a.at ≡ l.i = omega arith in
    store-next _ a.at l.i (l.i + 1) l.flags a.flags.now (a.at + l.i) _ l.invariant refl refl (rw e c.is_below_by.ensures)

pub returns : goal.returns
returns c =
    let l = c.loop-i in
    let e : l.i ≡ c.args.n = omega arith in
    rw e at l.invariant

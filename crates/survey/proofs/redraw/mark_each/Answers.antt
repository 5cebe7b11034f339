use Prim.Native.Nat.{◌+◌}
use native.Mathlib.Omega.{arith}
use mathlib.Core.Path.{◌≡◌, refl}
use Rattle.surface.specs.Lists.{stores}
use Rattle.surface.proofs.General.Stores.{store-next}
use Rattle.survey.proofs.redraw.mark_each.Goals as goal

pub loop-i-init : goal.loop-i-init
unfolding stores
loop-i-init c = refl

pub overflow_add-from : goal.overflow_add-from
overflow_add-from c = omega (arith, c.requires.0.sides)

pub mark_with-requires : goal.mark_with-requires
mark_with-requires c = let pre = c.requires in (record { valid = pre.0; post = omega arith }, pre.1)

pub overflow_add-marks : goal.overflow_add-marks
overflow_add-marks c = omega (arith, c.requires.0.sides)

pub loop-i-preserved : goal.loop-i-preserved
loop-i-preserved c =
    let l = c.loop-i in
    let a = c.args in
    store-next _ a.from l.i (l.i + 1) l.marks a.marks.now (a.from + l.i) _ l.invariant refl refl c.mark_with.ensures

pub returns : goal.returns
returns c =
    let l = c.loop-i in
    let e : l.i ≡ c.args.n = omega arith in
    rw e at l.invariant

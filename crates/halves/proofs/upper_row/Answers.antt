use Prim.Native.Nat.{◌+◌}
use native.Mathlib.Omega.{arith}
use mathlib.Core.Path.{◌≡◌, refl}
use mathlib.Core.Bool.{false}
use lib.ListN.{get_or}
use Rattle.surface.specs.Lists.{stores}
use Rattle.surface.proofs.General.Stores.{store-next}
use Rattle.halves.proofs.Halves.{pair-turned}
use Rattle.halves.proofs.upper_row.Goals as goal

pub loop-c-init : goal.loop-c-init
unfolding stores
loop-c-init c = refl

pub overflow_mul-upper : goal.overflow_mul-upper
overflow_mul-upper c = omega (arith, c.pair-w.ensures.1)

pub overflow_add-upper : goal.overflow_add-upper
overflow_add-upper c = omega (arith, c.pair-w.ensures.1, c.pair-n.ensures.1)

pub overflow_sub-upper : goal.overflow_sub-upper
overflow_sub-upper c = omega (arith, c.pair-w.ensures.1, c.pair-n.ensures.1)

pub loop-c-preserved : goal.loop-c-preserved
loop-c-preserved c =
    let l = c.loop-c in
    let a = c.args in
    store-next _ 0 l.c (l.c + 1) l.upper a.upper.now l.c _ l.invariant (omega arith) refl
    (omega (
      arith,
      c.pair-w.ensures.0,
      c.pair-n.ensures.0,
      pair-turned a.highest (get_or a.south.now (l.c + 1) false) (get_or a.rise.now (l.c + 1) false) (get_or a.south.now (l.c + 2) false),
      pair-turned a.highest (get_or a.under.now l.c false) (get_or a.fall.now l.c false) (get_or a.side.now l.c false),
    ))

pub returns : goal.returns
returns c =
    let l = c.loop-c in
    let e : l.c ≡ c.args.width = omega arith in
    rw e at l.invariant

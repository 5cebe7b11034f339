use Prim.Native.Nat.{◌+◌}
use native.Mathlib.Omega.{arith}
use mathlib.Core.Path.{◌≡◌, refl}
use Rattle.surface.specs.Lists.{stores}
use Rattle.surface.proofs.General.Stores.{store-next}
use Rattle.halves.proofs.lower_row.Goals as goal

pub loop-c-init : goal.loop-c-init
unfolding stores
loop-c-init c = refl

pub overflow_mul-pattern : goal.overflow_mul-pattern
overflow_mul-pattern c = omega (arith, c.pair-s.ensures.1)

pub overflow_add-pattern : goal.overflow_add-pattern
overflow_add-pattern c = omega (arith, c.pair-s.ensures.1, c.pair-e.ensures.1)

pub overflow_mul-pattern-in-loop-c : goal.overflow_mul-pattern-in-loop-c
overflow_mul-pattern-in-loop-c c = omega (arith, c.pair-s.ensures.1, c.pair-e.ensures.1)

pub overflow_add-pattern-in-loop-c : goal.overflow_add-pattern-in-loop-c
overflow_add-pattern-in-loop-c c =
    omega (arith, c.pair-s.ensures.1, c.pair-e.ensures.1, c.requires.low c.loop-c.c c.loop-c-test.true)

pub loop-c-preserved : goal.loop-c-preserved
loop-c-preserved c =
    let l = c.loop-c in
    let a = c.args in
    store-next _ 0 l.c (l.c + 1) l.pattern a.pattern.now l.c _ l.invariant (omega arith) refl (rw (c.pair-s.ensures.0, c.pair-e.ensures.0))

pub returns : goal.returns
returns c =
    let l = c.loop-c in
    let e : l.c ≡ c.args.width = omega arith in
    rw e at l.invariant

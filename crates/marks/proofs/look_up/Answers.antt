use Prim.Native.Nat.{◌+◌}
use native.Mathlib.Omega.{arith}
use mathlib.Core.Path.{◌≡◌, refl}
use lib.ListN.{length}
use Rattle.surface.specs.Lists.{stores}
use Rattle.surface.proofs.General.Stores.{store-next}
use Rattle.marks.proofs.look_up.Goals as goal

pub loop-c-init : goal.loop-c-init
unfolding stores
loop-c-init c = refl

pub changes_of-requires : goal.changes_of-requires
changes_of-requires c = c.requires.0

pub loop-c-preserved : goal.loop-c-preserved
loop-c-preserved c =
    let l = c.loop-c in
    store-next _ 0 l.c (l.c + 1) l.changes c.args.changes.now l.c _ l.invariant (omega arith) refl c.changes_of.ensures.0

pub returns : goal.returns
returns c =
    let l = c.loop-c in
    let e : l.c ≡ length c.args.patterns.now = omega arith in
    rw e at l.invariant

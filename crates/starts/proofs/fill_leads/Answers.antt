use Prim.Native.Nat.{◌+◌}
use native.Mathlib.Omega.{arith}
use mathlib.Core.Path.{◌≡◌, refl, ◌∙◌, ap}
use lib.ListN.{length}
use Rattle.surface.specs.Lists.{stores}
use Rattle.surface.proofs.General.Stores.{store-next, stores-all}
use Rattle.starts.specs.Starts.{post_at}
use Rattle.starts.proofs.fill_leads.Goals as goal

pub loop-p-init : goal.loop-p-init
unfolding stores
loop-p-init c = refl

pub post_at-requires : goal.post_at-requires
post_at-requires c =
    let h = c.requires.columns_le_max_side in (
      c.step_list-steps.ensures,
      h.0,
      omega (arith, h.2, h.3),
      c.first_start-place.ensures.1,
      rw c.first_start-place.ensures.0 (c.requires.by_index c.loop-p.p (omega (arith, h.2))),
    )

pub overflow_cast-lead : goal.overflow_cast-lead
overflow_cast-lead c = omega (arith, c.post_at.ensures.1)

pub loop-p-preserved : goal.loop-p-preserved
loop-p-preserved c =
    let l = c.loop-p in
    store-next _ 0 l.p (l.p + 1) l.leads c.args.leads.now l.p _ l.invariant (omega arith) refl
    (c.post_at.ensures.0 ∙ ap (post_at c.args.columns l.p) c.first_start-place.ensures.0)

pub returns : goal.returns
returns c =
    let l = c.loop-p in
    let n : length c.args.leads.now ≡ length c.args.patterns.now = c.requires.columns_le_max_side.2 in
    let e : l.p ≡ length c.args.patterns.now = omega (arith, n) in
    (rw e at l.invariant) ∙ stores-all _ _ _ 0 n

-- A side and a corner, each compared where it is there.
use native.Mathlib.Omega.{arith}
use Prim.Native.Nat.{◌+◌, ◌-◌}
use mathlib.Core.Path.{refl, sym, ◌∙◌}
use borrow.Author.Tests.{not-true}
use Rattle.surface.specs.Edges.{bottom, left}
use Rattle.surface.specs.Flags.{south_pair}
use Rattle.surface.proofs.AnyOrder.Grid.{bottom-false, not_left}
use Rattle.surface.proofs.OfPlots.Driven.{far-told, corner-told}
use Rattle.rings.proofs.Around.{both_false, cell-sw}
use Rattle.order.proofs.Level.{below-same}
use Rattle.post.proofs.Paired.{as-told, paired}
use Rattle.post.proofs.pattern.south_pair.Goals as goal

pub overflow_add-across : goal.overflow_add-across
overflow_add-across c = omega (arith, c.requires.0.post, c.requires.0.valid.sides)

pub overflow_sub-across : goal.overflow_sub-across
overflow_sub-across c = omega (arith, c.requires.0.post, c.requires.0.valid.sides)

pub overflow_add-south : goal.overflow_add-south
overflow_add-south c = omega (arith, c.requires.0.post, c.requires.0.valid.sides)

pub ahead-s-requires : goal.ahead-s-requires
ahead-s-requires c =
    let s = c.requires.0.valid.sides in
    rw c.requires.1 (c.requires.0.valid, λ h. (omega (arith, (bottom-false s c.args.p c.requires.0.post).0 (not-true _ h)), omega arith, sym (far-told s _ _ (omega arith)).second))

pub overflow_sub-grid : goal.overflow_sub-grid
overflow_sub-grid c = omega (arith, c.requires.0.post, c.requires.0.valid.sides)

pub ahead-sw-requires : goal.ahead-sw-requires
ahead-sw-requires c =
    let s = c.requires.0.valid.sides in
    let p = c.args.p in
    let k = c.args.grid.columns in
    rw c.requires.1
    (c.requires.0.valid, λ h. (omega (arith, cell-sw s p c.requires.0.post h), omega (arith, s.wide), as-told _ (p + k - 1) p (corner-told s p (p + k - 1) (both_false (bottom c.args.grid.rows k p) (left k p) h).1 (omega (arith, s.wide))).second refl (omega (arith, s.wide))))

pub ahead-after-requires : goal.ahead-after-requires
ahead-after-requires c =
    let s = c.requires.0.valid.sides in
    rw c.requires.1
    (c.requires.0.valid, λ h. let w = cell-sw s c.args.p c.requires.0.post h in (omega (arith, w), omega (arith, w), sym (far-told s _ _ (omega (arith, w))).second))

pub returns : goal.returns
unfolding south_pair
returns c =
    let s = c.requires.0.valid.sides in (
      c.pair.ensures.0
          ∙ rw (c.ahead-after.ensures, c.ahead-sw.ensures, c.ahead-s.ensures, c.requires.1)
          (paired _ (bottom c.args.grid.rows c.args.grid.columns c.args.p) (left c.args.grid.columns c.args.p) _ _ _ _ _ _ (λ i. below-same _ refl (omega arith)) (λ i j. below-same _ refl (omega (arith, s.wide))) (λ i j. below-same _ refl (omega (arith, s.wide, not_left s c.args.p j)))),
      c.pair.ensures.1,
    )

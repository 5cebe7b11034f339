-- A side and a corner, each compared where it is there.
use native.Mathlib.Omega.{arith}
use Prim.Native.Nat.{◌+◌}
use mathlib.Core.Path.{refl, sym, ap, ◌∙◌}
use mathlib.Core.Bool.{not}
use borrow.Author.Tests.{not-true}
use Rattle.surface.specs.Edges.{bottom, right}
use Rattle.surface.specs.Flags.{east_pair}
use Rattle.surface.proofs.AnyOrder.Grid.{east-post}
use Rattle.surface.proofs.OfPlots.Driven.{far-told, east-told, south-told}
use Rattle.rings.proofs.Around.{both_false, cell-se}
use Rattle.order.proofs.Level.{below-same}
use Rattle.post.proofs.Paired.{as-told, paired}
use Rattle.post.proofs.pattern.east_pair.Goals as goal

pub overflow_add-across : goal.overflow_add-across
overflow_add-across c = omega (arith, c.requires.0.post, c.requires.0.valid.sides)

pub overflow_add-across-2 : goal.overflow_add-across-2
overflow_add-across-2 c = omega (arith, c.requires.0.post, c.requires.0.valid.sides)

pub overflow_add-p : goal.overflow_add-p
overflow_add-p c = omega (arith, c.requires.0.post, c.requires.0.valid.sides)

pub ahead-e-requires : goal.ahead-e-requires
ahead-e-requires c =
    let s = c.requires.0.valid.sides in
    rw c.requires.1 (c.requires.0.valid, λ h. (omega (arith, east-post s c.args.p c.requires.0.post (not-true _ h)), omega arith, c.requires.2 ∙ as-told _ (c.args.p + 1) c.args.p (east-told s c.args.p _ (not-true _ h) refl).first refl (omega arith)))

pub overflow_add-grid : goal.overflow_add-grid
overflow_add-grid c = omega (arith, c.requires.0.post, c.requires.0.valid.sides)

pub ahead-se-requires : goal.ahead-se-requires
ahead-se-requires c =
    let s = c.requires.0.valid.sides in
    rw c.requires.1 (c.requires.0.valid, λ h. (omega (arith, (cell-se s c.args.p c.requires.0.post h).posts), omega arith, sym (far-told s _ _ (omega arith)).second))

pub ahead-after-requires : goal.ahead-after-requires
ahead-after-requires c =
    let s = c.requires.0.valid.sides in
    rw c.requires.1
    (c.requires.0.valid, λ h. (omega (arith, (cell-se s c.args.p c.requires.0.post h).posts), omega arith, ap not c.requires.2 ∙ as-told _ _ _ (south-told s c.args.p (both_false (right c.args.grid.columns c.args.p) (bottom c.args.grid.rows c.args.grid.columns c.args.p) h).0).first refl (omega arith)))

pub returns : goal.returns
unfolding east_pair
returns c =
    let s = c.requires.0.valid.sides in (
      c.pair.ensures.0
          ∙ rw (c.ahead-after.ensures, c.ahead-se.ensures, c.ahead-e.ensures, c.requires.1)
          (paired _ (right c.args.grid.columns c.args.p) (bottom c.args.grid.rows c.args.grid.columns c.args.p) _ _ _ _ _ _ (λ i. below-same _ refl (omega arith)) (λ i j. below-same _ refl (omega arith)) (λ i j. below-same _ refl (omega arith))),
      c.pair.ensures.1,
    )

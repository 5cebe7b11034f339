-- Compared where it is there; at the first post S is.
use native.Mathlib.Omega.{arith}
use mathlib.Core.Path.{◌≡◌, refl, sym, ap, ◌∙◌}
use mathlib.Core.Bool.{true, not, ◌&&◌}
use borrow.Author.Tests.{not-true}
use Rattle.surface.specs.Edges.{top, bottom, left}
use Rattle.surface.specs.Flags.{west_sign}
use Rattle.surface.proofs.AnyOrder.Grid.{bottom-false, not_left}
use Rattle.surface.proofs.OfPlots.Driven.{far-told, west-told}
use Rattle.order.proofs.Level.{below-same}
use Rattle.post.proofs.Paired.{as-told, side-or}
use Rattle.post.proofs.pattern.west_sign.Goals as goal

pub overflow_add-south : goal.overflow_add-south
overflow_add-south c = omega (arith, c.requires.0.post, c.requires.0.valid.sides)

pub ahead-requires : goal.ahead-requires
ahead-requires c =
    let s = c.requires.0.valid.sides in
    rw c.requires.1 (c.requires.0.valid, λ h. (omega (arith, (bottom-false s c.args.p c.requires.0.post).0 (not-true _ h)), omega arith, sym (far-told s _ _ (omega arith)).second))

pub returns-then-at : goal.returns-then-at
unfolding west_sign
returns-then-at c =
    let k : top c.args.grid.columns c.args.p && left c.args.grid.columns c.args.p ≡ true = rw c.requires.1 at c.if-at.true in
    rw (c.ahead.ensures, c.requires.1, k) (side-or (bottom c.args.grid.rows c.args.grid.columns c.args.p) _ _ (λ i. below-same _ refl (omega arith)))

pub back-requires : goal.back-requires
back-requires c =
    let s = c.requires.0.valid.sides in
    rw c.requires.1 (c.requires.0.valid, λ h. (c.requires.0.post, omega (arith, not_left s c.args.p (not-true _ h)), ap not c.requires.2 ∙ as-told _ _ _ (west-told s c.args.p (not-true _ h)).second (omega arith) (omega arith)))

pub returns : goal.returns
unfolding west_sign
returns c =
    let k = rw c.requires.1 at c.if-at.false in
    rw (c.back.ensures, c.requires.1, k) (side-or (left c.args.grid.columns c.args.p) _ _ (λ i. below-same _ (omega arith) (omega arith)))

-- A side and a corner, each compared where it is there.
use native.Mathlib.Omega.{arith}
use Prim.Native.Nat.{ℕ, ◌+◌, ◌-◌}
use mathlib.Core.Path.{◌≡◌, sym, ◌∙◌}
use mathlib.Core.Bool.{false}
use borrow.Author.Tests.{not-true}
use Rattle.surface.specs.Plot.{Sides}
use Rattle.surface.specs.Edges.{left, right, top}
use Rattle.surface.specs.Flags.{north_pair}
use Rattle.surface.proofs.AnyOrder.Grid.{top-false, north-right, east-left}
use Rattle.surface.proofs.OfPlots.Driven.{far-told, corner-told}
use Rattle.rings.proofs.Around.{both_false, cell-ne}
use Rattle.order.proofs.Level.{below-same}
use Rattle.post.proofs.Paired.{as-told, paired}
use Rattle.post.proofs.pattern.north_pair.Goals as goal

-- the post at NE has one at N before it in the row
not_first : {rows columns : ℕ} → Sides rows columns → (p : ℕ) → top columns p ≡ false → right columns p ≡ false → left columns (p + 1 - columns) ≡ false
not_first {rows} {columns} s p t r =
    let e : p + 1 - columns ≡ p - columns + 1 = omega (arith, (top-false s p).0 t) in
    rw e (east-left s (p - columns) (north-right s p t ∙ r))

pub back-n-requires : goal.back-n-requires
back-n-requires c =
    let s = c.requires.0.valid.sides in
    rw c.requires.1 (c.requires.0.valid, λ h. let t = (top-false s c.args.p).0 (not-true _ h) in (c.requires.0.post, omega arith, sym (far-told s _ _ (omega arith)).first))

pub overflow_sub-grid : goal.overflow_sub-grid
overflow_sub-grid c = omega (arith, c.requires.0.post, c.requires.0.valid.sides)

pub back-ne-requires : goal.back-ne-requires
back-ne-requires c =
    let s = c.requires.0.valid.sides in
    let p = c.args.p in
    let k = c.args.grid.columns in
    rw c.requires.1 (
      c.requires.0.valid,
      λ h.
          let n = cell-ne s p c.requires.0.post h in
          let b = both_false _ _ h in
          (c.requires.0.post, omega (arith, n), as-told _ (p + 1 - k) p (corner-told s (p + 1 - k) p (not_first s p b.0 b.1) (omega (arith, n))).first (omega (arith, n, s.wide)) (omega arith)),
    )

pub overflow_add-p : goal.overflow_add-p
overflow_add-p c = omega (arith, c.requires.0.post, c.requires.0.valid.sides)

pub back-after-requires : goal.back-after-requires
back-after-requires c =
    let s = c.requires.0.valid.sides in
    rw c.requires.1
    (c.requires.0.valid, λ h. let n = cell-ne s c.args.p c.requires.0.post h in (omega (arith, n), omega (arith, n), sym (far-told s _ _ (omega (arith, n))).first))

pub returns : goal.returns
unfolding north_pair
returns c =
    let s = c.requires.0.valid.sides in (
      c.pair.ensures.0
          ∙ rw (c.back-after.ensures, c.back-ne.ensures, c.back-n.ensures, c.requires.1)
          (paired _ (top c.args.grid.columns c.args.p) (right c.args.grid.columns c.args.p) _ _ _ _ _ _ (λ i. below-same _ (omega arith) (omega arith)) (λ i j. below-same _ (omega (arith, s.wide, (top-false s c.args.p).0 i)) (omega arith)) (λ i j. below-same _ (omega (arith, (top-false s c.args.p).0 i)) (omega arith))),
      c.pair.ensures.1,
    )

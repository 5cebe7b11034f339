-- A side and a corner, the corner compared where it is there.
use native.Mathlib.Omega.{arith}
use mathlib.Core.Path.{refl, sym, ◌∙◌}
use Rattle.surface.specs.Edges.{left, top}
use Rattle.surface.specs.Flags.{west_pair}
use Rattle.surface.proofs.General.Bools.{not-not}
use Rattle.surface.proofs.OfPlots.Driven.{far-told, north-told}
use Rattle.rings.proofs.Around.{both_false, cell-nw}
use Rattle.order.proofs.Level.{below-same}
use Rattle.post.proofs.Paired.{as-told, corner-paired}
use Rattle.post.proofs.pattern.west_pair.Goals as goal

pub west_sign-w-requires : goal.west_sign-w-requires
west_sign-w-requires c = c.requires

pub overflow_add-grid : goal.overflow_add-grid
overflow_add-grid c = omega (arith, c.requires.0.post, c.requires.0.valid.sides)

pub back-nw-requires : goal.back-nw-requires
back-nw-requires c =
    let s = c.requires.0.valid.sides in
    rw c.requires.1
    (c.requires.0.valid, λ h. let n = (cell-nw s c.args.p c.requires.0.post h).from in (c.requires.0.post, omega arith, sym (far-told s _ _ (omega arith)).first))

pub back-after-requires : goal.back-after-requires
back-after-requires c =
    let s = c.requires.0.valid.sides in
    rw c.requires.1 (
      c.requires.0.valid,
      λ h.
          let b = both_false _ _ h in
          (c.requires.0.post, omega (arith, (cell-nw s c.args.p c.requires.0.post h).from), c.requires.2 ∙ as-told _ _ _ ((north-told s c.args.p b.0 b.1).second ∙ not-not _) refl refl),
    )

pub returns : goal.returns
unfolding west_pair
returns c =
    let s = c.requires.0.valid.sides in (
      c.pair.ensures.0
          ∙ rw (c.back-after.ensures, c.back-nw.ensures, c.west_sign-w.ensures, c.requires.1)
          (corner-paired _ (left c.args.grid.columns c.args.p) (top c.args.grid.columns c.args.p) _ _ _ _ _ (λ i j. below-same _ (omega arith) (omega arith)) (λ i j. below-same _ (omega arith) (omega arith))),
      c.pair.ensures.1,
    )

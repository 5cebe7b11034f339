-- By height, then as driven.
use mathlib.Core.Path.{◌≡◌, sym, ◌∙◌}
use mathlib.Core.Bool.{false}
use native.Mathlib.Omega.{arith}
use lib.Signed.{lt_z}
use Rattle.surface.specs.Plot.{Plot, plot_of, height}
use Rattle.surface.proofs.AnyOrder.Grid.{not-pit}
use Rattle.surface.proofs.OfPlots.HeightOrder.{height-below}
use Rattle.order.proofs.Level.{below-level, not-below}
use Rattle.order.proofs.is_below_post.Goals as goal
use Rattle.order.proofs.is_below_post.Goals.{Else-is_less, Start}

abbrev asked : Start → Plot
asked s = plot_of s.args.grid s.args.heights.now

pub returns-then-is_less : goal.returns-then-is_less
returns-then-is_less c =
    let sides = c.requires.0.valid.sides in
    sym (height-below (asked c.before.before) c.args.p c.args.q (not-pit sides c.requires.0.post) (not-pit sides c.requires.1.post) (sym c.is_less.ensures ∙ c.if-is_less.true))

-- p's height is not less
not-less : (c : Else-is_less) → lt_z (height (asked c.before.before) c.args.p) (height (asked c.before.before) c.args.q) ≡ false
not-less c = sym c.is_less.ensures ∙ c.if-is_less.false

pub returns-then-is_less-2 : goal.returns-then-is_less-2
returns-then-is_less-2 c =
    sym (not-below c.requires.0.valid c.requires.0.post c.requires.1.post (not-less c.before.before) (sym c.is_less-2.ensures ∙ c.if-is_less-2.true))

pub returns : goal.returns
returns c =
    c.is_driven_before.ensures ∙ sym (below-level c.requires.0.valid c.requires.0.post c.requires.1.post (not-less c.before.before.before) (sym c.is_less-2.ensures ∙ c.if-is_less-2.false))

pub is_less-requires : goal.is_less-requires
is_less-requires c = omega (arith, c.requires.0.post, c.requires.1.post, c.requires.0.valid.size)

pub is_less-requires-2 : goal.is_less-requires-2
is_less-requires-2 c = omega (arith, c.requires.0.post, c.requires.1.post, c.requires.0.valid.size)

pub is_driven_before-requires : goal.is_driven_before-requires
is_driven_before-requires c = c.requires.0.valid.sides

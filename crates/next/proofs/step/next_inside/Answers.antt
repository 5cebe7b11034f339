-- The steepest key tells the post, by spacings that make the same descent.
use native.Mathlib.Omega.{arith}
use mathlib.Core.Path.{◌≡◌, refl, sym, ◌∙◌}
use mathlib.Core.Bool.{Bool, true, false}
use Rattle.surface.specs.Plot.{Plot, plot_of}
use Rattle.surface.specs.Spacings.{Spaced}
use Rattle.surface.specs.Lines.{next, toward}
use Rattle.surface.specs.declared.Spacings.{Spacings}
use Rattle.surface.proofs.OfPlots.Steepest.{unit-spaced, toward-even}
use Rattle.steepest.specs.Slopes.{reduced}
use Rattle.keys.proofs.KeyNumbers.{bits_of}
use Rattle.next.proofs.Keyed.{Tells, inside-told}
use Rattle.next.proofs.step.next_inside.Goals as goal
use Rattle.next.proofs.step.next_inside.Goals.{After-steepest_inside-best}

module _ (s : Spacings) (h : Spaced s) where
  spaced : (even : Bool) → Spaced (reduced even s)
  spaced true = unit-spaced
  spaced false = h

  same : (pl : Plot) (even upward : Bool) → (even ≡ true → s.east ≡ s.south) → toward pl (reduced even s) upward ≡ toward pl s upward
  same pl true upward e = sym (toward-even pl s h.east_some (e refl) upward)
  same pl false upward e = refl

told : (c : After-steepest_inside-best)
    → let a = c.args in
    let pl = plot_of a.grid a.heights.now in
    Tells pl a.p c.steepest_inside-best.result (next (toward pl a.spacings a.up) a.p)
told c =
    let a = c.args in
    let pl = plot_of a.grid a.heights.now in
    rw (← same a.spacings c.requires.3 pl a.even a.up c.requires.5)
    (inside-told c.requires.0 (reduced a.even a.spacings) (spaced a.spacings c.requires.3 a.even) a.up c.requires.1 _ (rw c.requires.4 at c.steepest_inside-best.ensures))

pub post_of-requires : goal.post_of-requires
post_of-requires c =
    let a = c.requires.0 in
    let t = told c in
    rw (bits_of c.steepest_inside-best.result c.steepest_inside-best.type_inv) (a.valid.sides.narrow, omega (arith, a.post, a.valid.sides), t.low, t.placed)

pub returns : goal.returns
returns c = (rw (bits_of c.steepest_inside-best.result c.steepest_inside-best.type_inv) at c.post_of.ensures) ∙ (told (goal.at.returns c).After-steepest_inside-best).post

pub steepest_inside-best-requires : goal.steepest_inside-best-requires
steepest_inside-best-requires c = (c.requires.0, c.requires.1, c.requires.2, c.requires.3)

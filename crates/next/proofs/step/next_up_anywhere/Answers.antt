-- The steepest key upward tells the post.
use native.Mathlib.Omega.{arith}
use mathlib.Core.Path.{◌∙◌}
use mathlib.Core.Bool.{true, true≢false}
use Rattle.surface.specs.Plot.{plot_of}
use Rattle.surface.specs.Lines.{next, up}
use Rattle.keys.proofs.KeyNumbers.{bits_of}
use Rattle.next.proofs.Keyed.{Tells, next-told}
use Rattle.next.proofs.step.next_up_anywhere.Goals as goal
use Rattle.next.proofs.step.next_up_anywhere.Goals.{After-steepest_up-best}

told : (c : After-steepest_up-best)
    → let a = c.args in
    let pl = plot_of a.grid a.heights.now in
    Tells pl a.p c.steepest_up-best.result (next (up pl a.spacings) a.p)
told c =
    next-told c.requires.0 c.args.spacings c.requires.1 true (λ e. absurd (true≢false e)) _ (rw c.borders_of-at.ensures at c.steepest_up-best.ensures)

pub post_of-requires : goal.post_of-requires
post_of-requires c =
    let a = c.requires.0 in
    let t = told c in
    rw (bits_of c.steepest_up-best.result c.steepest_up-best.type_inv) (a.valid.sides.narrow, omega (arith, a.post, a.valid.sides), t.low, t.placed)

pub returns : goal.returns
returns c = (rw (bits_of c.steepest_up-best.result c.steepest_up-best.type_inv) at c.post_of.ensures) ∙ (told (goal.at.returns c).After-steepest_up-best).post

pub is_odd_row-requires : goal.is_odd_row-requires
is_odd_row-requires c = omega (arith, c.requires.0.valid.sides)

pub steepest_up-best-requires : goal.steepest_up-best-requires
steepest_up-best-requires c = (c.requires.0, c.borders_of-at.ensures, c.is_odd_row.ensures, c.requires.1)

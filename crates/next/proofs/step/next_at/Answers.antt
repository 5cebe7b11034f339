-- On a border next down is the virtual pit.
use native.Mathlib.Omega.{arith}
use mathlib.Core.Path.{◌≡◌, refl, sym, ◌∙◌}
use mathlib.Core.Bool.{false, true≢false}
use Rattle.surface.specs.Plot.{plot_of, virtual_pit}
use Rattle.surface.specs.Edges.{is_border}
use Rattle.surface.proofs.OfPlots.Instance.{border-drains}
use Rattle.next.proofs.step.next_at.Goals as goal
use Rattle.next.proofs.step.next_at.Goals.{Then-not-is_border}

inside : (c : Then-not-is_border) → let a = c.args in is_border a.grid.rows a.grid.columns a.p ≡ false
inside c = sym c.is_border.ensures ∙ c.if-not-is_border.true

pub next_inside-requires : goal.next_inside-requires
next_inside-requires c =
    (c.requires.0, inside (goal.at.next_inside-requires c).Then-not-is_border, sym c.if-is_odd_row.true ∙ c.is_odd_row.ensures, c.requires.1, refl, λ e. absurd (true≢false (sym e)))

pub next_inside-requires-then-not-is_border : goal.next_inside-requires-then-not-is_border
next_inside-requires-then-not-is_border c =
    (c.requires.0, inside (goal.at.next_inside-requires-then-not-is_border c).Then-not-is_border, sym c.if-is_odd_row.false ∙ c.is_odd_row.ensures, c.requires.1, refl, λ e. absurd (true≢false (sym e)))

pub returns-then-up : goal.returns-then-up
returns-then-up c = rw c.if-up.true c.next_up_anywhere.ensures

pub returns : goal.returns
unfolding virtual_pit
returns c =
    let pl = plot_of c.args.grid c.args.heights.now in
    rw c.if-up.false
    (sym (border-drains pl c.requires.0.valid.sides c.args.spacings c.args.p c.requires.0.post (sym c.is_border.ensures ∙ c.if-not-is_border.false)))

pub is_odd_row-requires : goal.is_odd_row-requires
is_odd_row-requires c = omega (arith, c.requires.0.valid.sides)

pub next_up_anywhere-requires : goal.next_up_anywhere-requires
next_up_anywhere-requires c = c.requires

use native.Mathlib.Omega.{arith}
use mathlib.Core.Path.{◌≡◌, sym, ◌∙◌, ap}
use Rattle.surface.specs.Plot.{plot_of}
use Rattle.surface.specs.Lines.{next, toward}
use Rattle.lines.specs.declared.walk.Walk.{Walk}
use Rattle.lines.proofs.Walking.{sinks, along-none, along-low, along-more, along-end}
use Rattle.lines.proofs.walk.entries_of.Goals as goal
use Rattle.lines.proofs.walk.entries_of.Goals.{Else-ahead-here}

-- the step went to another post
moved : (c : Else-ahead-here)
    → let a = c.args in
    next (toward (plot_of a.grid a.heights.now) a.spacings c.loop-grid.at.up) c.loop-grid.at.post ≡ c.loop-grid.at.post → ⊥
moved c e = c.if-ahead-here.false (ap (λ (w : Walk). w.post) c.onward-ahead.ensures ∙ e)

pub loop-grid-init : goal.loop-grid-init
loop-grid-init c = along-none c.requires

pub onward-ahead-requires : goal.onward-ahead-requires
onward-ahead-requires c = c.loop-grid.invariant.stands

pub overflow_add-entries : goal.overflow_add-entries
overflow_add-entries c =
    omega (arith, along-low c.loop-grid.invariant c.requires)

pub loop-grid-smaller : goal.loop-grid-smaller
loop-grid-smaller c = rw c.onward-ahead.ensures (sinks c.loop-grid.invariant.stands (moved c))

pub loop-grid-preserved : goal.loop-grid-preserved
loop-grid-preserved c = rw c.onward-ahead.ensures (along-more c.loop-grid.invariant (moved c))

pub returns : goal.returns
returns c = along-end c.loop-grid.invariant (sym (ap (λ (w : Walk). w.post) c.onward-ahead.ensures) ∙ c.if-ahead-here.true)

use native.Mathlib.Omega.{arith}
use mathlib.Core.Path.{◌≡◌, refl, sym, ◌∙◌, ap}
use Prim.Native.Nat.{◌+◌, ◌≤◌, ◌<◌}
use native.Mathlib.Numerals.{add-one}
use lib.ListN.{length, set, length-set}
use Rattle.surface.specs.Plot.{plot_of, max_posts}
use Rattle.surface.specs.Lines.{next, toward}
use Rattle.surface.proofs.AnyOrder.Grid.{vertex-low}
use Rattle.lines.specs.declared.walk.Walk.{Walk}
use Rattle.lines.specs.Walks.{path}
use Rattle.lines.proofs.Walking.{sets-length, path-more, path-end, sinks, along-none, along-low, along-more, along-end}
use Rattle.lines.proofs.line.write_entries.Goals as goal
use Rattle.lines.proofs.line.write_entries.Goals.{At-loop-grid, Else-ahead-here}

-- the step went to another post
moved : (c : Else-ahead-here)
    → let a = c.args in
    next (toward (plot_of a.grid a.heights.now) a.spacings c.loop-grid.at.up) c.loop-grid.at.post ≡ c.loop-grid.at.post → ⊥
moved c e = c.if-ahead-here.false (ap (λ (w : Walk). w.post) c.onward-ahead.ensures ∙ e)

-- the list keeps its length, and has an entry for the next post, which fits it
kept : (l : At-loop-grid) → length l.loop-grid.line ≡ length l.args.line.now
kept l =
    let a = l.args in
    let pl = plot_of a.grid a.heights.now in
    sets-length l.loop-grid.line (set a.line.now 0 a.p) l.loop-grid.i 1 (path pl a.spacings l.loop-grid.at) (path pl a.spacings a.from) l.loop-grid.invariant.1
    ∙ length-set a.line.now 0 a.p

room : (l : At-loop-grid) → (l.loop-grid.i < length l.loop-grid.line) × (l.loop-grid.i ≤ max_posts + 1)
room l = omega (arith, kept l, l.requires.room, along-low l.loop-grid.invariant.0 l.requires.walk)

fits : (l : At-loop-grid) → l.loop-grid.at.post < 65536
fits l = let w = l.loop-grid.invariant.0.stands in vertex-low w.valid.sides w.vertex

pub overflow_cast-line : goal.overflow_cast-line
overflow_cast-line c = omega (arith, c.requires.post, c.requires.walk.valid.sides)

pub bounds-line-0 : goal.bounds-line-0
bounds-line-0 c = omega (arith, c.requires.room)

pub loop-grid-init : goal.loop-grid-init
loop-grid-init c = (along-none c.requires.walk, refl)

pub onward-ahead-requires : goal.onward-ahead-requires
onward-ahead-requires c = c.loop-grid.invariant.0.stands

pub overflow_cast-line-in-loop-grid : goal.overflow_cast-line-in-loop-grid
overflow_cast-line-in-loop-grid c = omega (arith, fits (goal.at.overflow_cast-line-in-loop-grid c).At-loop-grid)

pub bounds-line-i : goal.bounds-line-i
bounds-line-i c = omega (arith, room (goal.at.bounds-line-i c).At-loop-grid)

pub overflow_add-i : goal.overflow_add-i
overflow_add-i c = omega (arith, room (goal.at.overflow_add-i c).At-loop-grid)

pub loop-grid-smaller : goal.loop-grid-smaller
loop-grid-smaller c = rw c.onward-ahead.ensures (sinks c.loop-grid.invariant.0.stands (moved c))

pub loop-grid-preserved : goal.loop-grid-preserved
loop-grid-preserved c =
    let v = c.loop-grid.invariant in
    rw c.onward-ahead.ensures (along-more v.0 (moved c), rw add-one (rw (path-more v.0.stands (moved c)) at v.1))

pub overflow_cast-line-2 : goal.overflow_cast-line-2
overflow_cast-line-2 c = omega (arith, fits (goal.at.overflow_cast-line-2 c).At-loop-grid)

pub bounds-line-i-2 : goal.bounds-line-i-2
bounds-line-i-2 c = omega (arith, room (goal.at.bounds-line-i-2 c).At-loop-grid)

pub overflow_add-result : goal.overflow_add-result
overflow_add-result c = omega (arith, room (goal.at.overflow_add-result c).At-loop-grid)

pub returns : goal.returns
returns c =
    let v = c.loop-grid.invariant in
    let e = sym (ap (λ (w : Walk). w.post) c.onward-ahead.ensures) ∙ c.if-ahead-here.true in
    record { value = omega (arith, along-end v.0 e); line_after = rw (path-end v.0.stands e) at v.1 }

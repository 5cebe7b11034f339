use Prim.Native.Nat.{◌+◌, ◌-◌, ◌*◌, ◌≤◌, ◌<◌, min}
use native.Mathlib.Omega.{arith}
use native.Mathlib.Nat.{mul-le-mul_right, add-mul, one-mul}
use mathlib.Core.Path.{◌≡◌, ◌∙◌}
use Rattle.surface.specs.Plot as Plot
use Rattle.surface.specs.Plot.{plot_of}
use Rattle.surface.specs.Marks.{mark_at}
use Rattle.surface.proofs.AnyOrder.Grid.{column-lt, row_lt}
use Rattle.survey.proofs.Painted.{painted-none, painted-more, painted-redrawn}
use Rattle.survey.proofs.redraw.redraw.Goals as goal
use Rattle.survey.proofs.redraw.redraw.Goals.{In-loop-r, Start}

-- where the post stands
in_column : (s : Start) → Plot.column s.args.grid.columns s.args.post < s.args.grid.columns
in_column s = column-lt s.requires.0.valid.sides s.args.post

in_row : (s : Start) → Plot.row s.args.grid.columns s.args.post < s.args.grid.rows
in_row s = (row_lt s.requires.0.valid.sides s.args.grid.rows s.args.post).1 s.requires.0.post

-- a row of the block is a row of the plot
whole : (c : In-loop-r)
    → let g = c.args.grid in
    (c.loop-r.r * g.columns + g.columns ≤ g.rows * g.columns) × (g.rows * g.columns ≤ 14400)
whole c =
    let g = c.args.grid in
    let r = c.loop-r.r in
    let e : r + 1 ≤ g.rows = omega arith in
    (omega (arith, mul-le-mul_right g.columns e, add-mul r 1 g.columns, one-mul g.columns), c.requires.0.valid.sides.few)

pub overflow_sub-width : goal.overflow_sub-width
overflow_sub-width c = omega (arith, in_column (goal.at.overflow_sub-width c).Start)

pub loop-r-init : goal.loop-r-init
loop-r-init c = painted-none c.requires.0.valid.sides _ _ _ _ _

pub overflow_mul-r : goal.overflow_mul-r
overflow_mul-r c = omega (arith, whole (goal.at.overflow_mul-r c).In-loop-r)

pub overflow_add-r : goal.overflow_add-r
overflow_add-r c = omega (arith, whole (goal.at.overflow_add-r c).In-loop-r, in_column (goal.at.overflow_add-r c).Start)

pub mark_each-requires : goal.mark_each-requires
mark_each-requires c =
    (c.requires.0.valid, c.change_table-table.ensures, c.loop-r.invariant.long ∙ c.requires.1, omega (arith, whole (goal.at.mark_each-requires c).In-loop-r, in_column (goal.at.mark_each-requires c).Start))

pub loop-r-preserved : goal.loop-r-preserved
loop-r-preserved c =
    let b = c.saturating_sub-from in
    let w = c.min.result - b.result in
    let e : b.result + w - b.result ≡ w = omega arith in
    rw c.mark_each.ensures
    (rw e at
    (painted-more c.requires.0.valid.sides (mark_at (plot_of c.args.grid c.args.heights.now)) b.result (b.result + w) c.saturating_sub-first.result c.loop-r.r c.args.marks.now c.loop-r.marks
    (omega arith)
    (omega (arith, in_column (goal.at.loop-r-preserved c).Start))
    (omega arith)
    (omega (arith, whole (goal.at.loop-r-preserved c).In-loop-r, c.requires.1))
    c.loop-r.invariant))

pub returns : goal.returns
returns c =
    let f = c.saturating_sub-from in
    let g = c.args.grid in
    let u : f.result + (c.min.result - f.result) ≡ min (Plot.column g.columns c.args.post + 2) g.columns = omega (arith, in_column (goal.at.returns c).Start) in
    let v : c.loop-r.r ≡ min (Plot.row g.columns c.args.post + 2) g.rows = omega (arith, in_row (goal.at.returns c).Start) in
    painted-redrawn _ c.requires.0.valid.sides c.args.post c.args.marks.now c.loop-r.marks c.requires.1
    (rw (u, v, f.ensures, c.saturating_sub-first.ensures) at c.loop-r.invariant)

-- The counts of the rows round the post, before and after, tell those of the plot.
use native.Mathlib.Omega.{arith}
use Prim.Native.Nat.{◌*◌, ◌≤◌}
use mathlib.Core.Path.{◌≡◌, sym, ◌∙◌, ap}
use lib.ListN.{length}
use Rattle.surface.specs.Plot.{plot_of, reshot}
use Rattle.surface.specs.Marks.{marks_of}
use Rattle.surface.proofs.General.ListOf.{length-list_of, part_length}
use mir.Syntax.{w32}
use mir.Val.{to_z, of_z}
use borrow.Author.Rules.{rules}
use Rattle.bands.proofs.Bands.{band-size, band-valid}
use Rattle.bands.proofs.Recounted.{Banded, band-rows, recounted, Tallied, tallied}
use Rattle.bands.proofs.recount.Goals as goal
use Rattle.bands.proofs.recount.Goals.{After-count_redrawn-both, After-min-end, Start}

-- the new height, as the code holds it
held : (s : Start) → to_z w32 (of_z w32 s.args.height) ≡ s.args.height
held s = search rules

-- where the rows round the post stand
stands : (c : After-min-end) → let a = c.args in Banded a.grid.rows a.grid.columns a.post c.first_row-first.result c.min-end.result
stands c = band-rows _ _ c.requires.0 c.first_row-first.ensures c.min-end.ensures

-- and how many posts there are
sized : (s : Start) → let a = s.args in (length a.heights.now ≡ a.grid.rows * a.grid.columns) × (length a.patterns.now ≡ a.grid.rows * a.grid.columns) × (a.grid.rows * a.grid.columns ≤ 14400)
sized s = (s.requires.0.valid.size, ap length s.requires.2 ∙ length-list_of _ _, s.requires.0.valid.sides.few)

pub overflow_mul-from : goal.overflow_mul-from
overflow_mul-from c = omega (arith, stands c, sized (goal.at.overflow_mul-from c).Start)

pub overflow_mul-to : goal.overflow_mul-to
overflow_mul-to c = omega (arith, stands c, sized (goal.at.overflow_mul-to c).Start)

pub count_redrawn-both-requires : goal.count_redrawn-both-requires
count_redrawn-both-requires c =
    let start = (goal.at.count_redrawn-both-requires c).Start in
    let r = stands (goal.at.count_redrawn-both-requires c).After-min-end in
    let v = c.requires.0.valid in
    let from = c.first_row-first.result * c.args.grid.columns in
    let to = c.min-end.result * c.args.grid.columns in
    let b = band-size _ v _ _ r.cut in
    let z = sized start in
    rw (held start) (
      record { valid = band-valid _ v _ _ r.cut; post = omega (arith, r, b) },
      c.requires.1,
      part_length from to c.args.patterns.now (omega (arith, r, z)) ∙ sym b,
      omega (arith, r, part_length from to c.args.heights.now (omega (arith, r, z))),
    )

-- what the counts of these rows tell
told : (c : After-count_redrawn-both) → let a = c.args in
    Tallied a.t c.count_redrawn-both.result.before c.count_redrawn-both.result.after (marks_of (reshot (plot_of a.grid a.heights.now) a.post a.height))
told c =
    let k = c.count_redrawn-both.ensures in
    tallied _ _ _ (recounted (plot_of c.args.grid c.args.heights.now) c.args.post c.requires.0 c.args.height c.requires.1 _ _ (stands (goal.at.After-count_redrawn-both c).After-min-end) _ c.requires.2) c.requires.3 k.counted (rw (held (goal.at.After-count_redrawn-both c).Start) at k.counted_2)

pub returns : goal.returns
returns c =
    let t = told (goal.at.returns c).After-count_redrawn-both in
    record { peaks_are = omega (arith, t.of_peaks); pits_are = omega (arith, t.of_pits); saddles_are = omega (arith, t.of_saddles) }

pub offset_bounds-heights-from : goal.offset_bounds-heights-from
offset_bounds-heights-from c = omega (arith, stands c)

pub slice_bounds-count_redrawn-count : goal.slice_bounds-count_redrawn-count
slice_bounds-count_redrawn-count c = omega (arith, stands c, sized (goal.at.slice_bounds-count_redrawn-count c).Start)

pub slice_bounds-count_redrawn-start : goal.slice_bounds-count_redrawn-start
slice_bounds-count_redrawn-start c = omega (arith, stands c)

pub slice_bounds-count_redrawn-start-2 : goal.slice_bounds-count_redrawn-start-2
slice_bounds-count_redrawn-start-2 c = omega (arith, stands (goal.at.slice_bounds-count_redrawn-start-2 c).After-min-end)

pub slice_bounds-count_redrawn-end-2 : goal.slice_bounds-count_redrawn-end-2
slice_bounds-count_redrawn-end-2 c =
    omega (arith, stands (goal.at.slice_bounds-count_redrawn-end-2 c).After-min-end, sized (goal.at.slice_bounds-count_redrawn-end-2 c).Start)

pub moved-requires : goal.moved-requires
moved-requires c = omega (arith, told (goal.at.moved-requires c).After-count_redrawn-both)

pub moved-requires-2 : goal.moved-requires-2
moved-requires-2 c = omega (arith, told (goal.at.moved-requires-2 c).After-count_redrawn-both)

pub moved-requires-3 : goal.moved-requires-3
moved-requires-3 c = omega (arith, told (goal.at.moved-requires-3 c).After-count_redrawn-both)

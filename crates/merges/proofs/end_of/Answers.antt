-- The path is shortened to one step, to its end.
use native.Mathlib.Omega.{arith}
use mathlib.Core.Path.{◌≡◌, sym, ◌∙◌}
use lib.ListN.{get_or}
use Rattle.surface.specs.Plot.{plot_of}
use Rattle.paths.specs.Paths.{path_end}
use Rattle.paths.proofs.Shorter.{entry}
use Rattle.merges.specs.Merges.{SameEnds, End}
use Rattle.merges.proofs.Forest.{rising-ends, end-inside, shorter-same}
use Rattle.merges.proofs.end_of.Goals as goal
use Rattle.merges.proofs.end_of.Goals.{After-settle, After-slice_known-3-1}

pub settle-requires : goal.settle-requires
settle-requires c = (rising-ends c.requires.0, omega (arith, c.requires.0.size, c.requires.1))

-- the list that is left has the same ends, and p's entry is its own
same : (c : After-settle) → SameEnds (plot_of c.args.grid c.args.heights.now) c.args.list.now c.settle.new.list
same c = shorter-same c.requires.0 c.settle.ensures.0

ended : (c : After-slice_known-3-1) → get_or c.settle.new.list c.args.p 0 ≡ path_end c.args.list.now c.args.p
ended c =
    let s = c.settle in
    entry s.new.list c.args.p 0 c.args.p (omega (arith, c.requires.1, (same (goal.at.After-slice_known-3-1 c).After-settle).rising.size)) ∙ s.ensures.1

last_end : (c : After-slice_known-3-1) → let l = c.settle.new.list in
    End (plot_of c.args.grid c.args.heights.now) l (get_or l c.args.p 0)
last_end c =
    let after = (goal.at.After-slice_known-3-1 c).After-settle in
    let p = c.args.p in
    rw (ended c ∙ sym ((same after).ends p)) (end-inside (same after).rising p c.requires.1)

pub returns : goal.returns
returns c = (ended c, last_end c, same (goal.at.returns c).After-settle)

pub offset_bounds-list-p : goal.offset_bounds-list-p
offset_bounds-list-p c = omega (arith, (same (goal.at.offset_bounds-list-p c).After-settle).rising.size)

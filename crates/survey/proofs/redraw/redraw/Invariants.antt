-- The loop's invariant: the block is redrawn down to row r.
use Prim.Native.Nat.{◌+◌}
use Rattle.surface.specs.Plot.{plot_of}
use Rattle.surface.specs.Marks.{mark_at}
use Rattle.survey.proofs.Painted.{Painted}
use Rattle.survey.proofs.redraw.redraw.Given as goal

abbrev pub invariant-loop-r : goal.invariant-loop-r
invariant-loop-r l = Painted l.grid.columns (mark_at (plot_of l.grid l.heights)) l.from (l.from + l.width) l.initial.r l.r l.initial.marks l.marks

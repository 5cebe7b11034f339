-- The loop's invariant: with the entries to come, the list is the one that is to be written.
-- The measure is the rank in the height order, which falls at every step.
use mathlib.Core.Path.{◌≡◌}
use lib.Seq.{sets}
use Rattle.surface.specs.Plot.{plot_of, posts}
use Rattle.surface.specs.Lines.{toward}
use Rattle.surface.proofs.AnyOrder.Order.{rank}
use Rattle.lines.specs.Walks.{path}
use Rattle.lines.proofs.Walking.{Along}
use Rattle.lines.proofs.line.write_entries.Given as goal

abbrev pub invariant-loop-grid : goal.invariant-loop-grid
invariant-loop-grid l =
    Along (plot_of l.grid l.heights) l.spacings l.initial.at l.at l.i × (sets l.line l.i (path (plot_of l.grid l.heights) l.spacings l.at) ≡ sets l.initial.line 1 (path (plot_of l.grid l.heights) l.spacings l.initial.at))

abbrev pub decreases-loop-grid : goal.decreases-loop-grid
decreases-loop-grid l = rank (toward (plot_of l.grid l.heights) l.spacings l.at.up).lower (posts (plot_of l.grid l.heights)) l.at.post

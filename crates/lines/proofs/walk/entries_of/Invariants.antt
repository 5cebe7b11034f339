-- The loop's invariant: what was counted and what is to come make the walk's entries.
-- The measure is the rank in the height order, which falls at every step.
use Rattle.surface.specs.Plot.{plot_of, posts}
use Rattle.surface.specs.Lines.{toward}
use Rattle.surface.proofs.AnyOrder.Order.{rank}
use Rattle.lines.proofs.Walking.{Along}
use Rattle.lines.proofs.walk.entries_of.Given as goal

abbrev pub invariant-loop-grid : goal.invariant-loop-grid
invariant-loop-grid l = Along (plot_of l.grid l.heights) l.spacings l.initial.at l.at l.entries

abbrev pub decreases-loop-grid : goal.decreases-loop-grid
decreases-loop-grid l = rank (toward (plot_of l.grid l.heights) l.spacings l.at.up).lower (posts (plot_of l.grid l.heights)) l.at.post

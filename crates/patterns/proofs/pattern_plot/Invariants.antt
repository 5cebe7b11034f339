-- The loop's invariant: the patterns of the rows above row r are stored, and the upper halves of its own are known.
use Rattle.surface.specs.Plot.{plot_of}
use Rattle.patterns.proofs.Steps.{State}
use Rattle.patterns.proofs.pattern_plot.Given as goal

abbrev pub invariant-loop-r : goal.invariant-loop-r
invariant-loop-r l = State (plot_of l.grid l.heights) l.initial.patterns l.patterns l.side l.south l.fall l.rise l.under l.upper l.pattern l.width l.r

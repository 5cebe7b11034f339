-- The loop's invariant: all but i saddles were taken.
use Rattle.surface.specs.Plot.{plot_of, Valid}
use Rattle.sweep.proofs.Sweeping.{Swept}
use Rattle.sweep.proofs.sweep.Given as goal

abbrev pub invariant-loop-i : goal.invariant-loop-i
invariant-loop-i l = (v : Valid (plot_of l.grid l.heights)) → Swept (plot_of l.grid l.heights) v l.sorted l.i l.leads l.splits

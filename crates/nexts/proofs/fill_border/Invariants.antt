-- The loop's invariant: the first i posts are filled.
use Rattle.surface.specs.Plot.{plot_of}
use Rattle.nexts.specs.Filled.{NextsFilled}
use Rattle.nexts.proofs.fill_border.Given as goal

abbrev pub invariant-loop-i : goal.invariant-loop-i
invariant-loop-i l = NextsFilled (plot_of l.grid l.heights) l.spacings l.both l.from l.i l.initial.downs l.initial.ups l.downs l.ups

-- The loop's invariant: i stores were made.
use mathlib.Core.Path.{◌≡◌}
use Rattle.surface.specs.Lists.{stores}
use Rattle.surface.specs.Plot.{plot_of}
use Rattle.surface.specs.Marks.{mark_at}
use Rattle.survey.proofs.redraw.mark_each.Given as goal

abbrev pub invariant-loop-i : goal.invariant-loop-i
invariant-loop-i l = l.marks ≡ stores (mark_at (plot_of l.grid l.heights)) l.from l.i l.initial.marks

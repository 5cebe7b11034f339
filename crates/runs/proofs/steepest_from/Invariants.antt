-- The loop's invariant: the first of what was found so far and of the run's members from place j on is the run's steepest.
use mathlib.Core.Path.{◌≡◌}
use Rattle.surface.specs.Plot.{plot_of, posts, Vertex, below, directed}
use Rattle.surface.specs.Edges.{lowest_or}
use Rattle.surface.specs.Lines.{toward}
use Rattle.rings.specs.Rings.{held}
use Rattle.runs.specs.Slopes.{ahead}
use Rattle.runs.specs.Runs.{run_from, pick_from}
use Rattle.runs.proofs.steepest_from.Given as goal

abbrev pub invariant-loop-j : goal.invariant-loop-j
invariant-loop-j l =
    let lower = directed l.up (below (plot_of l.grid l.heights)) in
    (lowest_or (ahead (plot_of l.grid l.heights) l.spacings lower l.p) l.best (run_from (λ q. lower q l.p) (held l.ring) l.j)
    ≡ pick_from (toward (plot_of l.grid l.heights) l.spacings l.up) l.p (held l.ring) l.i)
    × Vertex (posts (plot_of l.grid l.heights)) l.best

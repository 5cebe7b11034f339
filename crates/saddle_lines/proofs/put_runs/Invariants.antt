-- The loop's invariant: the lines of the runs before number `run` are written. There are at most eight.
use Prim.Native.Nat.{◌-◌, ◌*◌, ◌≤◌}
use lib.ListN.{length}
use Rattle.surface.specs.Plot.{plot_of}
use Rattle.surface.specs.Lines.{runs_of, toward}
use Rattle.text.specs.Wrote.{line_room, Wrote}
use Rattle.saddle_lines.specs.Lines.{run_lines}
use Rattle.saddle_lines.proofs.put_runs.Given as goal

abbrev pub invariant-loop-post : goal.invariant-loop-post
invariant-loop-post l =
    let d = toward (plot_of l.grid l.heights) l.spacings l.up in
    (l.run ≤ length (runs_of d l.p)) × Wrote (line_room * l.run) l.initial.out l.out l.at (run_lines (plot_of l.grid l.heights) l.letter d l.p l.run) l.next

abbrev pub decreases-loop-post : goal.decreases-loop-post
decreases-loop-post l = 8 - l.run

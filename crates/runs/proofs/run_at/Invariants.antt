-- The loop's invariant: run number `run` of the ring is the one to be found from place i on after `left` others.
use Rattle.surface.specs.Plot.{plot_of, below, directed}
use Rattle.rings.specs.Rings.{held}
use Rattle.runs.proofs.Running.{Seek}
use Rattle.runs.proofs.run_at.Given as goal

abbrev pub invariant-loop-i : goal.invariant-loop-i
invariant-loop-i l = Seek (λ q. directed l.up (below (plot_of l.grid l.heights)) q l.p) (held l.ring) l.run l.i l.before l.left

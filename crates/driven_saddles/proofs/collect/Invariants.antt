-- The loop's invariant: the saddles of the first r rows were collected.
use Prim.Native.Nat.{◌*◌}
use Rattle.driven_saddles.specs.Collected.{saddle_in, Collected}
use Rattle.driven_saddles.proofs.collect.Given as goal

abbrev pub invariant-loop-r : goal.invariant-loop-r
invariant-loop-r l = Collected l.grid.columns (saddle_in l.patterns) (l.r * l.grid.columns) l.list l.m

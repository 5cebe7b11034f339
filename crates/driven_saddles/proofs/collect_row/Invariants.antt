-- The loop's invariant: the saddles were picked of the posts that are less than so far along the drive.
use Prim.Native.Nat.{◌+◌, ◌≤◌, ◌<◌}
use Rattle.surface.proofs.OfPlots.Driven.{along_drive}
use Rattle.driven_saddles.specs.Collected.{saddle_in, Picked}
use Rattle.driven_saddles.proofs.collect_row.Given as goal

abbrev pub invariant-loop-turn : goal.invariant-loop-turn
invariant-loop-turn l = (l.m ≤ l.first + l.turn) × Picked l.columns (saddle_in l.patterns) (λ p. along_drive l.columns p < l.first + l.turn) l.list l.m

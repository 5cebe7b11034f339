-- The top row; then the loop's invariant, the rows before row r are filled; then the bottom row.
use Prim.Native.Nat.{◌-◌, ◌*◌}
use Rattle.surface.specs.Plot.{plot_of}
use Rattle.nexts.specs.Filled.{NextsFilled}
use Rattle.nexts.proofs.fill_nexts.Given as goal

-- from the lists with the top row
abbrev pub invariant-loop-r : goal.invariant-loop-r
invariant-loop-r l =
    NextsFilled (plot_of l.grid l.heights) l.spacings l.both l.grid.columns (l.r * l.grid.columns - l.grid.columns) l.initial.downs l.initial.ups l.downs l.ups

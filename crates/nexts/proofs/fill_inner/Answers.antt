-- Four calls, each with the rule that the grid has.
use mathlib.Core.Path.{sym}
use mathlib.Core.Bool.{true≢false}
use Rattle.nexts.proofs.fill_inner.Goals as goal

pub fill_inside-requires : goal.fill_inside-requires
fill_inside-requires c =
    record { for_nexts = c.requires.for_nexts; highest_value = (sym c.if-grid.true, λ _. c.if-even.true); by_index = c.requires.by_index }

pub fill_inside-requires-then-grid : goal.fill_inside-requires-then-grid
fill_inside-requires-then-grid c =
    record { for_nexts = c.requires.for_nexts; highest_value = (sym c.if-grid.true, λ h. absurd (true≢false (sym h))); by_index = c.requires.by_index }

pub fill_inside-requires-then-even-2 : goal.fill_inside-requires-then-even-2
fill_inside-requires-then-even-2 c =
    record { for_nexts = c.requires.for_nexts; highest_value = (sym c.if-grid.false, λ _. c.if-even-2.true); by_index = c.requires.by_index }

pub fill_inside-requires-2 : goal.fill_inside-requires-2
fill_inside-requires-2 c =
    record { for_nexts = c.requires.for_nexts; highest_value = (sym c.if-grid.false, λ h. absurd (true≢false (sym h))); by_index = c.requires.by_index }

-- Two cases, by the rule.
use mathlib.Core.Path.{◌∙◌}
use Rattle.keys.proofs.KeyNumbers.{bits_of}
use Rattle.steepest.proofs.steepest_up.Goals as goal

pub returns-then-grid : goal.returns-then-grid
returns-then-grid c =
    rw c.if-grid.true (bits_of c.steepest_in.result c.steepest_in.type_inv ∙ rw c.block_at-b.ensures at c.steepest_in.ensures)

pub returns : goal.returns
returns c =
    rw c.if-grid.false
    (bits_of c.steepest_in-2.result c.steepest_in-2.type_inv ∙ rw (c.keep_corners.ensures, c.block_at-b.ensures) at c.steepest_in-2.ensures)

pub block_at-b-requires : goal.block_at-b-requires
block_at-b-requires c = (c.requires.0, c.requires.1, c.requires.2)

pub steepest_in-requires : goal.steepest_in-requires
steepest_in-requires c = c.requires.3

pub steepest_in-requires-2 : goal.steepest_in-requires-2
steepest_in-requires-2 c = c.requires.3

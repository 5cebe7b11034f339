-- By the test.
use mathlib.Core.Path.{◌∙◌}
use Rattle.surface.proofs.OfPlots.Steepest.{unit-spaced}
use Rattle.keys.proofs.KeyNumbers.{bits_of}
use Rattle.steepest.proofs.steepest_by.Goals as goal

pub returns-then-even : goal.returns-then-even
returns-then-even c = rw c.if-even.true (bits_of c.steepest_in.result c.steepest_in.type_inv ∙ c.steepest_in.ensures)

pub returns : goal.returns
returns c = rw c.if-even.false (bits_of c.steepest_in-2.result c.steepest_in-2.type_inv ∙ c.steepest_in-2.ensures)

pub steepest_in-requires : goal.steepest_in-requires
steepest_in-requires c = unit-spaced

pub steepest_in-requires-2 : goal.steepest_in-requires-2
steepest_in-requires-2 c = c.requires

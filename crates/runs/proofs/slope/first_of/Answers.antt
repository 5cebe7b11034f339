-- By the test.
use Rattle.runs.proofs.slope.first_of.Goals as goal

pub goes_first-requires : goal.goes_first-requires
goes_first-requires c = let k = c.requires in (k.0, k.2, k.1, k.3)

pub returns-then-goes_first : goal.returns-then-goes_first
returns-then-goes_first c = rw (← c.goes_first.ensures, c.if-goes_first.true)

pub returns : goal.returns
returns c = rw (← c.goes_first.ensures, c.if-goes_first.false)

-- Above is below the other way round.
use Rattle.order.proofs.is_lower.Goals as goal

pub returns-then-up : goal.returns-then-up
returns-then-up c = rw c.if-up.true c.is_below.ensures

pub returns : goal.returns
returns c = rw c.if-up.false c.is_below-2.ensures

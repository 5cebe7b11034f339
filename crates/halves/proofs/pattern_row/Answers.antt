-- A call for each rule.
use Rattle.halves.proofs.pattern_row.Goals as goal

pub lower_row-requires : goal.lower_row-requires
lower_row-requires c = c.requires

pub upper_row-requires : goal.upper_row-requires
upper_row-requires c = let pre = c.requires in record { flags = pre.flags; upper_long = pre.upper_long }

pub returns-then-highest : goal.returns-then-highest
returns-then-highest c = rw c.if-highest.true record { pattern_after = c.lower_row.ensures; upper_after = c.upper_row.ensures }

pub lower_row-requires-2 : goal.lower_row-requires-2
lower_row-requires-2 c = c.requires

pub upper_row-requires-2 : goal.upper_row-requires-2
upper_row-requires-2 c = let pre = c.requires in record { flags = pre.flags; upper_long = pre.upper_long }

pub returns : goal.returns
returns c = rw c.if-highest.false record { pattern_after = c.lower_row-2.ensures; upper_after = c.upper_row-2.ensures }

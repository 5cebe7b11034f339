-- The fields, and the end of the line.
use Rattle.std.proofs.Common.{arith}
use Rattle.text.proofs.Writing.{more, within, line-ends}
use Rattle.text.proofs.put_numbers.Goals as goal

pub returns : goal.returns
returns c =
    rw (← line-ends c.args.letter c.args.numbers.now) (within (omega (arith, c.requires.0)) (more c.put_fields-last.ensures c.put_byte.ensures))

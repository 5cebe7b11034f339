use Rattle.std.proofs.Common.{arith}
use mathlib.Core.List.{flatten}
use Rattle.text.proofs.Writing.{more, within, begun-more}
use Rattle.text.proofs.put_fields.Goals as goal

pub loop-number-init : goal.loop-number-init
unfolding flatten
loop-number-init c = c.put_byte-next.ensures

pub loop-number-preserved : goal.loop-number-preserved
loop-number-preserved c =
    rw (← begun-more c.args.letter c.loop-number.number-index c.args.numbers.now c.loop-number-test.true)
    (within (omega arith) (more c.loop-number.invariant c.put_field-next.ensures))

-- None, one digit, or those of a tenth of the number and one more.
use native.Mathlib.Omega.{arith}
use Rattle.text.proofs.Writing.{no-digits, one-digit, more-digits}
use Rattle.text.proofs.+put_digits.Goals as goal

pub returns-then-more-eq0 : goal.returns-then-more-eq0
returns-then-more-eq0 t c = no-digits c.args.more c.args.n c.args.buffer.now c.args.at c.if-more-eq0.true

pub returns-then-n-lt10 : goal.returns-then-n-lt10
returns-then-n-lt10 t c = one-digit c.args.more c.args.n c.if-more-eq0.false (omega arith) c.put_byte.ensures

pub returns : goal.returns
returns t c = more-digits c.args.more c.args.n c.if-more-eq0.false (omega arith) c.put_digits-last.ensures c.put_byte-2.ensures

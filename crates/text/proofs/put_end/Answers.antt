-- By whether the end is the virtual pit.
use native.Mathlib.Omega.{arith}
use Rattle.text.proofs.Writing.{more, within, pit-named, post-named}
use Rattle.text.proofs.put_end.Goals as goal

pub returns-then-pit : goal.returns-then-pit
returns-then-pit c =
    rw (pit-named _ c.if-pit.true) (within (omega arith) (more c.put_byte-letter.ensures c.put_byte.ensures))

pub returns : goal.returns
returns c =
    rw (post-named _ c.if-pit.false) c.put_field.ensures

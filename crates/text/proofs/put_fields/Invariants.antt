-- The loop's invariant: the letter and the first fields are written.
use Rattle.std.proofs.Common.{◌+◌, ◌*◌, take}
use Rattle.text.specs.Wrote.{Wrote, begun_line}
use Rattle.text.proofs.put_fields.Given as goal

abbrev pub invariant-loop-number : goal.invariant-loop-number
invariant-loop-number l = Wrote (1 + 11 * l.number-index) l.fn.buffer l.buffer l.at (begun_line l.letter (take l.number-index l.numbers)) l.next

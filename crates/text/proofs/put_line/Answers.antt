-- The numbers, the end, and the end of the line.
use Rattle.std.proofs.Common.{arith}
use Rattle.surface.specs.Lister.{end_name}
use Rattle.text.proofs.Writing.{more, within, line-named}
use Rattle.text.proofs.put_line.Goals as goal

pub returns : goal.returns
returns c =
    rw (← line-named c.args.letter c.args.saddle c.args.run (end_name c.args.end))
    (within (omega arith) (more c.put_fields-next.ensures (more c.put_end-last.ensures c.put_byte.ensures)))

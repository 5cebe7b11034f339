use mir.Facts.{to_z-of_z}
use Rattle.std.proofs.Common.{◌∙◌}
use Rattle.words.proofs.Bits.{unsigned_is}
use Rattle.words.proofs.as_unsigned.Goals as goal

pub returns : goal.returns
returns c = (rw (to_z-of_z c.ranges.z) at c.cast_unsigned.ensures) ∙ unsigned_is c.args.z

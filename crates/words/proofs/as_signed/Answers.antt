use mir.Facts.{to_z-of_z}
use Rattle.std.proofs.Common.{◌∙◌}
use Rattle.words.proofs.Bits.{signed_is}
use Rattle.words.proofs.as_signed.Goals as goal

pub returns : goal.returns
returns c = rw (to_z-of_z (record { sfits = c.cast_signed.type_inv })) (c.cast_signed.ensures ∙ signed_is c.args.n)

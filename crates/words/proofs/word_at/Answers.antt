use Rattle.std.proofs.Common.{arith}
use Rattle.surface.specs.Words.{word_at}
use Rattle.words.proofs.word_at.Goals as goal

pub returns : goal.returns
unfolding word_at
returns c = omega (arith, c.from_be_bytes.ensures)

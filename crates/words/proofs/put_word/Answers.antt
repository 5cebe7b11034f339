-- Its four stores are the run of stores that the contract names.
use native.Mathlib.Numerals.{towards_suc}
use Rattle.surface.specs.Words.{bytes_of}
use Rattle.words.proofs.put_word.Goals as goal

pub returns : goal.returns
unfolding bytes_of
returns c = rw c.to_be_bytes.ensures (simp towards_suc)

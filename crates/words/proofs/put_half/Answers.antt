-- Its two stores are the run of stores that the contract names.
use native.Mathlib.Numerals.{towards_suc}
use Rattle.surface.specs.Words.{half_bytes}
use Rattle.words.proofs.put_half.Goals as goal

pub returns : goal.returns
unfolding half_bytes
returns c = rw c.to_be_bytes.ensures (simp towards_suc)

-- A side is below 256 and the count fits 32 bits.
use Prim.Native.Nat.{ℕ, ◌+◌, ◌-◌, ◌*◌}
use mathlib.Core.Path.{◌≡◌}
use native.Mathlib.Omega.{arith}
use Rattle.surface.specs.Words.{bytes_of, half_bytes}
use Rattle.survey_file.specs.Layout.{header}
use Rattle.survey_file.proofs.writing.write_header.Goals as goal
use Rattle.survey_file.proofs.writing.write_header.Goals.{After-put_half, After-put_word}

count : (n : ℕ) → 6 + 4 * n ≡ 11 + 4 * n - 5
count n = omega arith

pub returns : goal.returns
unfolding header bytes_of half_bytes
returns c =
    rw (c.put_half-2.ensures, c.put_half.ensures, c.put_word.ensures, count)

-- Text in a lent list of bytes.
use Rattle.std.specs.Prelude.{ℕ, ◌+◌, ◌≤◌, ◌≡◌, List, ◌∷◌, map, length}
use mathlib.Core.List.{flatten}
use Rattle.std.proofs.lemmas.List.Edits.{sets}
use Rattle.surface.specs.Lister.{decimal}

-- the most bytes that a line takes
abbrev pub line_room : ℕ
line_room = 60

-- a letter and numbers as the fields after it, with no end of the line yet
abbrev pub begun_line : ℕ → List ℕ → List ℕ
begun_line letter numbers = letter ∷ flatten (map (λ n. 32 ∷ decimal n) numbers)

-- `new` is `old` with the text, of at most `most` bytes, from place `at` on, and `next` is the place after it
pub record Wrote (most : ℕ) (old new : List ℕ) (at : ℕ) (text : List ℕ) (next : ℕ) : Type 0 where
  pub bytes : new ≡ sets old at text
  pub place : next ≡ at + length text
  pub bound : length text ≤ most

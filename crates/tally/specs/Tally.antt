-- The three counts of a list of marks.
use Rattle.std.specs.Prelude.{ℕ, ◌≡◌, List}
use Rattle.surface.specs.Marks.{peaks, pits, saddles}

pub record Counted (marks : List ℕ) (p q s : ℕ) : Type 0 where
  pub peaks_are : p ≡ peaks marks
  pub pits_are : q ≡ pits marks
  pub saddles_are : s ≡ saddles marks

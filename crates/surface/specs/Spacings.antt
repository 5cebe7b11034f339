-- docs/SPECIFICATION.md, "Lines, dales and hills": the spacings of a plot's posts.
use Rattle.std.specs.Prelude.{ℕ, ◌≤◌, Bool, ◌&&◌, leb}
use Rattle.surface.specs.declared.Spacings.{Spacings}

-- a spacing, the centimetres between neighbours in one row or in one column, is from 1 to 1,000
abbrev pub is_spacing : ℕ → Bool
is_spacing n = leb 1 n && leb n 1000

pub record Spaced (s : Spacings) : Type 0 where
  pub east_some : 1 ≤ s.east
  pub east_most : s.east ≤ 1000
  pub south_some : 1 ≤ s.south
  pub south_most : s.south ≤ 1000

abbrev pub spacings : ℕ → ℕ → Spacings
spacings along_row along_column = record { east = along_row; south = along_column }

-- How many heights may be copied: those of six rows of 120 columns.
use Rattle.std.specs.Prelude.{ℕ}

abbrev pub max_copy : ℕ
max_copy = 720

-- docs/SPECIFICATION.md, "Survey file": the last step of rounding.
use Rattle.std.specs.Prelude.{cond, ℤ, pos, negsuc}
use Rattle.std.specs.Int.Signed.{lt_z}

-- one away from zero where the rest is beyond 5
abbrev pub step_from : ℤ → ℤ
step_from rest = cond (lt_z (pos 5) rest) (pos 1) (cond (lt_z rest (negsuc 4)) (negsuc 0) (pos 0))

-- docs/SPECIFICATION.md, "Survey file": rounding to the nearest whole number, a half to the even one.
use Rattle.std.specs.Prelude.{ℕ, suc, ◌*◌, ◌%◌, ◌≤◌, ◌≡◌, ℤ, pos, negsuc, neg_ℤ, nat_abs, ◌*ℤ◌, ◌-ℤ◌}
use Rattle.std.specs.Float.Ieee.Nearest.{closest}

-- z / d, for a d above 0, to the nearest whole number, and to the even one where two are equally near; alike on both sides of zero
unfoldable pub round_ties_to_even : ℤ → ℕ → ℤ
round_ties_to_even (pos n) d = pos (closest n d)
round_ties_to_even (negsuc n) d = neg_ℤ (pos (closest (suc n) d))

-- how far d times r is from z
abbrev pub gap : ℤ → ℕ → ℤ → ℕ
gap z d r = nat_abs (r *ℤ pos d -ℤ z)

-- What rounding is, with no division: d times r is within half of d of z, and where it is exactly half of d away, r is even. For every z, and every d
-- above 0, one r is so, and it is round_ties_to_even z d: `nearest-is` in proofs/General/Rounding.
pub record Nearest (z : ℤ) (d : ℕ) (r : ℤ) : Type 0 where
  pub within : 2 * gap z d r ≤ d
  pub even : 2 * gap z d r ≡ d → nat_abs r % 2 ≡ 0

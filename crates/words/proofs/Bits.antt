-- The project's words for signed 32-bit numbers are those of the library.
use Rattle.std.proofs.Common.{ℕ, suc, ◌-◌, ◌≡◌, refl, ap, Bool, true, false, nat_lt, cond, arith, w32, to_z, of_z, ℤ, pos, negsuc}
use mir.Val.{sel}
use Rattle.surface.specs.Words.{signed, unsigned}

pub signed_is : (n : ℕ) → to_z w32 n ≡ signed n
unfolding signed
signed_is n = by (nat_lt n 2147483648)
  where
    by : (b : Bool) → sel b (pos n) (negsuc (4294967296 - suc n)) ≡ cond b (pos n) (negsuc (4294967295 - n))
    by true = refl
    by false = ap negsuc (omega arith)

pub unsigned_is : (z : ℤ) → of_z w32 z ≡ unsigned z
unfolding unsigned
unsigned_is (pos n) = refl
unsigned_is (negsuc n) = omega arith

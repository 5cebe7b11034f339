-- Rounding of signed 32-bit numbers: the quotient toward zero, and a step from the rest. Each law is by the two signs, and arithmetic of naturals in each.
use Prim.Native.Nat.{ℕ, zero, suc, ◌+◌, ◌*◌, ◌/◌, ◌%◌, ◌≤◌, compare}
use native.Mathlib.Nat.{add-zero, div-le_self, mod-le, zero-mod}
use native.Mathlib.Numerals.{add-one}
use native.Mathlib.Omega.{arith}
use mathlib.Core.Path.{◌≡◌, refl, sym, ap}
use borrow.Author.Tests.{ltb-true, ltb-false}
use lib.Dec.{ltb, leb-suc-suc}
use lib.IntN.{ℤ, pos, negsuc, neg_ℤ, ◌+ℤ◌, neg_ℤ-+ℤ}
use lib.Ieee.Nearest.{closest}
use lib.Ieee.Fits.{nearest-le}
use lib.Signed.{mag, quot_z, rem_z, mag_rem}
use mir.Syntax.{w32}
use mir.Val.{SFits}
use mir.ValLaws.{sfits_le}
use Rattle.surface.specs.Rounding.{round_ties_to_even}
use Rattle.surface.specs.SurveyFile.{rounded}
use Rattle.surface.proofs.General.Bools.{either}
use Rattle.surface.proofs.General.Rounding.{closest-low, closest-high}
use Rattle.tenths.specs.Rounding.{step_from}

mag-neg : (k : ℕ) {n : ℕ} → k ≤ suc n → mag (neg_ℤ (pos k)) ≤ n
mag-neg zero h = omega arith
mag-neg (suc k) h = omega arith

pub quot_fits : (t : ℤ) (d : ℕ) → SFits w32 t → SFits w32 (quot_z t (pos d))
quot_fits (pos n) d f = sfits_le (div-le_self n d) f
quot_fits (negsuc n) d f = sfits_le (mag-neg (suc n / d) (div-le_self (suc n) d)) f

pub rem-fits : (t : ℤ) (d : ℕ) → SFits w32 t → SFits w32 (rem_z t (pos d))
rem-fits t d f = sfits_le (mag_rem t (pos d)) f

-- the rest of t; that of -m is that of m, negated
abbrev pub rest : ℤ → ℕ → ℤ
rest t k = rem_z t (pos 10) +ℤ rem_z (quot_z t (pos 10)) (pos k)

rem-neg : (q k : ℕ) → rem_z (neg_ℤ (pos q)) (pos k) ≡ neg_ℤ (pos (q % k))
rem-neg zero k = rw zero-mod
rem-neg (suc q) k = refl

rest-neg : (n k : ℕ) → rest (negsuc n) k ≡ neg_ℤ (pos (suc n % 10 + suc n / 10 % k))
rest-neg n k = rw (rem-neg (suc n / 10) k) (sym (neg_ℤ-+ℤ (pos (suc n % 10)) (pos (suc n / 10 % k))))

pub rest-fits : (t : ℤ) (k : ℕ) → SFits w32 t → SFits w32 (rest t k)
rest-fits (pos n) k f = sfits_le (omega (arith, mod-le (n / 10) k)) f
rest-fits (negsuc n) k f = rw (rest-neg n k) (sfits_le (mag-neg (suc n % 10 + suc n / 10 % k) (omega (arith, mod-le (suc n / 10) k))) f)

step-neg : (e : ℕ) → step_from (neg_ℤ (pos e)) ≡ neg_ℤ (step_from (pos e))
step-neg zero = refl
step-neg (suc e) = rw (leb-suc-suc 5 e) (either (ltb 4 e) (λ h. rw h) (λ h. rw h))

-- the quotient and the step are what is nearest
tenth : (n : ℕ) → pos (n / 10) +ℤ step_from (pos (n % 10 + n / 10 % 2)) ≡ pos (closest n 10)
tenth n =
    let e = n % 10 + n / 10 % 2 in
    either
    (ltb 5 e)
    (λ h. let k = ltb-true 5 e h in rw (h, closest-high n 10 (omega arith) (omega arith) (λ t. omega arith)) (ap pos (add-one (n / 10))))
    (λ h. let k = ltb-false 5 e h in rw (h, closest-low n 10 (omega arith) (omega arith) (λ t. omega arith)) (ap pos (add-zero (n / 10))))

pub rounded-is : (t : ℤ) → quot_z t (pos 10) +ℤ step_from (rest t 2) ≡ rounded t
unfolding rounded round_ties_to_even
rounded-is (pos n) = tenth n
rounded-is (negsuc n) =
    let e = suc n % 10 + suc n / 10 % 2 in
    rw (rest-neg n 2, step-neg e, ← neg_ℤ-+ℤ (pos (suc n / 10)) (step_from (pos e))) (ap neg_ℤ (tenth (suc n)))

pub rounded-fits : (t : ℤ) → SFits w32 t → SFits w32 (rounded t)
unfolding rounded round_ties_to_even
rounded-fits (pos n) f = record { sfits = omega (arith, f.sfits, nearest-le (n / 10) (compare (n % 10 * 2) 10)) }
rounded-fits (negsuc n) f = sfits_le (mag-neg (closest (suc n) 10) (omega (arith, nearest-le (suc n / 10) (compare (suc n % 10 * 2) 10)))) f

-- Rounding to the nearest whole number, a half to the even one: exactly one number is so, and it is what `round_ties_to_even` gives.
use Prim.Native.Nat.{ℕ, zero, suc, ◌+◌, ◌-◌, ◌*◌, ◌/◌, ◌%◌, ◌≤◌, ◌<◌, compare, Ordering}
use native.Mathlib.Nat.{add-zero, mul-le-mul_right, suc-mul, zero-mul, div-add-mod', mod-lt}
use native.Mathlib.Omega.{arith}
use mathlib.Core.Path.{◌≡◌, refl, sym, ◌∙◌, ap}
use mathlib.Core.Bool.{not}
use mathlib.Core.Logic.{◌↔◌}
use borrow.Author.Tests.{ltb-true, ltb-false}
use lib.Dec.{T, is_le, compare_is_eq, ltb, leb→le, nleb→lt, eqb→eq, eqb_refl}
use lib.IntN.{ℤ, pos, negsuc, neg_ℤ, nat_abs, ◌*ℤ◌, ◌-ℤ◌, +ℤ_invr, neg_ℤ-neg_ℤ, neg_ℤ-+ℤ}
use lib.Ieee.{nearest}
use lib.Ieee.Nearest.{closest}
use Rattle.surface.specs.Rounding.{round_ties_to_even, gap, Nearest}
use Rattle.surface.proofs.General.Bools.{either}

nat_abs-neg : (k : ℤ) → nat_abs (neg_ℤ k) ≡ nat_abs k
nat_abs-neg (pos zero) = refl
nat_abs-neg (pos (suc n)) = refl
nat_abs-neg (negsuc n) = refl

-- ---- from zero on

gap_is : (n d c : ℕ) → gap (pos n) d (pos c) ≡ (c * d - n) + (n - c * d)
gap_is zero d c = omega arith
gap_is (suc n) d c =
    either
    (ltb (c * d) (suc n))
    (λ e. rw e (omega (arith, ltb-true (c * d) (suc n) e)))
    (λ e. rw e (omega (arith, ltb-false (c * d) (suc n) e)))

gap_below : (n d a : ℕ) → gap (pos n) d (negsuc a) ≡ suc a * d + n
gap_below n d a = rw (← neg_ℤ-+ℤ (pos (suc a * d)) (pos n)) (nat_abs-neg (pos (suc a * d + n)))

module _ (n d : ℕ) (h : 0 < d) where
  -- the quotient, or the number after it, by the rest
  low : n % d * 2 ≤ d → (n % d * 2 ≡ d → n / d % 2 ≡ 0) → Nearest (pos n) d (pos (n / d))
  low k e =
      let g = gap_is n d (n / d) in
      let s = div-add-mod' n d in
      record { within = omega arith; even = λ t. e (omega arith) }

  high : d ≤ n % d * 2 → (n % d * 2 ≡ d → suc (n / d) % 2 ≡ 0) → Nearest (pos n) d (pos (suc (n / d)))
  high k e =
      let g = gap_is n d (suc (n / d)) in
      let s = div-add-mod' n d in
      let m = suc-mul (n / d) d in
      let r = mod-lt n h in
      record { within = omega arith; even = λ t. e (omega arith) }

  by-rest :
      (o : Ordering)
      → (T (is_le o) → n % d * 2 ≤ d)
      → (T (not (is_le o)) → d < n % d * 2)
      → (T (compare_is_eq o) → n % d * 2 ≡ d)
      → (n % d * 2 ≡ d → T (compare_is_eq o))
      → Nearest (pos n) d (pos (nearest (n / d) o))
  by-rest Ordering.lt le gt eq is = low (le tt) (λ e. absurd (is e))
  by-rest Ordering.eq le gt eq is = go (n / d % 2) refl
    where
      go : (b : ℕ) → n / d % 2 ≡ b → Nearest (pos n) d (pos (n / d + n / d % 2))
      go zero z = rw (z, add-zero (n / d)) (low (le tt) (λ _. z))
      go (suc b) z = let s : n / d + n / d % 2 ≡ suc (n / d) = omega arith in rw s (high (omega (arith, eq tt)) (λ _. omega arith))
  by-rest Ordering.gt le gt eq is = high (omega (arith, gt tt)) (λ e. absurd (is e))

  closest-near : Nearest (pos n) d (pos (closest n d))
  closest-near =
      by-rest (compare (n % d * 2) d)
      (leb→le (n % d * 2) d) (nleb→lt (n % d * 2) d) (eqb→eq (n % d * 2) d) (λ e. rw e (eqb_refl d))

  -- of two that are so, neither is the smaller: both would be even, and then d times them too far apart
  apart : (a c : ℕ) → a < c → Nearest (pos n) d (pos a) → Nearest (pos n) d (pos c) → ⊥
  apart a c l x y =
      let ga = gap_is n d a in
      let gc = gap_is n d c in
      let next : suc a * d ≤ c * d = mul-le-mul_right d l in
      let m = suc-mul a d in
      let ea = x.even (omega (arith, x.within, y.within)) in
      let ec = y.even (omega (arith, x.within, y.within)) in
      let second : suc (suc a) * d ≤ c * d = mul-le-mul_right d (omega arith) in
      let k = suc-mul (suc a) d in
      omega (arith, x.within, y.within)

  one : (a c : ℕ) → Nearest (pos n) d (pos a) → Nearest (pos n) d (pos c) → a ≡ c
  one a c x y =
      let l : a < c → ⊥ = λ h. apart a c h x y in
      let g : c < a → ⊥ = λ h. apart c a h y x in
      omega arith

  -- which of the two it is
  pub closest-low : n % d * 2 ≤ d → (n % d * 2 ≡ d → n / d % 2 ≡ 0) → closest n d ≡ n / d
  closest-low k e = one _ _ closest-near (low k e)

  pub closest-high : d ≤ n % d * 2 → (n % d * 2 ≡ d → suc (n / d) % 2 ≡ 0) → closest n d ≡ suc (n / d)
  closest-high k e = one _ _ closest-near (high k e)

  only : (r : ℤ) → Nearest (pos n) d r → r ≡ pos (closest n d)
  only (pos a) x = ap pos (one a (closest n d) x closest-near)
  only (negsuc a) x = absurd (omega (arith, x.within, gap_below n d a, suc-mul a d))

-- ---- and below it, the other way round

neg-times : (r : ℤ) (d : ℕ) → neg_ℤ r *ℤ pos d ≡ neg_ℤ (r *ℤ pos d)
neg-times (pos zero) d = rw zero-mul
neg-times (pos (suc n)) d = refl
neg-times (negsuc n) d = sym (neg_ℤ-neg_ℤ (pos (suc n * d)))

gap-neg : (z : ℤ) (d : ℕ) (r : ℤ) → gap (neg_ℤ z) d (neg_ℤ r) ≡ gap z d r
gap-neg z d r = rw (neg-times r d, ← neg_ℤ-+ℤ (r *ℤ pos d) (neg_ℤ z)) (nat_abs-neg (r *ℤ pos d -ℤ z))

nearest-neg : (z : ℤ) (d : ℕ) (r : ℤ) → Nearest z d r → Nearest (neg_ℤ z) d (neg_ℤ r)
nearest-neg z d r x = record { within = rw (gap-neg z d r) x.within; even = rw (gap-neg z d r, nat_abs-neg r) x.even }

-- ---- on both sides

pub nearest-is : (z : ℤ) (d : ℕ) → 0 < d → (r : ℤ) → Nearest z d r ↔ (r ≡ round_ties_to_even z d)
unfolding round_ties_to_even
nearest-is (pos n) d h r = (only n d h r, λ e. rw e (closest-near n d h))
nearest-is (negsuc n) d h r = (
  λ x. sym (neg_ℤ-neg_ℤ r) ∙ ap neg_ℤ (only (suc n) d h (neg_ℤ r) (nearest-neg (negsuc n) d r x)),
  λ e. rw e (nearest-neg (pos (suc n)) d (pos (closest (suc n) d)) (closest-near (suc n) d h)),
)

pub nearest-one : (z : ℤ) (d : ℕ) → 0 < d → (r s : ℤ) → Nearest z d r → Nearest z d s → r ≡ s
nearest-one z d h r s x y = (nearest-is z d h r).0 x ∙ sym ((nearest-is z d h s).0 y)

-- a multiple of d is divided without a rest
pub round-times : (z : ℤ) (d : ℕ) → 0 < d → round_ties_to_even (z *ℤ pos d) d ≡ z
round-times z d h =
    let none : gap (z *ℤ pos d) d z ≡ 0 = ap nat_abs (+ℤ_invr (z *ℤ pos d)) in
    sym ((nearest-is (z *ℤ pos d) d h z).0 (record { within = omega (arith, none); even = λ e. absurd (omega (arith, none, h)) }))

-- Whole numbers counted from the least, as natural numbers: what is less, and how far two are apart.
use Prim.Native.Nat.{ℕ, zero, suc, ◌+◌, ◌-◌, ◌≤◌, ◌<◌}
use native.Mathlib.Omega.{arith}
use mathlib.Core.Path.{◌≡◌, ◌∙◌}
use mathlib.Core.Bool.{true, false, true≢false}
use lib.Dec.{T, ltb}
use lib.IntN.{ℤ, pos, negsuc, nat_abs, sub_ℕ, ◌-ℤ◌}
use lib.Signed.{lt_z, mag, non_neg}
use borrow.Author.Tests.{ltb-true, ltb-false, lt-ltb, le-ltb, not-true}
use Rattle.surface.specs.Plot.{is_height}
use Rattle.surface.proofs.General.Bools.{either, and_left}

same-less : (a b c d : ℕ) → a + d ≡ b + c → ltb a b ≡ ltb c d
same-less a b c d e = either (ltb c d) (λ h. rw h (lt-ltb a b (omega (arith, ltb-true c d h)))) (λ h. rw h (le-ltb a b (omega (arith, ltb-false c d h))))

apart : (a b : ℕ) → nat_abs (sub_ℕ a b) ≡ (a - b) + (b - a)
apart a b = either (ltb a b) (λ h. rw h (omega (arith, ltb-true a b h))) (λ h. rw h (omega (arith, ltb-false a b h)))

-- from -m on
module _ (m : ℕ) where
  unfoldable pub counted : ℤ → ℕ
  counted (pos n) = n + m
  counted (negsuc n) = m - suc n

  pub counted-less : (a b : ℤ) → mag a < m → mag b < m → lt_z a b ≡ ltb (counted a) (counted b)
  unfolding counted
  counted-less (pos a) (pos b) e f = same-less a b (a + m) (b + m) (omega arith)
  counted-less (pos a) (negsuc b) e f = rw (le-ltb (a + m) (m - suc b) (omega arith))
  counted-less (negsuc a) (pos b) e f = rw (lt-ltb (m - suc a) (b + m) (omega arith))
  counted-less (negsuc a) (negsuc b) e f = same-less b a (m - suc a) (m - suc b) (omega arith)

  pub counted-apart : (a b : ℤ) → mag a < m → mag b < m → nat_abs (a -ℤ b) ≡ (counted a - counted b) + (counted b - counted a)
  unfolding counted
  counted-apart (pos a) (pos zero) e f = omega arith
  counted-apart (pos a) (pos (suc b)) e f = apart a (suc b) ∙ omega arith
  counted-apart (pos a) (negsuc b) e f = omega arith
  counted-apart (negsuc a) (pos zero) e f = apart 0 (suc a) ∙ omega arith
  counted-apart (negsuc a) (pos (suc b)) e f = omega arith
  counted-apart (negsuc a) (negsuc b) e f = apart (suc b) (suc a) ∙ omega arith

pub height-mag : (a : ℤ) → is_height a ≡ true → mag a ≤ 1000000
height-mag (pos n) e = ltb-false 1000000 n (not-true _ e)
height-mag (negsuc n) e = omega (arith, ltb-false 999999 n (not-true _ (and_left _ _ e)))

-- what is not less is not negative beyond
sub-some : (a b : ℕ) → ltb a b ≡ false → T (non_neg (sub_ℕ a b))
sub-some a b e = rw e tt

pub difference-some : (a b : ℤ) → lt_z a b ≡ false → T (non_neg (a -ℤ b))
difference-some (pos a) (pos zero) e = tt
difference-some (pos a) (pos (suc b)) e = sub-some a (suc b) e
difference-some (pos a) (negsuc b) e = tt
difference-some (negsuc a) (pos b) e = absurd (true≢false e)
difference-some (negsuc a) (negsuc b) e = sub-some (suc b) (suc a) (le-ltb (suc b) (suc a) (omega (arith, ltb-false b a e)))

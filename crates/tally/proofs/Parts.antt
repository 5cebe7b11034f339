-- Counts and sums of a list, part by part.
use Prim.Native.Nat.{ℕ, zero, suc, ◌<◌, ◌+◌, ◌*◌, ◌≤◌}
use native.Mathlib.Omega.{arith}
use mathlib.Core.Path.{◌≡◌}
use mathlib.Core.Bool.{Bool, true, false}
use mathlib.Core.List.{List, [], ◌∷◌, ◌++◌, map}
use lib.ListN.{length, get_or, length-append}
use Rattle.surface.specs.Lists.{one, count, total}

one-le : (b : Bool) → one b ≤ 1
one-le true = omega arith
one-le false = omega arith

-- a count is not more than the length, nor a sum than so many times the most
pub count-le : {A : Type 0} (s : A → Bool) (l : List A) → count s l ≤ length l
unfolding count
count-le s [] = omega arith
count-le s (x ∷ l) = omega (arith, count-le s l, one-le (s x))

pub total-le : (f : ℕ → ℕ) (m : ℕ) (l : List ℕ) → ((i : ℕ) → i < length l → f (get_or l i 0) ≤ m) → total (map f l) ≤ m * length l
unfolding total
total-le f m [] h = omega arith
total-le f m (x ∷ l) h = omega (arith, total-le f m l (λ i k. h (suc i) (omega arith)), h zero (omega arith))

-- those of what is left of a list, and of its next part
module _ {A : Type 0} (part left : List A) where
  pub count-parted : (s : A → Bool) {l : List A} → l ≡ part ++ left → count s l ≡ count s part + count s left
  unfolding count
  count-parted s e = rw e (joined part)
    where
      joined : (p : List A) → count s (p ++ left) ≡ count s p + count s left
      joined [] = omega arith
      joined (x ∷ p) = omega (arith, joined p)

  pub total-parted : (f : A → ℕ) {l : List A} → l ≡ part ++ left → total (map f l) ≡ total (map f part) + total (map f left)
  unfolding total
  total-parted f e = rw e (joined part)
    where
      joined : (p : List A) → total (map f (p ++ left)) ≡ total (map f p) + total (map f left)
      joined [] = omega arith
      joined (x ∷ p) = omega (arith, joined p)

  pub length-parted : {l : List A} → l ≡ part ++ left → length l ≡ length part + length left
  length-parted e = rw e (length-append part left)

-- a sum of nothing
pub total-none : (f : ℕ → ℕ) (l : List ℕ) → length l ≡ 0 → total (map f l) ≡ 0
total-none f l e = omega (arith, total-le f 0 l (λ i h. absurd (omega arith)))

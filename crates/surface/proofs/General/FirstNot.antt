-- The place of the first element that fails a test, by a scan: what the rest of the list gives at each place.
use Prim.Native.Nat.{ℕ, zero, suc, ◌+◌, ◌<◌, ◌≤◌}
use native.Mathlib.Numerals.{add-one}
use native.Mathlib.Omega.{arith}
use mathlib.Core.Path.{◌≡◌, refl, ap}
use mathlib.Core.Bool.{Bool, true, false, cond, ◌&&◌}
use mathlib.Core.List.{List, [], ◌∷◌, map}
use lib.Dec.{ltb}
use lib.ListN.{length, get_or, take, drop, set, drop_of_length-le}
use borrow.Author.Tests.{ltb-false, le-ltb}
use lib.Seq.{drop-cons}
use Rattle.surface.specs.Lists.{all, first_not}
use Rattle.surface.proofs.General.Bools.{and_left, and_right}

module _ {A : Type 0} (s : A → Bool) where
  module _ (l : List A) (i : ℕ) (d : A) (h : i < length l) where
    pub first_not-pass : s (get_or l i d) ≡ true → first_not s (drop i l) ≡ suc (first_not s (drop (i + 1) l))
    unfolding first_not
    first_not-pass e = rw (add-one, drop-cons l i d, e)

    pub first_not-stop : s (get_or l i d) ≡ false → first_not s (drop i l) ≡ 0
    unfolding first_not
    first_not-stop e = rw (drop-cons l i d, e)

  pub first_not-end : (l : List A) (i : ℕ) → length l ≤ i → first_not s (drop i l) ≡ 0
  unfolding first_not
  first_not-end l i h = rw drop_of_length-le

  pub first_not-le : (l : List A) → first_not s l ≤ length l
  unfolding first_not
  first_not-le [] = omega arith
  first_not-le (x ∷ l) = by (s x) (first_not-le l)
    where
      by : (b : Bool) → first_not s l ≤ length l → cond b (suc (first_not s l)) 0 ≤ suc (length l)
      by true h = omega arith
      by false h = omega arith

-- the first that fails, where all before it pass
pub first_not-is : {A : Type 0} (s : A → Bool) (l : List A) (d : A) (p : ℕ) → p < length l → s (get_or l p d) ≡ false
    → ((q : ℕ) → q < p → s (get_or l q d) ≡ true) → first_not s l ≡ p
unfolding first_not
first_not-is s [] d p h e before = absurd (omega arith)
first_not-is s (x ∷ l) d zero h e before = rw e
first_not-is s (x ∷ l) d (suc p) h e before =
    rw (before zero (omega arith)) (ap suc (first_not-is s l d p (omega arith) e (λ q k. before (suc q) (omega arith))))

-- where all pass one test, all pass another after f
pub all_map :
    {A B : Type 0} (s : A → Bool) (u : B → Bool) (f : A → B) → ((x : A) → s x ≡ true → u (f x) ≡ true)
    → (l : List A) → all s l ≡ true → all u (map f l) ≡ true
unfolding all
all_map s u f h [] e = refl
all_map s u f h (x ∷ l) e = rw (h x (and_left (s x) (all s l) e)) (all_map s u f h l (and_right (s x) (all s l) e))

-- heights that are all in range
pub ranged-all : {A : Type 0} (s : A → Bool) (l : List A) → ltb (first_not s l) (length l) ≡ false → all s l ≡ true
unfolding first_not all
ranged-all s [] h = refl
ranged-all s (x ∷ l) h = go (s x) (ranged-all s l) h
  where
    go : (b : Bool) → (ltb (first_not s l) (length l) ≡ false → all s l ≡ true) → ltb (cond b (suc (first_not s l)) 0) (suc (length l)) ≡ false
        → b && all s l ≡ true
    go true ih h = ih (le-ltb (first_not s l) (length l) (omega (arith, ltb-false (suc (first_not s l)) (suc (length l)) h)))
    go false ih h = absurd (omega (arith, ltb-false 0 (suc (length l)) h))

pub all-first_not : {A : Type 0} (s : A → Bool) (l : List A) → all s l ≡ true → first_not s l ≡ length l
unfolding first_not all
all-first_not s [] h = refl
all-first_not s (x ∷ l) h = rw (and_left (s x) (all s l) h) (ap suc (all-first_not s l (and_right (s x) (all s l) h)))

pub all_set : {A : Type 0} (s : A → Bool) (l : List A) (i : ℕ) (x : A) → all s l ≡ true → s x ≡ true → all s (set l i x) ≡ true
unfolding all
all_set s [] i x h k = refl
all_set s (y ∷ l) zero x h k = rw k (and_right (s y) (all s l) h)
all_set s (y ∷ l) (suc i) x h k = rw (and_left (s y) (all s l) h) (all_set s l i x (and_right (s y) (all s l) h) k)

-- a scan of a whole list
pub all_pass : {A : Type 0} (s : A → Bool) (l : List A) (i : ℕ) (d : A) → i < length l → all s (drop i l) ≡ (s (get_or l i d) && all s (drop (i + 1) l))
unfolding all
all_pass s l i d h = rw (add-one, drop-cons l i d)

pub all_end : {A : Type 0} (s : A → Bool) (l : List A) (i : ℕ) → length l ≤ i → all s (drop i l) ≡ true
unfolding all
all_end s l i h = rw drop_of_length-le

-- where all pass, each does, also what is past the end
pub all-at : {A : Type 0} (s : A → Bool) (l : List A) (d : A) → s d ≡ true → all s l ≡ true → (i : ℕ) → s (get_or l i d) ≡ true
unfolding all
all-at s [] d h k i = h
all-at s (x ∷ l) d h k zero = and_left (s x) (all s l) k
all-at s (x ∷ l) d h k (suc i) = all-at s l d h (and_right (s x) (all s l) k) i

-- what every element of a list passes, every element of a part of it does
module _ {A : Type 0} (s : A → Bool) where
  pub all_drop : (n : ℕ) (l : List A) → all s l ≡ true → all s (drop n l) ≡ true
  unfolding all
  all_drop zero l h = h
  all_drop (suc n) [] h = h
  all_drop (suc n) (x ∷ l) h = all_drop n l (and_right (s x) (all s l) h)

  pub all_take : (n : ℕ) (l : List A) → all s l ≡ true → all s (take n l) ≡ true
  unfolding all
  all_take zero l h = refl
  all_take (suc n) [] h = refl
  all_take (suc n) (x ∷ l) h = rw (and_left (s x) (all s l) h) (all_take n l (and_right (s x) (all s l) h))

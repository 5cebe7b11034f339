-- The entries of the table of starts: those of a pattern are the places where its upper runs start.
use Prim.Native.Nat.{ℕ, zero, suc, ◌+◌, ◌*◌, ◌/◌, ◌%◌, ◌≤◌, ◌<◌}
use native.Mathlib.Omega.{arith}
use mathlib.Core.Path.{◌≡◌, refl, ◌∙◌, ap}
use mathlib.Core.Bool.{Bool, true, not, ◌&&◌}
use mathlib.Core.List.{List}
use lib.Dec.{leb, ltb}
use lib.ListN.{length, get_or, get_or-eq_default}
use borrow.Author.Tests.{not-true, leb-true, ltb-true, ltb-false}
use native.Mathlib.Decide.{ℕ_discrete}
use Rattle.surface.specs.Lists.{any, all, last_or, flipped}
use Rattle.surface.specs.Patterns.{changes, changes_from, changes_in, signs_of, turns_from, upper_starts, start_table}
use Rattle.surface.proofs.General.Bools.{either, and_left, and_right}
use Rattle.surface.proofs.General.ListOf.{length-list_of, get_or-list_of, get_or-member}
use Rattle.surface.proofs.AnyOrder.RunMembers.{all-member}
use Rattle.starts.specs.Starts.{strides}

pub table-length : length start_table ≡ 1024
unfolding start_table
table-length = length-list_of _ 1024

pub table-entry : (b j : ℕ) → b < 256 → j < 4 → get_or start_table (4 * b + j) 0 ≡ get_or (upper_starts b) j 8
unfolding start_table
table-entry b j h k =
    let d : (4 * b + j) / 4 ≡ b = omega arith in
    let m : (4 * b + j) % 4 ≡ j = omega arith in
    get_or-list_of (λ i. get_or (upper_starts (i / 4)) (i % 4) 8) 1024 (4 * b + j) 0 (omega arith) ∙ rw (d, m)

-- What holds of the starts of all patterns, by one test that is computed: there are at most four, each at one of the eight places, and two or more exactly where
-- the side changes four times or more.
fit : ℕ → Bool
fit b = leb (length (upper_starts b)) 4 && (all (λ i. ltb i 8) (upper_starts b) && flipped (ltb (length (upper_starts b)) 2) (leb 4 (changes_in b)))

up_to : (ℕ → Bool) → ℕ → Bool
up_to s zero = true
up_to s (suc n) = s n && up_to s n

up-to-at : (s : ℕ → Bool) (n i : ℕ) → up_to s n ≡ true → i < n → s i ≡ true
unfolding up_to
up-to-at s zero i t h = absurd (omega arith)
up-to-at s (suc n) i t h = go (ℕ_discrete i n) (up-to-at s n i (and_right (s n) (up_to s n) t))
  where
    go : Dec (i ≡ n) → (i < n → s i ≡ true) → s i ≡ true
    go (yes e) ih = ap s e ∙ and_left (s n) (up_to s n) t
    go (no e) ih = ih (omega arith)

all_fit : up_to fit 256 ≡ true
unfolding up_to fit upper_starts turns_from signs_of changes_in changes changes_from last_or any all
all_fit = refl

module _ (b : ℕ) (h : b < 256) where
  fits : fit b ≡ true
  fits = up-to-at fit 256 b all_fit h

  pub starts-few : length (upper_starts b) ≤ 4
  unfolding fit
  starts-few = leb-true (length (upper_starts b)) 4 (and_left (leb (length (upper_starts b)) 4) _ fits)

  pub start-place : (j : ℕ) → j < length (upper_starts b) → get_or (upper_starts b) j 8 < 8
  unfolding fit
  start-place j k =
      ltb-true (get_or (upper_starts b) j 8) 8
      (all-at (upper_starts b) j (and_left (all (λ i. ltb i 8) (upper_starts b)) _ (and_right (leb (length (upper_starts b)) 4) _ fits)) k)
    where
      all-at : (l : List ℕ) (j : ℕ) → all (λ i. ltb i 8) l ≡ true → j < length l → ltb (get_or l j 8) 8 ≡ true
      all-at l j t k = all-member (λ i. ltb i 8) l t (get_or l j 8) (get_or-member l j 8 k)

  pub starts-small : (j : ℕ) → get_or (upper_starts b) j 8 ≤ 8
  starts-small j = either (ltb j (length (upper_starts b))) (λ e. omega (arith, start-place j (ltb-true j (length (upper_starts b)) e))) (λ e. omega (arith, get_or-eq_default (upper_starts b) 8 (ltb-false j (length (upper_starts b)) e)))

  pub several-starts : leb 4 (changes_in b) ≡ not (ltb (length (upper_starts b)) 2)
  unfolding fit
  several-starts =
      let t : flipped (ltb (length (upper_starts b)) 2) (leb 4 (changes_in b)) ≡ true =
      and_right (all (λ i. ltb i 8) (upper_starts b)) _ (and_right (leb (length (upper_starts b)) 4) _ fits) in
      either (ltb (length (upper_starts b)) 2) (λ e. rw e (not-true _ (rw e at t))) (λ e. rw e (rw e at t))

pub strides-small : (columns place : ℕ) → columns ≤ 120 → get_or (strides columns) place 0 ≤ 242
unfolding strides
strides-small columns zero h = omega arith
strides-small columns (suc zero) h = omega arith
strides-small columns (suc (suc zero)) h = omega arith
strides-small columns (suc (suc (suc zero))) h = omega arith
strides-small columns (suc (suc (suc (suc zero)))) h = omega arith
strides-small columns (suc (suc (suc (suc (suc zero))))) h = omega arith
strides-small columns (suc (suc (suc (suc (suc (suc zero)))))) h = omega arith
strides-small columns (suc (suc (suc (suc (suc (suc (suc zero))))))) h = omega arith
strides-small columns (suc (suc (suc (suc (suc (suc (suc (suc zero)))))))) h = omega arith
strides-small columns (suc (suc (suc (suc (suc (suc (suc (suc (suc place))))))))) h = omega arith

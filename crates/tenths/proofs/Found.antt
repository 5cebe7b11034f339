-- What `position` over the numbers below n finds is the first element of a list that fails a test.
use Rattle.std.proofs.Common.{ℕ, zero, suc, ◌<◌, ◌≡◌, refl, ◌∙◌, zero-add, ap, subst, Bool, true, false, List, [], ◌∷◌, length, get_or, Option, Some, None, MatchOption, arith}
use Rattle.std.specs.List.{range_with_len, AllWithin, HoldsAt}
use Rattle.std.proofs.lemmas.List.FromFn.{length-range_with_len, get_or-range_with_len}
use Rattle.surface.specs.Lists.{first_not}
use Rattle.surface.proofs.General.FirstNot.{first_not-is}

all-pass : {A : Type 0} (s : A → Bool) (l : List A) (d : A) → ((q : ℕ) → q < length l → s (get_or l q d) ≡ true) → first_not s l ≡ length l
unfolding first_not
all-pass s [] d h = refl
all-pass s (x ∷ l) d h = rw (h zero (omega arith)) (ap suc (all-pass s l d (λ q k. h (suc q) (omega arith))))

module _ {A : Type 0} (s : A → Bool) (l : List A) (d : A) (f : ℕ → A) (n : ℕ) (many : length l ≡ n) (reads : (i : ℕ) → i < n → get_or l i d ≡ f i) where
  abbrev Yes : ℕ → Type 0
  Yes i = s (f i) ≡ false

  abbrev No : ℕ → Type 0
  No i = s (f i) ≡ true

  abbrev below : List ℕ
  below = range_with_len 0 n

  at-place : (i : ℕ) → i < n → get_or below i 0 ≡ i
  at-place i h = get_or-range_with_len 0 n i 0 h ∙ zero-add i

  passes : (i q : ℕ) → i < n → AllWithin No below 0 q → i < q → s (get_or l i d) ≡ true
  passes i q h before k = ap s (reads i h) ∙ subst No (at-place i h) (before i 0 (omega arith) k)

  pub found :
      (r : Option ℕ)
      → MatchOption r (AllWithin No below 0 (length below)) (λ i. (i < length below) × HoldsAt Yes below i × AllWithin No below 0 i)
      → MatchOption r (first_not s l ≡ n) (λ i. (first_not s l ≡ i) × (i < n))
  found None before = all-pass s l d (λ q k. passes q (length below) (rw (← many) k) before (rw (length-range_with_len 0 n, ← many) k)) ∙ many
  found (Some i) (h, out, before) =
      let k : i < n = rw (← length-range_with_len 0 n) h in
      (first_not-is s l d i (rw many k) (ap s (reads i k) ∙ subst Yes (at-place i k) (out 0)) (λ q m. passes q i (omega (arith, k, m)) before m), k)

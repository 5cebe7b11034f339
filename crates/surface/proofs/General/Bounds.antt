-- Bounds of how many of 0, 1, .. n - 1 pass a test.
use Prim.Native.Nat.{ℕ, zero, suc, ◌+◌, ◌≤◌, ◌<◌}
use native.Mathlib.Omega.{arith}
use mathlib.Core.Path.{◌≡◌, refl}
use mathlib.Core.Bool.{Bool, true, false, not, ◌&&◌}
use lib.Dec.{eqb}
use borrow.Author.Tests.{eqb-true, eqb-false, not-true}
use Rattle.surface.specs.Lists.{one}
use Rattle.surface.proofs.General.Bools.{and_left, and_right, either}
use Rattle.surface.proofs.General.Sum.{sum, sum-add, sum-ext, sum-le, sum-zero}

-- no two pass
sum-once : (n : ℕ) (t : ℕ → Bool) → ((i j : ℕ) → i < j → j < n → t i ≡ true → t j ≡ true → ⊥) → sum n (λ i. one (t i)) ≤ 1
unfolding sum
sum-once zero t apart = omega arith
sum-once (suc n) t apart =
    either (t n)
    (λ e. rw e (omega (arith, sum-zero n (λ i. one (t i)) (λ i h. either (t i) (λ f. absurd (apart i n h (omega arith) f e)) (λ f. rw f)))))
    (λ e. rw e (omega (arith, sum-once n t (λ i j h k. apart i j h (omega arith)))))

one_split : (a b : Bool) → one a ≡ one (a && b) + one (a && not b)
one_split true true = refl
one_split true false = refl
one_split false b = refl

-- those that pass fall into k classes, no two into one
pub sum-classes : (n k : ℕ) (t : ℕ → Bool) (f : ℕ → ℕ) → ((i : ℕ) → i < n → t i ≡ true → f i < k)
    → ((i j : ℕ) → i < j → j < n → t i ≡ true → t j ≡ true → f i ≡ f j → ⊥) → sum n (λ i. one (t i)) ≤ k
sum-classes n zero t f low apart =
    omega (arith, sum-zero n (λ i. one (t i)) (λ i h. either (t i) (λ e. absurd (omega (arith, low i h e))) (λ e. rw e)))
sum-classes n (suc k) t f low apart =
    omega (
      arith,
      sum-ext n (λ i. one (t i)) (λ i. one (t i && eqb (f i) k) + one (t i && not (eqb (f i) k))) (λ i h. one_split (t i) (eqb (f i) k)),
      sum-add n (λ i. one (t i && eqb (f i) k)) (λ i. one (t i && not (eqb (f i) k))),
      sum-once n (λ i. t i && eqb (f i) k)
          (λ i j h l a b. apart i j h l (and_left (t i) _ a) (and_left (t j) _ b) (omega (arith, eqb-true (f i) k (and_right (t i) _ a), eqb-true (f j) k (and_right (t j) _ b)))),
      sum-classes n k (λ i. t i && not (eqb (f i) k)) f
          (λ i h a. omega (arith, low i h (and_left (t i) _ a), eqb-false (f i) k (not-true _ (and_right (t i) _ a))))
          (λ i j h l a b. apart i j h l (and_left (t i) _ a) (and_left (t j) _ b)),
    )

-- where two tests agree unless a third holds, those by the one are at most those by the other and, where the third holds, those by the one
pub sum-beyond : (n : ℕ) (t t' c : ℕ → Bool) → ((i : ℕ) → i < n → c i ≡ false → t i ≡ t' i)
    → sum n (λ i. one (t i)) ≤ sum n (λ i. one (t' i)) + sum n (λ i. one (c i && t i))
sum-beyond n t t' c same =
    omega (
      arith,
      sum-add n (λ i. one (t' i)) (λ i. one (c i && t i)),
      sum-le n (λ i. one (t i)) (λ i. one (t' i) + one (c i && t i))
          (λ i h. either (c i) (λ e. rw e (omega arith)) (λ e. rw (e, same i h e) (omega arith))),
    )

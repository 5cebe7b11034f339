-- How many cells and border edges a plot has: twice the cells and the border edges are two for each post, less two.
use Prim.Native.Nat.{ℕ, zero, suc, ◌+◌, ◌*◌, ◌/◌, ◌%◌, ◌≤◌}
use native.Mathlib.Omega.{arith}
use native.Mathlib.Nat.{suc-mul, one-mul, mul-one}
use mathlib.Core.Path.{◌≡◌, refl, ◌∙◌, ap}
use mathlib.Core.Bool.{Bool, true, false, cond, not, ◌&&◌, ◌||◌, or-false}
use lib.Dec.{eqb}
use borrow.Author.Tests.{eq-eqb, ne_eqb}
use Rattle.surface.specs.Lists.{one}
use Rattle.surface.proofs.General.Sum.{sum, sum-ext, sum-add, sum-const, sum_rows}

-- of a row of m + 1 columns: how many are not the last, and how many are at an end
not_last : (m : ℕ) → sum (suc m) (λ c. one (not (eqb (c + 1) (suc m)))) ≡ m
unfolding sum
not_last m =
    omega (
      arith,
      sum-ext m (λ c. one (not (eqb (c + 1) (suc m)))) (λ _. 1) (λ c h. rw (ne_eqb (c + 1) (suc m) (omega arith))),
      sum-const m 1,
      mul-one m,
      end,
    )
  where
    end : one (not (eqb (m + 1) (suc m))) ≡ 0
    end = rw (eq-eqb (m + 1) (suc m) (omega arith))

at_zero : (m : ℕ) → sum (suc m) (λ c. one (eqb c 0)) ≡ 1
unfolding sum
at_zero zero = refl
at_zero (suc m) = rw (ne_eqb (suc m) 0 (omega arith)) (omega (arith, at_zero m))

ends : (m : ℕ) → 1 ≤ m → sum (suc m) (λ c. one (eqb c 0 || eqb (c + 1) (suc m))) ≡ 2
unfolding sum
ends zero h = absurd (omega arith)
ends (suc m) h =
    omega (
      arith,
      sum-ext (suc m) (λ c. one (eqb c 0 || eqb (c + 1) (suc (suc m)))) (λ c. one (eqb c 0))
          (λ c k. rw (ne_eqb (c + 1) (suc (suc m)) (omega arith), or-false (eqb c 0))),
      at_zero m,
      end,
    )
  where
    end : one (eqb (suc m) 0 || eqb (suc m + 1) (suc (suc m))) ≡ 1
    end = rw (ne_eqb (suc m) 0 (omega arith), eq-eqb (suc m + 1) (suc (suc m)) (omega arith))

-- what a post counts: t b, whether it is in the top or the bottom row; f l, in the first or the last column
abbrev pub counted : Bool → Bool → Bool → Bool → ℕ
counted t b f l = cond (not l && not b) 2 0 + cond (not l && (t || b)) 1 0 + cond (not b && (f || l)) 1 0

-- a row of m + 1 columns: the top one, one between, the bottom one
module _ (m : ℕ) (h : 1 ≤ m) where
  abbrev inner : ℕ → ℕ
  inner c = one (not (eqb (c + 1) (suc m)))

  abbrev outer : ℕ → ℕ
  outer c = one (eqb c 0 || eqb (c + 1) (suc m))

  abbrev row_sum : Bool → Bool → ℕ
  row_sum t b = sum (suc m) (λ c. counted t b (eqb c 0) (eqb (c + 1) (suc m)))

  row-top : row_sum true false ≡ 3 * m + 2
  row-top =
      sum-ext (suc m) _ (λ c. inner c + inner c + (inner c + outer c)) (λ c _. at (eqb c 0) (eqb (c + 1) (suc m)))
      ∙ omega (
        arith,
        sum-add (suc m) (λ c. inner c + inner c) (λ c. inner c + outer c),
        sum-add (suc m) inner inner,
        sum-add (suc m) inner outer,
        not_last m,
        ends m h,
      )
    where
      at : (f l : Bool) → counted true false f l ≡ one (not l) + one (not l) + (one (not l) + one (f || l))
      at true true = refl
      at true false = refl
      at false true = refl
      at false false = refl

  row-between : row_sum false false ≡ 2 * m + 2
  row-between =
      sum-ext (suc m) _ (λ c. inner c + inner c + outer c) (λ c _. at (eqb c 0) (eqb (c + 1) (suc m)))
      ∙ omega (arith, sum-add (suc m) (λ c. inner c + inner c) outer, sum-add (suc m) inner inner, not_last m, ends m h)
    where
      at : (f l : Bool) → counted false false f l ≡ one (not l) + one (not l) + one (f || l)
      at true true = refl
      at true false = refl
      at false true = refl
      at false false = refl

  row-bottom : row_sum false true ≡ m
  row-bottom = sum-ext (suc m) _ inner (λ c _. at (eqb c 0) (eqb (c + 1) (suc m))) ∙ not_last m
    where
      at : (f l : Bool) → counted false true f l ≡ one (not l)
      at f true = refl
      at f false = refl

  -- the rows above the bottom one of k + 2
  abbrev row_at : ℕ → ℕ → ℕ
  row_at k r = row_sum (eqb r 0) (eqb (r + 1) (suc (suc k)))

  upper-rows : (k j : ℕ) → j ≤ k → sum (suc j) (row_at k) ≡ m + 2 * (suc j * suc m)
  unfolding sum
  upper-rows k zero i = rw (ne_eqb 1 (suc (suc k)) (omega arith)) (omega (arith, row-top, one-mul (suc m)))
  upper-rows k (suc j) i =
      rw (ne_eqb (suc j) 0 (omega arith), ne_eqb (suc j + 1) (suc (suc k)) (omega arith))
      (omega (arith, upper-rows k j (omega arith), row-between, suc-mul (suc j) (suc m)))

  all-rows : (k : ℕ) → sum (suc (suc k)) (row_at k) + 2 ≡ 2 * (suc (suc k) * suc m)
  unfolding sum
  all-rows k =
      rw (ne_eqb (suc k) 0 (omega arith), eq-eqb (suc k + 1) (suc (suc k)) (omega arith))
      (omega (arith, upper-rows k k (omega arith), row-bottom, suc-mul (suc k) (suc m)))

pub census : (rows columns : ℕ) → 2 ≤ rows → 2 ≤ columns
    → sum (rows * columns) (λ p. counted (eqb (p / columns) 0) (eqb (p / columns + 1) rows) (eqb (p % columns) 0) (eqb (p % columns + 1) columns)) + 2
    ≡ 2 * (rows * columns)
census (suc (suc k)) (suc m) h i =
    ap (λ (x : ℕ). x + 2)
    (sum_rows (suc (suc k)) (suc m) (omega arith) (λ r c. counted (eqb r 0) (eqb (r + 1) (suc (suc k))) (eqb c 0) (eqb (c + 1) (suc m))))
    ∙ all-rows m (omega arith) k
census zero columns h i = absurd (omega arith)
census (suc zero) columns h i = absurd (omega arith)
census (suc (suc k)) zero h i = absurd (omega arith)

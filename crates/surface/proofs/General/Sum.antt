-- Sums over 0, 1, .. n - 1.
use Prim.Native.Nat.{ℕ, zero, suc, ◌+◌, ◌-◌, ◌*◌, ◌/◌, ◌%◌, ◌≤◌, ◌<◌}
use native.Mathlib.Omega.{arith}
use native.Mathlib.Nat.{zero-mul, suc-mul, add-zero, add-suc, mul-add-div_right, mul-add-mod_self_right, div-eq_of_lt, mod-eq_of_lt}
use native.Mathlib.Decide.{ℕ_discrete}
use mathlib.Core.Path.{◌≡◌, refl, sym, ◌∙◌, ap, ap₂}
use mathlib.Core.Bool.{cond}
use lib.Dec.{eqb}
use borrow.Author.Tests.{eq-eqb, ne_eqb}

unfoldable pub sum : ℕ → (ℕ → ℕ) → ℕ
sum zero f = 0
sum (suc n) f = sum n f + f n

pub sum-ext : (n : ℕ) (f g : ℕ → ℕ) → ((i : ℕ) → i < n → f i ≡ g i) → sum n f ≡ sum n g
unfolding sum
sum-ext zero f g h = refl
sum-ext (suc n) f g h = ap₂ ◌+◌ (sum-ext n f g (λ i k. h i (omega arith))) (h n (omega arith))

pub sum-add : (n : ℕ) (f g : ℕ → ℕ) → sum n (λ i. f i + g i) ≡ sum n f + sum n g
unfolding sum
sum-add zero f g = refl
sum-add (suc n) f g = omega (arith, sum-add n f g)

pub sum-const : (n c : ℕ) → sum n (λ _. c) ≡ n * c
unfolding sum
sum-const zero c = sym (zero-mul c)
sum-const (suc n) c = omega (arith, sum-const n c, suc-mul n c)

pub sum-le : (n : ℕ) (f g : ℕ → ℕ) → ((i : ℕ) → i < n → f i ≤ g i) → sum n f ≤ sum n g
unfolding sum
sum-le zero f g h = omega arith
sum-le (suc n) f g h = omega (arith, sum-le n f g (λ i k. h i (omega arith)), h n (omega arith))

pub sum_lt : (n : ℕ) (f g : ℕ → ℕ) → ((i : ℕ) → i < n → f i ≤ g i) → (j : ℕ) → j < n → f j < g j → sum n f < sum n g
unfolding sum
sum_lt zero f g h j k l = absurd (omega arith)
sum_lt (suc n) f g h j k l = go (ℕ_discrete j n) (sum_lt n f g (λ i m. h i (omega arith)) j)
  where
    go : Dec (j ≡ n) → (j < n → f j < g j → sum n f < sum n g) → sum n f + f n < sum n g + g n
    go (yes e) ih = omega (arith, sum-le n f g (λ i m. h i (omega arith)), rw e at l)
    go (no e) ih = omega (arith, ih (omega arith) l, h n (omega arith))

-- terms of equal sums, none of them greater in the second, are equal
pub sum_same : (n : ℕ) (f g : ℕ → ℕ) → ((i : ℕ) → i < n → f i ≤ g i) → sum n f ≡ sum n g → (i : ℕ) → i < n → f i ≡ g i
sum_same n f g h e i k = let no_less : f i < g i → ⊥ = λ l. omega (arith, sum_lt n f g h i k l) in omega (arith, h i k)

pub sum-zero : (n : ℕ) (f : ℕ → ℕ) → ((i : ℕ) → i < n → f i ≡ 0) → sum n f ≡ 0
unfolding sum
sum-zero zero f h = refl
sum-zero (suc n) f h = omega (arith, sum-zero n f (λ i k. h i (omega arith)), h n (omega arith))

-- a sum with one term
pub sum-at : (n r c : ℕ) → r < n → sum n (λ v. cond (eqb v r) c 0) ≡ c
unfolding sum
sum-at zero r c h = absurd (omega arith)
sum-at (suc n) r c h = go (ℕ_discrete n r) (sum-at n r c)
  where
    go : Dec (n ≡ r) → (r < n → sum n (λ v. cond (eqb v r) c 0) ≡ c) → sum n (λ v. cond (eqb v r) c 0) + cond (eqb n r) c 0 ≡ c
    go (yes e) ih = rw (eq-eqb n r e) (omega (arith, sum-zero n (λ v. cond (eqb v r) c 0) (λ v k. rw (ne_eqb v r (omega arith)))))
    go (no e) ih = rw (ne_eqb n r e) (omega (arith, ih (omega arith)))

-- where all other terms are even, a sum is even or odd as one term is
pub sum-even : (n : ℕ) (f : ℕ → ℕ) → ((i : ℕ) → i < n → f i % 2 ≡ 0) → sum n f % 2 ≡ 0
unfolding sum
sum-even zero f h = refl
sum-even (suc n) f h = omega (arith, sum-even n f (λ i k. h i (omega arith)), h n (omega arith))

pub sum-parity : (n : ℕ) (f : ℕ → ℕ) (p : ℕ) → p < n → ((i : ℕ) → i < n → (i ≡ p → ⊥) → f i % 2 ≡ 0) → sum n f % 2 ≡ f p % 2
unfolding sum
sum-parity zero f p h k = absurd (omega arith)
sum-parity (suc n) f p h k = go (ℕ_discrete p n) (λ l. sum-parity n f p l (λ i m. k i (omega arith)))
  where
    go : Dec (p ≡ n) → (p < n → sum n f % 2 ≡ f p % 2) → (sum n f + f n) % 2 ≡ f p % 2
    go (yes e) ih = rw e (omega (arith, sum-even n f (λ i l. k i (omega arith) (omega arith))))
    go (no e) ih = omega (arith, ih (omega arith), k n (omega arith) (omega arith))

-- a sum in two parts
pub sum-split : (m k : ℕ) (f : ℕ → ℕ) → sum (m + k) f ≡ sum m f + sum k (λ i. f (m + i))
unfolding sum
sum-split m zero f = rw (add-zero m) (omega arith)
sum-split m (suc k) f = rw (add-suc m k) (omega (arith, sum-split m k f))

-- a sum moved along by k, where what is moved out at either end is 0
pub sum-shift : (n k : ℕ) (f g : ℕ → ℕ) → k ≤ n → ((i : ℕ) → i + k < n → f (i + k) ≡ g i) → ((i : ℕ) → i < k → f i ≡ 0)
    → ((i : ℕ) → i < n → n ≤ i + k → g i ≡ 0) → sum n f ≡ sum n g
sum-shift n k f g h moved low high =
    let m = n - k in
    let a : sum n f ≡ sum k f + sum m (λ i. f (k + i)) = ap (λ (x : ℕ). sum x f) (omega arith) ∙ sum-split k m f in
    let b : sum n g ≡ sum m g + sum k (λ i. g (m + i)) = ap (λ (x : ℕ). sum x g) (omega arith) ∙ sum-split m k g in
    let c : sum m (λ i. f (k + i)) ≡ sum m g = sum-ext m (λ i. f (k + i)) g (λ i l. ap f (omega arith) ∙ moved i (omega arith)) in
    omega (arith, sum-zero k f low, sum-zero k (λ i. g (m + i)) (λ i l. high (m + i) (omega arith) (omega arith)))

pub sum-eight : (n : ℕ) (a b c d e f g h : ℕ → ℕ)
    → sum n (λ i. a i + b i + c i + d i + (e i + f i) + (g i + h i))
    ≡ sum n a + sum n b + sum n c + sum n d + (sum n e + sum n f) + (sum n g + sum n h)
unfolding sum
sum-eight zero a b c d e f g h = refl
sum-eight (suc n) a b c d e f g h = omega (arith, sum-eight n a b c d e f g h)

-- a sum over the posts of a plot, row by row
pub sum_rows : (rows columns : ℕ) → 0 < columns → (h : ℕ → ℕ → ℕ)
    → sum (rows * columns) (λ p. h (p / columns) (p % columns)) ≡ sum rows (λ r. sum columns (h r))
unfolding sum
sum_rows zero columns k h = ap (λ (n : ℕ). sum n (λ p. h (p / columns) (p % columns))) (zero-mul columns)
sum_rows (suc r) columns k h =
    ap (λ (n : ℕ). sum n (λ p. h (p / columns) (p % columns))) (suc-mul r columns)
    ∙ sum-split (r * columns) columns (λ p. h (p / columns) (p % columns))
    ∙ ap₂ ◌+◌ (sum_rows r columns k h)
    (sum-ext columns (λ i. h ((r * columns + i) / columns) ((r * columns + i) % columns)) (h r)
    (λ i m. ap₂ h (mul-add-div_right k r i ∙ omega (arith, div-eq_of_lt m)) (mul-add-mod_self_right r columns i ∙ mod-eq_of_lt m)))

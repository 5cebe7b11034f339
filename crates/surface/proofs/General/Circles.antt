-- Sums over the members of a list that follow each other, also round the list taken as a circle.
use Prim.Native.Nat.{ℕ, ◌+◌, ◌%◌}
use native.Mathlib.Omega.{arith}
use mathlib.Core.Path.{◌≡◌, refl}
use mathlib.Core.Bool.{◌&&◌}
use mathlib.Core.List.{List, [], ◌∷◌, ◌++◌}
use lib.Dec.{eqb}
use Rattle.surface.specs.Lists.{last_or, one}

-- what t counts between each member and the one before it, `prev` standing before the first
unfoldable pub sum_from : (ℕ → ℕ → ℕ) → ℕ → List ℕ → ℕ
sum_from t prev [] = 0
sum_from t prev (x ∷ l) = t prev x + sum_from t x l

-- and the last before the first
unfoldable pub round : (ℕ → ℕ → ℕ) → List ℕ → ℕ
round t [] = 0
round t (x ∷ l) = sum_from t (last_or x l) (x ∷ l)

-- whether two colours are a and b, in either order
abbrev pub meet : ℕ → ℕ → ℕ → ℕ → ℕ
meet a b x y = one (eqb x a && eqb y b) + one (eqb y a && eqb x b)

module _ (t : ℕ → ℕ → ℕ) where
  sum_from-last : (prev : ℕ) (l : List ℕ) (x : ℕ) → sum_from t prev (l ++ x ∷ []) ≡ t (last_or prev l) x + sum_from t prev l
  unfolding sum_from last_or
  sum_from-last prev [] x = refl
  sum_from-last prev (y ∷ l) x = omega (arith, sum_from-last y l x)

  -- a circle from x once round, back to x
  pub round-from : (x : ℕ) (l m : List ℕ) → l ++ x ∷ [] ≡ x ∷ m → sum_from t x m ≡ round t l
  unfolding round sum_from
  round-from x [] m e = let i : m ≡ [] = cc in rw i
  round-from x (y ∷ l) m e =
      let i : y ≡ x = cc in
      let j : m ≡ l ++ x ∷ [] = cc in
      rw (i, j) (sum_from-last x l x)

-- where the two members of each step count by themselves, every member counts twice
module _ (f : ℕ → ℕ) where
  sum_from-ends : (prev : ℕ) (l : List ℕ) → (f prev + sum_from (λ q r. f q + f r) prev l + f (last_or prev l)) % 2 ≡ 0
  unfolding sum_from last_or
  sum_from-ends prev [] = omega arith
  sum_from-ends prev (x ∷ l) = omega (arith, sum_from-ends x l)

  pub round-even : (l : List ℕ) → round (λ q r. f q + f r) l % 2 ≡ 0
  unfolding round last_or
  round-even [] = refl
  round-even (x ∷ l) = omega (arith, sum_from-ends (last_or x l) (x ∷ l))

-- A strict total order reversed is one, and the rank of a vertex, how many are below it, which falls with the order.
use Prim.Native.Nat.{ℕ, ◌+◌, ◌≤◌, ◌<◌}
use native.Mathlib.Omega.{arith}
use native.Mathlib.Nat.{mul-one}
use mathlib.Core.Path.{◌≡◌, refl, sym, subst}
use mathlib.Core.Logic.{⊎_elim}
use mathlib.Core.Bool.{Bool, true, false}
use Rattle.surface.specs.Lists.{one, flipped}
use Rattle.surface.specs.Plot.{virtual_pit, Vertex, reversed, directed}
use Rattle.surface.proofs.General.Order.{StrictTotal}
use Rattle.surface.proofs.General.Sum.{sum, sum-const, sum-le, sum_lt}

pub reversed-strict : {lower : ℕ → ℕ → Bool} → StrictTotal lower → StrictTotal (reversed lower)
reversed-strict o =
    record { irrefl = o.irrefl; other = λ p q h. o.other q p (λ e. h (sym e)); trans = λ p q r h k. o.trans r q p k h }

pub directed-strict : (upward : Bool) {lower : ℕ → ℕ → Bool} → StrictTotal lower → StrictTotal (directed upward lower)
directed-strict true o = reversed-strict o
directed-strict false o = o

-- of another vertex the reversed order tells the contrary
pub directed-flipped : (upward : Bool) {lower : ℕ → ℕ → Bool} → StrictTotal lower → (q p : ℕ) → (q ≡ p → ⊥) → directed upward lower q p ≡ flipped upward (lower q p)
directed-flipped true o q p h = o.other q p h
directed-flipped false o q p h = refl

-- how many of n posts and the virtual pit are below p
unfoldable pub rank : (ℕ → ℕ → Bool) → ℕ → ℕ → ℕ
rank lower n p = one (lower virtual_pit p) + sum n (λ q. one (lower q p))

one-le : (a b : Bool) → (a ≡ true → b ≡ true) → one a ≤ one b
one-le true b h = rw (h refl) (omega arith)
one-le false b h = omega arith

module _ (lower : ℕ → ℕ → Bool) (o : StrictTotal lower) where
  one_below : (q p : ℕ) → lower q p ≡ true → (x : ℕ) → one (lower x q) ≤ one (lower x p)
  one_below q p h x = one-le (lower x q) (lower x p) (λ k. o.trans x q p k h)

  -- the rank falls with the order
  pub rank_falls : (n q p : ℕ) → Vertex n q → lower q p ≡ true → rank lower n q < rank lower n p
  unfolding rank
  rank_falls n q p v h = ⊎_elim post pit v
    where
      strict : one (lower q q) < one (lower q p)
      strict = rw (o.irrefl q, h) (omega arith)

      post : q < n → one (lower virtual_pit q) + sum n (λ x. one (lower x q)) < one (lower virtual_pit p) + sum n (λ x. one (lower x p))
      post k = omega (arith, one_below q p h virtual_pit, sum_lt n (λ x. one (lower x q)) (λ x. one (lower x p)) (λ x _. one_below q p h x) q k strict)

      pit : q ≡ virtual_pit → one (lower virtual_pit q) + sum n (λ x. one (lower x q)) < one (lower virtual_pit p) + sum n (λ x. one (lower x p))
      pit e = omega (arith, subst (λ (x : ℕ). one (lower x q) < one (lower x p)) e strict, sum-le n (λ x. one (lower x q)) (λ x. one (lower x p)) (λ x _. one_below q p h x))

  -- no post has a rank above the number of posts
  pub rank-le : (n p : ℕ) → p < n → rank lower n p ≤ n
  unfolding rank
  rank-le n p h = omega (arith, sum_lt n (λ x. one (lower x p)) (λ _. 1) small p h (rw (o.irrefl p) (omega arith)), sum-const n 1, mul-one n, small')
    where
      small : (x : ℕ) → x < n → one (lower x p) ≤ 1
      small x _ = one-le (lower x p) true (λ _. refl)

      small' : one (lower virtual_pit p) ≤ 1
      small' = one-le (lower virtual_pit p) true (λ _. refl)

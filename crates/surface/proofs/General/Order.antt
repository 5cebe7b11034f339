-- Strict total orders.
use Prim.Native.Nat.{ℕ}
use mathlib.Core.Path.{◌≡◌}
use mathlib.Core.Bool.{Bool, true, false, not}

pub record StrictTotal (lower : ℕ → ℕ → Bool) : Type 0 where
  pub irrefl : (p : ℕ) → lower p p ≡ false
  pub other : (p q : ℕ) → (p ≡ q → ⊥) → lower q p ≡ not (lower p q)
  pub trans : (p q r : ℕ) → lower p q ≡ true → lower q r ≡ true → lower p r ≡ true

-- Slopes as fractions, compared by products: a strict order, whatever the drops, if no length is 0. With an order for equal slopes it is a strict total one.
use Prim.Native.Nat.{ℕ, ◌*◌, ◌≤◌, ◌<◌}
use native.Mathlib.Omega.{arith}
use native.Mathlib.Nat.{mul_right_comm, mul-lt-mul_of_pos_right, mul-le-mul_right, lt_of_mul-lt-mul_right}
use mathlib.Core.Bool.{Bool}
use lib.Dec.{ltb}
use borrow.Author.Tests.{ltb-true, ltb-false, lt-ltb, le-ltb}
use Rattle.surface.proofs.General.Order.{StrictTotal}
use Rattle.surface.proofs.General.Lex.{Weak, strict-ties, lex, lex-strict}

module _ (drop length : ℕ → ℕ) where
  -- the slope to q is greater than the slope to r
  abbrev pub steep : ℕ → ℕ → Bool
  steep q r = ltb (drop r * length q) (drop q * length r)

  module _ (some : (q : ℕ) → 0 < length q) where
    -- a and c by their products with b's length
    between : (a b c : ℕ) → drop c * length a < drop a * length c → drop a * length b ≤ drop b * length a → drop c * length b < drop b * length c
    between a b c h k =
        lt_of_mul-lt-mul_right (length a)
        (omega (
          arith,
          mul-lt-mul_of_pos_right h (some b),
          mul-le-mul_right (length c) k,
          mul_right_comm (drop c) (length b) (length a),
          mul_right_comm (drop a) (length c) (length b),
          mul_right_comm (drop b) (length a) (length c),
        ))

    steep-weak : Weak steep
    steep-weak =
        record {
          asym = λ a b h. le-ltb (drop a * length b) (drop b * length a) (omega (arith, ltb-true (drop b * length a) (drop a * length b) h));
          via = λ a b c h k. lt-ltb (drop c * length b) (drop b * length c) (between a b c (ltb-true (drop c * length a) (drop a * length c) h) (ltb-false (drop b * length a) (drop a * length b) k));
        }

    pub slopes-strict : {lower : ℕ → ℕ → Bool} → StrictTotal lower → StrictTotal (lex steep (λ q. q) lower)
    slopes-strict {lower} o = lex-strict steep (λ q. q) lower steep-weak (strict-ties steep (λ q. q) o)

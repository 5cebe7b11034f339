-- Slopes compared by products, as the code does: without squares along sides, and at a corner by one comparison.
use Prim.Native.Nat.{ℕ, ◌+◌, ◌*◌, ◌≤◌, ◌<◌}
use native.Mathlib.Omega.{arith}
use native.Mathlib.Nat.{mul_assoc, mul_left_comm, mul-le-mul, mul-lt-mul_of_pos_right, mul-le-mul_left}
use mathlib.Core.Path.{◌≡◌, sym, ap, ◌∙◌}
use mathlib.Core.Bool.{Bool, true, false, not, ◌&&◌, ◌||◌, or-true, or-false, and-false}
use lib.Dec.{ltb, leb}
use borrow.Author.Tests.{ltb-true, ltb-false, lt-ltb, le-ltb, le-leb, lt-leb}
use Rattle.surface.specs.Lists.{one}
use Rattle.surface.specs.Lines.{squared}
use Rattle.surface.proofs.General.Bools.{either}

-- squares
square-product : (x y : ℕ) → squared x * squared y ≡ squared (x * y)
square-product x y = mul_assoc x x (y * y) ∙ ap (λ (z : ℕ). x * z) (mul_left_comm x y y) ∙ sym (mul_assoc x y (x * y))

square-less : (m n : ℕ) → m < n → squared m < squared n
square-less m n h = omega (arith, mul-lt-mul_of_pos_right h h', mul-le-mul_left m h'')
  where
    h' : 0 < n
    h' = omega arith

    h'' : m ≤ n
    h'' = omega arith

square-order : (m n : ℕ) → ltb (squared m) (squared n) ≡ ltb m n
square-order m n =
    either (ltb m n) (λ e. rw e (lt-ltb (squared m) (squared n) (square-less m n (ltb-true m n e))))
    (λ e. let h = ltb-false m n e in rw e (le-ltb (squared m) (squared n) (mul-le-mul h h)))

-- along sides
tied-less : (m n : ℕ) (t : Bool) → ltb m (n + one t) ≡ ltb m n || (not (ltb n m) && t)
tied-less m n true =
    either (ltb n m) (λ e. rw (e, or-false (ltb m n)) (le-ltb m (n + 1) (omega (arith, ltb-true n m e)) ∙ sym (le-ltb m n (omega (arith, ltb-true n m e)))))
    (λ e. rw (e, or-true (ltb m n)) (lt-ltb m (n + 1) (omega (arith, ltb-false n m e))))
tied-less m n false = rw (and-false (not (ltb n m)), or-false (ltb m n)) (ap (ltb m) (omega arith))

pub side-compared : (x y a c : ℕ) (t : Bool)
    → ltb (x * c) (y * a + one t) ≡ ltb (squared x * squared c) (squared y * squared a) || (not (ltb (squared y * squared a) (squared x * squared c)) && t)
side-compared x y a c t =
    tied-less (x * c) (y * a) t ∙ rw (square-product x c, square-product y a, square-order (x * c) (y * a), square-order (y * a) (x * c))

-- at a corner, which stands further away than a side: where it is steeper it falls further
pub steeper-further : (x y l d : ℕ) → squared l ≤ d → squared x * d < squared y * squared l → x < y
steeper-further x y l d h e =
    either (ltb x y) (λ f. ltb-true x y f)
    (λ f. let i = ltb-false x y f in absurd (omega (arith, e, mul-le-mul (mul-le-mul i i) h)))

pub corner-compared : (x y l d : ℕ) (f : Bool) → (squared x * d < squared y * squared l → f ≡ true)
    → (leb (squared x * d) (squared (y * l)) && f) ≡ ltb (squared x * d) (squared y * squared l) || (not (ltb (squared y * squared l) (squared x * d)) && f)
corner-compared x y l d f h = rw (square-product y l) (go (squared x * d) (squared (y * l)) (λ i. h (rw (square-product y l) i)))
  where
    go : (u v : ℕ) → (u < v → f ≡ true) → (leb u v && f) ≡ ltb u v || (not (ltb v u) && f)
    go u v h =
        either (ltb u v) (λ e. let i = ltb-true u v e in rw (e, h i, le-leb u v (omega arith)))
        (λ e.
        let i = ltb-false u v e in
        either (ltb v u) (λ g. rw (e, g, lt-leb u v (ltb-true v u g))) (λ g. rw (e, g, le-leb u v (ltb-false v u g))))

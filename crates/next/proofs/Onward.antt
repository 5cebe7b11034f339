-- The order in which a post p looks at the posts round it: the steeper first, of equal slopes the lower, where what is not lower than p has slope 0. So p
-- comes after what is lower and before all else, and next goes to the first in this order. The order is the plot's height order, or it reversed.
use Prim.Native.Nat.{ℕ, ◌*◌, ◌≤◌}
use native.Mathlib.Omega.{arith}
use native.Mathlib.Nat.{mul-le-mul}
use native.Mathlib.Decide.{ℕ_discrete}
use mathlib.Core.Path.{◌≡◌, sym, ap, ◌∙◌}
use mathlib.Core.Bool.{Bool, true, false, cond, not, ◌&&◌, ◌||◌, or-true, and-false}
use lib.Dec.{ltb}
use borrow.Author.Tests.{le-ltb}
use Rattle.surface.specs.Plot.{Plot}
use Rattle.surface.specs.Spacings.{Spaced}
use Rattle.surface.specs.Lines.{squared_length, squared_drop, steeper, before}
use Rattle.surface.specs.declared.Spacings.{Spacings}
use Rattle.surface.proofs.General.Bools.{either}
use Rattle.surface.proofs.General.Order.{StrictTotal}
use Rattle.surface.proofs.General.Lex.{lex}
use Rattle.surface.proofs.General.Slopes.{steep, slopes-strict}
use Rattle.surface.proofs.OfPlots.Steepest.{length_some}

module _ (pl : Plot) (s : Spacings) (lower : ℕ → ℕ → Bool) (p : ℕ) where
  -- the squared drop to what is lower
  unfoldable pub fall_to : ℕ → ℕ
  fall_to q = cond (lower q p) (squared_drop pl p q) 0

  unfoldable pub onward : ℕ → ℕ → Bool
  onward = lex (steep fall_to (squared_length pl s p)) (λ q. q) lower

  -- among what is lower it is the order in which the steepest is the first
  pub onward-before : (q r : ℕ) → lower q p ≡ true → lower r p ≡ true → before pl s lower p q r ≡ onward q r
  unfolding onward fall_to steeper
  onward-before q r h k = rw (h, k)

  -- what is lower than neither p nor x does not go before x
  pub never-onward : (q x : ℕ) → lower q p ≡ false → lower q x ≡ false → onward q x ≡ false
  unfolding onward fall_to
  never-onward q x h k =
      rw (h, k, le-ltb (cond (lower x p) (squared_drop pl p x) 0 * squared_length pl s p q) (0 * squared_length pl s p x) (omega arith), and-false)

  module _ (o : StrictTotal lower) (spaced : Spaced s) where
    pub onward-strict : StrictTotal onward
    unfolding onward
    onward-strict = slopes-strict fall_to (squared_length pl s p) (length_some pl s spaced p) o

    -- p itself
    pub onward-own : (q : ℕ) → onward q p ≡ lower q p
    unfolding onward fall_to
    onward-own q = rw (o.irrefl p) (go (lower q p))
      where
        go : (b : Bool) → let d = cond b (squared_drop pl p q) 0 in
            ltb (0 * squared_length pl s p q) (d * squared_length pl s p p) || (not (ltb (d * squared_length pl s p p) (0 * squared_length pl s p q)) && b) ≡ b
        go true = rw (le-ltb (squared_drop pl p q * squared_length pl s p p) (0 * squared_length pl s p q) (omega arith)) (or-true (ltb (0 * squared_length pl s p q) (squared_drop pl p q * squared_length pl s p p)))
        go false = rw (le-ltb (0 * squared_length pl s p q) (0 * squared_length pl s p p) (omega arith)) (and-false (not (ltb (0 * squared_length pl s p p) (0 * squared_length pl s p q))))

    pub own-onward : (q : ℕ) → onward p q ≡ lower p q
    own-onward q = go (ℕ_discrete q p)
      where
        go : Dec (q ≡ p) → onward p q ≡ lower p q
        go (yes e) = rw e (onward-own p)
        go (no e) = onward-strict.other q p e ∙ ap not (onward-own q) ∙ sym (o.other q p e)

    -- what is lower and not further away goes first
    pub nearer-first : (a q : ℕ) → fall_to q ≤ fall_to a → squared_length pl s p a ≤ squared_length pl s p q → lower a q ≡ true → onward a q ≡ true
    unfolding onward
    nearer-first a q d l h =
        rw (le-ltb (fall_to a * squared_length pl s p q) (fall_to q * squared_length pl s p a) (mul-le-mul d l), h)
        (or-true (ltb (fall_to q * squared_length pl s p a) (fall_to a * squared_length pl s p q)))

    -- at one distance it is the order itself
    pub same-distance : (a q : ℕ) → (lower a q ≡ true → fall_to q ≤ fall_to a) → (lower q a ≡ true → fall_to a ≤ fall_to q)
        → squared_length pl s p a ≡ squared_length pl s p q → onward a q ≡ lower a q
    same-distance a q d e l = go (ℕ_discrete a q)
      where
        go : Dec (a ≡ q) → onward a q ≡ lower a q
        go (yes i) = rw i (onward-strict.irrefl q ∙ sym (o.irrefl q))
        go (no i) =
            either (lower a q) (λ h. rw h (nearer-first a q (d h) (omega (arith, l)) h))
            (λ h.
            let k : lower q a ≡ true = o.other a q i ∙ ap not h in
            rw h (onward-strict.other q a (λ j. i (sym j)) ∙ ap not (nearer-first q a (e k) (omega (arith, l)) k)))

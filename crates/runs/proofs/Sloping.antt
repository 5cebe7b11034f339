-- The choice among vertices: the virtual pit first, then the steepest. Slopes by products.
use Prim.Native.Nat.{ℕ, ◌+◌, ◌-◌, ◌*◌, ◌<◌, ◌≤◌}
use native.Mathlib.Omega.{arith}
use mathlib.Core.Path.{◌≡◌, refl, sym}
use mathlib.Core.Bool.{Bool, true, false, cond, not, ◌&&◌, ◌||◌}
use mathlib.Core.List.{List, [], ◌∷◌}
use borrow.Author.Rules.{sfits_of}
use borrow.Author.Tests.{eqb-true, eq-eqb, lt-ltb, le-ltb, ltb-false, not-true}
use lib.Dec.{T, ltb, eqb}
use lib.IntN.{ℤ, pos, negsuc, nat_abs, ◌-ℤ◌}
use lib.Signed.{lt_z, mag, non_neg}
use mir.Syntax.{w32}
use mir.Val.{Fits, SFits}
use mir.Facts.{Fits-nat_abs}
use Rattle.surface.specs.Lists.{any}
use Rattle.surface.specs.Plot.{Plot, is_height, virtual_pit}
use Rattle.surface.specs.Edges.{lower_of, lowest, lowest_or}
use Rattle.surface.specs.Lines.{squared_length, squared_drop, steeper, before, steepest}
use Rattle.surface.specs.declared.Spacings.{Spacings}
use Rattle.surface.proofs.General.Bools.{either, and_left}
use Rattle.surface.proofs.OfPlots.Counted.{counted, counted-apart, difference-some}
use Rattle.runs.specs.Slopes.{ahead}

module _ (pl : Plot) (s : Spacings) (lower : ℕ → ℕ → Bool) (p : ℕ) where
  pit-stays : (l : List ℕ) → lowest_or (ahead pl s lower p) virtual_pit l ≡ virtual_pit
  unfolding lowest_or ahead
  pit-stays [] = refl
  pit-stays (y ∷ l) = rw (eq-eqb virtual_pit virtual_pit refl) (pit-stays l)

  no-pit-yet : (x : ℕ) (l : List ℕ) → eqb x virtual_pit ≡ false
      → lowest_or (ahead pl s lower p) x l ≡ cond (any (λ q. eqb q virtual_pit) l) virtual_pit (lowest_or (before pl s lower p) x l)
  unfolding lowest_or any ahead
  no-pit-yet x [] e = refl
  no-pit-yet x (y ∷ l) e =
      either (eqb y virtual_pit) (λ k. rw (e, k) (rw (eqb-true y virtual_pit k) (pit-stays l)))
      (λ k. rw (e, k) (no-pit-yet (lower_of (before pl s lower p) x y) l (either (before pl s lower p y x) (λ h. rw h k) (λ h. rw h e))))

  -- the steepest is the lowest in one order
  pub steepest-first : (l : List ℕ) → steepest pl s lower p l ≡ lowest (ahead pl s lower p) l
  unfolding steepest lowest any
  steepest-first [] = refl
  steepest-first (x ∷ l) =
      sym (either (eqb x virtual_pit) (λ e. rw e (rw (eqb-true x virtual_pit e) (pit-stays l))) (λ e. rw e (no-pit-yet x l e)))

-- heights counted from below the least
height-counted : (a : ℤ) → is_height a ≡ true → (mag a < 1000001) × (1 ≤ counted 1000001 a) × (counted 1000001 a ≤ 2000001)
unfolding counted
height-counted (pos n) e = omega (arith, ltb-false 1000000 n (not-true _ e))
height-counted (negsuc n) e = omega (arith, ltb-false 999999 n (not-true _ (and_left _ _ e)))

mag_low : (z : ℤ) → mag z ≤ nat_abs z
mag_low (pos n) = omega arith
mag_low (negsuc n) = omega arith

-- how far apart they are
module _ (a b : ℤ) (h : is_height a ≡ true) (k : is_height b ≡ true) where
  by-counts : nat_abs (a -ℤ b) ≡ (counted 1000001 a - counted 1000001 b) + (counted 1000001 b - counted 1000001 a)
  by-counts = counted-apart 1000001 a b (height-counted a h).0 (height-counted b k).0

  pub apart_low : nat_abs (a -ℤ b) ≤ 2000000
  apart_low = omega (arith, by-counts, height-counted a h, height-counted b k)

  pub apart_fits : SFits w32 (a -ℤ b)
  apart_fits = sfits_of (omega (arith, mag_low (a -ℤ b), apart_low))

  pub apart-cast : lt_z a b ≡ false → T (non_neg (a -ℤ b)) × Fits w32 (nat_abs (a -ℤ b))
  apart-cast e = (difference-some a b e, Fits-nat_abs tt apart_fits)

pub apart-turned : (a b : ℤ) → is_height a ≡ true → is_height b ≡ true → nat_abs (b -ℤ a) ≡ nat_abs (a -ℤ b)
apart-turned a b h k = omega (arith, by-counts a b h k, by-counts b a k h)

-- two products tell, or where they are equal a third test
apart-told : (m n : ℕ) (b : Bool) → (m ≡ n → ⊥) → ltb n m ≡ (ltb n m || (not (ltb m n) && b))
apart-told m n b h = either (ltb n m) (λ e. rw e) (λ e. rw (e, lt-ltb m n (omega (arith, ltb-false n m e))))

level-told : (m n : ℕ) (b : Bool) → m ≡ n → b ≡ (ltb n m || (not (ltb m n) && b))
level-told m n b h = rw (le-ltb n m (omega arith), le-ltb m n (omega arith))

-- which of q and r goes before the other, by the drops a and c and the lengths d and b, all squared
module _ (pl : Plot) (s : Spacings) (lower : ℕ → ℕ → Bool) (p q r : ℕ) {a b c d : ℕ} (e : a ≡ squared_drop pl p q) (f : b ≡ squared_length pl s p r)
    (g : c ≡ squared_drop pl p r) (h : d ≡ squared_length pl s p q) where
  pub by-slopes : (a * b ≡ c * d → ⊥) → ltb (c * d) (a * b) ≡ before pl s lower p q r
  unfolding steeper
  by-slopes n = rw (← e, ← f, ← g, ← h) (apart-told (a * b) (c * d) (lower q r) n)

  pub by_order : a * b ≡ c * d → lower q r ≡ before pl s lower p q r
  unfolding steeper
  by_order n = rw (← e, ← f, ← g, ← h) (level-told (a * b) (c * d) (lower q r) n)

-- The heights that keys of 32 bits tell, counted from the least: how far two are apart, and that what falls further is farther.
use Prim.Native.Nat.{ℕ, ◌+◌, ◌-◌, ◌/◌, ◌<◌}
use native.Mathlib.Omega.{arith}
use mathlib.Core.Path.{◌≡◌, refl, sym, ◌∙◌}
use mathlib.Core.Bool.{Bool, true, false, cond, true≢false}
use mathlib.Core.List.{List, [], ◌∷◌}
use lib.IntN.{ℤ, pos, negsuc}
use lib.Signed.{lt_z, mag}
use borrow.Author.Tests.{ltb-false, lt-ltb, le-ltb}
use Rattle.surface.proofs.General.Bools.{either}
use Rattle.surface.proofs.OfPlots.HeightOrder.{lt_z-irrefl, lt_z-trans}
use Rattle.surface.proofs.OfPlots.Counted.{counted, counted-less, counted-apart}
use Rattle.keys.specs.Keys.{height_in}
use Rattle.steepest.specs.Slopes.{farther, farthest, drop_in}

abbrev from : ℤ → ℕ
from = counted 2147483648

pub height-small : (k : ℤ) → mag k < 2147483648 → mag (height_in k) < 1048576
height-small (pos n) h = omega arith
height-small (negsuc n) h = omega arith

counted-height : (k : ℤ) → mag k < 2147483648 → counted 1048576 (height_in k) ≡ from k / 2048
unfolding counted
counted-height (pos n) h = omega arith
counted-height (negsuc n) h = omega arith

from-small : (k : ℤ) → mag k < 2147483648 → from k < 4294967296
unfolding counted
from-small (pos n) h = omega arith
from-small (negsuc n) h = omega arith

module _ (own k : ℤ) (h : mag own < 2147483648) (i : mag k < 2147483648) where
  drop-counted : drop_in own k ≡ (from own / 2048 - from k / 2048) + (from k / 2048 - from own / 2048)
  drop-counted =
      counted-apart 1048576 (height_in own) (height_in k) (height-small own h) (height-small k i) ∙ rw (counted-height own h, counted-height k i)

  pub drop-back : drop_in k own ≡ drop_in own k
  drop-back =
      let back = counted-apart 1048576 (height_in k) (height_in own) (height-small k i) (height-small own h) in
      omega (arith, rw (counted-height own h, counted-height k i) at back, drop-counted)

  pub drop-small : drop_in own k < 2097152
  drop-small = omega (arith, drop-counted, from-small own h, from-small k i)

  pub height-not-less : lt_z own k ≡ false → lt_z (height_in own) (height_in k) ≡ false
  height-not-less e =
      counted-less 1048576 (height_in own) (height_in k) (height-small own h) (height-small k i)
      ∙ rw (counted-height own h, counted-height k i)
      (le-ltb (from own / 2048) (from k / 2048) (omega (arith, ltb-false (from own) (from k) (sym (counted-less 2147483648 own k h i) ∙ e))))

-- of two keys that are not behind the post's own, the one that falls further is farther
pub further-farther : (up : Bool) (own x y : ℤ) → mag own < 2147483648 → mag x < 2147483648 → mag y < 2147483648
    → farther up own x ≡ false → farther up own y ≡ false → drop_in own x < drop_in own y → farther up y x ≡ true
further-farther true own x y h i j e f d =
    counted-less 2147483648 x y i j
    ∙ lt-ltb (from x) (from y)
    (omega (
      arith,
      drop-counted own x h i,
      drop-counted own y h j,
      ltb-false (from x) (from own) (sym (counted-less 2147483648 x own i h) ∙ e),
      ltb-false (from y) (from own) (sym (counted-less 2147483648 y own j h) ∙ f),
    ))
further-farther false own x y h i j e f d =
    counted-less 2147483648 y x j i
    ∙ lt-ltb (from y) (from x)
    (omega (
      arith,
      drop-counted own x h i,
      drop-counted own y h j,
      ltb-false (from own) (from x) (sym (counted-less 2147483648 own x h i) ∙ e),
      ltb-false (from own) (from y) (sym (counted-less 2147483648 own y h j) ∙ f),
    ))

-- the farthest of the post's own key and others is not behind it
not_behind : (up : Bool) (own x : ℤ) (l : List ℤ) → farther up own x ≡ false → farther up own (farthest up x l) ≡ false
unfolding farthest
not_behind up own x [] h = h
not_behind up own x (y ∷ l) h = go (farther up y x) refl (not_behind up own y l) (not_behind up own x l h)
  where
    back : (up : Bool) → farther up y x ≡ true → farther up own x ≡ false → farther up own y ≡ false
    back true e h = either (lt_z y own) (λ f. absurd (true≢false (sym (lt_z-trans x y own e f) ∙ h))) (λ f. f)
    back false e h = either (lt_z own y) (λ f. absurd (true≢false (sym (lt_z-trans own y x f e) ∙ h))) (λ f. f)

    go : (b : Bool) → farther up y x ≡ b → (farther up own y ≡ false → farther up own (farthest up y l) ≡ false) → farther up own (farthest up x l) ≡ false
        → farther up own (farthest up (cond b y x) l) ≡ false
    go true e i j = i (back up e h)
    go false e i j = j

pub own-not-behind : (up : Bool) (own : ℤ) (l : List ℤ) → farther up own (farthest up own l) ≡ false
own-not-behind true own l = not_behind true own own l (lt_z-irrefl own)
own-not-behind false own l = not_behind false own own l (lt_z-irrefl own)

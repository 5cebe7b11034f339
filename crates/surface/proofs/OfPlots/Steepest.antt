-- The steepest of a post's lower neighbours, or of a run: what it is, and that the order in which it is the first is a strict total one.
use Prim.Native.Nat.{ℕ, ◌+◌, ◌*◌, ◌<◌}
use native.Mathlib.Omega.{arith}
use native.Mathlib.Nat.{mul-pos, mul_left_comm, mul-lt-mul_of_pos_left, mul-le-mul_left}
use mathlib.Core.Path.{◌≡◌, ap, fun_ext}
use mathlib.Core.Bool.{Bool, true, false, cond}
use mathlib.Core.List.{List, Memᴰ}
use lib.Dec.{ltb, eqb}
use borrow.Author.Tests.{ltb-true, ltb-false, lt-ltb, le-ltb}
use Rattle.surface.specs.Lists.{any}
use Rattle.surface.specs.Plot.{Plot, row, column, virtual_pit, below, directed}
use Rattle.surface.specs.Edges.{lowest, ring_of}
use Rattle.surface.specs.Spacings.{Spaced, spacings}
use Rattle.surface.specs.Lines.{squared, toward, squared_length, squared_drop, steeper, before, steepest, Steepest, Chosen}
use Rattle.surface.specs.declared.Spacings.{Spacings}
use Rattle.surface.proofs.General.Bools.{either, or_left, or_right}
use Rattle.surface.proofs.General.Order.{StrictTotal}
use Rattle.surface.proofs.General.Slopes.{slopes-strict}
use Rattle.surface.proofs.AnyOrder.Lowest.{lowest-member, lowest-least}
use Rattle.surface.proofs.General.ListOf.{any-member}

module _ (pl : Plot) (s : Spacings) where
  -- no edge has the length 0
  pub length_some : Spaced s → (p q : ℕ) → 0 < squared_length pl s p q
  unfolding squared_length
  length_some h p q = go (eqb (row pl.columns p) (row pl.columns q)) (eqb (column pl.columns p) (column pl.columns q))
    where
      east : 0 < s.east * s.east
      east = mul-pos (omega (arith, h.east_some)) (omega (arith, h.east_some))

      south : 0 < s.south * s.south
      south = mul-pos (omega (arith, h.south_some)) (omega (arith, h.south_some))

      go : (a b : Bool) → 0 < cond a (s.east * s.east) (cond b (s.south * s.south) (s.east * s.east + s.south * s.south))
      go true b = east
      go false true = south
      go false false = omega (arith, east)

  module _ (lower : ℕ → ℕ → Bool) (p : ℕ) where
    pub before-strict : Spaced s → StrictTotal lower → StrictTotal (before pl s lower p)
    unfolding steeper
    before-strict h o = slopes-strict (squared_drop pl p) (squared_length pl s p) (length_some h p) o

    pub pit-taken : (l : List ℕ) → Memᴰ virtual_pit l → steepest pl s lower p l ≡ virtual_pit
    unfolding steepest
    pit-taken l m = rw ((any-member l virtual_pit).1 m)

    pub no-pit : (l : List ℕ) → (Memᴰ virtual_pit l → ⊥) → steepest pl s lower p l ≡ lowest (before pl s lower p) l
    unfolding steepest
    no-pit l n = either (any (λ q. eqb q virtual_pit) l) (λ e. absurd (n ((any-member l virtual_pit).0 e))) (λ e. rw e)

    pub steepest-member : (q : ℕ) (l : List ℕ) → Memᴰ q l → Memᴰ (steepest pl s lower p l) l
    unfolding steepest
    steepest-member q l m = either (any (λ q. eqb q virtual_pit) l) (λ e. rw e ((any-member l virtual_pit).0 e)) (λ e. rw e (lowest-member (before pl s lower p) q l m))

    -- the pick is what the words say
    pub chosen : Spaced s → StrictTotal lower → (q : ℕ) (l : List ℕ) → Memᴰ q l → Chosen pl s lower p l (steepest pl s lower p l)
    chosen h o q l m =
        record {
          pit = pit-taken l;
          other = λ n. rw (no-pit l n) (first n);
        }
      where
        first : (Memᴰ virtual_pit l → ⊥) → Steepest pl s lower p l (lowest (before pl s lower p) l)
        first n =
            let least = lowest-least (before pl s lower p) (before-strict h o) l in
            record {
              member = lowest-member (before pl s lower p) q l m;
              slope = λ r k. or_left _ _ (least r k);
              level = λ r k e. rw e at (or_right (steeper pl s p r (lowest (before pl s lower p) l)) _ (least r k));
            }

pub unit-spaced : Spaced (spacings 1 1)
unit-spaced = record { east_some = omega arith; east_most = omega arith; south_some = omega arith; south_most = omega arith }

-- only the ratio of the spacings counts: equal ones are as good as 1 and 1
module _ (pl : Plot) (s : Spacings) (some : 0 < s.east) (even : s.east ≡ s.south) where
  abbrev unit : Spacings
  unit = spacings 1 1

  length-even : (p q : ℕ) → squared_length pl s p q ≡ squared s.east * squared_length pl unit p q
  unfolding squared_length
  length-even p q = rw (← even) (go (eqb (row pl.columns p) (row pl.columns q)) (eqb (column pl.columns p) (column pl.columns q)) (s.east * s.east))
    where
      go : (a b : Bool) (m : ℕ) → cond a m (cond b m (m + m)) ≡ m * cond a 1 (cond b 1 2)
      go true b m = omega arith
      go false true m = omega arith
      go false false m = omega arith

  times-less : (m a b : ℕ) → 0 < m → ltb (m * a) (m * b) ≡ ltb a b
  times-less m a b h =
      either (ltb a b) (λ e. rw e (lt-ltb (m * a) (m * b) (mul-lt-mul_of_pos_left (ltb-true a b e) h)))
      (λ e. rw e (le-ltb (m * a) (m * b) (mul-le-mul_left m (ltb-false a b e))))

  steeper-even : (p q r : ℕ) → steeper pl s p q r ≡ steeper pl unit p q r
  unfolding steeper squared_drop
  steeper-even p q r =
      let m = squared s.east in
      let d : ℕ → ℕ = squared_drop pl p in
      let l : ℕ → ℕ = squared_length pl unit p in
      rw (length-even p q, length-even p r, mul_left_comm (d r) m (l q), mul_left_comm (d q) m (l r)) (times-less m (d r * l q) (d q * l r) (mul-pos some some))

  steepest-even : (lower : ℕ → ℕ → Bool) (p : ℕ) (l : List ℕ) → steepest pl s lower p l ≡ steepest pl unit lower p l
  unfolding steepest
  steepest-even lower p l =
      let same : before pl s lower p ≡ before pl unit lower p = fun_ext (λ q. fun_ext (λ r. rw (steeper-even p q r, steeper-even p r q))) in
      ap (λ (f : ℕ → ℕ → Bool). cond (any (λ q. eqb q virtual_pit) l) virtual_pit (lowest f l)) same

  pub toward-even : (upward : Bool) → toward pl s upward ≡ toward pl unit upward
  toward-even upward =
      let lower = directed upward (below pl) in
      ap (λ (f : ℕ → List ℕ → ℕ). record { lower = lower; ring = ring_of pl; pick = f }) (fun_ext (λ p. fun_ext (steepest-even lower p)))

-- A ring's pattern has the ring's changes of side: a place that carries the sign before it adds none. So a pattern tells the mark.
use Prim.Native.Nat.{ℕ, zero, suc, ◌+◌, ◌*◌, ◌-◌, ◌/◌, ◌%◌}
use native.Mathlib.Omega.{arith}
use mathlib.Core.Path.{◌≡◌, refl, sym}
use mathlib.Core.Bool.{Bool, true, false, cond, not, ◌&&◌}
use mathlib.Core.List.{List, [], ◌∷◌, ◌++◌, Memᴰ}
use lib.Dec.{eqb}
use lib.ListN.{length}
use Rattle.surface.specs.Lists.{keep, one}
use Rattle.surface.specs.Plot.{virtual_pit}
use Rattle.surface.specs.Edges.{Place, place, members, places, ring, top}
use Rattle.surface.specs.Marks.{mark}
use Rattle.surface.specs.Patterns.{changes, changes_from, carried, pattern_of, signs_of, changes_in, mark_in}
use Rattle.surface.proofs.General.Order.{StrictTotal}
use Rattle.surface.proofs.AnyOrder.Runs.{last_side, last_side-last_or}
use Rattle.surface.proofs.AnyOrder.Signs.{last_side-members, mark-changes}

abbrev id : Bool → Bool
id x = x

-- the signs of a pattern are those that it was made of
digit : (x : Bool) (k : ℕ) → (eqb ((one x + 2 * k) % 2) 1 ≡ x) × ((one x + 2 * k) / 2 ≡ k)
digit true k = let e : (1 + 2 * k) % 2 ≡ 1 = omega arith in (rw e refl, omega arith)
digit false k = let e : (0 + 2 * k) % 2 ≡ 0 = omega arith in (rw e refl, omega arith)

pub signs-pattern : (l : List Bool) (n : ℕ) → length l ≡ n → signs_of n (pattern_of l) ≡ l
unfolding signs_of pattern_of
signs-pattern [] zero h = refl
signs-pattern (x ∷ l) (suc n) h = rw ((digit x (pattern_of l)).0, (digit x (pattern_of l)).1, signs-pattern l n (omega arith))
signs-pattern [] (suc n) h = absurd (omega arith)
signs-pattern (x ∷ l) zero h = absurd (omega arith)

module _ (low : ℕ → Bool) where
  carried-changes : (x : Bool) (l : List Place) → changes_from id x (carried low x l) ≡ changes_from low x (members l)
  unfolding changes_from members carried
  carried-changes x [] = refl
  carried-changes x (y ∷ l) = go y.taken x y.member (carried-changes (cond y.taken (low y.member) x) l)
    where
      go : (b x : Bool) (q : ℕ) → let g = cond b (low q) x in changes_from id g (carried low g l) ≡ changes_from low g (members l)
          → one (g && not x) + one (x && not g) + changes_from id g (carried low g l) ≡ changes_from low x (keep b q ++ members l)
      go true x q h = rw h
      go false true q h = omega arith
      go false false q h = omega arith

  -- from a place that is there on
  pub carried-circle : (x : Bool) (q : ℕ) (l : List Place) → changes id (carried low x (place true q ∷ l)) ≡ changes low (q ∷ members l)
  unfolding changes carried changes_from last_side
  carried-circle x q l =
      rw (sym (last_side-members low (low q) l), last_side-last_or low q (members l), carried-changes (low q) l)

module _ (lower : ℕ → ℕ → Bool) (o : StrictTotal lower) (rows columns : ℕ) (falls : ℕ → Bool) (p : ℕ) where
  abbrev low : ℕ → Bool
  low q = lower q p

  abbrev eight : List Bool
  eight = carried low true (places rows columns falls p)

  signs-eight : signs_of 8 (pattern_of eight) ≡ eight
  unfolding places carried
  signs-eight = signs-pattern eight 8 refl

  -- a ring's pattern has the ring's changes
  pub pattern-changes : changes_in (pattern_of eight) ≡ changes low (ring rows columns falls p)
  unfolding changes_in ring places members
  pattern-changes = rw signs-eight (carried-circle low true _ _)

  first-sign : eqb (pattern_of eight % 2) 1 ≡ low (cond (top columns p) virtual_pit (p - columns))
  unfolding places carried pattern_of
  first-sign = (digit _ _).0

  pub mark-pattern : ((q : ℕ) → Memᴰ q (ring rows columns falls p) → q ≡ p → ⊥) → mark lower (ring rows columns falls) p ≡ mark_in (pattern_of eight)
  unfolding mark_in
  mark-pattern others = rw (first-sign, pattern-changes) (mark-changes lower o rows columns falls p others)

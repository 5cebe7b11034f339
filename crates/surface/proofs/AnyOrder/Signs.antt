-- The eight signs of a post: going round the places N, NE, .. NW, whether the member is below the post; a place with no member has the sign of the place
-- before it. (At N there is always a member.) And the mark of a post, by the changes of side round its ring.
use Prim.Native.Nat.{ℕ, ◌+◌, ◌-◌, ◌/◌, ◌≤◌}
use native.Mathlib.Omega.{arith}
use mathlib.Core.Path.{◌≡◌, refl}
use mathlib.Core.Bool.{Bool, true, false, cond, not, ◌&&◌, ◌||◌}
use mathlib.Core.List.{List, [], ◌∷◌, ◌++◌, Memᴰ}
use lib.Dec.{eqb}
use lib.ListN.{get_or}
use Rattle.surface.specs.Lists.{keep, any, all, last_or}
use Rattle.surface.specs.Plot.{virtual_pit}
use Rattle.surface.specs.Edges.{Place, members, places, ring, top, bottom, left, right}
use Rattle.surface.specs.Marks.{mark}
use Rattle.surface.specs.Flags.{mark_by}
use Rattle.surface.specs.Patterns.{carried, changes}
use Rattle.surface.proofs.General.Bools.{either}
use Rattle.surface.proofs.General.Order.{StrictTotal}
use Rattle.surface.proofs.AnyOrder.RingPlaces.{ring-short}
use Rattle.surface.proofs.AnyOrder.Runs.{last_side}
use Rattle.surface.proofs.AnyOrder.Changes.{changes-le, mark_for-changes}

pub record Signs : Type 0 where
  pub n : Bool
  pub ne : Bool
  pub e : Bool
  pub se : Bool
  pub s : Bool
  pub sw : Bool
  pub w : Bool
  pub nw : Bool

-- the signs of p
unfoldable pub signs : ℕ → ℕ → (ℕ → Bool) → (ℕ → Bool) → ℕ → Signs
signs rows columns falls low p =
    let l = carried low true (places rows columns falls p) in
    record {
      n = get_or l 0 true;
      ne = get_or l 1 true;
      e = get_or l 2 true;
      se = get_or l 3 true;
      s = get_or l 4 true;
      sw = get_or l 5 true;
      w = get_or l 6 true;
      nw = get_or l 7 true;
    }

-- the signs by the sides of p's neighbours: t b f l, on which borders p is; ne se sw nw, whether the cell's diagonal runs to p; N NE .. NW, whether the
-- neighbour is below p
unfoldable pub signs_from : (t b f l : Bool) (ne se sw nw : Bool) (N NE E SE S SW W NW : Bool) → Signs
signs_from t b f l ne se sw nw N NE E SE S SW W NW =
    let n' = cond t true N in
    let ne' = cond (not t && (not l && ne)) NE n' in
    let e' = cond (not (l && t)) (cond l true E) ne' in
    let se' = cond (not l && (not b && se)) SE e' in
    let s' = cond (not (b && (t || l))) (cond b true S) se' in
    let sw' = cond (not b && (not f && sw)) SW s' in
    let w' = cond (not (f && (t || (l || b)))) (cond f true W) sw' in
    let nw' = cond (not f && (not t && nw)) NW w' in
    record { n = n'; ne = ne'; e = e'; se = se'; s = s'; sw = sw'; w = w'; nw = nw' }

side : (low : ℕ → Bool) → low virtual_pit ≡ true → (b : Bool) (q : ℕ) → low (cond b virtual_pit q) ≡ cond b true (low q)
side low pit true q = pit
side low pit false q = refl

pub signs-from : (rows columns : ℕ) (falls low : ℕ → Bool) (p : ℕ) → low virtual_pit ≡ true
    → signs rows columns falls low p
    ≡ signs_from (top columns p) (bottom rows columns p) (left columns p) (right columns p) (not (falls (p - columns))) (falls p)
    (not (falls (p - 1)))
    (falls (p - columns - 1))
    (low (p - columns))
    (low (p - columns + 1))
    (low (p + 1))
    (low (p + columns + 1))
    (low (p + columns))
    (low (p + columns - 1))
    (low (p - 1))
    (low (p - columns - 1))
unfolding signs places carried signs_from
signs-from rows columns falls low p pit =
    rw (
      side low pit (top columns p) (p - columns),
      side low pit (right columns p) (p + 1),
      side low pit (bottom rows columns p) (p + columns),
      side low pit (left columns p) (p - 1),
    )

module _ (low : ℕ → Bool) where
  pub last_side-members : (x : Bool) (l : List Place) → last_side low x (members l) ≡ last_or x (carried low x l)
  unfolding last_side members carried last_or
  last_side-members x [] = refl
  last_side-members x (y ∷ l) = go y.taken x y.member (last_side-members (cond y.taken (low y.member) x) l)
    where
      go : (b x : Bool) (q : ℕ) → let g = cond b (low q) x in last_side low g (members l) ≡ last_or g (carried low g l)
          → last_side low x (keep b q ++ members l) ≡ last_or g (carried low g l)
      go true x q h = h
      go false x q h = h

-- what is not below a post is above it, for every member of a list that is not the post itself
pub any-above : (lower : ℕ → ℕ → Bool) → StrictTotal lower → (p : ℕ) (l : List ℕ) → ((q : ℕ) → Memᴰ q l → q ≡ p → ⊥)
    → any (λ q. lower p q) l ≡ not (all (λ q. lower q p) l)
unfolding any all
any-above lower o p [] h = refl
any-above lower o p (x ∷ l) h =
    rw (o.other x p (h x (Memᴰ.head refl)), any-above lower o p l (λ q m. h q (Memᴰ.tail m))) (go (lower x p) (all (λ q. lower q p) l))
  where
    go : (a b : Bool) → not a || not b ≡ not (a && b)
    go true b = refl
    go false b = refl

-- no ring has more than eight changes of side, and so no more than four lower runs
mark_by-le : (side : Bool) (k : ℕ) → k ≤ 4 → mark_by side k ≤ 5
unfolding mark_by
mark_by-le side k h = either (eqb k 0) (λ e. rw e (first side)) (λ e. rw e (either (eqb k 1) (λ i. rw i (omega arith)) (λ i. rw i (omega arith))))
  where
    first : (b : Bool) → cond b 1 2 ≤ 5
    first true = omega arith
    first false = omega arith

module _ (lower : ℕ → ℕ → Bool) (o : StrictTotal lower) (rows columns : ℕ) (falls : ℕ → Bool) (p : ℕ)
    (others : (q : ℕ) → Memᴰ q (ring rows columns falls p) → q ≡ p → ⊥)
  where
    -- the mark of a post, by the side of its ring's first member and the changes of side round its ring
    pub mark-changes : mark lower (ring rows columns falls) p
        ≡ mark_by (lower (cond (top columns p) virtual_pit (p - columns)) p) (changes (λ q. lower q p) (ring rows columns falls p) / 2)
    unfolding mark ring places members
    mark-changes = rw (any-above lower o p (ring rows columns falls p) others) (mark_for-changes (λ q. lower q p) _ _)

    -- a mark is from 0 to 5
    pub mark-range : mark lower (ring rows columns falls) p ≤ 5
    mark-range =
        rw mark-changes
        (mark_by-le _ _ (omega (arith, changes-le (λ q. lower q p) (ring rows columns falls p), ring-short rows columns falls p)))

-- Where the runs of a ring start, and what their members are.
use Prim.Native.Nat.{ℕ, zero, suc, ◌+◌, ◌-◌, ◌≤◌, ◌<◌}
use native.Mathlib.Omega.{arith}
use native.Mathlib.Numerals.{add-one}
use mathlib.Core.Path.{◌≡◌, refl, ◌∙◌, ap}
use mathlib.Core.Bool.{Bool, true, false, not, ◌&&◌}
use mathlib.Core.List.{List, [], ◌∷◌, ◌++◌}
use borrow.Author.Tests.{eqb-true, eqb-false}
use lib.Dec.{eqb}
use lib.ListN.{length, get_or, drop, get_or-append}
use lib.Seq.{drop-cons, drop-length, drop-append-le, get_or-append-add}
use mir.Val.{bool_byte}
use Rattle.surface.specs.Lists.{keep, all, take_while, last_or}
use Rattle.surface.specs.Edges.{lower_of, lowest, lowest_or, runs, runs_from}
use Rattle.surface.proofs.General.Bools.{and_left, and_right}
use Rattle.runs.specs.Runs.{run_from, StartsAt}

-- a list that goes on with another
pub get_or-front : (l m : List ℕ) (j : ℕ) → j < length l → get_or (l ++ m) j 0 ≡ get_or l j 0
get_or-front l m j h = get_or-append l m 0 j h

pub get_or-back : (l m : List ℕ) (j : ℕ) → length l ≤ j → get_or (l ++ m) j 0 ≡ get_or m (j - length l) 0
get_or-back l m j h =
    let e : j ≡ length l + (j - length l) = omega arith in
    ap (λ (k : ℕ). get_or (l ++ m) k 0) e ∙ get_or-append-add l m (j - length l) 0

get_or-after : (x : List ℕ) (l : List (List ℕ)) (n : ℕ) → (n ≡ 0 → ⊥) → get_or (x ∷ l) n [] ≡ get_or l (n - 1) []
get_or-after x l zero h = absurd (h refl)
get_or-after x l (suc n) h = ap (λ (m : ℕ). get_or l m []) (omega arith)

last-get_or : (x : ℕ) (l : List ℕ) → last_or x l ≡ get_or (x ∷ l) (length l) 0
unfolding last_or
last-get_or x [] = refl
last-get_or x (y ∷ l) = last-get_or y l

module _ (s : ℕ → Bool) where
  -- the members that pass from place j on
  while-more : (l : List ℕ) (j : ℕ) → j < length l → s (get_or l j 0) ≡ true → take_while s (drop j l) ≡ get_or l j 0 ∷ take_while s (drop (j + 1) l)
  unfolding take_while
  while-more l j h e = rw (drop-cons l j 0 h, e, add-one)

  pub while-stop : (l : List ℕ) (j : ℕ) → j < length l → s (get_or l j 0) ≡ false → take_while s (drop j l) ≡ []
  unfolding take_while
  while-stop l j h e = rw (drop-cons l j 0 h, e)

  pub while-end : (l : List ℕ) (j : ℕ) → j ≡ length l → take_while s (drop j l) ≡ []
  unfolding take_while
  while-end l j e = rw (e, drop-length l)

  -- the search for run number j, come to place i: `before` tells of the member before it, and `left` runs are to be passed
  pub record Seek (ring : List ℕ) (j i : ℕ) (before : Bool) (left : ℕ) : Type 0 where
    pub number : length (runs s ring) + left ≡ j + length (runs_from s before (drop i ring) ring)
    pub same : get_or (runs s ring) j [] ≡ get_or (runs_from s before (drop i ring) ring) left []

  -- before the first member of a ring comes its last
  circle : (ring : List ℕ) → 0 < length ring → all s ring ≡ false → runs s ring ≡ runs_from s (s (get_or ring (length ring - 1) 0)) ring ring
  unfolding runs
  circle [] h e = absurd (omega arith)
  circle (x ∷ l) h e = let k : length (x ∷ l) - 1 ≡ length l = omega arith in rw (e, k, last-get_or x l)

  pub seek-none : (ring : List ℕ) (j : ℕ) → 0 < length ring → all s ring ≡ false → Seek ring j 0 (s (get_or ring (length ring - 1) 0)) j
  seek-none ring j h e = let k = circle ring h e in record { number = rw k (omega arith); same = rw k }

  module _ {ring : List ℕ} {j i : ℕ} {before : Bool} {left : ℕ} (h : i < length ring) (k : Seek ring j i before left) where
    abbrev here : Bool
    here = s (get_or ring i 0)

    abbrev later : List (List ℕ)
    later = runs_from s here (drop (i + 1) ring) ring

    abbrev this : List ℕ
    this = run_from s ring i

    cons : runs_from s before (drop i ring) ring ≡ keep (here && not before) this ++ later
    unfolding runs_from
    cons = rw (drop-append-le i ring ring (omega arith), drop-cons ring i 0 h, add-one)

    -- the run that starts at i is to be passed, if one does
    pub seek-more : here && not before && eqb left 0 ≡ false
        → Seek ring j (i + 1) here (left - bool_byte (here && not before)) × (bool_byte (here && not before) ≤ left)
    seek-more e = go (here && not before) cons e
      where
        go : (t : Bool) → runs_from s before (drop i ring) ring ≡ keep t this ++ later → t && eqb left 0 ≡ false
            → Seek ring j (i + 1) here (left - bool_byte t) × (bool_byte t ≤ left)
        go true c e =
            let n = eqb-false left 0 e in (
              record {
                number = omega (arith, rw c at k.number);
                same = k.same ∙ ap (λ (l : List (List ℕ)). get_or l left []) c ∙ get_or-after this later left n;
              },
              omega arith,
            )
        go false c e =
            let z : left - 0 ≡ left = omega arith in
            (rw z (record { number = rw c at k.number; same = k.same ∙ ap (λ (l : List (List ℕ)). get_or l left []) c }), omega arith)

    -- it is the one sought
    pub seek_found : here && not before && eqb left 0 ≡ true → StartsAt s ring j i
    seek_found e =
        let t : here && not before ≡ true = and_left (here && not before) (eqb left 0) e in
        let z : left ≡ 0 = eqb-true left 0 (and_right (here && not before) (eqb left 0) e) in
        let c : runs_from s before (drop i ring) ring ≡ this ∷ later = cons ∙ rw t in
        let n = rw c at k.number in
        record {
          there = omega arith;
          place = h;
          passes = and_left here (not before) t;
          run = k.same ∙ ap (λ (l : List (List ℕ)). get_or l left []) c ∙ ap (λ (m : ℕ). get_or (this ∷ later) m []) z;
        }

  pub seek-end : {ring : List ℕ} {j i : ℕ} {before : Bool} {left : ℕ} → i ≡ length ring → Seek ring j i before left → length (runs s ring) ≤ j
  unfolding runs_from
  seek-end {ring} {j} {i} h k =
      let d : drop i ring ≡ [] = rw h (drop-length ring) in
      let n = rw d at k.number in
      omega arith

-- the lowest of the members that pass, found one after the other
module _ (lower : ℕ → ℕ → Bool) (s : ℕ → Bool) (l : List ℕ) where
  pub low_first : (i : ℕ) → i < length l → s (get_or l i 0) ≡ true
      → lowest_or lower (get_or l i 0) (take_while s (drop (i + 1) l)) ≡ lowest lower (take_while s (drop i l))
  unfolding lowest
  low_first i h e = rw (while-more s l i h e)

  pub low-more : (best j : ℕ) → j < length l → s (get_or l j 0) ≡ true
      → lowest_or lower (lower_of lower best (get_or l j 0)) (take_while s (drop (j + 1) l)) ≡ lowest_or lower best (take_while s (drop j l))
  unfolding lowest_or
  low-more best j h e = rw (while-more s l j h e)

  pub low-none : (best j : ℕ) → take_while s (drop j l) ≡ [] → best ≡ lowest_or lower best (take_while s (drop j l))
  unfolding lowest_or
  low-none best j e = rw e

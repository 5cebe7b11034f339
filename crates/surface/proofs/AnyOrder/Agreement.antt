-- What a lowest member, runs and a mark read of an order: only the pairs that they compare. Over any order, rings and tests.
use Prim.Native.Nat.{ℕ}
use mathlib.Core.Path.{◌≡◌, refl, ap₂}
use mathlib.Core.Bool.{Bool, true, false, cond, ◌&&◌, ◌||◌}
use mathlib.Core.List.Memᴰ
use mathlib.Core.List.{List, [], ◌∷◌, ◌++◌, Memᴰ}
use mathlib.Core.Logic.{⊎_elim}
use Rattle.surface.specs.Lists.{keep, filter, any, all, take_while, last_or}
use Rattle.surface.specs.Edges.{lowest, lowest_or, runs, runs_from}
use Rattle.surface.specs.Marks.{mark}

-- two tests agree on the members of a list
abbrev pub Agree : {B : Type 0} → (ℕ → B) → (ℕ → B) → List ℕ → Type 0
Agree s s' l = (x : ℕ) → Memᴰ x l → s x ≡ s' x

pub last-member : (x : ℕ) (l : List ℕ) → Memᴰ (last_or x l) (x ∷ l)
unfolding last_or
last-member x [] = Memᴰ.head refl
last-member x (y ∷ l) = Memᴰ.tail (last-member y l)

module _ {s s' : ℕ → Bool} where
  any-agree : (l : List ℕ) → Agree s s' l → any s l ≡ any s' l
  unfolding any
  any-agree [] h = refl
  any-agree (x ∷ l) h = ap₂ ◌||◌ (h x (Memᴰ.head refl)) (any-agree l (λ y m. h y (Memᴰ.tail m)))

  all-agree : (l : List ℕ) → Agree s s' l → all s l ≡ all s' l
  unfolding all
  all-agree [] h = refl
  all-agree (x ∷ l) h = ap₂ ◌&&◌ (h x (Memᴰ.head refl)) (all-agree l (λ y m. h y (Memᴰ.tail m)))

  pub filter-agree : (l : List ℕ) → Agree s s' l → filter s l ≡ filter s' l
  unfolding filter
  filter-agree [] h = refl
  filter-agree (x ∷ l) h = ap₂ (λ b r. keep b x ++ r) (h x (Memᴰ.head refl)) (filter-agree l (λ y m. h y (Memᴰ.tail m)))

  take_while-agree : (l : List ℕ) → Agree s s' l → take_while s l ≡ take_while s' l
  unfolding take_while
  take_while-agree [] h = refl
  take_while-agree (x ∷ l) h =
      ap₂ (λ b r. cond b (x ∷ r) []) (h x (Memᴰ.head refl)) (take_while-agree l (λ y m. h y (Memᴰ.tail m)))

  runs_from-agree : (before : Bool) (l circle : List ℕ) → Agree s s' (l ++ circle) → runs_from s before l circle ≡ runs_from s' before l circle
  unfolding runs_from
  runs_from-agree before [] circle h = refl
  runs_from-agree before (x ∷ l) circle h =
      let e : s x ≡ s' x = h x (Memᴰ.head refl) in
      let w : take_while s (x ∷ l ++ circle) ≡ take_while s' (x ∷ l ++ circle) = take_while-agree (x ∷ l ++ circle) h in
      let r : runs_from s (s x) l circle ≡ runs_from s' (s x) l circle = runs_from-agree (s x) l circle (λ y m. h y (Memᴰ.tail m)) in
      cc

  runs-agree : (l : List ℕ) → Agree s s' l → runs s l ≡ runs s' l
  unfolding runs
  runs-agree [] h = refl
  runs-agree (x ∷ l) h =
      let a : all s (x ∷ l) ≡ all s' (x ∷ l) = all-agree (x ∷ l) h in
      let e : s (last_or x l) ≡ s' (last_or x l) = h (last_or x l) (last-member x l) in
      let r : runs_from s (s (last_or x l)) (x ∷ l) (x ∷ l) ≡ runs_from s' (s (last_or x l)) (x ∷ l) (x ∷ l) =
      runs_from-agree (s (last_or x l)) (x ∷ l) (x ∷ l) (λ y m. ⊎_elim (h y) (h y) (Memᴰ.append_cases (x ∷ l) m))
      in
      cc

-- a mark reads the ring and, of the order, the post against the ring's members
pub mark-agree : (lower lower' : ℕ → ℕ → Bool) (ring_of ring_of' : ℕ → List ℕ) (p : ℕ) → ring_of p ≡ ring_of' p → Agree (λ q. lower p q) (λ q. lower' p q) (ring_of p) → Agree (λ q. lower q p) (λ q. lower' q p) (ring_of p) → mark lower ring_of p ≡ mark lower' ring_of' p
unfolding mark
mark-agree lower lower' ring_of ring_of' p e above below =
    rw (← e, any-agree (ring_of p) above, any-agree (ring_of p) below, runs-agree (ring_of p) below)

one_of_two : (b : Bool) (x y : ℕ) (l : List ℕ) (u : ℕ) → Memᴰ u (cond b y x ∷ l) → Memᴰ u (x ∷ y ∷ l)
one_of_two true x y l u m = Memᴰ.tail m
one_of_two false x y l u m = ⊎_elim Memᴰ.head (λ k. Memᴰ.tail (Memᴰ.tail k)) (Memᴰ.cases_cons m)

-- the lowest member of a list reads only the order among the members
module _ (lower lower' : ℕ → ℕ → Bool) where
  abbrev pub AgreeAmong : List ℕ → Type 0
  AgreeAmong l = (u v : ℕ) → Memᴰ u l → Memᴰ v l → lower u v ≡ lower' u v

  lowest_or-agree : (x : ℕ) (l : List ℕ) → AgreeAmong (x ∷ l) → lowest_or lower x l ≡ lowest_or lower' x l
  unfolding lowest_or
  lowest_or-agree x [] h = refl
  lowest_or-agree x (y ∷ l) h =
      let m = one_of_two (lower y x) x y l in
      rw (← h y x (Memᴰ.tail (Memᴰ.head refl)) (Memᴰ.head refl))
      (lowest_or-agree (cond (lower y x) y x) l (λ u v mu mv. h u v (m u mu) (m v mv)))

  pub lowest-agree : (l : List ℕ) → AgreeAmong l → lowest lower l ≡ lowest lower' l
  unfolding lowest
  lowest-agree [] h = refl
  lowest-agree (x ∷ l) h = lowest_or-agree x l h

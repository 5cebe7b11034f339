-- Round any circle the side changes twice for each run that starts, and lower runs number the upper runs; so a mark is settled by how many runs start.
-- `s` tells of each member whether it is below.
use Prim.Native.Nat.{ℕ, ◌+◌, ◌*◌}
use native.Mathlib.Omega.{arith}
use mathlib.Core.Path.{◌≡◌, refl, sym, ◌∙◌, ap}
use mathlib.Core.Bool.{Bool, true, false, cond, not, ◌&&◌, ◌||◌, true≢false}
use mathlib.Core.Logic.{◌↔◌}
use mathlib.Core.List.{List, [], ◌∷◌, map}
use lib.Dec.{eqb}
use lib.ListN.{length, length-append}
use borrow.Author.Tests.{eqb-true, eqb-false, ne_eqb, le-leb}
use Rattle.surface.specs.Lists.{keep, any, all, last_or, one}
use Rattle.surface.specs.Edges.{runs, runs_from}
use Rattle.surface.specs.Marks.{mark_for}
use Rattle.surface.specs.Flags.{mark_by, runs_for}
use Rattle.surface.specs.Patterns.{changes, changes_from}
use Rattle.surface.proofs.General.Bools.{and_left, or_left, either}

-- how many runs start in a list, `before` being the side of what stands before it
unfoldable pub starts : (ℕ → Bool) → Bool → List ℕ → ℕ
starts s before [] = 0
starts s before (x ∷ l) = one (s x && not before) + starts s (s x) l

-- the side of the last member
unfoldable pub last_side : (ℕ → Bool) → Bool → List ℕ → Bool
last_side s before [] = before
last_side s before (x ∷ l) = last_side s (s x) l

mark_by-zero : (a : Bool) (k : ℕ) → k ≡ 0 → mark_by a k ≡ cond a 1 2
unfolding mark_by
mark_by-zero a k h = rw h

mark_by-suc : (a : Bool) (k : ℕ) → (k ≡ 0 → ⊥) → mark_by a k ≡ cond (eqb k 1) 0 (k + 1)
unfolding mark_by
mark_by-suc a k h = rw (ne_eqb k 0 h)

runs_for-both : (k : ℕ) → (k ≡ 0 → ⊥) → k ≡ runs_for (mark_for true true k)
unfolding runs_for mark_for
runs_for-both k h =
    either (eqb k 1) (λ e. rw e (eqb-true k 1 e))
    (λ e. let n = eqb-false k 1 e in rw (e, le-leb 3 (k + 1) (omega arith)) (omega arith))

length-keep : {A : Type 0} (b : Bool) (x : A) → length (keep b x) ≡ one b
length-keep true x = refl
length-keep false x = refl

module _ (s : ℕ → Bool) where
  length-runs_from : (b : Bool) (l c : List ℕ) → length (runs_from s b l c) ≡ starts s b l
  unfolding runs_from starts
  length-runs_from b [] c = refl
  length-runs_from b (x ∷ l) c = rw (length-append, length-keep, length-runs_from (s x) l c)

  pub last_side-last_or : (x : ℕ) (l : List ℕ) → last_side s (s x) l ≡ s (last_or x l)
  unfolding last_side last_or
  last_side-last_or x [] = refl
  last_side-last_or x (y ∷ l) = last_side-last_or y l

  -- what starts and what stops differ by the two ends alone
  starts-stops : (b : Bool) (l : List ℕ) → starts s b l + one b ≡ starts (λ q. not (s q)) (not b) l + one (last_side s b l)
  unfolding starts last_side
  starts-stops b [] = refl
  starts-stops b (x ∷ l) = go (s x) b (starts-stops (s x) l)
    where
      go : (a c : Bool) → starts s a l + one a ≡ starts (λ q. not (s q)) (not a) l + one (last_side s a l)
          → one (a && not c) + starts s a l + one c ≡ one (not a && not (not c)) + starts (λ q. not (s q)) (not a) l + one (last_side s a l)
      go true true h = omega arith
      go true false h = omega arith
      go false true h = omega arith
      go false false h = omega arith

  all-starts : (l : List ℕ) → all s l ≡ true → starts s true l ≡ 0
  unfolding starts all
  all-starts [] h = refl
  all-starts (x ∷ l) h = go (s x) (all-starts l) h
    where
      go : (a : Bool) → (all s l ≡ true → starts s true l ≡ 0) → a && all s l ≡ true → one (a && not true) + starts s a l ≡ 0
      go true ih e = omega (arith, ih e)
      go false ih e = absurd (true≢false (sym e))

  all-last : (x : ℕ) (l : List ℕ) → all s (x ∷ l) ≡ true → s (last_or x l) ≡ true
  unfolding last_or all
  all-last x [] h = go (s x) h
    where
      go : (a : Bool) → a && true ≡ true → a ≡ true
      go true e = refl
      go false e = e
  all-last x (y ∷ l) h = all-last y l (go (s x) h)
    where
      go : (a : Bool) → a && all s (y ∷ l) ≡ true → all s (y ∷ l) ≡ true
      go true e = e
      go false e = absurd (true≢false (sym e))

  none-starts : (b : Bool) (l : List ℕ) → any s l ≡ false → starts s b l ≡ 0
  unfolding starts any
  none-starts b [] h = refl
  none-starts b (x ∷ l) h = go (s x) (none-starts false l) h
    where
      go : (a : Bool) → (any s l ≡ false → starts s false l ≡ 0) → a || any s l ≡ false → one (a && not b) + starts s a l ≡ 0
      go true ih e = absurd (true≢false e)
      go false ih e = omega (arith, ih e)

  -- where no run starts after a member above, all are above
  still-above : (l : List ℕ) → starts s false l ≡ 0 → (any s l ≡ false) × (last_side s false l ≡ false)
  unfolding starts any last_side
  still-above [] h = (refl, refl)
  still-above (x ∷ l) h = go (s x) (still-above l) h
    where
      go : (a : Bool) → (starts s false l ≡ 0 → (any s l ≡ false) × (last_side s false l ≡ false)) → one (a && not false) + starts s a l ≡ 0
          → (a || any s l ≡ false) × (last_side s a l ≡ false)
      go true ih e = absurd (omega arith)
      go false ih e = ih (omega arith)

  -- where no run starts after a member below and the last is below, all are below
  still-below : (l : List ℕ) → starts s true l ≡ 0 → last_side s true l ≡ true → all s l ≡ true
  unfolding starts all last_side
  still-below [] h k = refl
  still-below (x ∷ l) h k = go (s x) (still-below l) (still-above l) h k
    where
      go : (a : Bool) → (starts s true l ≡ 0 → last_side s true l ≡ true → all s l ≡ true)
          → (starts s false l ≡ 0 → (any s l ≡ false) × (last_side s false l ≡ false))
          → one (a && not true) + starts s a l ≡ 0 → last_side s a l ≡ true → a && all s l ≡ true
      go true ih ja e k = ih (omega arith) k
      go false ih ja e k = absurd (true≢false (sym k ∙ (ja (omega arith)).1))

  -- the runs of a circle that is not all of one sort
  circle : ℕ → List ℕ → ℕ
  circle x l = starts s (s (last_or x l)) (x ∷ l)

  length_runs : (x : ℕ) (l : List ℕ) → all s (x ∷ l) ≡ false → length (runs s (x ∷ l)) ≡ circle x l
  unfolding runs circle
  length_runs x l h = rw h (length-runs_from (s (last_or x l)) (x ∷ l) (x ∷ l))

  one-run : (x : ℕ) (l : List ℕ) → all s (x ∷ l) ≡ true → length (runs s (x ∷ l)) ≡ 1
  unfolding runs
  one-run x l h = rw h

  circle-positive : (x : ℕ) (l : List ℕ) → all s (x ∷ l) ≡ false → any s (x ∷ l) ≡ true → circle x l ≡ 0 → ⊥
  unfolding circle last_side
  circle-positive x l a b e = go (s (last_or x l)) (last_side-last_or x l) e
    where
      go : (t : Bool) → last_side s (s x) l ≡ t → starts s t (x ∷ l) ≡ 0 → ⊥
      go true h k = true≢false (sym (still-below (x ∷ l) k h) ∙ a)
      go false h k = true≢false (sym b ∙ (still-above (x ∷ l) k).0)

  -- the mark of a ring, by the side of its first member and how many of its lower runs start
  pub mark_for-circle : (x : ℕ) (l : List ℕ) → mark_for (not (all s (x ∷ l))) (any s (x ∷ l)) (length (runs s (x ∷ l))) ≡ mark_by (s x) (starts s (s (last_or x l)) (x ∷ l))
  unfolding mark_for circle all any
  mark_for-circle x l = go (all s (x ∷ l)) (any s (x ∷ l)) refl refl
    where
      go : (a b : Bool) → all s (x ∷ l) ≡ a → any s (x ∷ l) ≡ b
          → cond (not (not a)) 1 (cond (not b) 2 (cond (eqb (length (runs s (x ∷ l))) 1) 0 (length (runs s (x ∷ l)) + 1))) ≡ mark_by (s x) (circle x l)
      go true b h k =
          let z : circle x l ≡ 0 = rw (all-last x l h) (all-starts (x ∷ l) h) in
          rw (mark_by-zero (s x) (circle x l) z, and_left (s x) (all s l) h)
      go false true h k = rw (length_runs x l h, mark_by-suc (s x) (circle x l) (circle-positive x l h k))
      go false false h k =
          rw (mark_by-zero (s x) (circle x l) (none-starts (s (last_or x l)) (x ∷ l) k), or_left (s x) (any s l) k)

  changes_from-starts : (b : Bool) (l : List ℕ) → changes_from s b l ≡ starts s b l + starts (λ q. not (s q)) (not b) l
  unfolding changes_from starts
  changes_from-starts b [] = refl
  changes_from-starts b (x ∷ l) = go (s x) b (changes_from-starts (s x) l)
    where
      go : (a c : Bool) → changes_from s a l ≡ starts s a l + starts (λ q. not (s q)) (not a) l
          → one (a && not c) + one (c && not a) + changes_from s a l
          ≡ one (a && not c) + starts s a l + (one (not a && not (not c)) + starts (λ q. not (s q)) (not a) l)
      go true true h = omega arith
      go true false h = omega arith
      go false true h = omega arith
      go false false h = omega arith

  circle-stops : (x : ℕ) (l : List ℕ) → circle x l ≡ starts (λ q. not (s q)) (not (s (last_or x l))) (x ∷ l)
  unfolding circle last_side
  circle-stops x l =
      let h : last_side s (s (last_or x l)) (x ∷ l) ≡ s (last_or x l) = last_side-last_or x l in
      let e = rw h at (starts-stops (s (last_or x l)) (x ∷ l)) in
      omega arith

  pub changes-starts : (x : ℕ) (l : List ℕ) → changes s (x ∷ l) ≡ 2 * starts s (s (last_or x l)) (x ∷ l)
  unfolding changes circle
  changes-starts x l = rw (changes_from-starts, ← (circle-stops x l)) (omega arith)

  -- a circle of both sorts: as many upper runs as lower ones, and twice as many changes of side
  pub changes-runs : (x : ℕ) (l : List ℕ) → all s (x ∷ l) ≡ false → changes s (x ∷ l) ≡ 2 * length (runs s (x ∷ l))
  unfolding circle
  changes-runs x l h = rw (length_runs x l h) (changes-starts x l)

  pub all-not : (l : List ℕ) → all (λ q. not (s q)) l ≡ not (any s l)
  unfolding all any
  all-not [] = refl
  all-not (x ∷ l) = go (s x) (all-not l)
    where
      go : (a : Bool) → all (λ q. not (s q)) l ≡ not (any s l) → not a && all (λ q. not (s q)) l ≡ not (a || any s l)
      go true h = refl
      go false h = h

pub upper-lower-runs : (s : ℕ → Bool) (x : ℕ) (l : List ℕ) → all s (x ∷ l) ≡ false → any s (x ∷ l) ≡ true → length (runs (λ q. not (s q)) (x ∷ l)) ≡ length (runs s (x ∷ l))
unfolding circle
upper-lower-runs s x l h k =
    let n : all (λ q. not (s q)) (x ∷ l) ≡ false = all-not s (x ∷ l) ∙ ap not k in
    rw (length_runs s x l h, length_runs (λ q. not (s q)) x l n) (sym (circle-stops s x l))

-- a circle read through codes: the sides are told by `s` of the codes
module _ (f : ℕ → ℕ) (s t : ℕ → Bool) (same : (q : ℕ) → s (f q) ≡ t q) where
  pub all_coded : (l : List ℕ) → all s (map f l) ≡ all t l
  unfolding all
  all_coded [] = refl
  all_coded (x ∷ l) = rw (same x, all_coded l)

  pub any-coded : (l : List ℕ) → any s (map f l) ≡ any t l
  unfolding any
  any-coded [] = refl
  any-coded (x ∷ l) = rw (same x, any-coded l)

  starts-coded : (b : Bool) (l : List ℕ) → starts s b (map f l) ≡ starts t b l
  unfolding starts
  starts-coded b [] = refl
  starts-coded b (x ∷ l) = rw (same x, starts-coded (t x) l)

  last-coded : (x : ℕ) (l : List ℕ) → s (last_or (f x) (map f l)) ≡ t (last_or x l)
  unfolding last_or
  last-coded x [] = same x
  last-coded x (y ∷ l) = last-coded y l

  pub runs-coded : (l : List ℕ) → length (runs s (map f l)) ≡ length (runs t l)
  unfolding runs
  runs-coded [] = refl
  runs-coded (x ∷ l) = rw (all_coded (x ∷ l)) (go (all t (x ∷ l)))
    where
      go : (b : Bool) → length (cond b (map f (x ∷ l) ∷ []) (runs_from s (s (last_or (f x) (map f l))) (map f (x ∷ l)) (map f (x ∷ l))))
          ≡ length (cond b ((x ∷ l) ∷ []) (runs_from t (t (last_or x l)) (x ∷ l) (x ∷ l)))
      go true = refl
      go false = rw (length-runs_from s, length-runs_from t, last-coded x l) (starts-coded (t (last_or x l)) (x ∷ l))

-- a pit has no member below and a peak none above, and no other ring has their marks
module _ (s : ℕ → Bool) (x : ℕ) (l : List ℕ) where
  abbrev mark_of : ℕ
  mark_of = mark_for (not (all s (x ∷ l))) (any s (x ∷ l)) (length (runs s (x ∷ l)))

  pub mark-two : mark_of ≡ 2 ↔ any s (x ∷ l) ≡ false
  unfolding mark_for all any
  mark-two = (to, from)
    where
      go : (a b : Bool) (k : ℕ) → cond (not (not a)) 1 (cond (not b) 2 (cond (eqb k 1) 0 (k + 1))) ≡ 2 → b ≡ false
      go true b k h = absurd (omega arith)
      go false false k h = refl
      go false true k h =
          either (eqb k 1) (λ (e : eqb k 1 ≡ true). absurd (nothing (rw e at h))) (λ (e : eqb k 1 ≡ false). absurd (eqb-false k 1 e (more (rw e at h))))
        where
          nothing : ◌≡◌ {A = ℕ} 0 2 → ⊥
          nothing e = omega arith

          more : k + 1 ≡ 2 → k ≡ 1
          more e = omega arith

      to : mark_of ≡ 2 → any s (x ∷ l) ≡ false
      to h = go (all s (x ∷ l)) (any s (x ∷ l)) (length (runs s (x ∷ l))) h

      from : any s (x ∷ l) ≡ false → mark_of ≡ 2
      from h = rw (h, or_left (s x) (any s l) h)

  pub mark-one : mark_of ≡ 1 ↔ all s (x ∷ l) ≡ true
  unfolding mark_for circle
  mark-one = (to, from)
    where
      go : (a b : Bool) → all s (x ∷ l) ≡ a → any s (x ∷ l) ≡ b
          → cond (not (not a)) 1 (cond (not b) 2 (cond (eqb (length (runs s (x ∷ l))) 1) 0 (length (runs s (x ∷ l)) + 1))) ≡ 1 → a ≡ true
      go true b e f h = refl
      go false false e f h = absurd (omega arith)
      go false true e f h =
          let k = length (runs s (x ∷ l)) in
          either (eqb k 1) (λ (i : eqb k 1 ≡ true). absurd (nothing (rw i at h)))
          (λ (i : eqb k 1 ≡ false). absurd (circle-positive s x l e f (sym (length_runs s x l e) ∙ less k (rw i at h))))
        where
          nothing : ◌≡◌ {A = ℕ} 0 1 → ⊥
          nothing e = omega arith

          less : (k : ℕ) → k + 1 ≡ 1 → k ≡ 0
          less k e = omega arith

      to : mark_of ≡ 1 → all s (x ∷ l) ≡ true
      to h = go (all s (x ∷ l)) (any s (x ∷ l)) refl refl h

      from : all s (x ∷ l) ≡ true → mark_of ≡ 1
      from h = rw h

  -- the lower runs are told by the mark
  pub runs-for : length (runs s (x ∷ l)) ≡ runs_for mark_of
  unfolding runs_for mark_for circle
  runs-for = go (all s (x ∷ l)) (any s (x ∷ l)) refl refl
    where
      go : (a b : Bool) → all s (x ∷ l) ≡ a → any s (x ∷ l) ≡ b
          → length (runs s (x ∷ l)) ≡ runs_for (mark_for (not a) b (length (runs s (x ∷ l))))
      go true b e f = one-run s x l e
      go false false e f = length_runs s x l e ∙ none-starts s (s (last_or x l)) (x ∷ l) f
      go false true e f = runs_for-both _ (λ z. circle-positive s x l e f (sym (length_runs s x l e) ∙ z))

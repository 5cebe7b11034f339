-- Changes of side round a circle: how many there can be, and as a sum over the members that follow each other. They settle a mark.
use Prim.Native.Nat.{ℕ, ◌+◌, ◌/◌, ◌%◌, ◌≤◌}
use native.Mathlib.Omega.{arith}
use mathlib.Core.Path.{◌≡◌, refl, ◌∙◌, ap}
use mathlib.Core.Bool.{Bool, true, false, not, ◌&&◌}
use mathlib.Core.List.{List, [], ◌∷◌}
use lib.ListN.{length}
use Rattle.surface.specs.Lists.{any, all, last_or, one}
use Rattle.surface.specs.Edges.{runs}
use Rattle.surface.specs.Marks.{mark_for}
use Rattle.surface.specs.Flags.{mark_by}
use Rattle.surface.specs.Patterns.{changes, changes_from}
use Rattle.surface.proofs.General.Circles.{sum_from, round}
use Rattle.surface.proofs.AnyOrder.Runs.{changes-starts, mark_for-circle}

-- a change of side
abbrev pub turn : Bool → Bool → ℕ
turn a b = one (b && not a) + one (a && not b)

-- there are no more changes than members
changes_from-le : {A : Type 0} (s : A → Bool) (b : Bool) (l : List A) → changes_from s b l ≤ length l
unfolding changes_from
changes_from-le s b [] = omega arith
changes_from-le s b (x ∷ l) = go (s x) b (changes_from-le s (s x) l)
  where
    go : (a b : Bool) → changes_from s a l ≤ length l → turn b a + changes_from s a l ≤ length (x ∷ l)
    go true true h = omega arith
    go true false h = omega arith
    go false true h = omega arith
    go false false h = omega arith

pub changes-le : {A : Type 0} (s : A → Bool) (l : List A) → changes s l ≤ length l
unfolding changes
changes-le s [] = omega arith
changes-le s (x ∷ l) = changes_from-le s _ (x ∷ l)

module _ (s : ℕ → Bool) where
  pub changes-even : (l : List ℕ) → changes s l % 2 ≡ 0
  unfolding changes
  changes-even [] = refl
  changes-even (x ∷ l) = omega (arith, changes-starts s x l)

  changes_from-sum : (q : ℕ) (l : List ℕ) → changes_from s (s q) l ≡ sum_from (λ a b. turn (s a) (s b)) q l
  unfolding changes_from sum_from
  changes_from-sum q [] = refl
  changes_from-sum q (x ∷ l) = rw (changes_from-sum x l)

  pub changes-round : (l : List ℕ) → changes s l ≡ round (λ a b. turn (s a) (s b)) l
  unfolding changes round
  changes-round [] = refl
  changes-round (x ∷ l) = changes_from-sum (last_or x l) (x ∷ l)

  -- the mark of a ring, by the side of its first member and its changes of side
  pub mark_for-changes : (x : ℕ) (l : List ℕ) → mark_for (not (all s (x ∷ l))) (any s (x ∷ l)) (length (runs s (x ∷ l))) ≡ mark_by (s x) (changes s (x ∷ l) / 2)
  mark_for-changes x l = mark_for-circle s x l ∙ ap (mark_by (s x)) (omega (arith, changes-starts s x l))

-- A pattern tells where the upper runs of its ring start: a place that carries the sign before it starts none.
use Prim.Native.Nat.{ℕ, ◌+◌}
use mathlib.Core.Path.{◌≡◌, refl, sym, ◌∙◌, ap, ap₂}
use mathlib.Core.Bool.{Bool, true, false, cond, not, ◌&&◌, ◌||◌}
use mathlib.Core.List.{List, [], ◌∷◌, ◌++◌, map}
use lib.ListN.{length}
use Rattle.surface.specs.Lists.{keep, any, last_or}
use Rattle.surface.specs.Edges.{Place, place, members, places, ring}
use Rattle.surface.specs.Patterns.{carried, pattern_of, turns_from, upper_starts}
use Rattle.surface.proofs.General.Bools.{either, or_left}
use Rattle.surface.proofs.AnyOrder.Runs.{last_side-last_or}
use Rattle.surface.proofs.AnyOrder.Signs.{last_side-members}
use Rattle.surface.proofs.AnyOrder.Patterns.{signs-pattern}
use Rattle.surface.proofs.AnyOrder.RunStarts.{turns_up, starts_of}

-- f tells by their places, which are counted from i on, what g tells of the members above
abbrev pub Told : (f g : ℕ → ℕ) → (ℕ → Bool) → ℕ → List Place → Type 0
Told f g low i [] = Unit {0}
Told f g low i (y ∷ l) = (y.taken ≡ true → low y.member ≡ false → f i ≡ g y.member) × Told f g low (i + 1) l

module _ (f g : ℕ → ℕ) (low : ℕ → Bool) where
  turns-members : (i : ℕ) (x : Bool) (l : List Place) → Told f g low i l → map f (turns_from i x (carried low x l)) ≡ map g (turns_up low x (members l))
  unfolding turns_from carried turns_up members
  turns-members i x [] t = refl
  turns-members i x (y ∷ l) t =
      go y.taken x y.member t.0 (turns-members (i + 1) (cond y.taken (low y.member) x) l t.1)
    where
      kept : (x b : Bool) (q : ℕ) (r s : List ℕ) → (b ≡ false → f i ≡ g q) → map f r ≡ map g s → map f (keep (x && not b) i ++ r) ≡ map g (keep (x && not b) q ++ s)
      kept true false q r s h e = ap₂ ◌∷◌ (h refl) e
      kept true true q r s h e = e
      kept false b q r s h e = e

      go : (b x : Bool) (q : ℕ) → (b ≡ true → low q ≡ false → f i ≡ g q) → let y = cond b (low q) x in
          map f (turns_from (i + 1) y (carried low y l)) ≡ map g (turns_up low y (members l))
          → map f (keep (x && not y) i ++ turns_from (i + 1) y (carried low y l)) ≡ map g (turns_up low x (keep b q ++ members l))
      go true x q h e = kept x (low q) q _ _ (h refl) e
      go false true q h e = e
      go false false q h e = e

  -- some sign is true exactly where some member is below; what is carried from a false sign changes nothing
  any-carried : (l : List Place) → any (λ x. x) (carried low false l) ≡ any low (members l)
  unfolding any carried members
  any-carried [] = refl
  any-carried (y ∷ l) = go y.taken y.member (any-carried l)
    where
      go : (b : Bool) (q : ℕ) → any (λ x. x) (carried low false l) ≡ any low (members l) → let g = cond b (low q) false in
          g || any (λ x. x) (carried low g l) ≡ any low (keep b q ++ members l)
      go true q e = either (low q) (λ h. rw h) (λ h. rw h e)
      go false q e = e

  -- from a place that is there on
  carried-starts : (x : Bool) (q : ℕ) (l : List Place) → Told f g low 0 (place true q ∷ l) → let s = carried low x (place true q ∷ l) in
      map f (cond (any (λ x. x) s) (turns_from 0 (last_or true s) s) (0 ∷ [])) ≡ map g (starts_of low (q ∷ members l))
  unfolding starts_of carried last_or any
  carried-starts x q l t =
      let some : low q || any (λ x. x) (carried low (low q) l) ≡ low q || any low (members l) = either (low q) (λ h. rw h) (λ h. rw h (any-carried l)) in
      let last : last_or (low q) (carried low (low q) l) ≡ low (last_or q (members l)) =
      sym (last_side-members low (low q) l) ∙ last_side-last_or low q (members l) in
      rw (some, last)
      (either (low q || any low (members l))
      (λ h. rw h (turning (low (last_or q (members l)))))
      (λ h. rw h (ap (λ (y : ℕ). y ∷ []) (t.0 refl (or_left (low q) _ h)))))
    where
      turning : (b : Bool) → map f (turns_from 0 b (low q ∷ carried low (low q) l)) ≡ map g (turns_up low b (q ∷ members l))
      turning b = unfold members in turns-members 0 b (place true q ∷ l) t

-- what f tells of the starts by their places, g tells of the ring's starts
pub pattern-starts : (rows columns : ℕ) (falls : ℕ → Bool) (f g : ℕ → ℕ) (low : ℕ → Bool) (p : ℕ) → Told f g low 0 (places rows columns falls p)
    → map f (upper_starts (pattern_of (carried low true (places rows columns falls p)))) ≡ map g (starts_of low (ring rows columns falls p))
unfolding upper_starts ring places members
pattern-starts rows columns falls f g low p t =
    rw (signs-pattern (carried low true (places rows columns falls p)) 8 eight) (carried-starts f g low true _ _ t)
  where
    eight : length (carried low true (places rows columns falls p)) ≡ 8
    eight = unfold carried places in refl

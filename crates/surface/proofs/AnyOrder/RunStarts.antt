-- Where the upper runs of a ring start: at the members that are above the post while the one before is below it. From every upper member a way leads through
-- upper members to such a start.
use Prim.Native.Nat.{ℕ}
use mathlib.Core.Path.{◌≡◌, refl, sym, ◌∙◌, ap}
use mathlib.Core.Logic.{◌⊎◌, ⊎_elim, inl, inr}
use mathlib.Core.Bool.{Bool, true, false, cond, not, ◌&&◌, ◌||◌, true≢false}
use mathlib.Core.List.{List, [], ◌∷◌, ◌++◌, Memᴰ}
use borrow.Author.Tests.{not-true}
use Rattle.surface.specs.Lists.{keep, any, last_or}
use Rattle.surface.specs.Ways.{Way, here, step}
use Rattle.surface.proofs.General.Bools.{either, or_left, or_right, and_right}
use Rattle.surface.proofs.AnyOrder.RingTouch.{Chain}
use Rattle.surface.proofs.AnyOrder.Ways.{way-join}
use Rattle.surface.proofs.AnyOrder.Agreement.{last-member}

-- the members of a list at which it turns from below to above; `before` tells of what stands before it
unfoldable pub turns_up : (ℕ → Bool) → Bool → List ℕ → List ℕ
turns_up low before [] = []
turns_up low before (x ∷ l) = keep (before && not (low x)) x ++ turns_up low (low x) l

-- the starts of the upper runs of a ring; one that is all above is one run, which starts at its first member
unfoldable pub starts_of : (ℕ → Bool) → List ℕ → List ℕ
starts_of low [] = []
starts_of low (x ∷ l) = cond (any low (x ∷ l)) (turns_up low (low (last_or x l)) (x ∷ l)) (x ∷ [])

keep-member : (b : Bool) (x q : ℕ) → Memᴰ q (keep b x) → (b ≡ true) × (q ≡ x)
keep-member true x q m = (refl, mathlib.Core.List.Memᴰ.eq_of_singleton m)
keep-member false x q m = absurd (mathlib.Core.List.Memᴰ.not-nil m)

module _ (low : ℕ → Bool) where
  turns_up-member : (b : Bool) (l : List ℕ) (q : ℕ) → Memᴰ q (turns_up low b l) → Memᴰ q l × (low q ≡ false)
  unfolding turns_up
  turns_up-member b [] q m = absurd (mathlib.Core.List.Memᴰ.not-nil m)
  turns_up-member b (x ∷ l) q m =
      ⊎_elim
      (λ (k : Memᴰ q (keep (b && not (low x)) x)).
      let i = keep-member (b && not (low x)) x q k in (mathlib.Core.List.Memᴰ.head i.1, ap low i.1 ∙ not-true (low x) (and_right b (not (low x)) i.0)))
      (λ (k : Memᴰ q (turns_up low (low x) l)). let i = turns_up-member (low x) l q k in (mathlib.Core.List.Memᴰ.tail i.0, i.1))
      (mathlib.Core.List.Memᴰ.append_cases (keep (b && not (low x)) x) m)

  any_none : (l : List ℕ) → any low l ≡ false → (q : ℕ) → Memᴰ q l → low q ≡ false
  unfolding any
  any_none [] h q m = absurd (mathlib.Core.List.Memᴰ.not-nil m)
  any_none (x ∷ l) h q m =
      ⊎_elim (λ (e : q ≡ x). ap low e ∙ or_left (low x) (any low l) h) (λ (k : Memᴰ q l). any_none l (or_right (low x) (any low l) h) q k)
      (mathlib.Core.List.Memᴰ.cases_cons m)

  -- starts are members above
  pub starts-member : (l : List ℕ) (q : ℕ) → Memᴰ q (starts_of low l) → Memᴰ q l × (low q ≡ false)
  unfolding starts_of
  starts-member [] q m = absurd (mathlib.Core.List.Memᴰ.not-nil m)
  starts-member (x ∷ l) q m =
      either (any low (x ∷ l)) (λ e. turns_up-member (low (last_or x l)) (x ∷ l) q (rw e at m))
      (λ e.
      let i : q ≡ x = mathlib.Core.List.Memᴰ.eq_of_singleton (rw e at m) in
      let k : Memᴰ q (x ∷ l) = mathlib.Core.List.Memᴰ.head i in
      (k, any_none (x ∷ l) e q k))

  -- Ways along R, which has no direction, through what is above.
  module _ (R : ℕ → ℕ → Type 0) (back : (p q : ℕ) → R p q → R q p) (Above : ℕ → Type 0) where
    -- a start to which a way leads from q
    abbrev Led : List ℕ → ℕ → Type 0
    Led starts q = (m : ℕ) × (Memᴰ m starts × Way R Above q m)

    -- of a list after y: every member above leads to a start, or, where y is above, to y
    module _ (y : ℕ) (x : ℕ) (l : List ℕ) (r : R y x) (up : low x ≡ false → Above x) (up_y : low y ≡ false → Above y) where
      -- x itself
      first : low x ≡ false → Led (turns_up low (low y) (x ∷ l)) x ⊎ ((low y ≡ false) × Way R Above x y)
      unfolding turns_up
      first e =
          either (low y) (λ h. inl (x, (rw (h, e) (mathlib.Core.List.Memᴰ.head refl), here (up e))))
          (λ h. inr (h, step (up e) (back y x r) (here (up_y h))))

      -- what leads to x, or to a later start
      further : (q : ℕ) → Led (turns_up low (low x) l) q ⊎ ((low x ≡ false) × Way R Above q x)
          → Led (turns_up low (low y) (x ∷ l)) q ⊎ ((low y ≡ false) × Way R Above q y)
      unfolding turns_up
      further q (inl k) = inl (k.0, (mathlib.Core.List.Memᴰ.append_right (keep (low y && not (low x)) x) k.1.0, k.1.1))
      further q (inr k) =
          ⊎_elim (λ (f : Led (turns_up low (low y) (x ∷ l)) x). inl (f.0, (f.1.0, way-join k.1 f.1.1)))
          (λ (f : (low y ≡ false) × Way R Above x y). inr (f.0, way-join k.1 f.1))
          (first k.0)

    chain-led : (y : ℕ) (l : List ℕ) → Chain R y l → ((q : ℕ) → Memᴰ q l → low q ≡ false → Above q) → (low y ≡ false → Above y)
        → (q : ℕ) → Memᴰ q l → low q ≡ false → Led (turns_up low (low y) l) q ⊎ ((low y ≡ false) × Way R Above q y)
    chain-led y [] c up up_y q m e = absurd (mathlib.Core.List.Memᴰ.not-nil m)
    chain-led y (x ∷ l) c up up_y q m e =
        ⊎_elim
        (λ (i : q ≡ x). rw i (first y x l c.0 (up x (mathlib.Core.List.Memᴰ.head refl)) up_y (sym (ap low i) ∙ e)))
        (λ (k : Memᴰ q l).
        further y x l c.0 (up x (mathlib.Core.List.Memᴰ.head refl)) up_y q (chain-led x l c.1 (λ v n. up v (mathlib.Core.List.Memᴰ.tail n)) (up x (mathlib.Core.List.Memᴰ.head refl)) q k e))
        (mathlib.Core.List.Memᴰ.cases_cons m)

    -- the last member, where it is above and something before it is below
    last-led : (y x : ℕ) (l : List ℕ) → Chain R y (x ∷ l) → ((q : ℕ) → Memᴰ q (x ∷ l) → low q ≡ false → Above q) → (low y ≡ false → Above y)
        → low (last_or x l) ≡ false → low y || any low (x ∷ l) ≡ true → Led (turns_up low (low y) (x ∷ l)) (last_or x l)
    unfolding any last_or turns_up
    last-led y x [] c up up_y e some =
        ⊎_elim (λ (k : Led (turns_up low (low y) (x ∷ [])) x). k)
        (λ (k : (low y ≡ false) × Way R Above x y). absurd (true≢false (sym some ∙ rw (k.0, e) refl)))
        (first y x [] c.0 (up x (mathlib.Core.List.Memᴰ.head refl)) up_y e)
    last-led y x (x' ∷ l) c up up_y e some =
        either (low x || any low (x' ∷ l))
        (λ t.
        let k = last-led x x' l c.1 (λ q m. up q (mathlib.Core.List.Memᴰ.tail m)) (up x (mathlib.Core.List.Memᴰ.head refl)) e t in
        (k.0, (mathlib.Core.List.Memᴰ.append_right (keep (low y && not (low x)) x) k.1.0, k.1.1)))
        (λ t.
        ⊎_elim (λ (k : Led (turns_up low (low y) (x ∷ x' ∷ l)) (last_or x' l)). k)
        (λ (k : (low y ≡ false) × Way R Above (last_or x' l) y). absurd (true≢false (sym some ∙ rw (k.0, t) refl)))
        (chain-led y (x ∷ x' ∷ l) c up up_y (last_or x' l) (last-member x (x' ∷ l)) e))

    -- in a circle that is all above nothing turns
    turns_up-none : (l : List ℕ) → any low l ≡ false → turns_up low false l ≡ []
    unfolding any turns_up
    turns_up-none [] h = refl
    turns_up-none (x ∷ l) h = rw (or_left (low x) (any low l) h) (turns_up-none l (or_right (low x) (any low l) h))

    -- round a ring a way leads from every member above to a start
    pub ring-led : (x : ℕ) (l : List ℕ) → Chain R (last_or x l) (x ∷ l) → ((q : ℕ) → Memᴰ q (x ∷ l) → low q ≡ false → Above q)
        → (q : ℕ) → Memᴰ q (x ∷ l) → low q ≡ false → Led (starts_of low (x ∷ l)) q
    unfolding starts_of
    ring-led x l c up q m e =
        let y = last_or x l in
        let up_y : low y ≡ false → Above y = up y (last-member x l) in
        either (any low (x ∷ l))
        (λ t.
        rw t
        (⊎_elim (λ (k : Led (turns_up low (low y) (x ∷ l)) q). k)
        (λ (k : (low y ≡ false) × Way R Above q y).
        let f = last-led y x l c up up_y k.0 (rw (k.0, t) refl) in (f.0, (f.1.0, way-join k.1 f.1.1)))
        (chain-led y (x ∷ l) c up up_y q m e)))
        (λ t.
        let low_y : low y ≡ false = any_none (x ∷ l) t y (last-member x l) in
        let low_x : low x ≡ false = any_none (x ∷ l) t x (mathlib.Core.List.Memᴰ.head refl) in
        rw t
        (⊎_elim (λ (k : Led (turns_up low (low y) (x ∷ l)) q). absurd (mathlib.Core.List.Memᴰ.not-nil (rw (ap (λ (b : Bool). turns_up low b (x ∷ l)) low_y ∙ turns_up-none (x ∷ l) t) at k.1.0)))
        (λ (k : (low y ≡ false) × Way R Above q y). (x, (mathlib.Core.List.Memᴰ.head refl, way-join k.1 (step (up_y low_y) c.0 (here (up x (mathlib.Core.List.Memᴰ.head refl) low_x))))))
        (chain-led y (x ∷ l) c up up_y q m e)))

-- The lowest member of a list is a member, and no member is below it.
use Prim.Native.Nat.{ℕ}
use mathlib.Core.Path.{◌≡◌, refl, sym, ◌∙◌, ap}
use mathlib.Core.Logic.{⊎_elim}
use mathlib.Core.Bool.{Bool, true, false, cond, not, true≢false}
use mathlib.Core.List.Memᴰ
use mathlib.Core.List.{List, [], ◌∷◌, Memᴰ}
use native.Mathlib.Decide.{ℕ_discrete}
use Rattle.surface.specs.Edges.{lowest, lowest_or}
use Rattle.surface.proofs.General.Bools.{either}
use Rattle.surface.proofs.General.Order.{StrictTotal}

module _ (lower : ℕ → ℕ → Bool) where
  lowest_or-member : (x : ℕ) (l : List ℕ) → Memᴰ (lowest_or lower x l) (x ∷ l)
  unfolding lowest_or
  lowest_or-member x [] = Memᴰ.head refl
  lowest_or-member x (y ∷ l) = go (lower y x) (lowest_or-member (cond (lower y x) y x) l)
    where
      go : (b : Bool) → Memᴰ (lowest_or lower (cond b y x) l) (cond b y x ∷ l) → Memᴰ (lowest_or lower (cond b y x) l) (x ∷ y ∷ l)
      go true m = Memᴰ.tail m
      go false m =
          ⊎_elim (λ (e : lowest_or lower x l ≡ x). Memᴰ.head e) (λ (k : Memᴰ (lowest_or lower x l) l). Memᴰ.tail (Memᴰ.tail k))
          (Memᴰ.cases_cons m)

  pub lowest-member : (q : ℕ) (l : List ℕ) → Memᴰ q l → Memᴰ (lowest lower l) l
  unfolding lowest
  lowest-member q [] m = absurd (Memᴰ.not-nil m)
  lowest-member q (x ∷ l) m = lowest_or-member x l

  module _ (o : StrictTotal lower) where
    -- what is not below x is not below what x is not below
    not-below-trans : (q x r : ℕ) → lower q x ≡ false → lower x r ≡ false → lower q r ≡ false
    not-below-trans q x r h k = either (lower q r) (λ e. absurd (go e (ℕ_discrete x r))) (λ e. e)
      where
        go : lower q r ≡ true → Dec (x ≡ r) → ⊥
        go e (yes i) = true≢false (sym e ∙ ap (λ (z : ℕ). lower q z) (sym i) ∙ h)
        go e (no i) = true≢false (sym (o.trans q r x e (o.other x r i ∙ ap not k)) ∙ h)

    -- nor is what is above x
    above-not-below : (q x r : ℕ) → lower x q ≡ true → lower x r ≡ false → lower q r ≡ false
    above-not-below q x r h k = either (lower q r) (λ e. absurd (true≢false (sym (o.trans x q r h e) ∙ k))) (λ e. e)

    lowest_or-least : (x : ℕ) (l : List ℕ) (q : ℕ) → Memᴰ q (x ∷ l) → lower q (lowest_or lower x l) ≡ false
    unfolding lowest_or
    lowest_or-least x [] q m =
        ⊎_elim (λ (e : q ≡ x). ap (λ (z : ℕ). lower z x) e ∙ o.irrefl x) (λ (k : Memᴰ q []). absurd (Memᴰ.not-nil k))
        (Memᴰ.cases_cons m)
    lowest_or-least x (y ∷ l) q m = go (lower y x) refl (lowest_or-least (cond (lower y x) y x) l)
      where
        go : (b : Bool) → lower y x ≡ b → ((q : ℕ) → Memᴰ q (cond b y x ∷ l) → lower q (lowest_or lower (cond b y x) l) ≡ false)
            → lower q (lowest_or lower (cond b y x) l) ≡ false
        go true e ih =
            ⊎_elim (λ (i : q ≡ x). rw i (above-not-below x y _ e (ih y (Memᴰ.head refl)))) (λ (k : Memᴰ q (y ∷ l)). ih q k)
            (Memᴰ.cases_cons m)
        go false e ih =
            ⊎_elim (λ (i : q ≡ x). ih q (Memᴰ.head i))
            (λ (k : Memᴰ q (y ∷ l)).
            ⊎_elim (λ (i : q ≡ y). rw i (not-below-trans y x _ e (ih x (Memᴰ.head refl)))) (λ (j : Memᴰ q l). ih q (Memᴰ.tail j))
            (Memᴰ.cases_cons k))
            (Memᴰ.cases_cons m)

    pub lowest-least : (l : List ℕ) (q : ℕ) → Memᴰ q l → lower q (lowest lower l) ≡ false
    unfolding lowest
    lowest-least [] q m = absurd (Memᴰ.not-nil m)
    lowest-least (x ∷ l) q m = lowest_or-least x l q m

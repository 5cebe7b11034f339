-- The ring of a post taken apart: its eight places, and which vertex is a member by which of them.
use Prim.Native.Nat.{ℕ, ◌+◌, ◌-◌, ◌≤◌}
use native.Mathlib.Omega.{arith}
use mathlib.Core.Path.{◌≡◌, refl}
use mathlib.Core.Bool.{Bool, true, false, cond, not, ◌&&◌, ◌||◌, false≢true, or-true}
use mathlib.Core.List.Memᴰ
use mathlib.Core.List.{List, [], ◌∷◌, Memᴰ}
use mathlib.Core.Logic.{◌↔◌, ◌⊎◌, inl, inr, ⊎_elim}
use lib.ListN.{length, length-append}
use borrow.Author.Tests.{not-true}
use Rattle.surface.specs.Lists.{keep}
use Rattle.surface.specs.Plot.{virtual_pit}
use Rattle.surface.specs.Edges.{Place, members, top, bottom, left, right, is_border, places, ring}

-- q stands at one of the places
abbrev pub Among : ℕ → List Place → Type 0
Among q [] = ⊥
Among q (s ∷ l) = ((s.taken ≡ true) × (q ≡ s.member)) ⊎ Among q l

keep_one : {q : ℕ} (b : Bool) (x : ℕ) → Memᴰ q (keep b x) → (b ≡ true) × (q ≡ x)
keep_one true x m = (refl, Memᴰ.eq_of_singleton m)
keep_one false x m = absurd (Memᴰ.not-nil m)

one-keep : {q : ℕ} (b : Bool) (x : ℕ) → b ≡ true → q ≡ x → Memᴰ q (keep b x)
one-keep true x b e = Memᴰ.head e
one-keep false x b e = absurd (false≢true b)

pub members-among : {q : ℕ} (l : List Place) → Memᴰ q (members l) → Among q l
unfolding members
members-among [] m = Memᴰ.not-nil m
members-among (s ∷ l) m =
    ⊎_elim (λ h. inl (keep_one s.taken s.member h)) (λ h. inr (members-among l h))
    (Memᴰ.append_cases (keep s.taken s.member) m)

pub among-members : {q : ℕ} (l : List Place) → Among q l → Memᴰ q (members l)
unfolding members
among-members [] h = absurd h
among-members (s ∷ l) (inl h) = Memᴰ.append_left (members l) (one-keep s.taken s.member h.0 h.1)
among-members (s ∷ l) (inr h) = Memᴰ.append_right (keep s.taken s.member) (among-members l h)

-- there are no more members than places
members-short : (l : List Place) → length (members l) ≤ length l
unfolding members
members-short [] = omega arith
members-short (s ∷ l) = rw (length-append) (go s.taken (members-short l))
  where
    go : (b : Bool) → length (members l) ≤ length l → length (keep b s.member) + length (members l) ≤ length (s ∷ l)
    go true h = omega arith
    go false h = omega arith

-- what a taken diagonal place says
pub diagonal : (a b d : Bool) → (not a && (not b && d)) ≡ true → (a ≡ false) × (b ≡ false) × (d ≡ true)
diagonal true b d h = absurd (false≢true h)
diagonal false true d h = absurd (false≢true h)
diagonal false false d h = (refl, refl, h)

module _ (rows columns : ℕ) (falls : ℕ → Bool) where
  -- The ways to be a member of p's ring. The virtual pit has one, wherever it stands.
  pub data Stands (p q : ℕ) : Type 0 where
    at_n : top columns p ≡ false → q ≡ p - columns → Stands p q
    at_ne : top columns p ≡ false → right columns p ≡ false → falls (p - columns) ≡ false → q ≡ p - columns + 1 → Stands p q
    at_e : right columns p ≡ false → q ≡ p + 1 → Stands p q
    at_se : right columns p ≡ false → bottom rows columns p ≡ false → falls p ≡ true → q ≡ p + columns + 1 → Stands p q
    at_s : bottom rows columns p ≡ false → q ≡ p + columns → Stands p q
    at_sw : bottom rows columns p ≡ false → left columns p ≡ false → falls (p - 1) ≡ false → q ≡ p + columns - 1 → Stands p q
    at_w : left columns p ≡ false → q ≡ p - 1 → Stands p q
    at_nw : left columns p ≡ false → top columns p ≡ false → falls (p - columns - 1) ≡ true → q ≡ p - columns - 1 → Stands p q
    at_pit : is_border rows columns p ≡ true → q ≡ virtual_pit → Stands p q

  pit-among : (p q : ℕ) (t l b f : Bool) → top columns p ≡ t → right columns p ≡ l → bottom rows columns p ≡ b → left columns p ≡ f → (t || (l || (b || f))) ≡ true → q ≡ virtual_pit → Among q (places rows columns falls p)
  unfolding places
  pit-among p q true l b f et el eb ef h e = inl (refl, cc)
  pit-among p q false true b f et el eb ef h e = inr (inr (inl (cc, cc)))
  pit-among p q false false true f et el eb ef h e = inr (inr (inr (inr (inl (cc, cc)))))
  pit-among p q false false false true et el eb ef h e = inr (inr (inr (inr (inr (inr (inl (cc, cc)))))))
  pit-among p q false false false false et el eb ef h e = absurd (false≢true h)

  place-among : (p q : ℕ) → Stands p q → Among q (places rows columns falls p)
  unfolding places
  place-among p q (at_n t e) = inl (refl, cc)
  place-among p q (at_ne t l d e) = inr (inl (cc, e))
  place-among p q (at_e l e) = inr (inr (inl (cc, cc)))
  place-among p q (at_se l b d e) = inr (inr (inr (inl (cc, e))))
  place-among p q (at_s b e) = inr (inr (inr (inr (inl (cc, cc)))))
  place-among p q (at_sw b f d e) = inr (inr (inr (inr (inr (inl (cc, e))))))
  place-among p q (at_w f e) = inr (inr (inr (inr (inr (inr (inl (cc, cc)))))))
  place-among p q (at_nw f t d e) = inr (inr (inr (inr (inr (inr (inr (inl (cc, e))))))))
  place-among p q (at_pit b e) = pit-among p q _ _ _ _ refl refl refl refl b e

  -- a place that the virtual pit takes on a border
  side : {p q : ℕ} (b : Bool) {y : ℕ} → q ≡ cond b virtual_pit y → (b ≡ false → q ≡ y → Stands p q) → (b ≡ true → is_border rows columns p ≡ true) → Stands p q
  side true e post border = at_pit (border refl) e
  side false e post border = post refl e

  among-place : (p q : ℕ) → Among q (places rows columns falls p) → Stands p q
  unfolding places
  among-place p q (inl h) = side (top columns p) h.1 at_n (λ t. cc)
  among-place p q (inr (inl h)) = let k = diagonal (top columns p) _ _ h.0 in at_ne k.0 k.1 (not-true _ k.2) h.1
  among-place p q (inr (inr (inl h))) = side (right columns p) h.1 at_e (λ l. cc (or-true (top columns p)))
  among-place p q (inr (inr (inr (inl h)))) = let k = diagonal (right columns p) _ _ h.0 in at_se k.0 k.1 k.2 h.1
  among-place p q (inr (inr (inr (inr (inl h))))) =
      side (bottom rows columns p) h.1 at_s (λ b. cc (or-true (top columns p), or-true (right columns p)))
  among-place p q (inr (inr (inr (inr (inr (inl h)))))) =
      let k = diagonal (bottom rows columns p) _ _ h.0 in at_sw k.0 k.1 (not-true _ k.2) h.1
  among-place p q (inr (inr (inr (inr (inr (inr (inl h))))))) =
      side (left columns p) h.1 at_w
      (λ f. cc (or-true (top columns p), or-true (right columns p), or-true (bottom rows columns p)))
  among-place p q (inr (inr (inr (inr (inr (inr (inr (inl h)))))))) =
      let k = diagonal (left columns p) _ _ h.0 in at_nw k.0 k.1 k.2 h.1
  among-place p q (inr (inr (inr (inr (inr (inr (inr (inr h)))))))) = absurd h

  -- the members of a ring, place by place
  pub ring-place : (p q : ℕ) → Memᴰ q (ring rows columns falls p) ↔ Stands p q
  unfolding ring
  ring-place p q = (λ m. among-place p q (members-among (places rows columns falls p) m), λ h. among-members (places rows columns falls p) (place-among p q h))

  -- a ring has at most eight members
  pub ring-short : (p : ℕ) → length (ring rows columns falls p) ≤ 8
  unfolding ring places
  ring-short p = members-short (places rows columns falls p)

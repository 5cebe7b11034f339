-- A sheet's entries, from one to the next.
use Prim.Native.Nat.{ℕ, zero, suc, ◌+◌, ◌≤◌, ◌<◌}
use native.Mathlib.Omega.{arith}
use mathlib.Core.Path.{◌≡◌, refl, sym, ap}
use mathlib.Core.List.{List, [], ◌∷◌}
use borrow.Author.Tests.{ltb-true, ltb-false}
use lib.Dec.{ltb}
use lib.ListN.{length, get_or, take, drop, length-drop, drop_of_length-le, get_or-eq_default}
use lib.Seq.{drop-cons, drop-drop, get_or-drop, length-take-le, take_all}
use Rattle.surface.specs.Lists.{total}
use Rattle.surface.specs.Settings.{Entry, entries_in, extent}
use Rattle.surface.proofs.General.Bools.{either}
use Rattle.settings.specs.Walk.{entries_from, Whole}

-- as many as there are bytes are all
enough : (n : ℕ) (l : List ℕ) → length l ≤ n → entries_in (suc n) l ≡ entries_in n l
unfolding entries_in
enough zero [] h = refl
enough zero (x ∷ l) h = absurd (omega arith)
enough (suc n) [] h = refl
enough (suc n) (x ∷ l) h = rw (enough n (drop (1 + get_or l 0 0) l) (rw (length-drop (1 + get_or l 0 0) l) (omega arith)))

module _ (s : List ℕ) (at : ℕ) where
  abbrev pub size_at : ℕ
  size_at = get_or s (at + 1) 0

  abbrev pub next_at : ℕ
  next_at = at + 2 + size_at

  abbrev pub value_at : List ℕ
  value_at = take size_at (drop (at + 2) s)

  abbrev pub entry_at : Entry
  entry_at = record { kind = get_or s at 0; size = size_at; value = value_at }

pub entry-at : (s : List ℕ) (at : ℕ) → at < length s → entries_from s at ≡ entry_at s at ∷ entries_from s (next_at s at)
unfolding entries_in
entry-at [] at h = absurd (omega arith)
entry-at (x ∷ s) at h =
    let skip : (k m : ℕ) → m ≡ suc (at + k) → drop k (drop at s) ≡ drop m (x ∷ s) = λ k m e. rw e (drop-drop k at s) in
    let one : at + 1 ≡ suc (at + 0) = omega arith in
    let size : get_or (drop at s) 0 0 ≡ size_at (x ∷ s) at = rw one (get_or-drop at s 0 0) in
    let next = next_at (x ∷ s) at in
    rw (drop-cons (x ∷ s) at 0 h, size, skip 1 (at + 2) (omega arith), skip (1 + size_at (x ∷ s) at) next (omega arith))
    (ap (λ (l : List Entry). entry_at (x ∷ s) at ∷ l) (sym (enough (length s) (drop next (x ∷ s)) (rw (length-drop next (x ∷ s)) (omega arith)))))

module _ (s : List ℕ) (at : ℕ) where
  -- what is not 0 stands before the end
  pub inside : (get_or s at 0 ≡ 0 → ⊥) → at < length s
  inside k = either (ltb at (length s)) (ltb-true at (length s)) (λ f. absurd (k (get_or-eq_default s 0 (ltb-false at (length s) f))))

  pub none-at : length s ≤ at → entries_from s at ≡ []
  unfolding entries_in
  none-at h = rw drop_of_length-le (none (length s))
    where
      none : (n : ℕ) → entries_in n [] ≡ []
      none zero = refl
      none (suc n) = refl

  pub extent-end : length s ≤ at → extent (entries_from s at) ≡ 0
  unfolding extent total
  extent-end h = rw (none-at h)

  -- the value of the last entry
  pub value-last : next_at s at ≡ length s → value_at s at ≡ drop (at + 2) s
  value-last e = take_all (size_at s at) (drop (at + 2) s) (rw (length-drop (at + 2) s) (omega arith))

  -- what holds of no entry, and of an entry and any after it
  pub by_first : (P : List Entry → Type 0) → P [] → ((l : List Entry) → P (entry_at s at ∷ l)) → P (entries_from s at)
  by_first P none some =
      either (ltb at (length s)) (λ t. rw (entry-at s at (ltb-true at (length s) t)) (some _)) (λ f. rw (none-at (ltb-false at (length s) f)) none)

  module _ (h : at < length s) where
    pub extent-at : extent (entries_from s at) ≡ 2 + size_at s at + extent (entries_from s (next_at s at))
    unfolding extent total
    extent-at = rw (entry-at s at h)

    module _ (w : Whole s at) where
      pub next-in : next_at s at ≤ length s
      next-in = omega (arith, w h, extent-at)

      pub whole-next : Whole s (next_at s at)
      whole-next _ = omega (arith, w h, extent-at)

      pub value-size : length (value_at s at) ≡ size_at s at
      value-size = length-take-le (size_at s at) (drop (at + 2) s) (rw (length-drop (at + 2) s) (omega (arith, next-in)))

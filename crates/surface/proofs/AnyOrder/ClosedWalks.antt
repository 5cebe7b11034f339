-- A closed walk in which no two colours follow each other exactly once changes colour twice, or more often, for each colour but one. For where a colour comes
-- for the first time the walk changes colour, and where it goes for the last time too. No change does both: those two colours would not follow each other
-- before it, nor after.
use Prim.Native.Nat.{ℕ, ◌+◌, ◌*◌, ◌≤◌}
use native.Mathlib.Omega.{arith}
use mathlib.Core.Path.{◌≡◌, refl, sym, ◌∙◌, ap}
use mathlib.Core.Bool.{Bool, true, false, not, true≢false, or-true, and-false}
use mathlib.Core.List.{List, [], ◌∷◌}
use lib.Dec.{eqb}
use borrow.Author.Tests.{eqb-true, eqb-false, eq-eqb, ne_eqb}
use Rattle.surface.specs.Lists.{any, last_or, one}
use Rattle.surface.specs.Bodies.{classes}
use Rattle.surface.specs.Names.{alike}
use Rattle.surface.proofs.General.Bools.{either, or_left, or_right}
use Rattle.surface.proofs.General.Circles.{meet, sum_from, round}
use Rattle.surface.proofs.AnyOrder.Walks.{member-any}
use Rattle.surface.proofs.AnyOrder.Classes.{classes-le}

-- a list turned round, put before another
unfoldable onto : List ℕ → List ℕ → List ℕ
onto [] s = s
onto (x ∷ l) s = onto l (x ∷ s)

module _ (colour : ℕ → ℕ) where
  abbrev met : ℕ → ℕ → ℕ → ℕ → ℕ
  met a b q r = meet a b (colour q) (colour r)

  abbrev pub differ : ℕ → ℕ → ℕ
  differ q r = one (not (eqb (colour q) (colour r)))

  abbrev has : ℕ → List ℕ → Bool
  has a l = any (λ q. eqb (colour q) a) l

  has-onto : (a : ℕ) (l s : List ℕ) → has a s ≡ true → has a (onto l s) ≡ true
  unfolding onto any
  has-onto a [] s h = h
  has-onto a (x ∷ l) s h = has-onto a l (x ∷ s) (rw h (or-true (eqb (colour x) a)))

  onto_has : (a : ℕ) (l s : List ℕ) → has a l ≡ true → has a (onto l s) ≡ true
  unfolding onto any
  onto_has a [] s h = absurd (true≢false (sym h))
  onto_has a (x ∷ l) s h = either (eqb (colour x) a) (λ e. has-onto a l (x ∷ s) (rw e)) (λ e. onto_has a l (x ∷ s) (rw e at h))

  -- a colour that does not come is not followed by any
  none-met : (a b x : ℕ) (l : List ℕ) → has a (x ∷ l) ≡ false → sum_from (met a b) x l ≡ 0
  unfolding sum_from any
  none-met a b x [] h = refl
  none-met a b x (y ∷ l) h =
      let i = or_right (eqb (colour x) a) _ h in
      rw (or_left (eqb (colour x) a) _ h, or_left (eqb (colour y) a) _ i) (omega (arith, none-met a b y l i))

  -- Along a walk from prev, after a walk through the members of s, in which f tells how often colours followed each other.
  record After (s : List ℕ) (f : ℕ → ℕ → ℕ) (prev : ℕ) (l : List ℕ) : Type 0 where
    there : has (colour prev) s ≡ true
    unmet : (a b : ℕ) → has b s ≡ false → f a b ≡ 0
    not_once : (a b : ℕ) → (a ≡ b → ⊥) → f a b + sum_from (met a b) prev l ≡ 1 → ⊥

  module _ {s : List ℕ} {f : ℕ → ℕ → ℕ} {prev x : ℕ} {l : List ℕ} (c : After s f prev (x ∷ l)) where
    after : After (x ∷ s) (λ a b. f a b + met a b prev x) x l
    unfolding any sum_from
    after =
        record {
          there = rw (eq-eqb (colour x) (colour x) refl);
          unmet = λ a b h.
              let i = or_right (eqb (colour x) b) _ h in
              let other : eqb (colour prev) b ≡ false = ne_eqb (colour prev) b (λ e. true≢false (sym c.there ∙ ap (λ (y : ℕ). has y s) e ∙ i)) in
              rw (or_left (eqb (colour x) b) _ h, other, and-false (eqb (colour prev) a), and-false (eqb (colour x) a)) (omega (arith, c.unmet a b i));
          not_once = λ a b h e. c.not_once a b h (omega arith);
        }

    -- no change both leaves a colour for the last time and meets one for the first time
    first-or-last : one (not (has (colour prev) (x ∷ l))) + one (not (has (colour x) s)) ≤ differ prev x
    unfolding any sum_from
    first-or-last = either (eqb (colour prev) (colour x)) same other
      where
        same : eqb (colour prev) (colour x) ≡ true → one (not (has (colour prev) (x ∷ l))) + one (not (has (colour x) s)) ≤ differ prev x
        same e = rw (← (eqb-true (colour prev) (colour x) e), eq-eqb (colour prev) (colour prev) refl, c.there) (omega arith)

        other : eqb (colour prev) (colour x) ≡ false → one (not (has (colour prev) (x ∷ l))) + one (not (has (colour x) s)) ≤ differ prev x
        other e =
            rw e
            (either (has (colour prev) (x ∷ l)) (λ i. rw i (either (has (colour x) s) (λ j. rw j (omega arith)) (λ j. rw j (omega arith))))
            (λ i. rw i (either (has (colour x) s) (λ j. rw j (omega arith)) (λ j. absurd (once i j)))))
          where
            once : has (colour prev) (x ∷ l) ≡ false → has (colour x) s ≡ false → ⊥
            once i j =
                c.not_once (colour prev) (colour x) (eqb-false (colour prev) (colour x) e)
                (rw (e, eq-eqb (colour prev) (colour prev) refl, eq-eqb (colour x) (colour x) refl, and-false (eqb (colour x) (colour prev))) (omega (arith, c.unmet (colour prev) (colour x) j, none-met (colour prev) (colour x) x l i)))

  walk : (s : List ℕ) (f : ℕ → ℕ → ℕ) (prev : ℕ) (l : List ℕ) → After s f prev l
      → classes (alike colour) (prev ∷ l) + classes (alike colour) (onto l s) ≤ sum_from differ prev l + 1 + classes (alike colour) s
  unfolding classes onto sum_from any
  walk s f prev [] c = omega arith
  walk s f prev (x ∷ l) c = omega (arith, walk (x ∷ s) _ x l (after c), first-or-last c)

  pub closed-walk : (l : List ℕ) → ((a b : ℕ) → (a ≡ b → ⊥) → round (met a b) l ≡ 1 → ⊥) → 2 * classes (alike colour) l ≤ round differ l + 2
  unfolding classes round any
  closed-walk [] h = omega arith
  closed-walk (x ∷ l) h =
      omega (
        arith,
        walk (last ∷ []) (λ _ _. 0) last (x ∷ l) start,
        classes-le colour (x ∷ l) (onto (x ∷ l) (last ∷ []))
            (λ q m. onto_has (colour q) (x ∷ l) (last ∷ []) (member-any (λ y. eqb (colour y) (colour q)) (x ∷ l) q m (eq-eqb (colour q) (colour q) refl))),
      )
    where
      last : ℕ
      last = last_or x l

      start : After (last ∷ []) (λ _ _. 0) last (x ∷ l)
      start = record { there = rw (eq-eqb (colour last) (colour last) refl); unmet = λ a b _. refl; not_once = λ a b i e. h a b i (omega arith) }

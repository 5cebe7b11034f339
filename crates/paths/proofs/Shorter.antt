-- Paths that come to an end, and what shortening them keeps.
use Prim.Native.Nat.{ℕ, zero, suc, ◌+◌, ◌≤◌, ◌<◌}
use native.Mathlib.Omega.{arith}
use mathlib.Core.Path.{◌≡◌, refl, sym, ◌∙◌, ap}
use mathlib.Core.Logic.{◌⊎◌, ⊎_elim}
use mathlib.Core.Bool.{Bool, true, false, cond}
use mathlib.Core.List.{List, [], ◌∷◌}
use native.Mathlib.Decide.{ℕ_discrete}
use lib.Dec.{eqb, ltb}
use lib.ListN.{length, get_or, set, length-set, get_or-eq_default}
use lib.Seq.{get_or-set_same, get_or-set_other}
use borrow.Author.Tests.{eq-eqb, ne_eqb, ltb-true, ltb-false}
use Rattle.surface.proofs.General.Bools.{either}
use Rattle.paths.specs.Paths.{follow, along, path_end, PathsEnd, Shorter, Settled}

-- what an entry is does not depend on what would stand for a missing one
pub entry : {A : Type 0} (l : List A) (i : ℕ) (d e : A) → i < length l → get_or l i d ≡ get_or l i e
entry [] i d e h = absurd (omega arith)
entry (x ∷ l) zero d e h = refl
entry (x ∷ l) (suc i) d e h = entry l i d e (omega arith)

module _ (l : List ℕ) where
  pub outside : (p : ℕ) → length l ≤ p → follow l p ≡ p
  outside p h = get_or-eq_default l p h

  pub along-stays : (k p : ℕ) → follow l p ≡ p → along l k p ≡ p
  unfolding along
  along-stays zero p h = refl
  along-stays (suc k) p h = rw h (along-stays k p h)

  -- what is not the end of its path goes on, so it has an entry
  pub goes_on : (p : ℕ) → (p ≡ path_end l p → ⊥) → follow l p ≡ p → ⊥
  goes_on p h k = h (sym (along-stays (length l) p k))

  pub has-entry : (p : ℕ) → (p ≡ path_end l p → ⊥) → p < length l
  has-entry p h = either (ltb p (length l)) (ltb-true p (length l)) (λ b. absurd (goes_on p h (outside p (ltb-false p (length l) b))))

  along-add : (j k p : ℕ) → along l k (along l j p) ≡ along l (j + k) p
  unfolding along
  along-add zero k p = let e : zero + k ≡ k = omega arith in rw e
  along-add (suc j) k p = let e : suc j + k ≡ suc (j + k) = omega arith in rw e (along-add j k (follow l p))

  -- the post that p's entry names, or p where it names none, has what two steps lead to as its entry
  pub two_steps : (p : ℕ) → p < length l → (b : Bool) → ltb (get_or l p 0) (length l) ≡ b
      → (cond b (get_or l p 0) p < length l) × (follow l (cond b (get_or l p 0) p) ≡ along l 2 p)
  unfolding along
  two_steps p h true k = (ltb-true (get_or l p 0) (length l) k, ap (follow l) (entry l p 0 p h))
  two_steps p h false k = (h, sym (outside (follow l p) (omega (arith, ltb-false (get_or l p 0) (length l) k, entry l p 0 p h))))

  -- how many steps lead from p to an end, n at most; where n are enough, more find no more
  unfoldable pub steps : ℕ → ℕ → ℕ
  steps zero p = 0
  steps (suc n) p = cond (eqb (follow l p) p) 0 (suc (steps n (follow l p)))

  steps-enough : (n p : ℕ) → follow l (along l n p) ≡ along l n p → steps n p ≡ cond (eqb (follow l p) p) 0 (suc (steps n (follow l p)))
  unfolding along steps
  steps-enough zero p h = rw (eq-eqb (follow l p) p h)
  steps-enough (suc n) p h = rw (← (steps-enough n (follow l p) h))

-- how many steps lead from p to the end of its path
abbrev pub steps_left : List ℕ → ℕ → ℕ
steps_left l p = steps l (length l) p

module _ {l : List ℕ} (ends : PathsEnd l) where
  -- a step leads nearer to the same end
  nearer : (p : ℕ) → (follow l p ≡ p → ⊥) → steps_left l p ≡ suc (steps_left l (follow l p))
  nearer p h = rw (ne_eqb (follow l p) p h) at (steps-enough l (length l) p (ends.stays p))

  no-farther : (k p : ℕ) → steps_left l (along l k p) ≤ steps_left l p
  unfolding along
  no-farther zero p = omega arith
  no-farther (suc k) p = go (ℕ_discrete (follow l p) p) (no-farther k (follow l p))
    where
      go : Dec (follow l p ≡ p) → steps_left l (along l k (follow l p)) ≤ steps_left l (follow l p) → steps_left l (along l k (follow l p)) ≤ steps_left l p
      go (yes e) h = omega (arith, ap (steps_left l) e)
      go (no e) h = omega (arith, nearer p e)

  along-nearer : (k p : ℕ) → (follow l p ≡ p → ⊥) → steps_left l (along l (suc k) p) < steps_left l p
  unfolding along
  along-nearer k p h = omega (arith, no-farther k (follow l p), nearer p h)

  past_end : (k p : ℕ) → along l (length l + k) p ≡ path_end l p
  past_end k p = sym (along-add l (length l) k p) ∙ along-stays l k (path_end l p) (ends.stays p)

  pub same_end : (k p : ℕ) → path_end l (along l k p) ≡ path_end l p
  same_end k p = let e : k + length l ≡ length l + k = omega arith in along-add l k (length l) p ∙ rw e (past_end k p)

  -- where a further step does not move, the steps have led to the end
  pub end-along : (k p : ℕ) → follow l (along l k p) ≡ along l k p → path_end l p ≡ along l k p
  end-along k p h = sym (same_end k p) ∙ along-stays l (length l) (along l k p) h

  -- shorter paths end where the paths did: as many steps lead at least as far
  module _ {l' : List ℕ} (s : Shorter l l') where
    at_least : (m p : ℕ) → (k : ℕ) × (along l' m p ≡ along l (m + k) p)
    unfolding along
    at_least zero p = (0, refl)
    at_least (suc m) p =
        let a = s.further p in
        let b = at_least m (follow l' p) in
        let e : suc a.0 + (m + b.0) ≡ suc m + (a.0 + b.0) = omega arith in
        (a.0 + b.0, b.1 ∙ ap (along l (m + b.0)) a.1 ∙ along-add l (suc a.0) (m + b.0) p ∙ ap (λ (n : ℕ). along l n p) e)

    pub shorter-end : (p : ℕ) → path_end l' p ≡ path_end l p
    shorter-end p = let b = at_least (length l) p in rw s.size (b.1 ∙ past_end b.0 p)

    -- an end's entry is the end, and an entry that is its path's end stays
    pub shorter-told : (p : ℕ) → follow l p ≡ path_end l p → follow l' p ≡ path_end l p
    unfolding along
    shorter-told p h = let a = s.further p in a.1 ∙ ap (along l a.0) h ∙ along-stays l a.0 (path_end l p) (ends.stays p)

    pub shorter-ends : PathsEnd l'
    shorter-ends =
        record {
          stays = λ p. let a = s.further (path_end l p) in rw (shorter-end p) (a.1 ∙ along-stays l (suc a.0) (path_end l p) (ends.stays p));
        }

pub shorter-none : (l : List ℕ) → Shorter l l
unfolding along
shorter-none l = record { size = refl; further = λ p. (0, refl) }

-- posts settled: none yet, one, those of two such steps, and some of those
pub settled-none : {l : List ℕ} → PathsEnd l → Settled l l (λ _. ⊥)
settled-none e = record { size = refl; ends = e; same = λ p. refl; keeps = λ p h. h; told = λ p h. absurd h }

pub settled-one : {l l' : List ℕ} → PathsEnd l → Shorter l l' → (p : ℕ) → follow l' p ≡ path_end l p → Settled l l' (λ q. q ≡ p)
settled-one e s p h =
    record { size = s.size; ends = shorter-ends e s; same = shorter-end e s; keeps = shorter-told e s; told = λ q i. rw i h }

pub settled-then : {l l' l'' : List ℕ} {D E F : ℕ → Type 0} → Settled l l' D → Settled l' l'' E → ((p : ℕ) → F p → D p ⊎ E p) → Settled l l'' F
settled-then {l} {l'} {l''} {D} {E} s t f =
    record {
      size = t.size ∙ s.size;
      ends = t.ends;
      same = λ p. t.same p ∙ s.same p;
      keeps = λ p h. on p (s.keeps p h);
      told = λ p h. ⊎_elim (λ (d : D p). on p (s.told p d)) (λ (e : E p). t.told p e ∙ s.same p) (f p h);
    }
  where
    on : (p : ℕ) → follow l' p ≡ path_end l p → follow l'' p ≡ path_end l p
    on p h = t.keeps p (h ∙ sym (s.same p)) ∙ s.same p

pub settled-of : {l l' : List ℕ} {D F : ℕ → Type 0} → Settled l l' D → ((p : ℕ) → F p → D p) → Settled l l' F
settled-of s f = record { size = s.size; ends = s.ends; same = s.same; keeps = s.keeps; told = λ p h. s.told p (f p h) }

-- what a walk reads and stores in a list of shorter paths, at a post e
module _ {l l' : List ℕ} (s : Shorter l l') (e : ℕ) where
  read : e < length l → get_or l' e 0 ≡ along l (suc (s.further e).0) e
  read h = entry l' e 0 e (omega (arith, s.size)) ∙ (s.further e).1

  pub read-end : PathsEnd l → e < length l → path_end l (get_or l' e 0) ≡ path_end l e
  read-end ends h = ap (path_end l) (read h) ∙ same_end ends (suc (s.further e).0) e

  pub read-nearer : PathsEnd l → e < length l → (follow l e ≡ e → ⊥) → steps_left l (get_or l' e 0) < steps_left l e
  read-nearer ends h m = omega (arith, ap (steps_left l) (read h), along-nearer ends (s.further e).0 e m)

  -- a store of the end
  pub store-end : PathsEnd l → e < length l → (x : ℕ) → path_end l e ≡ x → Shorter l (set l' e x)
  unfolding along
  store-end ends h x v = record { size = length-set l' e x ∙ s.size; further = λ q. go q (ℕ_discrete q e) }
    where
      go : (q : ℕ) → Dec (q ≡ e) → (k : ℕ) × (follow (set l' e x) q ≡ along l (suc k) q)
      go q (yes i) = (length l, rw i (get_or-set_same l' e x e (omega (arith, s.size)) ∙ sym v ∙ sym (same_end ends 1 e)))
      go q (no i) = let a = s.further q in (a.0, get_or-set_other l' e q x q i ∙ a.1)

-- an entry stays x where every store is of x
pub stored : (l : List ℕ) (e p x : ℕ) → e < length l → (e ≡ p) ⊎ (follow l p ≡ x) → follow (set l e x) p ≡ x
stored l e p x h o = go (ℕ_discrete p e)
  where
    go : Dec (p ≡ e) → follow (set l e x) p ≡ x
    go (yes i) = rw i (get_or-set_same l e x e h)
    go (no i) = get_or-set_other l e p x p i ∙ ⊎_elim (λ (k : e ≡ p). absurd (i (sym k))) (λ (k : follow l p ≡ x). k) o

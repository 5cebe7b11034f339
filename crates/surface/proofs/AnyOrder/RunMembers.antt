-- The members of a run are members of its ring and pass its test, and a run has a member.
use Prim.Native.Nat.{ℕ, zero, suc, ◌<◌}
use native.Mathlib.Omega.{arith}
use mathlib.Core.Path.{◌≡◌, refl, ◌∙◌, ap}
use mathlib.Core.Logic.{⊎_elim}
use mathlib.Core.Bool.{Bool, true, false, cond, not, ◌&&◌}
use mathlib.Core.List.Memᴰ
use mathlib.Core.List.{List, [], ◌∷◌, ◌++◌, Memᴰ}
use lib.ListN.{length, get_or}
use Rattle.surface.specs.Lists.{keep, all, take_while, last_or}
use Rattle.surface.specs.Edges.{runs, runs_from}
use Rattle.surface.proofs.General.Bools.{and_left, and_right}

-- r is a list of members of l that pass the test, and not empty
pub record Run (s : ℕ → Bool) (l r : List ℕ) : Type 0 where
  pub member : (q : ℕ) → Memᴰ q r → Memᴰ q l × (s q ≡ true)
  pub some : ℕ
  pub there : Memᴰ some r

module _ (s : ℕ → Bool) where
  take_while-member : (l : List ℕ) (q : ℕ) → Memᴰ q (take_while s l) → Memᴰ q l × (s q ≡ true)
  unfolding take_while
  take_while-member [] q m = absurd (Memᴰ.not-nil m)
  take_while-member (x ∷ l) q m = go (s x) refl (take_while-member l q) m
    where
      go : (b : Bool) → s x ≡ b → (Memᴰ q (take_while s l) → Memᴰ q l × (s q ≡ true)) → Memᴰ q (cond b (x ∷ take_while s l) [])
          → Memᴰ q (x ∷ l) × (s q ≡ true)
      go true e ih m =
          ⊎_elim (λ (h : q ≡ x). (Memᴰ.head h, ap s h ∙ e)) (λ (h : Memᴰ q (take_while s l)). (Memᴰ.tail (ih h).0, (ih h).1))
          (Memᴰ.cases_cons m)
      go false e ih m = absurd (Memᴰ.not-nil m)

  starts-here : (x : ℕ) (l : List ℕ) → s x ≡ true → Run s (x ∷ l) (take_while s (x ∷ l))
  unfolding take_while
  starts-here x l h = record { member = take_while-member (x ∷ l); some = x; there = rw h (Memᴰ.head refl) }

  runs_from-run : (b : Bool) (l c : List ℕ) (j : ℕ) → j < length (runs_from s b l c) → Run s (l ++ c) (get_or (runs_from s b l c) j [])
  unfolding runs_from
  runs_from-run b [] c j h = absurd (omega arith)
  runs_from-run b (x ∷ l) c j h = go (s x && not b) refl (runs_from-run (s x) l c) j h
    where
      later : {r : List ℕ} → Run s (l ++ c) r → Run s (x ∷ l ++ c) r
      later k = record { member = λ q m. (Memᴰ.tail (k.member q m).0, (k.member q m).1); some = k.some; there = k.there }

      go : (t : Bool) → s x && not b ≡ t → ((j : ℕ) → j < length (runs_from s (s x) l c) → Run s (l ++ c) (get_or (runs_from s (s x) l c) j []))
          → (j : ℕ)
          → j < length (keep t (take_while s (x ∷ l ++ c)) ++ runs_from s (s x) l c)
          → Run s (x ∷ l ++ c) (get_or (keep t (take_while s (x ∷ l ++ c)) ++ runs_from s (s x) l c) j [])
      go true e ih zero h = starts-here x (l ++ c) (and_left (s x) (not b) e)
      go true e ih (suc j) h = later (ih j (omega arith))
      go false e ih j h = later (ih j h)

  pub all-member : (l : List ℕ) → all s l ≡ true → (q : ℕ) → Memᴰ q l → s q ≡ true
  unfolding all
  all-member [] h q m = absurd (Memᴰ.not-nil m)
  all-member (x ∷ l) h q m =
      ⊎_elim (λ (e : q ≡ x). ap s e ∙ and_left (s x) (all s l) h) (λ (k : Memᴰ q l). all-member l (and_right (s x) (all s l) h) q k)
      (Memᴰ.cases_cons m)

  pub runs-run : (l : List ℕ) (j : ℕ) → j < length (runs s l) → Run s l (get_or (runs s l) j [])
  unfolding runs
  runs-run [] j h = absurd (omega arith)
  runs-run (x ∷ l) j h = go (all s (x ∷ l)) refl j h
    where
      whole : all s (x ∷ l) ≡ true → Run s (x ∷ l) (x ∷ l)
      whole e = record { member = λ q m. (m, all-member (x ∷ l) e q m); some = x; there = Memᴰ.head refl }

      once : {r : List ℕ} → Run s ((x ∷ l) ++ (x ∷ l)) r → Run s (x ∷ l) r
      once k =
          record {
            member = λ q m. (⊎_elim (λ (i : Memᴰ q (x ∷ l)). i) (λ (i : Memᴰ q (x ∷ l)). i) (Memᴰ.append_cases (x ∷ l) (k.member q m).0), (k.member q m).1);
            some = k.some;
            there = k.there;
          }

      go : (b : Bool) → all s (x ∷ l) ≡ b → (j : ℕ) → j < length (cond b ((x ∷ l) ∷ []) (runs_from s (s (last_or x l)) (x ∷ l) (x ∷ l)))
          → Run s (x ∷ l) (get_or (cond b ((x ∷ l) ∷ []) (runs_from s (s (last_or x l)) (x ∷ l) (x ∷ l))) j [])
      go true e zero h = whole e
      go true e (suc j) h = absurd (omega arith)
      go false e j h = once (runs_from-run (s (last_or x l)) (x ∷ l) (x ∷ l) j h)

-- How many classes a list has members of: it has some where it has members, and only the test between its own members matters. Representatives of them.
use Prim.Native.Nat.{ℕ, zero, suc, ◌+◌, ◌≤◌, ◌<◌}
use native.Mathlib.Omega.{arith}
use mathlib.Core.Path.{◌≡◌, refl, sym, ◌∙◌, ap, ap₂}
use mathlib.Core.Logic.{⊎_elim, ◌↔◌}
use mathlib.Core.Bool.{Bool, true, false, not, true≢false}
use mathlib.Core.List.{List, [], ◌∷◌, ◌++◌, Memᴰ}
use lib.Dec.{eqb}
use lib.ListN.{length, get_or}
use borrow.Author.Tests.{eqb-true, eqb-false, eq-eqb, ne_eqb}
use Rattle.surface.specs.Lists.{keep, filter, any, one}
use Rattle.surface.specs.Bodies.{classes}
use Rattle.surface.specs.Names.{alike}
use Rattle.surface.proofs.General.Bools.{either, same_test}
use Rattle.surface.proofs.General.ListOf.{get_or-member}
use Rattle.surface.proofs.AnyOrder.Walks.{filter-member, member_filter, filter-some, member-any}

-- one that passes a test
pub any_some : (s : ℕ → Bool) (l : List ℕ) → any s l ≡ true → (q : ℕ) × (Memᴰ q l × (s q ≡ true))
any_some s l h = let m = filter-some s l h in (m.0, filter-member s l m.0 m.1)

pub classes-ext : (s t : ℕ → ℕ → Bool) (l : List ℕ) → ((q x : ℕ) → Memᴰ q l → Memᴰ x l → s q x ≡ t q x) → classes s l ≡ classes t l
unfolding classes
classes-ext s t [] h = refl
classes-ext s t (x ∷ l) h =
    ap₂ ◌+◌ (ap (λ (b : Bool). one (not b)) (any-ext l (λ q m. h q x (mathlib.Core.List.Memᴰ.tail m) (mathlib.Core.List.Memᴰ.head refl))))
    (classes-ext s t l (λ q y m k. h q y (mathlib.Core.List.Memᴰ.tail m) (mathlib.Core.List.Memᴰ.tail k)))
  where
    any-ext : (k : List ℕ) → ((q : ℕ) → Memᴰ q k → s q x ≡ t q x) → any (λ q. s q x) k ≡ any (λ q. t q x) k
    any-ext k i =
        same_test _ _
        (λ e. let m = any_some (λ q. s q x) k e in member-any (λ q. t q x) k m.0 m.1.0 (sym (i m.0 m.1.0) ∙ m.1.1))
        (λ e. let m = any_some (λ q. t q x) k e in member-any (λ q. s q x) k m.0 m.1.0 (i m.0 m.1.0 ∙ m.1.1))

module _ (same : ℕ → ℕ → Bool) where
  pub classes-some : (l : List ℕ) (q : ℕ) → Memᴰ q l → 1 ≤ classes same l
  unfolding classes
  classes-some [] q m = absurd (mathlib.Core.List.Memᴰ.not-nil m)
  classes-some (x ∷ l) q m =
      either (any (λ y. same y x) l)
      (λ e. let k = any_some (λ y. same y x) l e in omega (arith, classes-some l k.0 k.1.0))
      (λ e. rw e (omega arith))

  -- what passes a test has no class exactly where nothing passes it
  pub classes-none : (s : ℕ → Bool) (l : List ℕ) → eqb (classes same (filter s l)) 0 ≡ not (any s l)
  unfolding classes
  classes-none s l =
      either (any s l)
      (λ e. let k = filter-some s l e in rw e (ne_eqb (classes same (filter s l)) 0 (omega (arith, classes-some (filter s l) k.0 k.1))))
      (λ e. rw (e, empty (filter s l) refl e) refl)
    where
      empty : (f : List ℕ) → filter s l ≡ f → any s l ≡ false → filter s l ≡ []
      empty [] e h = e
      empty (x ∷ f) e h =
          let m : Memᴰ x (filter s l) = rw e (mathlib.Core.List.Memᴰ.head refl) in
          let k = filter-member s l x m in
          absurd (true≢false (sym (member-any s l x k.0 k.1) ∙ h))

  pub classes-length : (l : List ℕ) → classes same l ≤ length l
  unfolding classes
  classes-length [] = omega arith
  classes-length (x ∷ l) = either (any (λ y. same y x) l) (λ e. rw e (omega (arith, classes-length l))) (λ e. rw e (omega (arith, classes-length l)))

  -- one of each class: the member that counts
  unfoldable pub representatives : List ℕ → List ℕ
  representatives [] = []
  representatives (x ∷ l) = keep (not (any (λ q. same q x) l)) x ++ representatives l

  pub representatives-length : (l : List ℕ) → length (representatives l) ≡ classes same l
  unfolding classes representatives
  representatives-length [] = refl
  representatives-length (x ∷ l) = either (any (λ q. same q x) l) (λ e. rw e (omega (arith, representatives-length l))) (λ e. rw e (omega (arith, representatives-length l)))

  pub representatives-member : (l : List ℕ) (q : ℕ) → Memᴰ q (representatives l) → Memᴰ q l
  unfolding representatives
  representatives-member [] q m = m
  representatives-member (x ∷ l) q m =
      either (any (λ y. same y x) l) (λ e. mathlib.Core.List.Memᴰ.tail (representatives-member l q (rw e at m)))
      (λ e.
      ⊎_elim (λ (i : q ≡ x). mathlib.Core.List.Memᴰ.head i) (λ (k : Memᴰ q (representatives l)). mathlib.Core.List.Memᴰ.tail (representatives-member l q k))
      (mathlib.Core.List.Memᴰ.cases_cons (rw e at m)))

  -- where the test between members is that of an equivalence
  module _ (R : ℕ → ℕ → Type 0) (back : (q r : ℕ) → R q r → R r q) (on : (q r x : ℕ) → R q r → R r x → R q x) where
    abbrev Tells : List ℕ → Type 0
    Tells l = (q r : ℕ) → Memᴰ q l → Memᴰ r l → same q r ≡ true ↔ R q r

    abbrev Apart : List ℕ → Type 0
    Apart l = (i j : ℕ) → i < j → j < length l → R (get_or l i 0) (get_or l j 0) → ⊥

    -- every member is related to one of them
    pub representatives-every : (l : List ℕ) → Tells l → ((q : ℕ) → Memᴰ q l → R q q) → (q : ℕ) → Memᴰ q l → (r : ℕ) × (Memᴰ r (representatives l) × R q r)
    unfolding representatives
    representatives-every [] t self q m = absurd (mathlib.Core.List.Memᴰ.not-nil m)
    representatives-every (x ∷ l) t self q m =
        let later = representatives-every l (λ y r i j. t y r (mathlib.Core.List.Memᴰ.tail i) (mathlib.Core.List.Memᴰ.tail j)) (λ y i. self y (mathlib.Core.List.Memᴰ.tail i)) in
        either (any (λ y. same y x) l)
        (λ e.
        let k = any_some (λ y. same y x) l e in
        let f = later k.0 k.1.0 in
        let g = (t k.0 x (mathlib.Core.List.Memᴰ.tail k.1.0) (mathlib.Core.List.Memᴰ.head refl)).0 k.1.1 in
        rw e
        (⊎_elim (λ (i : q ≡ x). (f.0, (f.1.0, on q k.0 f.0 (rw i (back k.0 x g)) f.1.1)))
        (λ (i : Memᴰ q l). later q i)
        (mathlib.Core.List.Memᴰ.cases_cons m)))
        (λ e.
        rw e
        (⊎_elim (λ (i : q ≡ x). (q, (mathlib.Core.List.Memᴰ.head i, self q m)))
        (λ (i : Memᴰ q l). let f = later q i in (f.0, (mathlib.Core.List.Memᴰ.tail f.1.0, f.1.1)))
        (mathlib.Core.List.Memᴰ.cases_cons m)))

    -- and no two of them are related
    pub representatives-apart : (l : List ℕ) → Tells l → Apart (representatives l)
    unfolding representatives
    representatives-apart [] t = λ i j a b r. absurd (omega arith)
    representatives-apart (x ∷ l) t =
        let later = representatives-apart l (λ y r i j. t y r (mathlib.Core.List.Memᴰ.tail i) (mathlib.Core.List.Memᴰ.tail j)) in
        either (any (λ y. same y x) l) (λ e. rw e later) (λ e. rw e (first e later))
      where
        first : any (λ y. same y x) l ≡ false → Apart (representatives l) → Apart (x ∷ representatives l)
        first e later i zero a b r = absurd (omega arith)
        first e later zero (suc j) a b r =
            let q = get_or (representatives l) j 0 in
            let m = representatives-member l q (get_or-member (representatives l) j 0 (omega arith)) in
            true≢false (sym (member-any (λ y. same y x) l q m ((t q x (mathlib.Core.List.Memᴰ.tail m) (mathlib.Core.List.Memᴰ.head refl)).1 (back x q r))) ∙ e)
        first e later (suc i) (suc j) a b r = later i j (omega arith) (omega arith) r

-- Classes by names.
module _ (name : ℕ → ℕ) where
  -- the members of other names than c
  abbrev others : ℕ → List ℕ → List ℕ
  others c = filter (λ q. not (eqb (name q) c))

  any-others : (c d : ℕ) → (d ≡ c → ⊥) → (l : List ℕ) → any (λ q. eqb (name q) d) (others c l) ≡ any (λ q. eqb (name q) d) l
  any-others c d h l =
      same_test _ _
      (λ e. let m = any_some _ (others c l) e in member-any _ l m.0 (filter-member _ l m.0 m.1.0).0 m.1.1)
      (λ e.
      let m = any_some _ l e in
      member-any _ (others c l) m.0
      (member_filter _ l m.0 m.1.0 (ap not (ne_eqb (name m.0) c (λ k. h (sym (eqb-true (name m.0) d m.1.1) ∙ k))))) m.1.1)

  -- without the members of one name there is a class less
  classes-others : (c : ℕ) (l : List ℕ) → classes (alike name) (others c l) + one (any (λ q. eqb (name q) c) l) ≡ classes (alike name) l
  unfolding classes filter any
  classes-others c [] = refl
  classes-others c (x ∷ l) =
      let ih = classes-others c l in
      either (eqb (name x) c)
      (λ e. rw (e, eqb-true (name x) c e) (either (any (λ q. eqb (name q) c) l) (λ t. rw t (omega (arith, rw t at ih))) (λ t. rw t (omega (arith, rw t at ih)))))
      (λ e. rw (e, any-others c (name x) (eqb-false (name x) c e) l) (omega (arith, ih)))

  -- a list has no more classes than one that has all its names
  pub classes-le : (l m : List ℕ) → ((q : ℕ) → Memᴰ q l → any (λ x. eqb (name x) (name q)) m ≡ true) → classes (alike name) l ≤ classes (alike name) m
  unfolding classes
  classes-le [] m h = omega arith
  classes-le (x ∷ l) m h =
      either (any (λ q. alike name q x) l)
      (λ e. rw e (omega (arith, classes-le l m (λ q k. h q (mathlib.Core.List.Memᴰ.tail k)))))
      (λ e.
      let less = classes-others (name x) m in
      let fewer = classes-le l (others (name x) m) (λ q k. any-others (name x) (name q) (new e q k) m ∙ h q (mathlib.Core.List.Memᴰ.tail k)) in
      rw e (omega (arith, fewer, rw (h x (mathlib.Core.List.Memᴰ.head refl)) at less)))
    where
      new : any (λ q. alike name q x) l ≡ false → (q : ℕ) → Memᴰ q l → name q ≡ name x → ⊥
      new e q k i = true≢false (sym (member-any (λ q. alike name q x) l q k (eq-eqb (name q) (name x) i)) ∙ e)

  -- where names tell which members pass a test, those that pass it and those that do not have no classes in common
  module _ (s : ℕ → Bool) (told : (q x : ℕ) → name q ≡ name x → s q ≡ s x) where
    kept : (s : ℕ → Bool) (x : ℕ) (l : List ℕ) → ((q : ℕ) → name q ≡ name x → s q ≡ true) → any (λ q. alike name q x) l ≡ true → any (λ q. alike name q x) (filter s l) ≡ true
    kept s x l tells e =
        let m = any_some (λ q. alike name q x) l e in
        member-any (λ q. alike name q x) (filter s l) m.0 (member_filter s l m.0 m.1.0 (tells m.0 (eqb-true _ _ m.1.1))) m.1.1

    fewer : (a b : Bool) → (b ≡ true → a ≡ true) → one (not a) ≤ one (not b)
    fewer true b h = omega arith
    fewer false true h = absurd (true≢false (sym (h refl)))
    fewer false false h = omega arith

    pub classes-sides : (l : List ℕ) → classes (alike name) (filter s l) + classes (alike name) (filter (λ q. not (s q)) l) ≤ classes (alike name) l
    unfolding classes filter
    classes-sides [] = omega arith
    classes-sides (x ∷ l) =
        either (s x)
        (λ e. rw e (omega (arith, classes-sides l, fewer _ _ (kept s x l (λ q i. told q x i ∙ e)))))
        (λ e. rw e (omega (arith, classes-sides l, fewer _ _ (kept (λ q. not (s q)) x l (λ q i. ap not (told q x i ∙ e))))))

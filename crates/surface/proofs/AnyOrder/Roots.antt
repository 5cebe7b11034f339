-- How many vertices are their own names: each body has one, so where bodies are joined under a vertex as many names go as there were bodies.
use Prim.Native.Nat.{ℕ, ◌+◌, ◌≤◌}
use native.Mathlib.Omega.{arith}
use native.Mathlib.Nat.{mul-one}
use mathlib.Core.Path.{◌≡◌, refl, sym, ◌∙◌, ap, ap₂}
use mathlib.Core.Logic.{inl, inr}
use mathlib.Core.Bool.{true, false}
use mathlib.Core.List.{List, [], ◌∷◌, Memᴰ}
use lib.Dec.{eqb}
use borrow.Author.Tests.{eqb-true, eqb-false, eq-eqb, ne_eqb}
use Rattle.surface.specs.Lists.{any, one}
use Rattle.surface.specs.Plot.{virtual_pit, Vertex}
use Rattle.surface.specs.Bodies.{classes}
use Rattle.surface.specs.Names.{merged}
use Rattle.surface.proofs.General.Bools.{either, same_test}
use Rattle.surface.proofs.General.Sum.{sum, sum-ext, sum-add, sum-zero, sum-const, sum-at}

pub eqb-sym : (a b : ℕ) → eqb a b ≡ eqb b a
eqb-sym a b = same_test (eqb a b) (eqb b a) (λ e. eq-eqb b a (sym (eqb-true a b e))) (λ e. eq-eqb a b (sym (eqb-true b a e)))

-- how many of n posts and the virtual pit are their own names
unfoldable pub roots : ℕ → (ℕ → ℕ) → ℕ
roots n name = sum n (λ v. one (eqb (name v) v)) + one (eqb (name virtual_pit) virtual_pit)

-- one more body with a name that was met before changes nothing
pub merged-known : (name : ℕ → ℕ) (r x : ℕ) (l : List ℕ) → any (λ q. eqb (name q) (name x)) l ≡ true → (v : ℕ) → merged name r (x ∷ l) v ≡ merged name r l v
unfolding merged any
merged-known name r x l h v =
    either (eqb (name x) (name v))
    (λ e. rw e (rw (sym (ap (λ (y : ℕ). any (λ q. eqb (name q) y) l) (eqb-true _ _ e)) ∙ h)))
    (λ e. rw e)

module _ (n : ℕ) (fits : n ≤ virtual_pit) where
  one-vertex : (r : ℕ) → Vertex n r → sum n (λ v. one (eqb v r)) + one (eqb virtual_pit r) ≡ 1
  one-vertex r (inl h) = rw (ne_eqb virtual_pit r (omega arith)) (omega (arith, sum-at n r 1 h))
  one-vertex r (inr e) =
      rw (eq-eqb virtual_pit r (sym e))
      (omega (arith, sum-zero n (λ v. one (eqb v r)) (λ v k. rw (ne_eqb v r (omega arith)))))

  roots-ext : (f g : ℕ → ℕ) → ((v : ℕ) → Vertex n v → f v ≡ g v) → roots n f ≡ roots n g
  unfolding roots
  roots-ext f g h =
      ap₂ ◌+◌ (sum-ext n _ _ (λ v k. ap (λ (x : ℕ). one (eqb x v)) (h v (inl k))))
      (ap (λ (x : ℕ). one (eqb x virtual_pit)) (h virtual_pit (inr refl)))

  -- where all have one name there is one
  pub roots-one : (name : ℕ → ℕ) (r : ℕ) → Vertex n r → ((v : ℕ) → Vertex n v → name v ≡ r) → roots n name ≡ 1
  unfolding roots
  roots-one name r i h =
      roots-ext name (λ _. r) h
      ∙ omega (arith, sum-ext n (λ v. one (eqb r v)) (λ v. one (eqb v r)) (λ v _. ap one (eqb-sym r v)), ap one (eqb-sym r virtual_pit), one-vertex r i)

  -- where all are their own names, all
  pub roots-all : roots n (λ v. v) ≡ n + 1
  unfolding roots
  roots-all =
      rw (eq-eqb virtual_pit virtual_pit refl)
      (omega (arith, sum-ext n (λ v. one (eqb v v)) (λ _. 1) (λ v _. rw (eq-eqb v v refl)), sum-const n 1, mul-one n))

  -- one name less
  roots_less : (f g : ℕ → ℕ) (r : ℕ) → Vertex n r → ((v : ℕ) → one (eqb (f v) v) ≡ one (eqb (g v) v) + one (eqb v r)) → roots n f ≡ roots n g + 1
  unfolding roots
  roots_less f g r i h =
      omega (
        arith,
        sum-ext n (λ v. one (eqb (f v) v)) (λ v. one (eqb (g v) v) + one (eqb v r)) (λ v _. h v),
        sum-add n (λ v. one (eqb (g v) v)) (λ v. one (eqb v r)),
        h virtual_pit,
        one-vertex r i,
      )

  module _ (name : ℕ → ℕ) (p : ℕ) (own : name p ≡ p) where
    -- what is asked of the names of the bodies that are joined
    abbrev Root : ℕ → Type 0
    Root q = Vertex n (name q) × (name q ≡ p → ⊥) × (name (name q) ≡ name q)

    -- the name of one more body that was not met goes
    gone : (x : ℕ) (l : List ℕ) → Root x → any (λ q. eqb (name q) (name x)) l ≡ false → (v : ℕ)
        → one (eqb (merged name p l v) v) ≡ one (eqb (merged name p (x ∷ l) v) v) + one (eqb v (name x))
    unfolding merged any
    gone x l r h v =
        either (eqb (name x) (name v))
        (λ e.
        let i = eqb-true _ _ e in
        let none : any (λ q. eqb (name q) (name v)) l ≡ false = sym (ap (λ (y : ℕ). any (λ q. eqb (name q) y) l) i) ∙ h in
        let other : eqb p v ≡ false = ne_eqb p v (λ k. r.1 (i ∙ ap name (sym k) ∙ own)) in
        rw (e, none, other, i) (omega (arith, ap one (eqb-sym (name v) v))))
        (λ e.
        let other : eqb v (name x) ≡ false = ne_eqb v (name x) (λ k. eqb-false _ _ e (sym (ap name k ∙ r.2))) in
        rw (e, other) (omega arith))

    pub merged-roots : (l : List ℕ) → ((q : ℕ) → Memᴰ q l → Root q)
        → roots n (merged name p l) + classes (λ q x. eqb (name q) (name x)) l ≡ roots n name
    unfolding classes
    merged-roots [] h = omega (arith, roots-ext (merged name p []) name none)
      where
        none : (v : ℕ) → Vertex n v → merged name p [] v ≡ name v
        none v _ = unfold merged any in refl
    merged-roots (x ∷ l) h =
        let ih = merged-roots l (λ q m. h q (Memᴰ.tail m)) in
        either (any (λ q. eqb (name q) (name x)) l)
        (λ e. rw e (omega (arith, ih, roots-ext (merged name p (x ∷ l)) (merged name p l) (λ v _. merged-known name p x l e v))))
        (λ e.
        let r = h x (Memᴰ.head refl) in
        rw e (omega (arith, ih, roots_less (merged name p l) (merged name p (x ∷ l)) (name x) r.0 (gone x l r e))))

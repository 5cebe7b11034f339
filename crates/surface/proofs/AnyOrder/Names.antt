-- Bodies of the vertices that come first, by their places, told by names: a name is a vertex of its body, and what one edge joins has one name. So vertices
-- have one name exactly where a way joins them. The next vertex joins the bodies of its earlier neighbours.
use Prim.Native.Nat.{ℕ, suc, ◌<◌}
use native.Mathlib.Omega.{arith}
use mathlib.Core.Path.{◌≡◌, refl, sym, ◌∙◌, ap, subst}
use mathlib.Core.Logic.{◌⊎◌, ⊎_elim, inl, inr}
use mathlib.Core.Bool.{true, cond}
use mathlib.Core.List.{List, Memᴰ}
use lib.Dec.{eqb, ltb}
use borrow.Author.Tests.{eqb-true, ltb-true, ltb-false}
use Rattle.surface.specs.Lists.{any}
use Rattle.surface.specs.Names.{merged}
use Rattle.surface.specs.Ways.{Way, here, step}
use Rattle.surface.proofs.General.Bools.{either}
use Rattle.surface.proofs.AnyOrder.Ways.{way-first, way-last, way-join, way_back, way-map}
use Rattle.surface.proofs.AnyOrder.Classes.{any_some}

-- the vertices before place k
abbrev pub Before : (ℕ → Type 0) → (ℕ → ℕ) → ℕ → ℕ → Type 0
Before inside place k v = inside v × (place v < k)

pub record Named (edge : ℕ → ℕ → Type 0) (inside : ℕ → Type 0) (place : ℕ → ℕ) (k : ℕ) (name : ℕ → ℕ) : Type 0 where
  pub way : (v : ℕ) → Before inside place k v → Way edge (Before inside place k) v (name v)
  pub same : (v w : ℕ) → edge v w → Before inside place k v → Before inside place k w → name v ≡ name w

module _ {edge : ℕ → ℕ → Type 0} {inside : ℕ → Type 0} {place : ℕ → ℕ} {k : ℕ} {name : ℕ → ℕ} (back : (p q : ℕ) → edge p q → edge q p) (d : Named edge inside place k name) where
  -- a way's ends have one name
  pub way_same : {v w : ℕ} → Way edge (Before inside place k) v w → name v ≡ name w
  way_same (here m) = refl
  way_same (step {p = p} {q = q} m e w) = d.same p q e m (way-first w) ∙ way_same w

  -- and what has one name is joined by a way
  pub same_way : (v w : ℕ) → Before inside place k v → Before inside place k w → name v ≡ name w → Way edge (Before inside place k) v w
  same_way v w i j e = way-join (subst (λ (x : ℕ). Way edge (Before inside place k) v x) e (d.way v i)) (way_back back (d.way w j))

  pub name-before : (v : ℕ) → Before inside place k v → Before inside place k (name v)
  name-before v i = way-last (d.way v i)

  -- The next vertex is p. Members of l are earlier neighbours of it, one at least of each body that has such. They and p are given the name of a vertex r to
  -- which a way leads from p.
  module _ (p : ℕ) (ip : inside p) (at : place p ≡ k) (only : (v : ℕ) → inside v → place v ≡ k → v ≡ p) (l : List ℕ) (r : ℕ)
      (earlier : (q : ℕ) → Memᴰ q l → edge p q × Before inside place k q)
      (met : (q : ℕ) → edge p q → Before inside place k q → any (λ m. eqb (name m) (name q)) l ≡ true)
      (own : merged name r l p ≡ r)
      (to : Way edge (Before inside place (suc k)) p r)
    where
      more : (v : ℕ) → Before inside place k v → Before inside place (suc k) v
      more v i = (i.0, omega (arith, i.1))

      was-or-is : (v : ℕ) → Before inside place (suc k) v → (place v < k) ⊎ (v ≡ p)
      was-or-is v i =
          either (ltb (place v) k) (λ e. inl (ltb-true (place v) k e)) (λ e. inr (only v i.0 (omega (arith, i.1, ltb-false (place v) k e))))

      merged-way : (v : ℕ) → Before inside place k v → Way edge (Before inside place (suc k)) v (merged name r l v)
      unfolding merged
      merged-way v i =
          either (any (λ q. eqb (name q) (name v)) l)
          (λ t.
          let m = any_some (λ q. eqb (name q) (name v)) l t in
          let q = m.0 in
          let j = earlier q m.1.0 in
          let w = same_way v q i j.1 (sym (eqb-true (name q) (name v) m.1.1)) in
          rw t (way-join (way-map more w) (step (more q j.1) (back p q j.0) to)))
          (λ t. rw t (way-map more (d.way v i)))

      beside : (v : ℕ) → edge p v → Before inside place k v → merged name r l p ≡ merged name r l v
      unfolding merged
      beside v e i = own ∙ rw (met v e i)

      pub named_more : Named edge inside place (suc k) (merged name r l)
      unfolding merged
      named_more = record { way = way'; same = same' }
        where
          way' : (v : ℕ) → Before inside place (suc k) v → Way edge (Before inside place (suc k)) v (merged name r l v)
          way' v i = ⊎_elim (λ (h : place v < k). merged-way v (i.0, h)) (λ (h : v ≡ p). rw h (rw own to)) (was-or-is v i)

          same' : (v w : ℕ) → edge v w → Before inside place (suc k) v → Before inside place (suc k) w → merged name r l v ≡ merged name r l w
          same' v w e i j = go (was-or-is v i) (was-or-is w j)
            where
              go : (place v < k) ⊎ (v ≡ p) → (place w < k) ⊎ (w ≡ p) → merged name r l v ≡ merged name r l w
              go (inl a) (inl b) = ap (λ (x : ℕ). cond (any (λ q. eqb (name q) x) l) r x) (d.same v w e (i.0, a) (j.0, b))
              go (inl a) (inr b) = sym (beside v (back v p (rw b at e)) (i.0, a)) ∙ ap (merged name r l) (sym b)
              go (inr a) (inl b) = ap (merged name r l) a ∙ beside w (rw a at e) (j.0, b)
              go (inr a) (inr b) = ap (merged name r l) (a ∙ sym b)

-- where no vertex is at place k, nothing changes
pub named_none : {edge : ℕ → ℕ → Type 0} {inside : ℕ → Type 0} {place : ℕ → ℕ} {k : ℕ} {name : ℕ → ℕ} → Named edge inside place k name
    → ((v : ℕ) → inside v → place v ≡ k → ⊥) → Named edge inside place (suc k) name
named_none {inside = inside} {place = place} {k = k} d off =
    record { way = λ v i. way-map more (d.way v (less v i)); same = λ v w e i j. d.same v w e (less v i) (less w j) }
  where
    more : (v : ℕ) → Before inside place k v → Before inside place (suc k) v
    more v i = (i.0, omega (arith, i.1))

    less : (v : ℕ) → Before inside place (suc k) v → Before inside place k v
    less v i = (i.0, omega (arith, i.1, off v i.0))

-- The computed test of ways: as many rounds as there are vertices reach exactly what ways through members lead to.
use Prim.Native.Nat.{ℕ, zero, suc, ◌+◌, ◌≤◌, ◌<◌}
use native.Mathlib.Omega.{arith}
use native.Mathlib.Nat.{mul-one}
use mathlib.Core.Path.{◌≡◌, refl, sym, subst}
use mathlib.Core.Logic.{◌⊎◌, ⊎_elim, inl, inr}
use mathlib.Core.Bool.{Bool, true, false, ◌&&◌, ◌||◌, or-true}
use mathlib.Core.List.{List, Memᴰ}
use lib.Dec.{eqb, ltb}
use borrow.Author.Tests.{eqb-true, eq-eqb, ltb-true, ltb-false}
use Rattle.surface.specs.Lists.{any, one}
use Rattle.surface.specs.Plot.{virtual_pit, Vertex}
use Rattle.surface.specs.Ways.{Way, here, step}
use Rattle.surface.proofs.General.Bools.{either, and_left, and_right}
use Rattle.surface.proofs.General.Sum.{sum, sum-le, sum_lt, sum-const}
use Rattle.surface.proofs.AnyOrder.Walks.{member-any}
use Rattle.surface.specs.Bodies.{reached}
use Rattle.surface.proofs.AnyOrder.Ways.{way-first}
use Rattle.surface.proofs.AnyOrder.Classes.{any_some}

or_cases : {A : Type 0} (a b : Bool) → a || b ≡ true → (a ≡ true → A) → (b ≡ true → A) → A
or_cases true b h f g = f refl
or_cases false b h f g = g h

one-le : (a b : Bool) → (a ≡ true → b ≡ true) → one a ≤ one b
one-le true b h = rw (h refl) (omega arith)
one-le false b h = omega arith

module _ (n : ℕ) (member : ℕ → Bool) (around : ℕ → List ℕ) (inside : (v q : ℕ) → Vertex n v → Memᴰ q (around v) → Vertex n q) (p : ℕ) (start : Vertex n p) where
  abbrev at : ℕ → ℕ → Bool
  at = reached member around p

  more : (k v : ℕ) → at k v ≡ true → at (suc k) v ≡ true
  unfolding reached
  more k v h = rw h

  next-to : (k v q : ℕ) → Memᴰ q (around v) → at k q ≡ true → member v ≡ true → at (suc k) v ≡ true
  unfolding reached
  next-to k v q m h i = rw (i, member-any (at k) (around v) q m h) (or-true (at k v))

  unfoldable size : ℕ → ℕ
  size k = one (at k virtual_pit) + sum n (λ v. one (at k v))

  grows : (k v : ℕ) → one (at k v) ≤ one (at (suc k) v)
  grows k v = one-le (at k v) (at (suc k) v) (more k v)

  -- a round that adds no vertex changes none
  abbrev Stable : ℕ → Type 0
  Stable k = (v : ℕ) → Vertex n v → at (suc k) v ≡ true → at k v ≡ true

  larger : (k v : ℕ) → Vertex n v → at (suc k) v ≡ true → at k v ≡ false → size k < size (suc k)
  unfolding size
  larger k v (inl h) a b =
      omega (arith, grows k virtual_pit, sum_lt n (λ x. one (at k x)) (λ x. one (at (suc k) x)) (λ x _. grows k x) v h (rw (a, b) (omega arith)))
  larger k v (inr e) a b =
      let l : one (at k virtual_pit) < one (at (suc k) virtual_pit) = subst (λ (x : ℕ). one (at k x) < one (at (suc k) x)) e (rw (a, b) (omega arith)) in
      omega (arith, sum-le n (λ x. one (at k x)) (λ x. one (at (suc k) x)) (λ x _. grows k x))

  stable : (k : ℕ) → size (suc k) ≤ size k → Stable k
  stable k h v w a = either (at k v) (λ e. e) (λ e. absurd (omega (arith, larger k v w a e)))

  stays : (k : ℕ) → Stable k → Stable (suc k)
  unfolding reached
  stays k s v w a =
      or_cases (at (suc k) v) (member v && any (at (suc k)) (around v)) a (λ e. e)
      (λ e.
      let m = any_some (at (suc k)) (around v) (and_right (member v) _ e) in
      let i : any (at k) (around v) ≡ true = member-any (at k) (around v) m.0 m.1.0 (s m.0 (inside v m.0 w m.1.0) m.1.1) in
      rw (and_left (member v) _ e, i) (or-true (at k v)))

  -- as long as rounds add something, there are more vertices than rounds
  first : Vertex n p → 1 ≤ size 0
  unfolding size reached
  first (inl h) =
      let s : sum n (λ _. 0) < sum n (λ v. one (eqb v p)) = sum_lt n (λ _. 0) (λ v. one (eqb v p)) (λ v _. omega arith) p h (rw (eq-eqb p p refl) (omega arith)) in
      omega arith
  first (inr e) = rw (eq-eqb virtual_pit p (sym e)) (omega arith)

  rounds : (k : ℕ) → Stable k ⊎ (suc k ≤ size k)
  rounds zero = inr (first start)
  rounds (suc k) = ⊎_elim (λ (s : Stable k). inl (stays k s)) (λ (h : suc k ≤ size k). again h) (rounds k)
    where
      again : suc k ≤ size k → Stable (suc k) ⊎ (suc (suc k) ≤ size (suc k))
      again h =
          either (ltb (size k) (size (suc k))) (λ e. inr (omega (arith, ltb-true (size k) (size (suc k)) e)))
          (λ e. inl (stays k (stable k (ltb-false (size k) (size (suc k)) e))))

  size-most : (k : ℕ) → size k ≤ suc n
  unfolding size
  size-most k =
      omega (arith, sum-le n (λ v. one (at k v)) (λ _. 1) (λ v _. one-le (at k v) true (λ _. refl)), sum-const n 1, mul-one n, one-le (at k virtual_pit) true (λ _. refl))

  -- so as many rounds as there are vertices reach all that is reached
  rounds-stable : Stable (suc n)
  rounds-stable = ⊎_elim (λ (s : Stable (suc n)). s) (λ (h : suc (suc n) ≤ size (suc n)). absurd (omega (arith, size-most (suc n)))) (rounds (suc n))

  module _ (edge : ℕ → ℕ → Type 0) (along : (v q : ℕ) → Vertex n v → Memᴰ q (around v) → edge q v) (known : (v q : ℕ) → Vertex n q → edge v q → Memᴰ v (around q)) (far : (v q : ℕ) → edge v q → Vertex n q) where
    abbrev Member : ℕ → Type 0
    Member v = member v ≡ true

    -- a way leads only to what is reached
    pub way-reached : {x r : ℕ} → Way edge Member x r → at (suc n) x ≡ true → at (suc n) r ≡ true
    way-reached (here m) t = t
    way-reached (step {p = x} {q = y} m e w) t =
        way-reached w (rounds-stable y (far x y e) (next-to (suc n) y x (known x y (far x y e) e) t (way-first w)))

    snoc : {x y r : ℕ} → Way edge Member x y → edge y r → Member r → Way edge Member x r
    snoc (here m) e k = step m e (here k)
    snoc (step m f w) e k = step m f (snoc w e k)

    -- and there is a way to all that is
    pub reached-way : Member p → (k v : ℕ) → Vertex n v → at k v ≡ true → Way edge Member p v
    unfolding reached
    reached-way m zero v w h = subst (λ (x : ℕ). Way edge Member p x) (sym (eqb-true v p h)) (here m)
    reached-way m (suc k) v w h =
        or_cases (at k v) (member v && any (at k) (around v)) h (λ e. reached-way m k v w e)
        (λ e.
        let q = any_some (at k) (around v) (and_right (member v) _ e) in
        snoc (reached-way m k q.0 (inside v q.0 w q.1.0) q.1.1) (along v q.0 w q.1.0) (and_left (member v) _ e))

-- Round a post p two colours meet an even number of times, whatever vertices are coloured by, as long as edges between vertices on one side of p join like
-- colours. For of a triangle without p two corners are on one side, so that it has no edge or two where the colours meet; one with p has at most that across
-- from p. And every edge is in two triangles.
use Prim.Native.Nat.{ℕ, ◌+◌, ◌*◌, ◌%◌, ◌<◌}
use native.Mathlib.Omega.{arith}
use native.Mathlib.Decide.{ℕ_discrete}
use mathlib.Core.Path.{◌≡◌, refl, sym, ◌∙◌, ap, fun_ext}
use mathlib.Core.Logic.{◌⊎◌, inl, inr}
use mathlib.Core.Bool.{Bool, true, false, cond, ◌&&◌, and_comm}
use lib.Dec.{eqb}
use borrow.Author.Tests.{eqb-true, eqb-false, eq-eqb, ne_eqb}
use Rattle.surface.specs.Lists.{one}
use Rattle.surface.specs.Plot.{virtual_pit, Sides}
use Rattle.surface.specs.Edges.{Edge, ring}
use Rattle.surface.proofs.General.Sum.{sum-parity}
use Rattle.surface.proofs.General.Circles.{meet, round, round-even}
use Rattle.surface.proofs.AnyOrder.Grid.{not-pit}
use Rattle.surface.proofs.AnyOrder.RingEdges.{ring-edge, ring-other}
use Rattle.surface.proofs.AnyOrder.Corners.{triangle}
use Rattle.surface.proofs.AnyOrder.Triangles.{corners-even}

two-alike : (a b c : Bool) → (a ≡ b) ⊎ ((b ≡ c) ⊎ (c ≡ a))
two-alike true true c = inl refl
two-alike true false true = inr (inr refl)
two-alike true false false = inr (inl refl)
two-alike false true true = inr (inl refl)
two-alike false true false = inr (inr refl)
two-alike false false c = inl refl

module _ {rows columns : ℕ} (s : Sides rows columns) (falls : ℕ → Bool) (p : ℕ) (h : p < rows * columns) (low : ℕ → Bool) (colour : ℕ → ℕ)
    (like : (v w : ℕ) → Edge rows columns falls v w → (v ≡ p → ⊥) → (w ≡ p → ⊥) → low v ≡ low w → colour v ≡ colour w)
  where
    abbrev Joined : ℕ → ℕ → Type 0
    Joined = Edge rows columns falls

    module _ (a b : ℕ) (pit : colour virtual_pit ≡ a → ⊥) where
      abbrev from : ℕ → ℕ → ℕ
      from v q = one (eqb (colour v) a && eqb (colour q) b)

      -- p counts where the colours meet across from it; any other corner v where they meet along an edge from it, if it has the first colour
      abbrev counted : Bool → ℕ → ℕ → ℕ → ℕ
      counted is_p v q r = cond is_p (from q r + from r q) (cond (eqb q p) 0 (from v q) + cond (eqb r p) 0 (from v r))

      abbrev τ : ℕ → ℕ → ℕ → ℕ
      τ v = counted (eqb v p) v

      triangle-even : (x y z : ℕ) → Joined x y → Joined y z → Joined z x → triangle τ x y z % 2 ≡ 0
      triangle-even x y z e f g = go (eqb x p) (eqb y p) (eqb z p) refl refl refl
        where
          no_loop : (v w : ℕ) → Joined v w → eqb v p ≡ true → eqb w p ≡ true → ⊥
          no_loop v w e i j = ring-other s falls p p h ((ring-edge s falls p p h).1 (rw (eqb-true v p i, eqb-true w p j) at e)) refl

          go : (i j k : Bool) → eqb x p ≡ i → eqb y p ≡ j → eqb z p ≡ k
              → (cond i (from y z + from z y) (cond j 0 (from x y) + cond k 0 (from x z))
              + cond j (from z x + from x z) (cond k 0 (from y z) + cond i 0 (from y x))
              + cond k (from x y + from y x) (cond i 0 (from z x) + cond j 0 (from z y)))
              % 2
              ≡ 0
          go true true k u v w = absurd (no_loop x y e u v)
          go true false true u v w = absurd (no_loop z x g w u)
          go true false false u v w = omega arith
          go false true true u v w = absurd (no_loop y z f v w)
          go false true false u v w = omega arith
          go false false true u v w = omega arith
          go false false false u v w = without (two-alike (low x) (low y) (low z))
            where
              without : (low x ≡ low y) ⊎ ((low y ≡ low z) ⊎ (low z ≡ low x)) → (from x y + from x z + (from y z + from y x) + (from z x + from z y)) % 2 ≡ 0
              without (inl i) = rw (like x y e (eqb-false x p u) (eqb-false y p v) i) (omega arith)
              without (inr (inl i)) = rw (like y z f (eqb-false y p v) (eqb-false z p w) i) (omega arith)
              without (inr (inr i)) = rw (like z x g (eqb-false z p w) (eqb-false x p u) i) (omega arith)

      turned : (v q r : ℕ) → τ v q r ≡ τ v r q
      turned v q r = go (eqb v p)
        where
          go : (i : Bool) → counted i v q r ≡ counted i v r q
          go true = omega arith
          go false = omega arith

      -- the virtual pit, which has not the first colour, counts nothing
      pit-none : (q r : ℕ) → τ virtual_pit q r ≡ 0
      pit-none q r = rw (ne_eqb virtual_pit p (λ e. not-pit s h (sym e)), ne_eqb (colour virtual_pit) a pit) (omega (arith, none (eqb q p), none (eqb r p)))
        where
          none : (i : Bool) → cond {A = ℕ} i 0 0 ≡ 0
          none true = refl
          none false = refl

      even-from : round (λ q r. meet a b (colour q) (colour r)) (ring rows columns falls p) % 2 ≡ 0
      even-from =
          sym (known true p (eq-eqb p p refl))
          ∙ sym (sum-parity (rows * columns) (λ v. round (τ v) (ring rows columns falls v)) p h others)
          ∙ corners-even s falls τ turned pit-none triangle-even
        where
          known : (i : Bool) (v : ℕ) → eqb v p ≡ i → round (τ v) (ring rows columns falls v) % 2 ≡ round (counted i v) (ring rows columns falls v) % 2
          known i v e = ap (λ (i : Bool). round (counted i v) (ring rows columns falls v) % 2) e

          others : (v : ℕ) → v < rows * columns → (v ≡ p → ⊥) → round (τ v) (ring rows columns falls v) % 2 ≡ 0
          others v _ i = known false v (ne_eqb v p i) ∙ round-even (λ q. cond (eqb q p) 0 (from v q)) (ring rows columns falls v)

    -- the virtual pit has not both colours
    pub meets-even : (a b : ℕ) → (a ≡ b → ⊥) → round (λ q r. meet a b (colour q) (colour r)) (ring rows columns falls p) % 2 ≡ 0
    meets-even a b i = go (ℕ_discrete (colour virtual_pit) a)
      where
        swapped : (x y : ℕ) → meet b a x y ≡ meet a b x y
        swapped x y = rw (and_comm (eqb x b) (eqb y a), and_comm (eqb y b) (eqb x a)) (omega arith)

        go : Dec (colour virtual_pit ≡ a) → round (λ q r. meet a b (colour q) (colour r)) (ring rows columns falls p) % 2 ≡ 0
        go (no k) = even-from a b k
        go (yes k) =
            rw (fun_ext (λ q. fun_ext (λ r. swapped (colour q) (colour r)))) at (even-from b a (λ e. i (sym k ∙ e)))

-- At every post joins and splits together are the multiplicity of its mark. Round its ring no two colours meet exactly once, and colours change only where the
-- side does: so there is at most one body more, below and above, than half the changes of side. Over all posts the two come to the same, so that there is exactly one.
use Prim.Native.Nat.{ℕ, ◌+◌, ◌-◌, ◌*◌, ◌/◌, ◌≤◌, ◌<◌}
use native.Mathlib.Omega.{arith}
use mathlib.Core.Path.{◌≡◌, refl, sym, ap}
use mathlib.Core.Bool.{Bool, true, false, not, true≢false}
use mathlib.Core.List.{List, [], ◌∷◌, Memᴰ}
use lib.Dec.{eqb}
use borrow.Author.Tests.{eq-eqb}
use Rattle.surface.specs.Lists.{last_or, one}
use Rattle.surface.specs.Plot.{virtual_pit, reversed}
use Rattle.surface.specs.Edges.{Edge, ring}
use Rattle.surface.specs.Marks.{mark, multiplicity}
use Rattle.surface.specs.Patterns.{changes}
use Rattle.surface.specs.Bodies.{in_one_body, bodies_at, neighbours}
use Rattle.surface.proofs.General.Sum.{sum-add, sum-const, sum_same}
use Rattle.surface.proofs.General.Circles.{sum_from, round}
use Rattle.surface.proofs.AnyOrder.Grid.{not-pit}
use Rattle.surface.proofs.AnyOrder.RingEdges.{ring-other}
use Rattle.surface.proofs.AnyOrder.RingTouch.{Chain, ring-touch}
use Rattle.surface.proofs.AnyOrder.Changes.{turn, changes-round}
use Rattle.surface.proofs.AnyOrder.Balance.{changes-sum, mark-turns}
use Rattle.surface.proofs.AnyOrder.Parity.{meets-even}
use Rattle.surface.proofs.AnyOrder.ClosedWalks.{differ, closed-walk}
use Rattle.surface.proofs.AnyOrder.Agreement.{last-member}
use Rattle.surface.proofs.AnyOrder.Network.{Network, mark-pit, mark-peak}
use Rattle.surface.proofs.AnyOrder.Flood.{less_one}
use Rattle.surface.proofs.AnyOrder.Joins.{bodies-below-sum, bodies-above-sum, none-marked}
use Rattle.surface.proofs.AnyOrder.Colours.{colour, edge-colour, bodies-coloured}

-- one sum is no greater than another where each step along a chain of members counts no more
module _ (R : ℕ → ℕ → Type 0) (Member : ℕ → Type 0) (t u : ℕ → ℕ → ℕ) (less : (q r : ℕ) → R q r → Member q → Member r → t q r ≤ u q r) where
  sum_from-le : (prev : ℕ) (l : List ℕ) → Member prev → ((q : ℕ) → Memᴰ q l → Member q) → Chain R prev l → sum_from t prev l ≤ sum_from u prev l
  unfolding sum_from
  sum_from-le prev [] i m c = omega arith
  sum_from-le prev (x ∷ l) i m c =
      let j = m x (Memᴰ.head refl) in
      omega (arith, less prev x c.0 i j, sum_from-le x l j (λ q k. m q (Memᴰ.tail k)) c.1)

  round-le : (prev : ℕ) (l : List ℕ) → ((q : ℕ) → Memᴰ q l → Member q) → Chain R (last_or prev l) l → round t l ≤ round u l
  unfolding round last_or
  round-le prev [] m c = omega arith
  round-le prev (x ∷ l) m c = sum_from-le (last_or x l) (x ∷ l) (m _ (last-member x l)) m c

module _ {rows columns : ℕ} {lower : ℕ → ℕ → Bool} {falls : ℕ → Bool} {pick_down pick_up : ℕ → List ℕ → ℕ} (net : Network rows columns lower falls pick_down pick_up) where
  abbrev n : ℕ
  n = rows * columns

  -- how many bodies a post's neighbours lie in, below it and above it
  abbrev bodies_below : ℕ → ℕ
  bodies_below = bodies_at lower (neighbours rows columns falls) n

  abbrev bodies_above : ℕ → ℕ
  bodies_above = bodies_at (reversed lower) (neighbours rows columns falls) n

  abbrev turns : ℕ → ℕ
  turns p = changes (λ q. lower q p) (ring rows columns falls p)

  -- colours change only where the side changes
  differ-le : (p : ℕ) (h : p < n) → round (differ (colour net p h)) (ring rows columns falls p) ≤ turns p
  differ-le p h =
      rw (changes-round (λ q. lower q p) (ring rows columns falls p))
      (round-le (Edge rows columns falls) (λ q. q ≡ p → ⊥) (differ (colour net p h)) (λ q r. turn (lower q p) (lower r p)) less p (ring rows columns falls p)
      (λ q m. ring-other net.sides falls p q h m) (ring-touch net.sides falls p h))
    where
      less : (q r : ℕ) → Edge rows columns falls q r → (q ≡ p → ⊥) → (r ≡ p → ⊥) → differ (colour net p h) q r ≤ turn (lower q p) (lower r p)
      less q r e i j = go (lower q p) (lower r p) (eqb (colour net p h q) (colour net p h r)) (λ k. eq-eqb _ _ (edge-colour net p h q r e i j k))
        where
          go : (a b c : Bool) → (a ≡ b → c ≡ true) → one (not c) ≤ turn a b
          go a b true k = omega arith
          go true true false k = absurd (true≢false (sym (k refl)))
          go true false false k = omega arith
          go false true false k = omega arith
          go false false false k = absurd (true≢false (sym (k refl)))

  bodies-le : (p : ℕ) → p < n → bodies_below p + bodies_above p + (bodies_below p + bodies_above p) ≤ turns p + 2
  bodies-le p h =
      omega (
        arith,
        bodies-coloured net p h,
        closed-walk (colour net p h) (ring rows columns falls p)
            (λ a b i e. omega (arith, meets-even net.sides falls p h (λ q. lower q p) (colour net p h) (edge-colour net p h) a b i)),
        differ-le p h,
      )

  -- there is one body more than half the changes of side
  pub bodies-turns : (p : ℕ) → p < n → bodies_below p + bodies_above p ≡ turns p / 2 + 1
  bodies-turns p h =
      omega (
        arith,
        sum_same n (λ p. bodies_below p + bodies_above p + (bodies_below p + bodies_above p)) (λ p. turns p + 2) bodies-le
            (omega (
              arith,
              sum-add n (λ p. bodies_below p + bodies_above p) (λ p. bodies_below p + bodies_above p),
              sum-add n bodies_below bodies_above,
              bodies-below-sum net,
              bodies-above-sum net,
              sum-add n turns (λ _. 2),
              sum-const n 2,
              changes-sum lower net.order net.sides falls pit,
            ))
            p
            h,
      )
    where
      pit : (p : ℕ) → p < n → lower virtual_pit p ≡ true
      pit p h = net.pit_below p (not-pit net.sides h)

  pub joins-splits : (p : ℕ) → p < rows * columns
      → (bodies_at lower (neighbours rows columns falls) (rows * columns) p - 1) + (bodies_at (reversed lower) (neighbours rows columns falls) (rows * columns) p - 1)
      ≡ multiplicity (mark lower (ring rows columns falls) p)
  unfolding bodies_at
  joins-splits p h =
      omega (
        arith,
        bodies-turns p h,
        mark-turns lower net.order rows columns falls p (λ q m. ring-other net.sides falls p q h m),
        less_one (bodies_below p),
        less_one (bodies_above p),
        ap one (none-marked net (in_one_body lower (neighbours rows columns falls) n p) (λ q. lower q p) 2 p h (mark-pit net p h)),
        ap one (none-marked net (in_one_body (reversed lower) (neighbours rows columns falls) n p) (λ q. lower p q) 1 p h (mark-peak net p h)),
      )

-- The bodies that a post's neighbours lie in, below it and above it, told by one colour of each vertex: the name of its body, and the side. Vertices on one
-- side that an edge joins have one colour.
use Prim.Native.Nat.{ℕ, ◌+◌, ◌*◌, ◌≤◌, ◌<◌}
use native.Mathlib.Omega.{arith}
use mathlib.Core.Path.{◌≡◌, refl, ◌∙◌, ap}
use mathlib.Core.Bool.{Bool, true, false, cond, not}
use mathlib.Core.List.{List}
use borrow.Author.Tests.{eqb-true, eq-eqb, not-true}
use Rattle.surface.specs.Lists.{filter}
use Rattle.surface.specs.Plot.{reversed}
use Rattle.surface.specs.Edges.{Edge, ring}
use Rattle.surface.specs.Bodies.{classes, in_one_body, bodies_at, neighbours}
use Rattle.surface.specs.Names.{alike}
use Rattle.surface.proofs.General.Bools.{either, same_test}
use Rattle.surface.proofs.General.Order.{StrictTotal}
use Rattle.surface.proofs.AnyOrder.Order.{rank, rank_falls, rank-le, reversed-strict}
use Rattle.surface.proofs.AnyOrder.RingEdges.{edge-ends, ring-other}
use Rattle.surface.proofs.AnyOrder.Walks.{filter-member}
use Rattle.surface.proofs.AnyOrder.Agreement.{filter-agree}
use Rattle.surface.proofs.AnyOrder.Network.{Network}
use Rattle.surface.proofs.AnyOrder.Classes.{classes-ext, classes-sides}
use Rattle.surface.proofs.AnyOrder.Flood.{Sweep, same-named, flood}
use Rattle.surface.proofs.AnyOrder.Joins.{post-around, down-sweep, up-sweep, post-rise}

-- other names, that tell the same classes of what passes a test
renamed : (name colour f : ℕ → ℕ) → ((a b : ℕ) → f a ≡ f b → a ≡ b) → (s : ℕ → Bool) → ((q : ℕ) → s q ≡ true → colour q ≡ f (name q)) → (l : List ℕ)
    → classes (alike name) (filter s l) ≡ classes (alike colour) (filter s l)
renamed name colour f inj s new l =
    classes-ext (alike name) (alike colour) (filter s l)
    (λ q x i j.
    rw (new q (filter-member s l q i).1, new x (filter-member s l x j).1)
    (same_test _ _ (λ e. eq-eqb _ _ (ap f (eqb-true _ _ e))) (λ e. eq-eqb _ _ (inj (name q) (name x) (eqb-true _ _ e)))))

module _ {rows columns : ℕ} {lower : ℕ → ℕ → Bool} {falls : ℕ → Bool} {pick_down pick_up : ℕ → List ℕ → ℕ}
    (net : Network rows columns lower falls pick_down pick_up) (p : ℕ) (h : p < rows * columns)
  where
    abbrev n : ℕ
    n = rows * columns

    abbrev around : ℕ → List ℕ
    around = neighbours rows columns falls

    abbrev ring_at : List ℕ
    ring_at = ring rows columns falls p

    -- names of the bodies on one side
    record OneSide (low : ℕ → Bool) (bodies : ℕ) : Type 0 where
      name : ℕ → ℕ
      same : (v w : ℕ) → Edge rows columns falls v w → low v ≡ true → low w ≡ true → name v ≡ name w
      number : bodies ≡ classes (alike name) (filter low ring_at)

    one_side : (order : ℕ → ℕ → Bool) → StrictTotal order → (m : ℕ) → Sweep n m (Edge rows columns falls) (rank order n) (λ p. filter (λ q. order q p) (around p)) (in_one_body order around n)
        → rank order n p ≤ m → OneSide (λ q. order q p) (bodies_at order around n p)
    unfolding bodies_at
    one_side order o m s k =
        let f = flood s (rank order n p) k in
        record {
          name = f.name;
          same =
              λ v w e a b.
              let ends = edge-ends net.sides falls e in
              f.named.same v w e (ends.0, rank_falls order o n v p ends.0 a) (ends.1, rank_falls order o n w p ends.1 b);
          number =
              classes-ext (in_one_body order around n p) (alike f.name) _ (same-named s p h f.named)
              ∙ ap (λ (l : List ℕ). classes (alike f.name) (filter (λ q. order q p) l)) (post-around net p h);
        }

    below : OneSide (λ q. lower q p) (bodies_at lower around n p)
    below = one_side lower net.order (n + 1) (down-sweep net) (omega (arith, rank-le lower net.order n p h))

    above : OneSide (λ q. lower p q) (bodies_at (reversed lower) around n p)
    above = one_side (reversed lower) (reversed-strict net.order) _ (up-sweep net) (omega (arith, post-rise net p h))

    pub colour : ℕ → ℕ
    colour v = cond (lower v p) (2 * below.name v) (2 * above.name v + 1)

    low-colour : (v : ℕ) → lower v p ≡ true → colour v ≡ 2 * below.name v
    unfolding colour
    low-colour v e = rw e

    high-colour : (v : ℕ) → lower v p ≡ false → colour v ≡ 2 * above.name v + 1
    unfolding colour
    high-colour v e = rw e

    -- what an edge joins on one side has one colour
    pub edge-colour : (v w : ℕ) → Edge rows columns falls v w → (v ≡ p → ⊥) → (w ≡ p → ⊥) → lower v p ≡ lower w p → colour v ≡ colour w
    edge-colour v w e i j k =
        let upper : (x : ℕ) → (x ≡ p → ⊥) → lower x p ≡ false → lower p x ≡ true = λ x i t. net.order.other x p i ∙ ap not t in
        either (lower w p)
        (λ t. rw (low-colour v (k ∙ t), low-colour w t, below.same v w e (k ∙ t) t))
        (λ t. rw (high-colour v (k ∙ t), high-colour w t, above.same v w e (upper v i (k ∙ t)) (upper w j t)))

    -- a colour tells the side
    told : (q x : ℕ) → colour q ≡ colour x → lower q p ≡ lower x p
    unfolding colour
    told q x = go (lower q p) (lower x p)
      where
        go : (a b : Bool) → cond a (2 * below.name q) (2 * above.name q + 1) ≡ cond b (2 * below.name x) (2 * above.name x + 1) → a ≡ b
        go true true e = refl
        go true false e = absurd (omega arith)
        go false true e = absurd (omega arith)
        go false false e = refl

    -- all bodies have colours of their own
    pub bodies-coloured : bodies_at lower around n p + bodies_at (reversed lower) around n p ≤ classes (alike colour) ring_at
    bodies-coloured =
        omega (
          arith,
          below.number,
          renamed below.name colour (λ x. 2 * x) (λ a b e. omega arith) (λ q. lower q p) low-colour ring_at,
          above.number,
          ap (classes (alike above.name)) (filter-agree ring_at (λ q m. net.order.other q p (ring-other net.sides falls p q h m))),
          renamed above.name colour (λ x. 2 * x + 1) (λ a b e. omega arith) (λ q. not (lower q p)) (λ q e. high-colour q (not-true _ e)) ring_at,
          classes-sides colour (λ q. lower q p) told ring_at,
        )

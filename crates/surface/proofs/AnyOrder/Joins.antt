-- Over any strict total order in which the virtual pit is lowest, and any diagonals: joins sum to the pits less one, splits to the peaks less one, and both
-- together to the saddles by multiplicity. All vertices taken in from the lowest on make one body at last, and so do all posts from the highest on.
use Prim.Native.Nat.{ℕ, ◌+◌, ◌-◌, ◌*◌, ◌≤◌, ◌<◌}
use native.Mathlib.Omega.{arith}
use native.Mathlib.Decide.{ℕ_discrete}
use mathlib.Core.Path.{◌≡◌, refl, sym, ◌∙◌, ap}
use mathlib.Core.Logic.{⊎_elim, inl, inr, ◌↔◌}
use mathlib.Core.Bool.{Bool, false, not}
use mathlib.Core.List.{List, Memᴰ}
use lib.Dec.{eqb}
use borrow.Author.Tests.{eqb-true, eq-eqb, ne_eqb, not-true}
use Rattle.surface.specs.Lists.{list_of, filter, any, one, count}
use Rattle.surface.specs.Plot.{virtual_pit, Vertex, reversed}
use Rattle.surface.specs.Edges.{Edge, to_pit, from_pit, of_cell, ring, is_border}
use Rattle.surface.specs.Ways.{Way, here, step}
use Rattle.surface.specs.Marks.{mark, peaks, pits, saddles}
use Rattle.surface.specs.Bodies.{classes, in_one_body, bodies_at, neighbours}
use Rattle.surface.proofs.General.Bools.{same_test, true-T}
use Rattle.surface.proofs.General.Sum.{sum, sum-ext}
use Rattle.surface.proofs.General.ListOf.{member-list_of, list_of-member, count-list_of}
use Rattle.surface.proofs.AnyOrder.Grid.{plot-fits, not-pit}
use Rattle.surface.proofs.AnyOrder.Order.{rank, rank_falls, rank-le, reversed-strict}
use Rattle.surface.proofs.AnyOrder.Cells.{cell-of, corner-post}
use Rattle.surface.proofs.AnyOrder.RingEdges.{edge-sym, edge-ends, ring-edge, ring-pit}
use Rattle.surface.proofs.AnyOrder.Walks.{filter-member, member_filter}
use Rattle.surface.proofs.AnyOrder.Ways.{way-join}
use Rattle.surface.proofs.AnyOrder.Network.{Network, mark-pit, mark-peak, balanced, some-post, corner-border}
use Rattle.surface.proofs.AnyOrder.Classes.{classes-none}
use Rattle.surface.proofs.AnyOrder.Names.{Before}
use Rattle.surface.proofs.AnyOrder.Flood.{Sweep, joined-with-pit, joined-without, less-one-sum}
use Rattle.surface.proofs.AnyOrder.Bodies.{way-corner, rank-sweep}

module _ {rows columns : ℕ} {lower : ℕ → ℕ → Bool} {falls : ℕ → Bool} {pick_down pick_up : ℕ → List ℕ → ℕ} (net : Network rows columns lower falls pick_down pick_up) where
  abbrev n : ℕ
  n = rows * columns

  abbrev Joined : ℕ → ℕ → Type 0
  Joined = Edge rows columns falls

  abbrev around : ℕ → List ℕ
  around = neighbours rows columns falls

  -- the neighbours are the other ends of edges, of the virtual pit too
  pub neighbours-edge : (v q : ℕ) → Vertex n v → Memᴰ q (around v) ↔ Joined v q
  unfolding neighbours
  neighbours-edge v q (inl h) = rw (ne_eqb v virtual_pit (not-pit net.sides h)) (ring-edge net.sides falls v q h)
  neighbours-edge v q (inr e) =
      rw (eq-eqb v virtual_pit e) (
        λ m.
            let k = filter-member (is_border rows columns) (list_of (λ p. p) n) q m in
            let i = list_of-member (λ p. p) n q k.0 in
            from_pit (omega (arith, i.1, i.2)) (true-T k.1) e,
        λ f.
            let h : q < n = ⊎_elim (λ (h : q < n). h) (λ (h : q ≡ virtual_pit). absurd (no_loop f h)) (edge-ends net.sides falls f).1 in
            member_filter (is_border rows columns) (list_of (λ p. p) n) q (member-list_of (λ p. p) n q q h refl)
            ((ring-pit net.sides falls q h).0 ((ring-edge net.sides falls q virtual_pit h).1 (rw e at (edge-sym f)))),
      )
    where
      no_loop : Joined v q → q ≡ virtual_pit → ⊥
      no_loop (of_cell a h c i j d ep eq) k = omega (arith, plot-fits net.sides, corner-post net.sides (cell-of rows columns a h c) j)
      no_loop (to_pit h b eq) k = omega (arith, plot-fits net.sides)
      no_loop (from_pit h b ep) k = omega (arith, plot-fits net.sides)

  pub post-around : (p : ℕ) → p < n → around p ≡ ring rows columns falls p
  unfolding neighbours
  post-around p h = rw (ne_eqb p virtual_pit (not-pit net.sides h))

  -- downward
  abbrev depth : ℕ → ℕ
  depth = rank lower n

  pit-lowest : (v : ℕ) → Vertex n v → depth virtual_pit ≤ depth v
  pit-lowest v i = go (ℕ_discrete v virtual_pit)
    where
      go : Dec (v ≡ virtual_pit) → depth virtual_pit ≤ depth v
      go (yes e) = rw e (omega arith)
      go (no e) = omega (arith, rank_falls lower net.order n virtual_pit v (inr refl) (net.pit_below v e))

  pub down-sweep : Sweep n (n + 1) Joined depth (λ p. filter (λ q. lower q p) (around p)) (in_one_body lower around n)
  down-sweep =
      rank-sweep net.sides falls lower around neighbours-edge net.order (n + 1) (λ p h. omega (arith, rank-le lower net.order n p h)) (λ _. pit-lowest)

  pub bodies-below-sum : sum n (bodies_at lower around n) ≡ n
  unfolding bodies_at
  bodies-below-sum = joined-with-pit down-sweep low way
    where
      low : depth virtual_pit < n + 1
      low = omega (arith, pit-lowest 0 (inl (some-post net)), rank-le lower net.order n 0 (some-post net))

      every : (p : ℕ) → p < n → Before (Vertex n) depth (n + 1) p
      every p h = (inl h, omega (arith, rank-le lower net.order n p h))

      way : (p : ℕ) → p < n → Way Joined (Before (Vertex n) depth (n + 1)) p virtual_pit
      way p h =
          way-join (way-corner net.sides falls _ every p p (omega arith) h)
          (step (every 0 (some-post net)) (to_pit (some-post net) (true-T (corner-border net)) refl) (here (inr refl, low)))

  -- upward
  abbrev rise : ℕ → ℕ
  rise = rank (reversed lower) n

  pub post-rise : (p : ℕ) → p < n → rise p < rise virtual_pit
  post-rise p h = rank_falls (reversed lower) (reversed-strict net.order) n p virtual_pit (inl h) (net.pit_below p (not-pit net.sides h))

  pub up-sweep : Sweep n (rise virtual_pit) Joined rise (λ p. filter (λ q. lower p q) (around p)) (in_one_body (reversed lower) around n)
  up-sweep =
      rank-sweep net.sides falls (reversed lower) around neighbours-edge (reversed-strict net.order) (rise virtual_pit) post-rise
      (λ h v i. absurd (omega arith))

  pub bodies-above-sum : sum n (bodies_at (reversed lower) around n) + 1 ≡ n
  unfolding bodies_at
  bodies-above-sum =
      joined-without up-sweep (omega arith) 0 (some-post net)
      (λ p h. way-corner net.sides falls _ (λ q k. (inl k, post-rise q k)) p p (omega arith) h)

  -- posts without lower neighbours are the pits, without upper ones the peaks
  abbrev marks : List ℕ
  marks = list_of (mark lower (ring rows columns falls)) n

  -- a mark that tells that no neighbour passes a test is that of the posts without bodies
  pub none-marked : (same : ℕ → ℕ → Bool) (s : ℕ → Bool) (k p : ℕ) → p < n → mark lower (ring rows columns falls) p ≡ k ↔ any s (ring rows columns falls p) ≡ false
      → eqb (classes same (filter s (around p))) 0 ≡ eqb (mark lower (ring rows columns falls) p) k
  none-marked same s k p h tells =
      classes-none same s (around p)
      ∙ rw (post-around p h) (same_test _ _ (λ e. eq-eqb _ _ (tells.1 (not-true _ e))) (λ e. ap not (tells.0 (eqb-true _ _ e))))

  count_none : (same : ℕ → ℕ → ℕ → Bool) (s : ℕ → ℕ → Bool) (k : ℕ) → ((p : ℕ) → p < n → mark lower (ring rows columns falls) p ≡ k ↔ any (s p) (ring rows columns falls p) ≡ false)
      → sum n (λ p. one (eqb (classes (same p) (filter (s p) (around p))) 0)) ≡ count (λ m. eqb m k) marks
  count_none same s k tells =
      sum-ext n _ _ (λ p h. ap one (none-marked (same p) (s p) k p h (tells p h)))
      ∙ sym (count-list_of (λ m. eqb m k) (mark lower (ring rows columns falls)) n)

  pub joins-sum : sum n (λ p. bodies_at lower around n p - 1) + 1 ≡ pits marks
  unfolding bodies_at pits
  joins-sum =
      omega (arith, less-one-sum n (bodies_at lower around n), bodies-below-sum, count_none (in_one_body lower around n) (λ p q. lower q p) 2 (mark-pit net))

  pub splits-sum : sum n (λ p. bodies_at (reversed lower) around n p - 1) + 1 ≡ peaks marks
  unfolding bodies_at peaks
  splits-sum =
      omega (
        arith,
        less-one-sum n (bodies_at (reversed lower) around n),
        bodies-above-sum,
        count_none (in_one_body (reversed lower) around n) (λ p q. lower p q) 1 (mark-peak net),
      )

  pub both-sum : sum n (λ p. bodies_at lower around n p - 1) + sum n (λ p. bodies_at (reversed lower) around n p - 1) ≡ saddles marks
  both-sum = omega (arith, joins-sum, splits-sum, balanced net)

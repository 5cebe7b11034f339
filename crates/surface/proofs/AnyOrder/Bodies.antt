-- Bodies of a grid are told by ways, and a list with one of each has as many members as there are. Places by rank: over any strict total order a grid's vertices
-- make a sweep, in which all posts are one body at last.
use Prim.Native.Nat.{ℕ, zero, suc, ◌-◌, ◌*◌, ◌≤◌, ◌<◌}
use native.Mathlib.Omega.{arith}
use native.Mathlib.Nat.{zero-mul}
use native.Mathlib.Decide.{ℕ_discrete}
use mathlib.Core.Path.{◌≡◌, refl, sym, ◌∙◌, ap}
use mathlib.Core.Logic.{inl, ◌↔◌}
use mathlib.Core.Bool.{Bool, true, not}
use mathlib.Core.List.{List, Memᴰ}
use lib.ListN.{length}
use borrow.Author.Tests.{eqb-true, eq-eqb}
use Rattle.surface.specs.Lists.{filter}
use Rattle.surface.specs.Plot.{virtual_pit, Vertex, Sides, row, column}
use Rattle.surface.specs.Edges.{Edge, left, top}
use Rattle.surface.specs.Ways.{Way, here, step}
use Rattle.surface.proofs.General.Bools.{either}
use Rattle.surface.proofs.General.Order.{StrictTotal}
use Rattle.surface.proofs.AnyOrder.Order.{rank, rank_falls}
use Rattle.surface.proofs.AnyOrder.Grid.{plot-fits, top-false, post_is}
use Rattle.surface.proofs.AnyOrder.RingPlaces.{at_n, at_w, ring-place}
use Rattle.surface.proofs.AnyOrder.RingEdges.{edge-sym, edge-ends, ring-edge}
use Rattle.surface.proofs.AnyOrder.Walks.{filter-member, member_filter}
use Rattle.surface.specs.Bodies.{reached, in_one_body, BelowOf, bodies_at, OneOfEach}
use Rattle.surface.proofs.AnyOrder.Ways.{way-join, way_back, way-map}
use Rattle.surface.proofs.AnyOrder.Classes.{representatives, representatives-length, representatives-member, representatives-every, representatives-apart}
use Rattle.surface.proofs.AnyOrder.Names.{Before}
use Rattle.surface.proofs.AnyOrder.Reached.{way-reached, reached-way}
use Rattle.surface.proofs.AnyOrder.Flood.{Sweep}

-- a way whose start is a vertex goes through vertices
way-vertices : {n : ℕ} {edge : ℕ → ℕ → Type 0} {m : ℕ → Type 0} → ((p q : ℕ) → edge p q → Vertex n q) → {p q : ℕ} → Vertex n p → Way edge m p q → Way edge (λ v. Vertex n v × m v) p q
way-vertices far i (here k) = here (i, k)
way-vertices far i (step {p = p} {q = q} k e w) = step (i, k) e (way-vertices far (far p q e) w)

reached-start : (member : ℕ → Bool) (around : ℕ → List ℕ) (q k : ℕ) → reached member around q k q ≡ true
unfolding reached
reached-start member around q zero = eq-eqb q q refl
reached-start member around q (suc k) = rw (reached-start member around q k)

-- the ranks of vertices tell the order
module _ (n : ℕ) (lower : ℕ → ℕ → Bool) (o : StrictTotal lower) where
  pub rank-once : (v w : ℕ) → Vertex n v → Vertex n w → rank lower n v ≡ rank lower n w → v ≡ w
  rank-once v w i j e = go (ℕ_discrete v w)
    where
      go : Dec (v ≡ w) → v ≡ w
      go (yes k) = k
      go (no k) =
          either (lower v w) (λ t. absurd (omega (arith, rank_falls lower o n v w i t)))
          (λ t. absurd (omega (arith, rank_falls lower o n w v j (o.other v w k ∙ ap not t))))

  pub rank-lower : (v w : ℕ) → Vertex n w → rank lower n v < rank lower n w → lower v w ≡ true
  rank-lower v w j h = go (ℕ_discrete v w)
    where
      go : Dec (v ≡ w) → lower v w ≡ true
      go (yes k) = absurd (omega (arith, ap (rank lower n) k))
      go (no k) = either (lower v w) (λ t. t) (λ t. absurd (omega (arith, rank_falls lower o n w v j (o.other v w k ∙ ap not t))))

module _ {rows columns : ℕ} (s : Sides rows columns) (falls : ℕ → Bool) where
  abbrev size : ℕ
  size = rows * columns

  abbrev Joined : ℕ → ℕ → Type 0
  Joined = Edge rows columns falls

  -- every post is joined with post 0 through posts
  pub way-corner : (member : ℕ → Type 0) → ((p : ℕ) → p < size → member p) → (k p : ℕ) → p ≤ k → p < size → Way Joined member p 0
  way-corner member all zero p l h = let e : p ≡ 0 = omega arith in rw e (here (all 0 (omega arith)))
  way-corner member all (suc k) p l h = go (ℕ_discrete p 0) (way-corner member all k)
    where
      go : Dec (p ≡ 0) → ((q : ℕ) → q ≤ k → q < size → Way Joined member q 0) → Way Joined member p 0
      go (yes e) ih = rw e (here (all 0 (omega arith)))
      go (no e) ih =
          either (left columns p)
          (λ f.
          let c : columns ≤ p = either (top columns p) (λ t. absurd (e (zero-post p f t))) (λ t. (top-false s p).0 t) in
          let u = s.wide in
          step (all p h) ((ring-edge s falls p (p - columns) h).0 ((ring-place rows columns falls p (p - columns)).1 (at_n ((top-false s p).1 c) refl)))
          (ih (p - columns) (omega (arith, u)) (omega arith)))
          (λ f. step (all p h) ((ring-edge s falls p (p - 1) h).0 ((ring-place rows columns falls p (p - 1)).1 (at_w f refl))) (ih (p - 1) (omega arith) (omega arith)))
        where
          zero-post : (p : ℕ) → left columns p ≡ true → top columns p ≡ true → p ≡ 0
          zero-post p f t = omega (arith, post_is columns p, ap (λ (x : ℕ). x * columns) (eqb-true (row columns p) 0 t), zero-mul columns, eqb-true (column columns p) 0 f)

  module _ (lower : ℕ → ℕ → Bool) (around : ℕ → List ℕ)
      (beside : (v q : ℕ) → Vertex size v → Memᴰ q (around v) ↔ Joined v q)
    where
      abbrev lowers : ℕ → List ℕ
      lowers p = filter (λ q. lower q p) (around p)

      far : (p q : ℕ) → Joined p q → Vertex size q
      far p q e = (edge-ends s falls e).1

      -- two vertices below p lie in one body exactly where a way through such joins them
      pub one-body : (p q r : ℕ) → BelowOf lower size p q → BelowOf lower size p r → in_one_body lower around size p q r ≡ true ↔ Way Joined (BelowOf lower size p) q r
      unfolding in_one_body
      one-body p q r i j = (
        λ t. way-vertices far i.0 (reached-way size (λ v. lower v p) around inside q i.0 Joined along known far i.1 (suc size) r j.0 t),
        λ w. way-reached size (λ v. lower v p) around inside q i.0 Joined along known far (way-map (λ v m. m.1) w) (reached-start (λ v. lower v p) around q (suc size)),
      )
        where
          inside : (v x : ℕ) → Vertex size v → Memᴰ x (around v) → Vertex size x
          inside v x a m = far v x ((beside v x a).0 m)

          along : (v x : ℕ) → Vertex size v → Memᴰ x (around v) → Joined x v
          along v x a m = edge-sym ((beside v x a).0 m)

          known : (v x : ℕ) → Vertex size x → Joined v x → Memᴰ v (around x)
          known v x a e = (beside x v a).1 (edge-sym e)

      module _ (p : ℕ) (h : p < size) where
        abbrev Joins : ℕ → ℕ → Type 0
        Joins = Way Joined (BelowOf lower size p)

        abbrev chosen : List ℕ
        chosen = representatives (in_one_body lower around size p) (lowers p)

        below-p : (q : ℕ) → Memᴰ q (lowers p) → Joined p q × BelowOf lower size p q
        below-p q m =
            let k = filter-member (λ x. lower x p) (around p) q m in
            let e = (beside p q (inl h)).0 k.0 in
            (e, (far p q e, k.1))

        back : (q r : ℕ) → Joins q r → Joins r q
        back q r w = way_back (λ _ _. edge-sym) w

        same_way : (q r : ℕ) → Memᴰ q (lowers p) → Memᴰ r (lowers p) → in_one_body lower around size p q r ≡ true ↔ Joins q r
        same_way q r i j = one-body p q r (below-p q i).1 (below-p r j).1

        every : (q : ℕ) → Joined p q → BelowOf lower size p q → (r : ℕ) × (Memᴰ r chosen × Joins q r)
        every q e i =
            representatives-every _ Joins back (λ q r x. way-join) (lowers p) same_way (λ r m. here (below-p r m).1) q
            (member_filter (λ x. lower x p) (around p) q ((beside p q (inl h)).1 e) i.1)

        -- there are as many bodies as a list has members that has one of each
        pub one-of-each : (l : List ℕ) × (OneOfEach Joined lower size p l × (bodies_at lower around size p ≡ length l))
        unfolding bodies_at
        one-of-each = (
          chosen,
          (
            record {
              neighbour = λ q m. below-p q (representatives-member _ (lowers p) q m);
              apart = representatives-apart _ Joins back (λ q r x. way-join) (lowers p) same_way;
              every = every;
            },
            sym (representatives-length _ (lowers p)),
          ),
        )

      -- places by rank
      module _ (o : StrictTotal lower) where
        abbrev place : ℕ → ℕ
        place = rank lower size

        abbrev Below : ℕ → ℕ → Type 0
        Below p = Before (Vertex size) place (place p)

        pub rank-sweep : (m : ℕ) → ((p : ℕ) → p < size → place p < m) → (place virtual_pit < m → (v : ℕ) → Vertex size v → place virtual_pit ≤ place v)
            → Sweep size m Joined place lowers (in_one_body lower around size)
        rank-sweep m all pit =
            record {
              fits = plot-fits s;
              back = λ p q e. edge-sym e;
              once = rank-once size lower o;
              lower = λ p q h m. let k = below-p p h q m in (k.0, falls-before p q k.1);
              all_lower = λ p q h e i. member_filter (λ x. lower x p) (around p) q ((beside p q (inl h)).1 e) (before_falls p q h i).1;
              tells = λ p q r h i j.
                  let t = same_way p h q r i j in
                  (λ e. way-map (falls-before p) (t.0 e), λ w. t.1 (way-map (λ v. before_falls p v h) w));
              posts = all;
              pit_first = pit;
            }
          where
            falls-before : (p v : ℕ) → BelowOf lower size p v → Below p v
            falls-before p v m = (m.0, rank_falls lower o size v p m.0 m.1)

            before_falls : (p v : ℕ) → p < size → Below p v → BelowOf lower size p v
            before_falls p v h m = (m.0, rank-lower size lower o v p (inl h) m.1)

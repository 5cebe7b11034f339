-- Splits by saddles alone. Posts are taken in from the highest on. A post with one upper run at most merges no bodies, so names that lead every post where its
-- first upper start leads stay right; at a saddle the bodies of its upper starts are given one name, and there were as many as their names.
use Prim.Native.Nat.{ℕ, zero, suc, ◌+◌, ◌-◌, ◌*◌, ◌≤◌, ◌<◌}
use native.Mathlib.Omega.{arith}
use mathlib.Core.Path.{◌≡◌, refl, sym, ◌∙◌, ap, subst}
use mathlib.Core.Logic.{◌⊎◌, ⊎_elim, inl, inr}
use mathlib.Core.Bool.{Bool, true, cond}
use mathlib.Core.List.Memᴰ
use mathlib.Core.List.{List, [], ◌∷◌, Memᴰ}
use lib.Dec.{eqb}
use lib.ListN.{length}
use borrow.Author.Tests.{eqb-true, eq-eqb}
use Rattle.surface.specs.Lists.{filter, any}
use Rattle.surface.specs.Plot.{virtual_pit, Vertex, reversed}
use Rattle.surface.specs.Edges.{Edge}
use Rattle.surface.specs.Ways.{Way, here, step}
use Rattle.surface.specs.Bodies.{classes, bodies_at, neighbours}
use Rattle.surface.specs.Names.{alike, merged}
use Rattle.surface.proofs.General.Bools.{either}
use Rattle.surface.proofs.AnyOrder.Order.{rank, rank_falls, reversed-strict}
use Rattle.surface.proofs.AnyOrder.RingEdges.{edge-sym, edge-ends}
use Rattle.surface.proofs.AnyOrder.Walks.{filter-member, member_filter, member-any}
use Rattle.surface.proofs.AnyOrder.Ways.{way-map}
use Rattle.surface.proofs.AnyOrder.Network.{Network}
use Rattle.surface.proofs.AnyOrder.Classes.{any_some, classes-ext, classes-length, classes-le}
use Rattle.surface.proofs.AnyOrder.Names.{Before, Named, way_same, name-before, named_more, named_none}
use Rattle.surface.proofs.AnyOrder.Flood.{post-at, same-named, flood}
use Rattle.surface.proofs.AnyOrder.Bodies.{rank-once, rank-lower}
use Rattle.surface.proofs.AnyOrder.Joins.{neighbours-edge, post-rise, up-sweep}

module _ {rows columns : ℕ} {lower : ℕ → ℕ → Bool} {falls : ℕ → Bool} {pick_down pick_up : ℕ → List ℕ → ℕ} (net : Network rows columns lower falls pick_down pick_up) where
  abbrev n : ℕ
  n = rows * columns

  abbrev Joined : ℕ → ℕ → Type 0
  Joined = Edge rows columns falls

  -- how many vertices are above
  abbrev pub rise : ℕ → ℕ
  rise = rank (reversed lower) n

  -- starts of upper runs: neighbours above, to one of which a way leads through what is above from every such neighbour
  pub record Starting (starts : ℕ → List ℕ) : Type 0 where
    pub above : (p m : ℕ) → p < n → Memᴰ m (starts p) → Joined p m × (lower p m ≡ true)
    pub led : (p q : ℕ) → p < n → Joined p q → lower p q ≡ true → (m : ℕ) × (Memᴰ m (starts p) × Way Joined (Before (Vertex n) rise (rise p)) q m)

  module _ {starts : ℕ → List ℕ} (law : Starting starts) where
    -- names of the bodies of what comes before place k, by which every post leads where its first start does, and a later post without starts to itself
    pub record Climbs (k : ℕ) (name : ℕ → ℕ) : Type 0 where
      pub named : Named Joined (Vertex n) rise k name
      pub leads : (p m : ℕ) (l : List ℕ) → p < n → starts p ≡ m ∷ l → name p ≡ name m
      pub tops : (p : ℕ) → p < n → starts p ≡ [] → k ≤ rise p → name p ≡ p

    start-before : (p m : ℕ) → p < n → Memᴰ m (starts p) → Before (Vertex n) rise (rise p) m
    start-before p m h i =
        let a = law.above p m h i in
        let v = (edge-ends net.sides falls a.0).1 in
        (v, rank_falls (reversed lower) (reversed-strict net.order) n m p v a.1)

    -- an upper neighbour has the name of a start
    start-named : {name : ℕ → ℕ} (p q : ℕ) → p < n → Named Joined (Vertex n) rise (rise p) name → Joined p q → lower p q ≡ true
        → any (λ m. eqb (name m) (name q)) (starts p) ≡ true
    start-named {name} p q h d e b =
        let k = law.led p q h e b in
        member-any (λ m. eqb (name m) (name q)) (starts p) k.0 k.1.0 (eq-eqb (name k.0) (name q) (sym (way_same (λ _ _. edge-sym) d k.1.1)))

    -- the bodies above p are told by the names of its starts
    pub starts-bodies : {name : ℕ → ℕ} (p : ℕ) → p < n → Named Joined (Vertex n) rise (rise p) name
        → bodies_at (reversed lower) (neighbours rows columns falls) n p ≡ classes (alike name) (starts p)
    unfolding bodies_at
    starts-bodies {name} p h d =
        let uppers = filter (λ q. lower p q) (neighbours rows columns falls p) in
        let all : (q : ℕ) → Memᴰ q uppers → any (λ m. eqb (name m) (name q)) (starts p) ≡ true =
        λ q i. let k = filter-member (λ q. lower p q) _ q i in start-named p q h d ((neighbours-edge net p q (inl h)).0 k.0) k.1 in
        let each : (m : ℕ) → Memᴰ m (starts p) → any (λ q. eqb (name q) (name m)) uppers ≡ true =
        λ m i.
        let a = law.above p m h i in
        member-any (λ q. eqb (name q) (name m)) uppers m (member_filter (λ q. lower p q) _ m ((neighbours-edge net p m (inl h)).1 a.0) a.1) (eq-eqb (name m) (name m) refl) in
        classes-ext _ (alike name) uppers (same-named (up-sweep net) p h d)
        ∙ omega (arith, classes-le name uppers (starts p) all, classes-le name (starts p) uppers each)

    -- a post with one start at most splits nothing
    pub plain-splits : (p : ℕ) → p < n → length (starts p) ≤ 1 → bodies_at (reversed lower) (neighbours rows columns falls) n p - 1 ≡ 0
    plain-splits p h few =
        let f = flood (up-sweep net) (rise p) (omega (arith, post-rise net p h)) in
        omega (arith, starts-bodies p h f.named, classes-length (alike f.name) (starts p))

    -- The next post is p. Its starts are given the name r, which is that of one of them, or p where there is none.
    module _ {k : ℕ} {name : ℕ → ℕ} (c : Climbs k name) (p : ℕ) (h : p < n) (at : rise p ≡ k) (r : ℕ)
        (root : ((starts p ≡ []) × (r ≡ p)) ⊎ ((m : ℕ) × (Memᴰ m (starts p) × (r ≡ name m))))
      where
        at_p : Named Joined (Vertex n) rise (rise p) name
        at_p = rw at c.named

        own : merged name r (starts p) p ≡ r
        unfolding merged any
        own = go (starts p) refl root
          where
            go : (l : List ℕ) → starts p ≡ l → ((l ≡ []) × (r ≡ p)) ⊎ ((m : ℕ) × (Memᴰ m l × (r ≡ name m))) → merged name r l p ≡ r
            go [] e (inl i) = c.tops p h e (omega arith) ∙ sym i.1
            go [] e (inr i) = absurd (Memᴰ.not-nil i.1.0)
            go (m ∷ l) e i = rw (eq-eqb (name m) (name p) (sym (c.leads p m l h e)))

        to : ((starts p ≡ []) × (r ≡ p)) ⊎ ((m : ℕ) × (Memᴰ m (starts p) × (r ≡ name m))) → Way Joined (Before (Vertex n) rise (suc (rise p))) p r
        to (inl i) = rw i.1 (here (inl h, omega arith))
        to (inr i) =
            let m = i.0 in
            rw i.1.1
            (step (inl h, omega arith) (law.above p m h i.1.0).0
            (way-map (λ v j. (j.0, omega (arith, j.1))) (at_p.way m (start-before p m h i.1.0))))

        pub climbs-more : Climbs (suc k) (merged name r (starts p))
        unfolding merged
        climbs-more =
            record {
              named =
                  rw at at (named_more (λ _ _. edge-sym) at_p p (inl h) refl
                  (λ v i e. rank-once n (reversed lower) (reversed-strict net.order) v p i (inl h) e) (starts p) r
                  (λ q m. ((law.above p q h m).0, start-before p q h m))
                  (λ q e i. start-named p q h at_p e (rank-lower n (reversed lower) (reversed-strict net.order) q p (inl h) i.1))
                  own (to root));
              leads = λ q m l i e. ap (λ (x : ℕ). cond (any (λ y. eqb (name y) x) (starts p)) r x) (c.leads q m l i e);
              tops = tops';
            }
          where
            tops' : (q : ℕ) → q < n → starts q ≡ [] → suc k ≤ rise q → merged name r (starts p) q ≡ q
            tops' q i e l =
                rw (c.tops q i e (omega arith))
                (either (any (λ m. eqb (name m) q) (starts p))
                (λ t.
                let m = any_some (λ m. eqb (name m) q) (starts p) t in
                let b = name-before (λ _ _. edge-sym) at_p m.0 (start-before p m.0 h m.1.0) in
                absurd (omega (arith, b.1, ap rise (eqb-true (name m.0) q m.1.1))))
                (λ t. rw t))

    pub climbs-ext : {k : ℕ} {name name' : ℕ → ℕ} → ((v : ℕ) → name' v ≡ name v) → Climbs k name → Climbs k name'
    climbs-ext {k} {name} {name'} e c =
        record {
          named =
              record {
                way = λ v i. subst (λ (x : ℕ). Way Joined (Before (Vertex n) rise k) v x) (sym (e v)) (c.named.way v i);
                same = λ v w f i j. e v ∙ c.named.same v w f i j ∙ sym (e w);
              };
          leads = λ p m l h f. e p ∙ c.leads p m l h f ∙ sym (e m);
          tops = λ p h f l. e p ∙ c.tops p h f l;
        }

    -- a post with one start at most changes no name
    climbs-plain : {k : ℕ} {name : ℕ → ℕ} → Climbs k name → (p : ℕ) → p < n → rise p ≡ k → length (starts p) ≤ 1 → Climbs (suc k) name
    unfolding merged any
    climbs-plain {k} {name} c p h at few = go (starts p) refl few
      where
        go : (l : List ℕ) → starts p ≡ l → length l ≤ 1 → Climbs (suc k) name
        go [] e f = climbs-ext (λ v. sym (ap (λ (l : List ℕ). merged name p l v) e)) (climbs-more c p h at p (inl (e, refl)))
        go (m ∷ []) e f =
            climbs-ext (λ v. sym (ap (λ (l : List ℕ). merged name (name m) l v) e ∙ one_name v))
            (climbs-more c p h at (name m) (inr (m, (rw e (Memᴰ.head refl), refl))))
          where
            one_name : (v : ℕ) → merged name (name m) (m ∷ []) v ≡ name v
            one_name v = either (eqb (name m) (name v)) (λ t. rw t (eqb-true (name m) (name v) t)) (λ t. rw t)
        go (m ∷ x ∷ l) e f = absurd (omega arith)

    -- nor do all posts between two places, where each has one start at most
    pub climbs-to : {k : ℕ} {name : ℕ → ℕ} → Climbs k name → (j : ℕ) → k + j ≤ rise virtual_pit
        → ((p : ℕ) → p < n → k ≤ rise p → rise p < k + j → length (starts p) ≤ 1) → Climbs (k + j) name
    climbs-to {k} {name} c zero far plain = let e : k + zero ≡ k = omega arith in rw e c
    climbs-to {k} {name} c (suc j) far plain =
        let e : k + suc j ≡ suc (k + j) = omega arith in
        rw e (go (climbs-to c j (omega arith) (λ p h a b. plain p h a (omega arith))) (post-at n rise (k + j)))
      where
        go : Climbs (k + j) name → ((p : ℕ) × ((p < n) × (rise p ≡ k + j))) ⊎ ((p : ℕ) → p < n → rise p ≡ k + j → ⊥) → Climbs (suc (k + j)) name
        go d (inl i) = climbs-plain d i.0 i.1.0 i.1.1 (plain i.0 i.1.0 (omega (arith, i.1.1)) (omega (arith, i.1.1)))
        go d (inr i) =
            record {
              named = named_none d.named (λ v w e. ⊎_elim (λ (h : v < n). i v h e) (λ (h : v ≡ virtual_pit). omega (arith, ap rise h)) w);
              leads = d.leads;
              tops = λ p h f l. d.tops p h f (omega arith);
            }

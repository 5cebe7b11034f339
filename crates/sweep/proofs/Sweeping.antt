-- The sweep over the saddles, from the highest on: what holds before it, after each saddle, and at the end.
use Prim.Native.Nat.{ℕ, suc, ◌+◌, ◌-◌, ◌≤◌, ◌<◌}
use native.Mathlib.Omega.{arith}
use native.Mathlib.Decide.{ℕ_discrete}
use mathlib.Core.Path.{◌≡◌, refl, sym, ◌∙◌, ap}
use mathlib.Core.Logic.{◌⊎◌, inl, inr}
use mathlib.Core.Bool.{true, false, not}
use mathlib.Core.List.{List, [], ◌∷◌, map, Memᴰ}
use lib.Dec.{ltb}
use lib.ListN.{length, get_or, set, length-set}
use lib.Seq.{get_or-set_same, get_or-set_other, ext_get_or}
use borrow.Author.Tests.{not-true, ltb-true, ltb-false}
use Rattle.surface.specs.Lists.{list_of}
use Rattle.surface.specs.Plot.{Plot, posts, virtual_pit, below, reversed, Sides, Valid}
use Rattle.surface.specs.Patterns.{pattern_at, upper_starts}
use Rattle.surface.specs.Edges.{falls_in}
use Rattle.surface.specs.Bodies.{classes, splits_at, splits_of}
use Rattle.surface.specs.Names.{alike, merged}
use Rattle.surface.proofs.General.Bools.{either}
use Rattle.surface.proofs.General.ListOf.{length-list_of, get_or-list_of, list_of-ext, length-map}
use Rattle.surface.proofs.AnyOrder.Order.{rank_falls, reversed-strict}
use Rattle.surface.proofs.AnyOrder.Bodies.{rank-once}
use Rattle.surface.proofs.AnyOrder.RingEdges.{edge-ends}
use Rattle.surface.proofs.AnyOrder.Network.{up-post}
use Rattle.surface.proofs.AnyOrder.Joins.{post-rise}
use Rattle.surface.proofs.AnyOrder.Climbs.{rise, Climbs, starts-bodies, plain-splits, climbs-more, climbs-ext, climbs-to}
use Rattle.surface.proofs.AnyOrder.UpperStarts.{upper_starts_at, upper-starting}
use Rattle.surface.proofs.OfPlots.HeightOrder.{below-strict}
use Rattle.surface.proofs.OfPlots.Instance.{any-network}
use Rattle.surface.proofs.OfPlots.Patterns.{pattern_lt}
use Rattle.paths.specs.Paths.{follow, along, path_end}
use Rattle.paths.proofs.Shorter.{along-stays, same_end}
use Rattle.starts.specs.Starts.{strides, stride_to, start_posts, first_start, post_at}
use Rattle.starts.proofs.Entries.{several-starts}
use Rattle.starts.proofs.Placed.{start-posts, first-inside}
use Rattle.merges.specs.Merges.{Rising, Merged}
use Rattle.merges.proofs.Forest.{rising-ends}
use Rattle.saddle_order.specs.Ascending.{saddle_at, Ascending}
use Rattle.sweep.specs.Swept.{lead_at}

module _ (pl : Plot) (valid : Valid pl) where
  abbrev sides : Sides pl.rows pl.columns
  sides = valid.sides

  abbrev starts : ℕ → List ℕ
  starts = upper_starts_at (any-network pl sides)

  abbrev above : ℕ → ℕ
  above = rise (any-network pl sides)

  -- a post with several upper starts is a saddle, and no other is
  starts-several : (p : ℕ) → p < posts pl → saddle_at pl p ≡ not (ltb (length (starts p)) 2)
  starts-several p h =
      several-starts (pattern_at pl p) (pattern_lt (record { valid = valid; post = h }))
      ∙ ap (λ (k : ℕ). not (ltb k 2)) (sym (length-map _ (upper_starts (pattern_at pl p))) ∙ ap length (start-posts pl sides p h))

  plain : (p : ℕ) → p < posts pl → (saddle_at pl p ≡ true → ⊥) → length (starts p) ≤ 1
  plain p h n =
      either (ltb (length (starts p)) 2) (λ e. omega (arith, ltb-true (length (starts p)) 2 e))
      (λ e. absurd (n (starts-several p h ∙ ap not e)))

  -- of two posts the lower one has more above it
  fewer-above : (p q : ℕ) → q < posts pl → below pl p q ≡ true → above q < above p
  fewer-above p q h e = rank_falls (reversed (below pl)) (reversed-strict (below-strict pl)) (posts pl) q p (inl h) e

  once : (p q : ℕ) → p < posts pl → q < posts pl → above p ≡ above q → p ≡ q
  once p q h i e = rank-once (posts pl) (reversed (below pl)) (reversed-strict (below-strict pl)) p q (inl h) (inl i) e

  -- a start is a post above
  start-above : (p m : ℕ) → p < posts pl → Memᴰ m (starts p) → (below pl p m ≡ true) × (m < posts pl)
  start-above p m h i =
      let net = any-network pl sides in
      let a = (upper-starting net).above p m h i in
      (a.1, up-post net p m h (edge-ends sides (falls_in pl) a.0).1 a.1)

  -- a post that is no saddle splits nothing
  no-splits : (p : ℕ) → p < posts pl → (saddle_at pl p ≡ true → ⊥) → splits_at pl p ≡ 0
  unfolding splits_at
  no-splits p h n = plain-splits (any-network pl sides) (upper-starting (any-network pl sides)) p h (plain p h n)

  -- When i saddles are left: the ends of paths name the bodies of the posts with fewer than k above them, among which are no saddles that are left and all
  -- others; of these posts the splits are stored.
  pub record Swept (sorted : List ℕ) (i : ℕ) (leads splits : List ℕ) : Type 0 where
    pub k : ℕ
    pub far : k ≤ above virtual_pit
    pub climbs : Climbs (any-network pl sides) (upper-starting (any-network pl sides)) k (path_end leads)
    pub rising : Rising pl leads
    pub waiting : (j : ℕ) → j < i → k ≤ above (get_or sorted j 0)
    pub left : (p : ℕ) → p < posts pl → saddle_at pl p ≡ true → k ≤ above p → (j : ℕ) × ((j < i) × (get_or sorted j 0 ≡ p))
    pub size : length splits ≡ posts pl
    pub done : (p : ℕ) → p < posts pl → above p < k → get_or splits p 0 ≡ splits_at pl p
    pub todo : (p : ℕ) → p < posts pl → k ≤ above p → get_or splits p 0 ≡ 0

  -- before the first
  leads-entry : (leads : List ℕ) → leads ≡ list_of (lead_at pl) (posts pl) → (p : ℕ) → p < posts pl → follow leads p ≡ lead_at pl p
  leads-entry leads e p h = rw e (get_or-list_of (lead_at pl) (posts pl) p p h)

  -- where a post leads: to its first start, or to itself
  lead_is : (p : ℕ) → p < posts pl → ((starts p ≡ []) × (lead_at pl p ≡ p)) ⊎ ((m : ℕ) × ((l : List ℕ) × ((starts p ≡ m ∷ l) × (lead_at pl p ≡ m))))
  unfolding strides
  lead_is p h = go (upper_starts (pattern_at pl p)) refl
    where
      go : (l : List ℕ) → upper_starts (pattern_at pl p) ≡ l → ((starts p ≡ []) × (lead_at pl p ≡ p)) ⊎ ((m : ℕ) × ((l : List ℕ) × ((starts p ≡ m ∷ l) × (lead_at pl p ≡ m))))
      go [] e = inl (sym (start-posts pl sides p h) ∙ rw e, rw e (omega arith))
      go (x ∷ l) e = inr (post_at pl.columns p x, (map (post_at pl.columns p) l, (sym (start-posts pl sides p h) ∙ rw e, rw e)))

  first-rising : (leads : List ℕ) → leads ≡ list_of (lead_at pl) (posts pl) → Rising pl leads
  first-rising leads e =
      record {
        valid = valid;
        size = rw e (length-list_of (lead_at pl) (posts pl));
        rises = λ p h. rw (leads-entry leads e p h) (rises p h (lead_is p h));
        inside = λ p h. rw (leads-entry leads e p h) (inside p h (lead_is p h));
      }
    where
      rises : (p : ℕ) → p < posts pl → ((starts p ≡ []) × (lead_at pl p ≡ p)) ⊎ ((m : ℕ) × ((l : List ℕ) × ((starts p ≡ m ∷ l) × (lead_at pl p ≡ m))))
          → (lead_at pl p ≡ p) ⊎ (below pl p (lead_at pl p) ≡ true)
      rises p h (inl i) = inl i.1
      rises p h (inr i) = inr (rw i.1.1.1 (start-above p i.0 h (rw i.1.1.0 (Memᴰ.head refl))).0)

      inside : (p : ℕ) → p < posts pl → ((starts p ≡ []) × (lead_at pl p ≡ p)) ⊎ ((m : ℕ) × ((l : List ℕ) × ((starts p ≡ m ∷ l) × (lead_at pl p ≡ m))))
          → lead_at pl p < posts pl
      inside p h (inl i) = rw i.1 h
      inside p h (inr i) = rw i.1.1.1 (start-above p i.0 h (rw i.1.1.0 (Memᴰ.head refl))).1

  pub swept-first : (sorted leads splits : List ℕ) (m : ℕ) → Ascending pl sorted m → leads ≡ list_of (lead_at pl) (posts pl) → splits ≡ list_of (λ _. 0) (posts pl)
      → Swept sorted m leads splits
  swept-first sorted leads splits m a e z =
      record {
        k = 0;
        far = omega arith;
        climbs =
            record {
              named = record { way = λ v i. absurd (omega (arith, i.1)); same = λ v w f i j. absurd (omega (arith, i.1)) };
              leads = λ p x l h f. sym (same_end (rising-ends r) 1 p) ∙ ap (path_end leads) (along_one p ∙ leads-entry leads e p h ∙ first p x l h f (lead_is p h));
              tops = λ p h f _. along-stays leads (length leads) p (leads-entry leads e p h ∙ own p h f (lead_is p h));
            };
        rising = r;
        waiting = λ j _. omega arith;
        left = λ p h t _. a.all p h t;
        size = rw z (length-list_of (λ _. 0) (posts pl));
        done = λ p h t. absurd (omega arith);
        todo = λ p h _. rw z (get_or-list_of (λ _. 0) (posts pl) p 0 h);
      }
    where
      r : Rising pl leads
      r = first-rising leads e

      along_one : (p : ℕ) → along leads 1 p ≡ follow leads p
      along_one p = unfold along in refl

      first : (p x : ℕ) (l : List ℕ) → p < posts pl → starts p ≡ x ∷ l → ((starts p ≡ []) × (lead_at pl p ≡ p)) ⊎ ((m : ℕ) × ((l : List ℕ) × ((starts p ≡ m ∷ l) × (lead_at pl p ≡ m))))
          → lead_at pl p ≡ x
      first p x l h f (inl i) = let z : ◌≡◌ {A = ℕ} 0 1 = cc in absurd (omega arith)
      first p x l h f (inr i) = let z : i.0 ≡ x = cc in i.1.1.1 ∙ z

      own : (p : ℕ) → p < posts pl → starts p ≡ [] → ((starts p ≡ []) × (lead_at pl p ≡ p)) ⊎ ((m : ℕ) × ((l : List ℕ) × ((starts p ≡ m ∷ l) × (lead_at pl p ≡ m))))
          → lead_at pl p ≡ p
      own p h f (inl i) = i.1
      own p h f (inr i) = let z : ◌≡◌ {A = ℕ} 0 1 = cc in absurd (omega arith)

  -- the next saddle, p
  module _ {sorted leads leads' splits : List ℕ} {i m : ℕ} (a : Ascending pl sorted m) (w : Swept sorted (suc i) leads splits) (h : i < m) (end r : ℕ)
      (t : Merged pl leads leads' (start_posts pl (get_or sorted i 0)) end r)
    where
      abbrev p : ℕ
      p = get_or sorted i 0

      post : p < posts pl
      post = a.post i h

      later : w.k ≤ above p
      later = w.waiting i (omega arith)

      -- no saddle is between
      between : (q : ℕ) → q < posts pl → w.k ≤ above q → above q < above p → saddle_at pl q ≡ true → ⊥
      between q n x y z = go (w.left q n z x)
        where
          go : (j : ℕ) × ((j < suc i) × (get_or sorted j 0 ≡ q)) → ⊥
          go f = last (ℕ_discrete f.0 i)
            where
              last : Dec (f.0 ≡ i) → ⊥
              last (yes e) = omega (arith, ap above (sym f.1.1 ∙ ap (λ (x : ℕ). get_or sorted x 0) e))
              last (no e) =
                  omega (arith, fewer-above (get_or sorted f.0 0) p post (a.rises f.0 i (omega (arith, f.1.0)) h), ap above f.1.1)

      here : Climbs (any-network pl sides) (upper-starting (any-network pl sides)) (above p) (path_end leads)
      here =
          let e : w.k + (above p - w.k) ≡ above p = omega (arith, later) in
          rw e at (climbs-to (any-network pl sides) (upper-starting (any-network pl sides)) w.climbs (above p - w.k) (rw e (omega (arith, post-rise (any-network pl sides) p post)))
          (λ q n x y. plain q n (between q n x (rw e at y))))

      bodies : r ≡ splits_at pl p
      unfolding splits_at
      bodies =
          omega (
            arith,
            t.number,
            starts-bodies (any-network pl sides) (upper-starting (any-network pl sides)) p post here.named,
            ap (classes (alike (path_end leads))) (start-posts pl sides p post),
          )

      pub swept-next : Swept sorted i leads' (set splits p r)
      swept-next =
          record {
            k = suc (above p);
            far = post-rise (any-network pl sides) p post;
            climbs =
                climbs-ext (any-network pl sides) (upper-starting (any-network pl sides))
                (λ v. t.ends v ∙ ap (λ (l : List ℕ). merged (path_end leads) end l v) (start-posts pl sides p post))
                (climbs-more (any-network pl sides) (upper-starting (any-network pl sides)) here p post refl end
                (inr (t.root.0, (rw (start-posts pl sides p post) at t.root.1.0, t.root.1.1))));
            rising = t.rising;
            waiting = λ j n. fewer-above (get_or sorted j 0) p post (a.rises j i n h);
            left = λ q n z x. back q n x (w.left q n z (omega (arith, later)));
            size = length-set splits p r ∙ w.size;
            done = λ q n x. stored q n x (ℕ_discrete q p);
            todo = λ q n x. get_or-set_other splits p q r 0 (λ e. omega (arith, ap above e)) ∙ w.todo q n (omega (arith, later));
          }
        where
          back : (q : ℕ) → q < posts pl → suc (above p) ≤ above q → (j : ℕ) × ((j < suc i) × (get_or sorted j 0 ≡ q)) → (j : ℕ) × ((j < i) × (get_or sorted j 0 ≡ q))
          back q n x f = go (ℕ_discrete f.0 i)
            where
              go : Dec (f.0 ≡ i) → (j : ℕ) × ((j < i) × (get_or sorted j 0 ≡ q))
              go (yes e) = absurd (omega (arith, ap above (sym f.1.1 ∙ ap (λ (x : ℕ). get_or sorted x 0) e)))
              go (no e) = (f.0, (omega (arith, f.1.0), f.1.1))

          stored : (q : ℕ) → q < posts pl → above q < suc (above p) → Dec (q ≡ p) → get_or (set splits p r) q 0 ≡ splits_at pl q
          stored q n x (yes e) = rw e (get_or-set_same splits p r 0 (omega (arith, post, w.size)) ∙ bodies)
          stored q n x (no e) =
              get_or-set_other splits p q r 0 e
              ∙ either (ltb (above q) w.k) (λ y. w.done q n (ltb-true (above q) w.k y))
              (λ y.
              let z = ltb-false (above q) w.k y in
              let other : above q ≡ above p → ⊥ = λ f. e (once q p n post f) in
              w.todo q n z ∙ sym (no-splits q n (between q n z (omega arith))))

  -- after the last
  pub swept-last : {sorted leads splits : List ℕ} {i : ℕ} → i ≡ 0 → Swept sorted i leads splits → splits ≡ splits_of pl
  unfolding splits_of
  swept-last {sorted} {leads} {splits} none w =
      ext_get_or 0 splits (list_of (splits_at pl) (posts pl)) (w.size ∙ sym (length-list_of (splits_at pl) (posts pl)))
      (λ p h. let n : p < posts pl = omega (arith, w.size) in each p n ∙ sym (get_or-list_of (splits_at pl) (posts pl) p 0 n))
    where
      each : (p : ℕ) → p < posts pl → get_or splits p 0 ≡ splits_at pl p
      each p h =
          either (ltb (above p) w.k) (λ y. w.done p h (ltb-true (above p) w.k y))
          (λ y.
          let z = ltb-false (above p) w.k y in
          w.todo p h z ∙ sym (no-splits p h (λ s. omega (arith, (w.left p h s z).1.0))))

  -- what the next saddle is taken by: its pattern, which has starts
  pub saddle-pattern : {patterns sorted : List ℕ} {m : ℕ} → patterns ≡ list_of (pattern_at pl) (posts pl) → Ascending pl sorted m → (i : ℕ) → i < m
      → let p = get_or sorted i 0 in (get_or patterns p 0 ≡ pattern_at pl p) × (1 ≤ length (upper_starts (get_or patterns p 0)))
  saddle-pattern {patterns} {sorted} e a i h =
      let p = get_or sorted i 0 in
      let post = a.post i h in
      let same : get_or patterns p 0 ≡ pattern_at pl p = rw e (get_or-list_of (pattern_at pl) (posts pl) p 0 post) in
      let few : ltb (length (upper_starts (pattern_at pl p))) 2 ≡ false =
      not-true _ (sym (several-starts (pattern_at pl p) (pattern_lt (record { valid = valid; post = post }))) ∙ a.saddle i h) in
      (same, rw same (omega (arith, ltb-false (length (upper_starts (pattern_at pl p))) 2 few)))

  -- what is asked of the patterns where leads are filled in, and that they are leads
  pub lead-inside : {patterns : List ℕ} → patterns ≡ list_of (pattern_at pl) (posts pl) → (p : ℕ) → p < length patterns
      → pl.columns + 1 ≤ p + stride_to pl.columns (first_start (get_or patterns p 0))
  lead-inside {patterns} e p h =
      let n : p < posts pl = omega (arith, ap length e, length-list_of (pattern_at pl) (posts pl)) in
      let same : get_or patterns p 0 ≡ pattern_at pl p = rw e (get_or-list_of (pattern_at pl) (posts pl) p 0 n) in
      rw same (first-inside pl sides p n)

  pub leads-are : {patterns : List ℕ} → patterns ≡ list_of (pattern_at pl) (posts pl)
      → list_of (λ p. post_at pl.columns p (first_start (get_or patterns p 0))) (length patterns) ≡ list_of (lead_at pl) (posts pl)
  leads-are {patterns} e =
      rw (ap length e ∙ length-list_of (pattern_at pl) (posts pl))
      (list_of-ext _ (lead_at pl) (posts pl) (λ p h. ap (λ (b : ℕ). post_at pl.columns p (first_start b)) (rw e (get_or-list_of (pattern_at pl) (posts pl) p 0 h))))

  -- where there is no saddle, nothing splits
  pub swept_none : {sorted splits : List ℕ} {m : ℕ} → m ≡ 0 → Ascending pl sorted m → splits ≡ list_of (λ _. 0) (posts pl) → splits ≡ splits_of pl
  unfolding splits_of
  swept_none {sorted} {splits} none a e =
      e ∙ list_of-ext (λ _. 0) (splits_at pl) (posts pl) (λ p h. sym (no-splits p h (λ t. omega (arith, (a.all p h t).1.0))))

-- All vertices taken in one after the other, by places that tell them apart: what the bodies that they join come to in all.
use Prim.Native.Nat.{ℕ, zero, suc, ◌+◌, ◌-◌, ◌≤◌, ◌<◌}
use native.Mathlib.Omega.{arith}
use native.Mathlib.Decide.{ℕ_discrete}
use mathlib.Core.Path.{◌≡◌, refl, sym, ◌∙◌, ap}
use mathlib.Core.Logic.{◌⊎◌, ⊎_elim, inl, inr, ◌↔◌}
use mathlib.Core.Bool.{Bool, true, cond}
use mathlib.Core.List.{List, Memᴰ}
use lib.Dec.{eqb, ltb}
use borrow.Author.Tests.{eqb-true, eq-eqb, ne_eqb, ltb-true, lt-ltb, le-ltb}
use Rattle.surface.specs.Lists.{any, one}
use Rattle.surface.specs.Plot.{virtual_pit, Vertex}
use Rattle.surface.specs.Ways.{Way, here}
use Rattle.surface.specs.Bodies.{classes}
use Rattle.surface.specs.Names.{merged}
use Rattle.surface.proofs.General.Bools.{either, same_test}
use Rattle.surface.proofs.General.Sum.{sum, sum-ext, sum-add, sum-zero, sum-at}
use Rattle.surface.proofs.AnyOrder.Walks.{member-any}
use Rattle.surface.proofs.AnyOrder.Classes.{any_some, classes-ext}
use Rattle.surface.proofs.AnyOrder.Names.{Before, Named, way_same, same_way, name-before, named_more, named_none}
use Rattle.surface.proofs.AnyOrder.Roots.{eqb-sym, roots, roots-one, roots-all, merged-roots}

-- What the count asks for: n posts and the virtual pit, edges, a place for each vertex, of which those below m are taken in, the lower neighbours of each post,
-- and a test that tells whether two of them are in one body of what comes before the post.
pub record Sweep (n m : ℕ) (edge : ℕ → ℕ → Type 0) (place : ℕ → ℕ) (lowers : ℕ → List ℕ) (same : ℕ → ℕ → ℕ → Bool) : Type 0 where
  pub fits : n ≤ virtual_pit
  pub back : (p q : ℕ) → edge p q → edge q p
  pub once : (v w : ℕ) → Vertex n v → Vertex n w → place v ≡ place w → v ≡ w
  pub lower : (p q : ℕ) → p < n → Memᴰ q (lowers p) → edge p q × Before (Vertex n) place (place p) q
  pub all_lower : (p q : ℕ) → p < n → edge p q → Before (Vertex n) place (place p) q → Memᴰ q (lowers p)
  pub tells : (p q r : ℕ) → p < n → Memᴰ q (lowers p) → Memᴰ r (lowers p) → same p q r ≡ true ↔ Way edge (Before (Vertex n) place (place p)) q r
  pub posts : (p : ℕ) → p < n → place p < m
  -- the virtual pit comes first or not at all
  pub pit_first : place virtual_pit < m → (v : ℕ) → Vertex n v → place virtual_pit ≤ place v

-- a post at place k, or none
pub post-at : (n : ℕ) (place : ℕ → ℕ) (k : ℕ) → ((p : ℕ) × ((p < n) × (place p ≡ k))) ⊎ ((p : ℕ) → p < n → place p ≡ k → ⊥)
post-at zero place k = inr (λ p h e. absurd (omega arith))
post-at (suc n) place k = go (ℕ_discrete (place n) k) (post-at n place k)
  where
    go : Dec (place n ≡ k) → ((p : ℕ) × ((p < n) × (place p ≡ k))) ⊎ ((p : ℕ) → p < n → place p ≡ k → ⊥)
        → ((p : ℕ) × ((p < suc n) × (place p ≡ k))) ⊎ ((p : ℕ) → p < suc n → place p ≡ k → ⊥)
    go (yes e) r = inl (n, (omega arith, e))
    go (no f) (inl r) = inl (r.0, (omega (arith, r.1.0), r.1.1))
    go (no f) (inr r) = inr (λ p h e. last p h e (ℕ_discrete p n))
      where
        last : (p : ℕ) → p < suc n → place p ≡ k → Dec (p ≡ n) → ⊥
        last p h e (yes i) = f (ap place (sym i) ∙ e)
        last p h e (no i) = r p (omega arith) e

-- what is not at place k comes before k + 1 exactly where it comes before k
later : (place : ℕ → ℕ) (k q : ℕ) → (place q ≡ k → ⊥) → ltb (place q) (suc k) ≡ ltb (place q) k
later place k q o =
    same_test _ _ (λ f. lt-ltb (place q) k (omega (arith, o, ltb-true (place q) (suc k) f)))
    (λ f. lt-ltb (place q) (suc k) (omega (arith, ltb-true (place q) k f)))

module _ {n m : ℕ} {edge : ℕ → ℕ → Type 0} {place : ℕ → ℕ} {lowers : ℕ → List ℕ} {same : ℕ → ℕ → ℕ → Bool} (s : Sweep n m edge place lowers same) where
  -- the bodies that p joins
  abbrev pub joined_at : ℕ → ℕ
  joined_at p = classes (same p) (lowers p)

  abbrev pub Names : ℕ → (ℕ → ℕ) → Type 0
  Names k name = Named edge (Vertex n) place k name

  -- whatever comes later is its own name
  abbrev Fresh : ℕ → (ℕ → ℕ) → Type 0
  Fresh k name = (v : ℕ) → Vertex n v → k ≤ place v → name v ≡ v

  abbrev so_far : ℕ → ℕ
  so_far k = sum n (λ p. cond (ltb (place p) k) (joined_at p) 0)

  -- names tell what the test tells
  pub same-named : {name : ℕ → ℕ} (p : ℕ) → p < n → Names (place p) name → (q r : ℕ) → Memᴰ q (lowers p) → Memᴰ r (lowers p)
      → same p q r ≡ eqb (name q) (name r)
  same-named {name} p h d q r i j =
      same_test (same p q r) (eqb (name q) (name r)) (λ e. eq-eqb _ _ (way_same s.back d ((s.tells p q r h i j).0 e)))
      (λ e. (s.tells p q r h i j).1 (same_way s.back d q r (s.lower p q h i).1 (s.lower p r h j).1 (eqb-true _ _ e)))

  -- a post is taken in
  module _ {k : ℕ} {name : ℕ → ℕ} (d : Names k name) (fresh : Fresh k name) (p : ℕ) (h : p < n) (at : place p ≡ k) where
    before-p : Names (place p) name
    before-p = rw at d

    own : name p ≡ p
    own = fresh p (inl h) (omega arith)

    took : Names (suc k) (merged name p (lowers p))
    unfolding merged
    took =
        rw at at (named_more s.back before-p p (inl h) refl (λ v i e. s.once v p i (inl h) e) (lowers p) p (λ q m. s.lower p q h m)
        (λ q e i. member-any (λ m. eqb (name m) (name q)) (lowers p) q (s.all_lower p q h e i) (eq-eqb (name q) (name q) refl))
        (rw own (either (any (λ q. eqb (name q) p) (lowers p)) (λ e. rw e) (λ e. rw e))) (here (inl h, omega arith)))

    -- a name that is met comes before p
    met : (q : ℕ) → Memᴰ q (lowers p) → Before (Vertex n) place k (name q)
    met q m = rw at at (name-before s.back before-p q (s.lower p q h m).1)

    took-fresh : Fresh (suc k) (merged name p (lowers p))
    unfolding merged
    took-fresh v i l =
        rw (fresh v i (omega arith))
        (either (any (λ q. eqb (name q) v) (lowers p))
        (λ t. let m = any_some (λ q. eqb (name q) v) (lowers p) t in absurd (omega (arith, (met m.0 m.1.0).1, ap place (eqb-true _ v m.1.1))))
        (λ t. rw t))

    took-roots : roots n (merged name p (lowers p)) + joined_at p ≡ roots n name
    took-roots =
        rw (classes-ext (same p) (λ q r. eqb (name q) (name r)) (lowers p) (same-named p h before-p))
        (merged-roots n s.fits name p own (lowers p)
        (λ q m. ((met q m).0, (λ e. omega (arith, (met q m).1, ap place e)), sym (way_same s.back before-p (before-p.way q (s.lower p q h m).1)))))

    took-sum : so_far (suc k) ≡ so_far k + joined_at p
    took-sum =
        omega (
          arith,
          sum-ext n (λ q. cond (ltb (place q) (suc k)) (joined_at q) 0) (λ q. cond (ltb (place q) k) (joined_at q) 0 + cond (eqb q p) (joined_at p) 0)
              (λ q i. each q i (ℕ_discrete q p)),
          sum-add n (λ q. cond (ltb (place q) k) (joined_at q) 0) (λ q. cond (eqb q p) (joined_at p) 0),
          sum-at n p (joined_at p) h,
        )
      where
        each : (q : ℕ) → q < n → Dec (q ≡ p)
            → cond (ltb (place q) (suc k)) (joined_at q) 0 ≡ cond (ltb (place q) k) (joined_at q) 0 + cond (eqb q p) (joined_at p) 0
        each q i (yes e) = rw e (rw (lt-ltb (place p) (suc k) (omega arith), le-ltb (place p) k (omega arith), eq-eqb p p refl) (omega arith))
        each q i (no e) =
            let o : place q ≡ k → ⊥ = λ f. e (s.once q p (inl i) (inl h) (f ∙ sym at)) in
            rw (later place k q o, ne_eqb q p e) (omega arith)

  -- no post is
  module _ {k : ℕ} {name : ℕ → ℕ} (d : Names k name) (fresh : Fresh k name) (none : (p : ℕ) → p < n → place p ≡ k → ⊥) where
    none-sum : so_far (suc k) ≡ so_far k
    none-sum = sum-ext n _ _ (λ q i. ap (λ (b : Bool). cond b (joined_at q) 0) (later place k q (none q i)))

    none-fresh : Fresh (suc k) name
    none-fresh v i l = fresh v i (omega arith)

    -- the virtual pit, which comes first, is the only vertex so far
    pit-took : k < m → place virtual_pit ≡ k → Names (suc k) name
    pit-took h e = record { way = λ v i. rw (pit v i) (rw (fresh virtual_pit (inr refl) (omega arith)) (here (inr refl, omega arith))); same = λ v w _ i j. ap name (pit v i ∙ sym (pit w j)) }
      where
        pit : (v : ℕ) → Before (Vertex n) place (suc k) v → v ≡ virtual_pit
        pit v i = s.once v virtual_pit i.0 (inr refl) (omega (arith, i.1, s.pit_first (omega arith) v i.0))

    -- nothing at all
    nothing : (place virtual_pit ≡ k → ⊥) → Names (suc k) name
    nothing f = named_none d (λ v i e. ⊎_elim (λ (h : v < n). none v h e) (λ (h : v ≡ virtual_pit). f (ap place (sym h) ∙ e)) i)

  -- what was joined and what is left come to one more than there are posts
  pub record Flooded (k : ℕ) : Type 0 where
    pub name : ℕ → ℕ
    pub named : Names k name
    pub fresh : Fresh k name
    pub counts : so_far k + roots n name ≡ n + 1

  pub flood : (k : ℕ) → k ≤ m → Flooded k
  flood zero h =
      record {
        name = λ v. v;
        named = record { way = λ v i. absurd (omega (arith, i.1)); same = λ v w e i j. absurd (omega (arith, i.1)) };
        fresh = λ v i l. refl;
        counts = omega (arith, roots-all n s.fits, sum-zero n (λ p. cond (ltb (place p) 0) (joined_at p) 0) (λ p _. rw (le-ltb (place p) 0 (omega arith))));
      }
  flood (suc k) h = go (flood k (omega arith)) (post-at n place k) (ℕ_discrete (place virtual_pit) k)
    where
      go : Flooded k → ((p : ℕ) × ((p < n) × (place p ≡ k))) ⊎ ((p : ℕ) → p < n → place p ≡ k → ⊥) → Dec (place virtual_pit ≡ k) → Flooded (suc k)
      go f (inl r) t =
          record {
            name = merged f.name r.0 (lowers r.0);
            named = took f.named f.fresh r.0 r.1.0 r.1.1;
            fresh = took-fresh f.named f.fresh r.0 r.1.0 r.1.1;
            counts = omega (arith, f.counts, took-roots f.named f.fresh r.0 r.1.0 r.1.1, took-sum f.named f.fresh r.0 r.1.0 r.1.1);
          }
      go f (inr r) t =
          record {
            name = f.name;
            named = pit-or-none t;
            fresh = none-fresh f.named f.fresh r;
            counts = omega (arith, f.counts, none-sum f.named f.fresh r);
          }
        where
          pit-or-none : Dec (place virtual_pit ≡ k) → Names (suc k) f.name
          pit-or-none (yes e) = pit-took f.named f.fresh r (omega arith) e
          pit-or-none (no e) = nothing f.named f.fresh r e

  -- in all
  all-joined : so_far m ≡ sum n joined_at
  all-joined = sum-ext n _ _ (λ p i. rw (lt-ltb (place p) m (s.posts p i)))

  -- where the virtual pit is taken in, and all is one body; and where it is not, and all posts are
  pub joined-with-pit : place virtual_pit < m → ((p : ℕ) → p < n → Way edge (Before (Vertex n) place m) p virtual_pit) → sum n joined_at ≡ n
  joined-with-pit h w =
      let f = flood m (omega arith) in
      omega (
        arith,
        f.counts,
        all-joined,
        roots-one n s.fits f.name (f.name virtual_pit) (name-before s.back f.named virtual_pit (inr refl, h)).0
            (λ v i. ⊎_elim (λ (k : v < n). way_same s.back f.named (w v k)) (λ (k : v ≡ virtual_pit). ap f.name k) i),
      )

  pub joined-without : m ≤ place virtual_pit → (o : ℕ) → o < n → ((p : ℕ) → p < n → Way edge (Before (Vertex n) place m) p o) → sum n joined_at + 1 ≡ n
  unfolding roots
  joined-without h o b w =
      let f = flood m (omega arith) in
      let c = f.name o in
      let i = name-before s.back f.named o (inl b, s.posts o b) in
      let j : c < n = ⊎_elim (λ (k : c < n). k) (λ (k : c ≡ virtual_pit). absurd (omega (arith, i.1, ap place k))) i.0 in
      let e : sum n (λ v. one (eqb (f.name v) v)) ≡ sum n (λ v. one (eqb v c)) =
      sum-ext n _ _ (λ v k. rw (way_same s.back f.named (w v k)) (ap one (eqb-sym c v))) in
      omega (arith, f.counts, all-joined, e, sum-at n c 1 j, ap one (eq-eqb (f.name virtual_pit) virtual_pit (f.fresh virtual_pit (inr refl) h)))

-- the bodies met, less one, or 0 where there is none
pub less_one : (x : ℕ) → x - 1 + 1 ≡ x + one (eqb x 0)
less_one zero = refl
less_one (suc x) = rw (ne_eqb (suc x) 0 (omega arith)) (omega arith)

pub less-one-sum : (n : ℕ) (f : ℕ → ℕ) → sum n (λ p. f p - 1) + n ≡ sum n f + sum n (λ p. one (eqb (f p) 0))
unfolding sum
less-one-sum zero f = refl
less-one-sum (suc n) f = omega (arith, less-one-sum n f, less_one (f n))

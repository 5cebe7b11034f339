-- Walks: over any strict total order, any rings of vertices and any choice among the lower neighbours, a walk falls at every step and comes to an end
-- within as many steps as there are posts. Downward that is a thalweg's walk to a pit; upward, in the reversed order, a ridge's to a peak.
use Prim.Native.Nat.{ℕ, zero, suc, ◌+◌, ◌≤◌, ◌<◌}
use native.Mathlib.Omega.{arith}
use mathlib.Core.Path.{◌≡◌, refl, sym, ◌∙◌, ap, subst}
use mathlib.Core.Logic.{⊎_elim}
use mathlib.Core.Bool.{Bool, true, false, cond, ◌||◌, true≢false, or-true}
use mathlib.Core.List.{List, [], ◌∷◌, ◌++◌, Memᴰ}
use lib.Dec.{eqb}
use lib.ListN.{length}
use borrow.Author.Tests.{eq-eqb, not-false}
use Rattle.surface.specs.Lists.{filter, any, keep, last_or}
use Rattle.surface.specs.Plot.{virtual_pit, Vertex}
use Rattle.surface.specs.Lines.{Descent, is_end, next, walk, end, runs_of, line_start, line, falls_from}
use Rattle.surface.proofs.AnyOrder.RunMembers.{runs-run}
use Rattle.surface.proofs.General.Order.{StrictTotal}
use Rattle.surface.proofs.AnyOrder.Order.{rank, rank_falls, rank-le}
use Rattle.surface.proofs.General.Bools.{or_right, either}

-- what passes a test
pub filter-member : (s : ℕ → Bool) (l : List ℕ) (q : ℕ) → Memᴰ q (filter s l) → Memᴰ q l × (s q ≡ true)
unfolding filter
filter-member s [] q m = absurd (mathlib.Core.List.Memᴰ.not-nil m)
filter-member s (x ∷ l) q m = go (s x) refl (filter-member s l q) m
  where
    go : (b : Bool) → s x ≡ b → (Memᴰ q (filter s l) → Memᴰ q l × (s q ≡ true)) → Memᴰ q (keep b x ++ filter s l)
        → Memᴰ q (x ∷ l) × (s q ≡ true)
    go true e ih m =
        ⊎_elim (λ (h : q ≡ x). (mathlib.Core.List.Memᴰ.head h, ap s h ∙ e)) (λ (h : Memᴰ q (filter s l)). (mathlib.Core.List.Memᴰ.tail (ih h).0, (ih h).1))
        (mathlib.Core.List.Memᴰ.cases_cons m)
    go false e ih m = (mathlib.Core.List.Memᴰ.tail (ih m).0, (ih m).1)

pub member_filter : (s : ℕ → Bool) (l : List ℕ) (q : ℕ) → Memᴰ q l → s q ≡ true → Memᴰ q (filter s l)
unfolding filter
member_filter s [] q m h = absurd (mathlib.Core.List.Memᴰ.not-nil m)
member_filter s (x ∷ l) q m h =
    ⊎_elim (λ (e : q ≡ x). rw (sym (ap s e) ∙ h) (mathlib.Core.List.Memᴰ.head e))
    (λ (k : Memᴰ q l). mathlib.Core.List.Memᴰ.append_right (keep (s x) x) (member_filter s l q k h))
    (mathlib.Core.List.Memᴰ.cases_cons m)

pub member-any : (s : ℕ → Bool) (l : List ℕ) (q : ℕ) → Memᴰ q l → s q ≡ true → any s l ≡ true
unfolding any
member-any s [] q m h = absurd (mathlib.Core.List.Memᴰ.not-nil m)
member-any s (x ∷ l) q m h =
    ⊎_elim (λ (e : q ≡ x). rw (sym (ap s e) ∙ h)) (λ (k : Memᴰ q l). rw (member-any s l q k h) (or-true (s x))) (mathlib.Core.List.Memᴰ.cases_cons m)

-- something passes a test
pub filter-some : (s : ℕ → Bool) (l : List ℕ) → any s l ≡ true → (q : ℕ) × Memᴰ q (filter s l)
unfolding filter any
filter-some s [] h = absurd (true≢false (sym h))
filter-some s (x ∷ l) h = go (s x) (filter-some s l) h
  where
    go : (b : Bool) → (any s l ≡ true → (q : ℕ) × Memᴰ q (filter s l)) → b || any s l ≡ true → (q : ℕ) × Memᴰ q (keep b x ++ filter s l)
    go true ih h = (x, mathlib.Core.List.Memᴰ.head refl)
    go false ih h = ih h

-- what a descent needs: an order, rings of vertices, a choice that picks a member of every list that has one
pub record Falling (n : ℕ) (d : Descent) : Type 0 where
  pub order : StrictTotal d.lower
  pub ring_vertex : (p q : ℕ) → p < n → Memᴰ q (d.ring p) → Vertex n q
  pub picks_member : (p q : ℕ) (l : List ℕ) → Memᴰ q l → Memᴰ (d.pick p l) l

module _ {n : ℕ} {d : Descent} (law : Falling n d) where
  abbrev stop : ℕ → Bool
  stop = is_end d

  abbrev go_on : ℕ → ℕ
  go_on = next d

  pub next-stop : (p : ℕ) → stop p ≡ true → go_on p ≡ p
  unfolding next
  next-stop p h = rw h

  pub pit-stop : stop virtual_pit ≡ true
  unfolding is_end
  pit-stop = rw (eq-eqb virtual_pit virtual_pit refl)

  -- a step that is no stop goes to a lower member of the ring
  pub record Step (p : ℕ) : Type 0 where
    pub post : p < n
    pub member : Memᴰ (go_on p) (d.ring p)
    pub falls : d.lower (go_on p) p ≡ true
    pub vertex : Vertex n (go_on p)
    pub sinks : rank d.lower n (go_on p) < rank d.lower n p

  pub next-step : (p : ℕ) → Vertex n p → stop p ≡ false → Step p
  unfolding next is_end
  next-step p v h = record { post = post; member = member.0; falls = member.1; vertex = vertex; sinks = rank_falls d.lower law.order n (go_on p) p vertex member.1 }
    where
      post : p < n
      post = ⊎_elim (λ (k : p < n). k) (λ (k : p ≡ virtual_pit). absurd (true≢false (sym pit-stop ∙ ap stop (sym k) ∙ h))) v

      some : any (λ q. d.lower q p) (d.ring p) ≡ true
      some = not-false _ (or_right (eqb p virtual_pit) _ h)

      picked : Memᴰ (d.pick p (filter (λ q. d.lower q p) (d.ring p))) (filter (λ q. d.lower q p) (d.ring p))
      picked = let k = filter-some (λ q. d.lower q p) (d.ring p) some in law.picks_member p k.0 _ k.1

      member : Memᴰ (go_on p) (d.ring p) × (d.lower (go_on p) p ≡ true)
      member = rw h (filter-member (λ q. d.lower q p) (d.ring p) _ picked)

      vertex : Vertex n (go_on p)
      vertex = law.ring_vertex p (go_on p) post member.0

  -- an end stays
  pub end-stop : (m p : ℕ) → stop p ≡ true → end d m p ≡ p
  unfolding end
  end-stop zero p h = refl
  end-stop (suc m) p h = rw (next-stop p h) (end-stop m p h)

  -- as many steps as the rank lead to an end, and further ones change nothing
  pub end-reached : (m p : ℕ) → Vertex n p → rank d.lower n p ≤ m → stop (end d m p) ≡ true
  unfolding end
  end-reached zero p v h = go (stop p) refl
    where
      go : (b : Bool) → stop p ≡ b → b ≡ true
      go true e = refl
      go false e = absurd (omega (arith, (next-step p v e).sinks))
  end-reached (suc m) p v h = go (stop p) refl (end-reached m (go_on p))
    where
      go : (b : Bool) → stop p ≡ b → (Vertex n (go_on p) → rank d.lower n (go_on p) ≤ m → stop (end d m (go_on p)) ≡ true)
          → stop (end d m (go_on p)) ≡ true
      go true e ih = rw (next-stop p e, end-stop m p e) e
      go false e ih = let k = next-step p v e in ih k.vertex (omega (arith, k.sinks))

  -- what every step keeps, the end has
  pub end-inside : (inside : ℕ → Type 0) → ((p : ℕ) → inside p → stop p ≡ false → inside (go_on p)) → (m p : ℕ) → inside p → inside (end d m p)
  unfolding end
  end-inside inside keeps zero p i = i
  end-inside inside keeps (suc m) p i =
      end-inside inside keeps m (go_on p) (either (stop p) (λ e. subst inside (sym (next-stop p e)) i) (λ e. keeps p i e))

  pub next-vertex : (p : ℕ) → Vertex n p → Vertex n (next d p)
  next-vertex p v = either (is_end d p) (λ e. rw (next-stop p e) v) (λ e. (next-step p v e).vertex)

  pub end-vertex : (m p : ℕ) → Vertex n p → Vertex n (end d m p)
  end-vertex = end-inside (Vertex n) (λ p v e. (next-step p v e).vertex)

  pub end_more : (m p : ℕ) → end d (suc m) p ≡ go_on (end d m p)
  unfolding end
  end_more zero p = refl
  end_more (suc m) p = end_more m (go_on p)

  -- a vertex's rank is at most the number of posts, or it is an end
  bounded : (p : ℕ) → Vertex n p → stop p ≡ false → rank d.lower n p ≤ n
  bounded p v h = rank-le d.lower law.order n p (next-step p v h).post

  -- where a vertex's walk ends is an end, and that of the vertex after it
  pub end-is-stop : (p : ℕ) → Vertex n p → stop (end d n p) ≡ true
  end-is-stop p v = go (stop p) refl
    where
      go : (b : Bool) → stop p ≡ b → stop (end d n p) ≡ true
      go true e = rw (end-stop n p e) e
      go false e = end-reached n p v (bounded p v e)

  pub end-next : (p : ℕ) → Vertex n p → end d n (go_on p) ≡ end d n p
  unfolding end
  end-next p v = end_more n p ∙ next-stop (end d n p) (end-is-stop p v)

  -- a walk is its first vertex and what comes after it
  abbrev rest : ℕ → ℕ → List ℕ
  rest zero p = []
  rest (suc m) p = cond (stop p) [] (walk d m (go_on p))

  walk-rest : (m p : ℕ) → walk d m p ≡ p ∷ rest m p
  unfolding walk
  walk-rest zero p = refl
  walk-rest (suc m) p = refl

  -- it falls at every step, its last entry is where it ends, and it has no more entries than the rank lets it have
  record Falls (m p : ℕ) : Type 0 where
    falling : falls_from d.lower p (rest m p) ≡ true
    ending : last_or p (rest m p) ≡ end d m p
    bound : length (rest m p) ≤ rank d.lower n p

  rest-falls : (m p : ℕ) → Vertex n p → Falls m p
  unfolding falls_from last_or end
  rest-falls zero p v = record { falling = refl; ending = refl; bound = omega arith }
  rest-falls (suc m) p v = go (stop p) refl (rest-falls m (go_on p))
    where
      go : (b : Bool) → stop p ≡ b → (Vertex n (go_on p) → Falls m (go_on p)) → Falls (suc m) p
      go true e ih = record { falling = rw e; ending = rw e (sym (end-stop (suc m) p e)); bound = rw e (omega arith) }
      go false e ih =
          let k = next-step p v e in
          let f = ih k.vertex in
          record {
            falling = rw (e, walk-rest m (go_on p), k.falls) f.falling;
            ending = rw (e, walk-rest m (go_on p)) f.ending;
            bound = rw (e, walk-rest m (go_on p)) (omega (arith, f.bound, k.sinks));
          }

  -- more steps than the rank add nothing
  walk-stop : (m p : ℕ) → stop p ≡ true → walk d m p ≡ p ∷ []
  unfolding walk
  walk-stop zero p h = refl
  walk-stop (suc m) p h = rw h

  walk_more : (m p : ℕ) → Vertex n p → rank d.lower n p ≤ m → walk d (suc m) p ≡ walk d m p
  unfolding walk
  walk_more zero p v h = go (stop p) refl
    where
      go : (b : Bool) → stop p ≡ b → p ∷ cond b [] (go_on p ∷ []) ≡ p ∷ []
      go true e = refl
      go false e = absurd (omega (arith, (next-step p v e).sinks))
  walk_more (suc m) p v h = go (stop p) refl (walk_more m (go_on p))
    where
      go : (b : Bool) → stop p ≡ b
          → (Vertex n (go_on p) → rank d.lower n (go_on p) ≤ m → walk d (suc m) (go_on p) ≡ walk d m (go_on p))
          → p ∷ cond b [] (walk d (suc m) (go_on p)) ≡ p ∷ cond b [] (walk d m (go_on p))
      go true e ih = refl
      go false e ih = let k = next-step p v e in ap (λ (l : List ℕ). p ∷ l) (ih k.vertex (omega (arith, k.sinks)))

  -- a whole walk, a step at a time
  pub walk-next : (p : ℕ) → Vertex n p → walk d n p ≡ p ∷ cond (stop p) [] (walk d n (go_on p))
  unfolding walk
  walk-next p v = go (stop p) refl
    where
      go : (b : Bool) → stop p ≡ b → walk d n p ≡ p ∷ cond b [] (walk d n (go_on p))
      go true e = walk-stop n p e
      go false e = sym (walk_more n p v (bounded p v e)) ∙ rw e

  -- a line from p: it goes on by a vertex below p, falls at every step, ends where that vertex's walk ends, and has at most one entry more than there are
  -- posts
  pub record LineFalls (p : ℕ) (l : List ℕ) : Type 0 where
    pub via : ℕ
    pub via_vertex : Vertex n via
    pub via_lower : d.lower via p ≡ true
    pub falling : falls_from d.lower p l ≡ true
    pub ending : last_or p l ≡ end d n via
    pub bound : length (p ∷ l) ≤ n + 1

  walk-line : (p q : ℕ) → p < n → Vertex n q → d.lower q p ≡ true → LineFalls p (walk d n q)
  unfolding falls_from last_or
  walk-line p q h v k =
      let f = rest-falls n q v in
      rw (walk-rest n q)
      (record {
        via = q;
        via_vertex = v;
        via_lower = k;
        falling = rw k f.falling;
        ending = f.ending;
        bound = omega (arith, f.bound, rank_falls d.lower law.order n q p v k, rank-le d.lower law.order n p h);
      })

  -- the line of a post and one of its runs
  pub line-falls : (p run : ℕ) → p < n → run < length (runs_of d p)
      → (l : List ℕ) × (line d n p run ≡ p ∷ l) × LineFalls p l
  unfolding line
  line-falls p run h k =
      let r = runs-run (λ q. d.lower q p) (d.ring p) run k in
      let q = line_start d p run in
      let m : Memᴰ q (d.ring p) × (d.lower q p ≡ true) = r.member q (law.picks_member p r.some _ r.there) in
      (walk d n q, refl, walk-line p q h (law.ring_vertex p q h m.0) m.1)

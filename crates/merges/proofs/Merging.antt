-- Bodies merged one after the other: names and number of what was merged so far, and one more.
use Prim.Native.Nat.{ℕ, zero, suc, ◌+◌, ◌≤◌, ◌<◌}
use native.Mathlib.Omega.{arith}
use native.Mathlib.Decide.{ℕ_discrete}
use mathlib.Core.Path.{◌≡◌, refl, sym, ◌∙◌, ap}
use mathlib.Core.Logic.{⊎_elim, inl, inr}
use mathlib.Core.Bool.{Bool, true, false, cond, not, ◌||◌, true≢false, or-true, or-false}
use mathlib.Core.List.{List, [], ◌∷◌, map, Memᴰ}
use lib.Dec.{eqb}
use lib.ListN.{length, get_or}
use borrow.Author.Tests.{eqb-true, eq-eqb, ne_eqb}
use Rattle.surface.specs.Lists.{any, one}
use Rattle.surface.specs.Plot.{Plot, posts}
use Rattle.surface.specs.Patterns.{pattern_at, upper_starts}
use Rattle.surface.specs.Bodies.{classes}
use Rattle.surface.specs.Names.{alike, merged}
use Rattle.surface.proofs.General.Bools.{either, same_test}
use Rattle.surface.proofs.General.ListOf.{get_or-member, get_or-mapped, length-map}
use Rattle.surface.proofs.AnyOrder.Walks.{member-any}
use Rattle.surface.proofs.AnyOrder.Classes.{any_some, classes-ext, classes-length, classes-le}
use Rattle.surface.proofs.AnyOrder.Roots.{eqb-sym, merged-known}
use Rattle.paths.specs.Paths.{path_end}
use Rattle.starts.specs.Starts.{stride_to, post_at}
use Rattle.starts.proofs.Placed.{start-inside, start-post}
use Rattle.merges.specs.Merges.{Rising, SameEnds, End, Linked, MergedWith, Merged}
use Rattle.merges.proofs.Forest.{own-end, end-inside}

-- an end stays one where ends are the same
pub same-own : {pl : Plot} {l l' : List ℕ} (e : ℕ) → Rising pl l → SameEnds pl l l' → End pl l e → End pl l' e
same-own e r s i = rw (s.ends e ∙ own-end r e i) at (end-inside s.rising e i.post)

-- a post of the same body, and one of another
pub with-same : {pl : Plot} {l l' : List ℕ} {e k : ℕ} (q b : ℕ) → Rising pl l → SameEnds pl l l' → End pl l e → b ≡ path_end l q → b ≡ e → MergedWith pl l l' e q e k k
with-same {pl} {l} {l'} {e} {k} q b r s i f g =
    let same : path_end l q ≡ e = sym f ∙ g in
    record {
      linked =
          record {
            rising = s.rising;
            end = same-own e r s i;
            either = inl refl;
            ends = λ v. s.ends v ∙ rw same (both v);
          };
      number = rw (eq-eqb (path_end l q) e same) (omega arith);
    }
  where
    both : (v : ℕ) → path_end l v ≡ cond (eqb (path_end l v) e || eqb (path_end l v) e) e (path_end l v)
    both v = either (eqb (path_end l v) e) (λ t. rw t (eqb-true (path_end l v) e t)) (λ t. rw t)

pub with-other : {pl : Plot} {l l₁ l₂ : List ℕ} {e k r : ℕ} (q b : ℕ) → SameEnds pl l l₁ → Linked pl l₁ l₂ e b r → b ≡ path_end l q → (b ≡ e → ⊥) → MergedWith pl l l₂ e q r k (k + 1)
with-other {pl} {l} {l₁} {l₂} {e} {k} {r} q b s d f g =
    record {
      linked =
          record {
            rising = d.rising;
            end = d.end;
            either = ⊎_elim (λ (i : r ≡ e). inl i) (λ (i : r ≡ b). inr (i ∙ f)) d.either;
            ends = λ v. d.ends v ∙ rw (s.ends v, f);
          };
      number = rw (ne_eqb (path_end l q) e (λ i. g (f ∙ i))) (omega arith);
    }

-- one body
pub merged-one : {pl : Plot} {l l' : List ℕ} (q e : ℕ) → e ≡ path_end l q → End pl l' e → SameEnds pl l l' → Merged pl l l' (q ∷ []) e 0
unfolding merged any classes
merged-one {pl} {l} {l'} q e i end s =
    record { rising = s.rising; end = end; root = (q, (mathlib.Core.List.Memᴰ.head refl, i)); ends = λ v. s.ends v ∙ same v; number = refl }
  where
    same : (v : ℕ) → path_end l v ≡ merged (path_end l) e (q ∷ []) v
    same v = either (eqb (path_end l q) (path_end l v)) (λ t. rw t (sym (eqb-true _ _ t) ∙ sym i)) (λ t. rw t)

-- and one more
pub merged-more : {pl : Plot} {l l₁ l₂ starts : List ℕ} {e k r j : ℕ} (q : ℕ) → Merged pl l l₁ starts e k → MergedWith pl l₁ l₂ e q r k j → Merged pl l l₂ (q ∷ starts) r j
unfolding merged any classes
merged-more {pl} {l} {l₁} {l₂} {starts} {e} {k} {r} {j} q m d = either (met q) known fresh
  where
    name : ℕ → ℕ
    name = path_end l

    met : ℕ → Bool
    met v = any (λ x. eqb (name x) (name v)) starts

    on : (v : ℕ) → met v ≡ true → path_end l₁ v ≡ e
    on v t = m.ends v ∙ rw t

    off : (v : ℕ) → met v ≡ false → path_end l₁ v ≡ name v
    off v t = m.ends v ∙ rw t

    -- a body that was not met has another end
    apart : (v : ℕ) → met v ≡ false → name v ≡ e → ⊥
    apart v t i =
        let x = m.root in
        true≢false (sym (member-any (λ x. eqb (name x) (name v)) starts x.0 x.1.0 (eq-eqb (name x.0) (name v) (sym x.1.1 ∙ sym i))) ∙ t)

    known : met q ≡ true → Merged pl l l₂ (q ∷ starts) r j
    known t =
        let same : r ≡ e = ⊎_elim (λ (i : r ≡ e). i) (λ (i : r ≡ path_end l₁ q). i ∙ on q t) d.linked.either in
        let x = m.root in
        record {
          rising = d.linked.rising;
          end = d.linked.end;
          root = (x.0, (mathlib.Core.List.Memᴰ.tail x.1.0, same ∙ x.1.1));
          ends = λ v. d.linked.ends v ∙ stays same v ∙ m.ends v ∙ ap (λ (y : ℕ). merged name y starts v) (sym same) ∙ sym (merged-known name r q starts t v);
          number = rw t (omega (arith, m.number, d.number, ap (λ (b : Bool). one (not b)) (eq-eqb (path_end l₁ q) e (on q t))));
        }
      where
        stays : r ≡ e → (v : ℕ) → cond (eqb (path_end l₁ v) e || eqb (path_end l₁ v) (path_end l₁ q)) r (path_end l₁ v) ≡ path_end l₁ v
        stays same v =
            either (eqb (path_end l₁ v) e) (λ i. rw i (same ∙ sym (eqb-true _ _ i)))
            (λ i. rw i (either (eqb (path_end l₁ v) (path_end l₁ q)) (λ k. rw k (same ∙ sym (on q t) ∙ sym (eqb-true _ _ k))) (λ k. rw k)))

    fresh : met q ≡ false → Merged pl l l₂ (q ∷ starts) r j
    fresh t =
        record {
          rising = d.linked.rising;
          end = d.linked.end;
          root =
              ⊎_elim (λ (i : r ≡ e). let x = m.root in (x.0, (mathlib.Core.List.Memᴰ.tail x.1.0, i ∙ x.1.1)))
              (λ (i : r ≡ path_end l₁ q). (q, (mathlib.Core.List.Memᴰ.head refl, i ∙ off q t))) d.linked.either;
          ends = λ v. d.linked.ends v ∙ named v;
          number = rw t (omega (arith, m.number, d.number, ap (λ (b : Bool). one (not b)) (ne_eqb (path_end l₁ q) e (λ i. apart q t (sym (off q t) ∙ i)))));
        }
      where
        named : (v : ℕ) → cond (eqb (path_end l₁ v) e || eqb (path_end l₁ v) (path_end l₁ q)) r (path_end l₁ v) ≡ cond (eqb (name q) (name v) || met v) r (name v)
        named v =
            either (met v)
            (λ i. rw (i, on v i, eq-eqb e e refl, or-true (eqb (name q) (name v))))
            (λ i. rw (i, off v i, off q t, ne_eqb (name v) e (apart v i), eqb-sym (name v) (name q), or-false (eqb (name q) (name v))))

-- posts one after the other, the last first
unfoldable pub down_to : (ℕ → ℕ) → ℕ → List ℕ
down_to f zero = []
down_to f (suc k) = f k ∷ down_to f k

-- only which posts they were matters
pub merged-same : {pl : Plot} {l l' a b : List ℕ} {r k : ℕ} → ((q : ℕ) → Memᴰ q a → Memᴰ q b) → ((q : ℕ) → Memᴰ q b → Memᴰ q a)
    → Merged pl l l' a r k → Merged pl l l' b r k
unfolding merged
merged-same {pl} {l} {l'} {a} {b} {r} {k} to from m =
    record {
      rising = m.rising;
      end = m.end;
      root = let x = m.root in (x.0, (to x.0 x.1.0, x.1.1));
      ends = λ v. m.ends v ∙ ap (λ (t : Bool). cond t r (path_end l v)) (same-any v);
      number = m.number ∙ omega (arith, classes-le (path_end l) a b (λ q i. has b q (to q i)), classes-le (path_end l) b a (λ q i. has a q (from q i)));
    }
  where
    has : (x : List ℕ) (q : ℕ) → Memᴰ q x → any (λ y. eqb (path_end l y) (path_end l q)) x ≡ true
    has x q i = member-any (λ y. eqb (path_end l y) (path_end l q)) x q i (eq-eqb (path_end l q) (path_end l q) refl)

    some : (x y : List ℕ) (v : ℕ) → ((q : ℕ) → Memᴰ q x → Memᴰ q y) → any (λ q. eqb (path_end l q) (path_end l v)) x ≡ true → any (λ q. eqb (path_end l q) (path_end l v)) y ≡ true
    some x y v f t = let i = any_some (λ q. eqb (path_end l q) (path_end l v)) x t in member-any (λ q. eqb (path_end l q) (path_end l v)) y i.0 (f i.0 i.1.0) i.1.1

    same-any : (v : ℕ) → any (λ q. eqb (path_end l q) (path_end l v)) a ≡ any (λ q. eqb (path_end l q) (path_end l v)) b
    same-any v = same_test _ _ (some a b v to) (some b a v from)

length-down_to : (f : ℕ → ℕ) (k : ℕ) → length (down_to f k) ≡ k
unfolding down_to
length-down_to f zero = refl
length-down_to f (suc k) = ap suc (length-down_to f k)

down_to-member : (f : ℕ → ℕ) (k q : ℕ) → Memᴰ q (down_to f k) → (i : ℕ) × ((i < k) × (q ≡ f i))
unfolding down_to
down_to-member f zero q m = absurd (mathlib.Core.List.Memᴰ.not-nil m)
down_to-member f (suc k) q m =
    ⊎_elim (λ (e : q ≡ f k). (k, (omega arith, e))) (λ (n : Memᴰ q (down_to f k)). let i = down_to-member f k q n in (i.0, (omega (arith, i.1.0), i.1.1)))
    (mathlib.Core.List.Memᴰ.cases_cons m)

member-down_to : (f : ℕ → ℕ) (k q i : ℕ) → i < k → q ≡ f i → Memᴰ q (down_to f k)
unfolding down_to
member-down_to f zero q i h e = absurd (omega arith)
member-down_to f (suc k) q i h e = go (ℕ_discrete i k) (member-down_to f k q i)
  where
    go : Dec (i ≡ k) → (i < k → q ≡ f i → Memᴰ q (down_to f k)) → Memᴰ q (f k ∷ down_to f k)
    go (yes n) ih = mathlib.Core.List.Memᴰ.head (e ∙ ap f n)
    go (no n) ih = mathlib.Core.List.Memᴰ.tail (ih (omega arith) e)

map-member : (g : ℕ → ℕ) (l : List ℕ) (d q : ℕ) → Memᴰ q (map g l) → (i : ℕ) × ((i < length l) × (q ≡ g (get_or l i d)))
map-member g [] d q m = absurd (mathlib.Core.List.Memᴰ.not-nil m)
map-member g (x ∷ l) d q m =
    ⊎_elim (λ (e : q ≡ g x). (0, (omega arith, e)))
    (λ (n : Memᴰ q (map g l)). let i = map-member g l d q n in (suc i.0, (omega (arith, i.1.0), i.1.1)))
    (mathlib.Core.List.Memᴰ.cases_cons m)

-- there are fewer splits than posts were merged
pub few-splits : {pl : Plot} {l l' : List ℕ} {r j : ℕ} (f : ℕ → ℕ) (k : ℕ) → Merged pl l l' (down_to f k) r j → j + 1 ≤ k
few-splits {l = l} f k m = omega (arith, m.number, classes-length (alike (path_end l)) (down_to f k), length-down_to f k)

-- all of them
pub merged-all : {pl : Plot} {l l' : List ℕ} {r j : ℕ} (g : ℕ → ℕ) (places : List ℕ) (d k : ℕ) → k ≡ length places → Merged pl l l' (down_to (λ i. g (get_or places i d)) k) r j → Merged pl l l' (map g places) r j
merged-all g places d k e m =
    merged-same
    (λ q i. let x = down_to-member (λ i. g (get_or places i d)) k q i in rw x.1.1 (member-map x.0 (omega (arith, x.1.0))))
    (λ q i. let x = map-member g places d q i in member-down_to (λ i. g (get_or places i d)) k q x.0 (omega (arith, x.1.0)) x.1.1) m
  where
    member-map : (i : ℕ) → i < length places → Memᴰ (g (get_or places i d)) (map g places)
    member-map i h = rw (← (get_or-mapped g places i d (g d) h)) (get_or-member (map g places) i (g d) (rw (length-map g places) h))

-- from a list with the same ends
pub merged-from : {pl : Plot} {l l₁ l₂ starts : List ℕ} {r k : ℕ} → SameEnds pl l l₁ → Merged pl l₁ l₂ starts r k → Merged pl l l₂ starts r k
unfolding merged
merged-from {pl} {l} {l₁} {l₂} {starts} {r} {k} s m =
    record {
      rising = m.rising;
      end = m.end;
      root = let x = m.root in (x.0, (x.1.0, x.1.1 ∙ s.ends x.0));
      ends = λ v. m.ends v ∙ rw (s.ends v) (ap (λ (t : Bool). cond t r (path_end l v)) (any_same v starts));
      number = m.number ∙ classes-ext (alike (path_end l₁)) (alike (path_end l)) starts (λ q x _ _. rw (s.ends q, s.ends x));
    }
  where
    any_same : (v : ℕ) (x : List ℕ) → any (λ q. eqb (path_end l₁ q) (path_end l v)) x ≡ any (λ q. eqb (path_end l q) (path_end l v)) x
    any_same v [] = unfold any in refl
    any_same v (y ∷ x) = go (any_same v x)
      where
        go : any (λ q. eqb (path_end l₁ q) (path_end l v)) x ≡ any (λ q. eqb (path_end l q) (path_end l v)) x
            → any (λ q. eqb (path_end l₁ q) (path_end l v)) (y ∷ x) ≡ any (λ q. eqb (path_end l q) (path_end l v)) (y ∷ x)
        go e = unfold any in rw (s.ends y, e)

-- a start of a post, by its pattern: how far it is, and that it is a post
pub start_fits : {pl : Plot} {l : List ℕ} → Rising pl l → (p b : ℕ) → p < posts pl → b ≡ pattern_at pl p → (j : ℕ) → j < length (upper_starts b)
    → (pl.columns + 1 ≤ p + stride_to pl.columns (get_or (upper_starts b) j 8)) × (post_at pl.columns p (get_or (upper_starts b) j 8) < posts pl)
start_fits {pl} r p b h e j k =
    rw e (start-inside pl r.valid.sides p h j (rw e at k), start-post pl r.valid.sides p h j (rw e at k))

-- Paths that rise come to an end, shorter ones still rise, and two ends linked are one end.
use Prim.Native.Nat.{ℕ, zero, suc, ◌≤◌, ◌<◌}
use native.Mathlib.Omega.{arith}
use native.Mathlib.Decide.{ℕ_discrete}
use mathlib.Core.Path.{◌≡◌, refl, sym, ◌∙◌, ap}
use mathlib.Core.Logic.{◌⊎◌, ⊎_elim, inl, inr}
use mathlib.Core.Bool.{Bool, true, false, cond, ◌||◌, or_comm}
use mathlib.Core.List.{List}
use lib.Dec.{eqb, ltb}
use lib.ListN.{length, set, length-set}
use lib.Seq.{get_or-set_same, get_or-set_other}
use borrow.Author.Tests.{eqb-true, eq-eqb, ne_eqb, ltb-true, ltb-false}
use Rattle.surface.specs.Plot.{Plot, posts, below, reversed}
use Rattle.surface.proofs.General.Bools.{either}
use Rattle.surface.proofs.AnyOrder.Order.{rank, rank_falls, rank-le, reversed-strict}
use Rattle.surface.proofs.OfPlots.HeightOrder.{below-strict}
use Rattle.paths.specs.Paths.{follow, along, path_end, PathsEnd, Shorter}
use Rattle.paths.proofs.Shorter.{outside, along-stays, same_end, shorter-end}
use Rattle.merges.specs.Merges.{Rising, SameEnds, End, Linked}

-- what the ends of paths are, by a value that no step changes and that an end has of itself
kept : (l : List ℕ) (g : ℕ → ℕ) → ((v : ℕ) → g (follow l v) ≡ g v) → (k v : ℕ) → g (along l k v) ≡ g v
unfolding along
kept l g keeps zero v = refl
kept l g keeps (suc k) v = kept l g keeps k (follow l v) ∙ keeps v

ends-told : {l : List ℕ} → PathsEnd l → (g : ℕ → ℕ) → ((v : ℕ) → g (follow l v) ≡ g v) → ((e : ℕ) → follow l e ≡ e → g e ≡ e) → (v : ℕ) → path_end l v ≡ g v
ends-told {l} e g keeps own v = sym (own (path_end l v) (e.stays v)) ∙ kept l g keeps (length l) v

module _ {pl : Plot} {l : List ℕ} (r : Rising pl l) where
  abbrev n : ℕ
  n = posts pl

  abbrev rise : ℕ → ℕ
  rise = rank (reversed (below pl)) n

  along-inside : (k p : ℕ) → p < n → along l k p < n
  unfolding along
  along-inside zero p h = h
  along-inside (suc k) p h = along-inside k (follow l p) (r.inside p h)

  along-rises : (k p : ℕ) → p < n → (along l k p ≡ p) ⊎ (below pl p (along l k p) ≡ true)
  unfolding along
  along-rises zero p h = inl refl
  along-rises (suc k) p h = go (r.rises p h) (along-rises k (follow l p) (r.inside p h))
    where
      go : (follow l p ≡ p) ⊎ (below pl p (follow l p) ≡ true) → (along l k (follow l p) ≡ follow l p) ⊎ (below pl (follow l p) (along l k (follow l p)) ≡ true)
          → (along l k (follow l p) ≡ p) ⊎ (below pl p (along l k (follow l p)) ≡ true)
      go (inl e) (inl f) = inl (f ∙ e)
      go (inl e) (inr f) = inr (ap (λ (x : ℕ). below pl x (along l k (follow l p))) (sym e) ∙ f)
      go (inr e) (inl f) = inr (ap (below pl p) f ∙ e)
      go (inr e) (inr f) = inr ((below-strict pl).trans p (follow l p) (along l k (follow l p)) e f)

  -- a step that moves leaves fewer posts above
  climbs : (p : ℕ) → p < n → below pl p (follow l p) ≡ true → rise (follow l p) < rise p
  climbs p h e = rank_falls (reversed (below pl)) (reversed-strict (below-strict pl)) n (follow l p) p (inl (r.inside p h)) e

  enough : (k p : ℕ) → p < n → rise p ≤ k → follow l (along l k p) ≡ along l k p
  unfolding along
  enough zero p h m = ⊎_elim (λ (e : follow l p ≡ p). e) (λ (e : below pl p (follow l p) ≡ true). absurd (omega (arith, climbs p h e))) (r.rises p h)
  enough (suc k) p h m =
      ⊎_elim (λ (e : follow l p ≡ p). rw (e, along-stays l k p e) e)
      (λ (e : below pl p (follow l p) ≡ true). enough k (follow l p) (r.inside p h) (omega (arith, climbs p h e))) (r.rises p h)

  pub rising-ends : PathsEnd l
  rising-ends =
      record {
        stays = λ p.
            either (ltb p n)
            (λ e.
            let h = ltb-true p n e in
            enough (length l) p h (omega (arith, rank-le (reversed (below pl)) (reversed-strict (below-strict pl)) n p h, r.size)))
            (λ e. let o = outside l p (omega (arith, ltb-false p n e, r.size)) in rw (along-stays l (length l) p o) o);
      }

  pub end-inside : (p : ℕ) → p < n → End pl l (path_end l p)
  end-inside p h = record { post = along-inside (length l) p h; own = rising-ends.stays p }

  -- an end is the end of its own path
  pub own-end : (e : ℕ) → End pl l e → path_end l e ≡ e
  own-end e i = along-stays l (length l) e i.own

  pub shorter-same : {l' : List ℕ} → Shorter l l' → SameEnds pl l l'
  shorter-same {l'} s =
      record {
        rising =
            record {
              valid = r.valid;
              size = s.size ∙ r.size;
              rises = λ p h. let a = s.further p in rw a.1 (along-rises (suc a.0) p h);
              inside = λ p h. let a = s.further p in rw a.1 (along-inside (suc a.0) p h);
            };
        ends = shorter-end rising-ends s;
      }

-- the end b is linked to the end a, which is above it
module _ {pl : Plot} {l : List ℕ} (r : Rising pl l) (a b : ℕ) (i : End pl l a) (j : End pl l b) (up : below pl b a ≡ true) where
  abbrev l' : List ℕ
  l' = set l b a

  other : a ≡ b → ⊥
  other e = let z : ◌≡◌ {A = Bool} false true = sym ((below-strict pl).irrefl b) ∙ ap (below pl b) (sym e) ∙ up in let y : ◌≡◌ {A = ℕ} 0 1 = cc in omega arith

  follow-b : follow l' b ≡ a
  follow-b = get_or-set_same l b a b (omega (arith, r.size, j.post))

  follow-other : (v : ℕ) → (v ≡ b → ⊥) → follow l' v ≡ follow l v
  follow-other v e = get_or-set_other l b v a v e

  link-rising : Rising pl l'
  link-rising =
      record {
        valid = r.valid;
        size = length-set l b a ∙ r.size;
        rises = λ p h. go p h (ℕ_discrete p b);
        inside = λ p h. stays p h (ℕ_discrete p b);
      }
    where
      go : (p : ℕ) → p < posts pl → Dec (p ≡ b) → (follow l' p ≡ p) ⊎ (below pl p (follow l' p) ≡ true)
      go p h (yes e) = rw e (inr (ap (below pl b) follow-b ∙ up))
      go p h (no e) = rw (follow-other p e) (r.rises p h)

      stays : (p : ℕ) → p < posts pl → Dec (p ≡ b) → follow l' p < posts pl
      stays p h (yes e) = rw e (rw follow-b i.post)
      stays p h (no e) = rw (follow-other p e) (r.inside p h)

  -- what each post's end becomes
  abbrev told : ℕ → ℕ
  told v = cond (eqb (path_end l v) b) a (path_end l v)

  link-ends : (v : ℕ) → path_end l' v ≡ told v
  unfolding along
  link-ends = ends-told (rising-ends link-rising) told (λ v. keeps v (ℕ_discrete v b)) (λ e k. own e k (ℕ_discrete e b))
    where
      keeps : (v : ℕ) → Dec (v ≡ b) → told (follow l' v) ≡ told v
      keeps v (yes e) = rw e (rw (follow-b, own-end r a i, own-end r b j, ne_eqb a b other, eq-eqb b b refl))
      keeps v (no e) = rw (follow-other v e) (ap (λ (x : ℕ). cond (eqb x b) a x) (same_end (rising-ends r) 1 v))

      own : (e : ℕ) → follow l' e ≡ e → Dec (e ≡ b) → told e ≡ e
      own e k (yes f) = absurd (other (sym follow-b ∙ ap (follow l') (sym f) ∙ k ∙ f))
      own e k (no f) = let s = along-stays l (length l) e (sym (follow-other e f) ∙ k) in rw (s, ne_eqb e b f)

  pub linked : Linked pl l l' a b a
  linked =
      record {
        rising = link-rising;
        end = record { post = i.post; own = follow-other a other ∙ i.own };
        either = inl refl;
        ends = λ v. link-ends v ∙ both v (eqb (path_end l v) b) refl (eqb (path_end l v) a) refl;
      }
    where
      both : (v : ℕ) (x : Bool) → eqb (path_end l v) b ≡ x → (y : Bool) → eqb (path_end l v) a ≡ y → cond x a (path_end l v) ≡ cond (y || x) a (path_end l v)
      both v true e true f = refl
      both v true e false f = refl
      both v false e true f = eqb-true (path_end l v) a f
      both v false e false f = refl

-- the same, told of a and b the other way round
pub linked-back : {pl : Plot} {l l' : List ℕ} {a b r : ℕ} → Linked pl l l' a b r → Linked pl l l' b a r
linked-back {l = l} {a = a} {b = b} {r = r} k =
    record {
      rising = k.rising;
      end = k.end;
      either = ⊎_elim (λ (e : r ≡ a). inr e) (λ (e : r ≡ b). inl e) k.either;
      ends = λ v. k.ends v ∙ ap (λ (x : Bool). cond x r (path_end l v)) (or_comm (eqb (path_end l v) a) (eqb (path_end l v) b));
    }

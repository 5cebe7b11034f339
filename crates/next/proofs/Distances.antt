-- The posts round a post p by their distance: what is lower falls further, so that a lower post beside p goes before one across a cell, and posts at one
-- distance go by the order itself.
use Prim.Native.Nat.{ℕ, ◌+◌, ◌-◌, ◌≤◌, ◌<◌}
use native.Mathlib.Omega.{arith}
use native.Mathlib.Nat.{mul-le-mul}
use native.Mathlib.Decide.{ℕ_discrete}
use mathlib.Core.Path.{◌≡◌, refl, sym, ap, ◌∙◌}
use mathlib.Core.Logic.{◌⊎◌, inl, inr}
use mathlib.Core.Bool.{Bool, true, false, cond, true≢false}
use lib.Dec.{eqb}
use lib.IntN.{pos}
use lib.Signed.{lt_z, mag}
use borrow.Author.Tests.{ltb-false, eq-eqb, ne_eqb}
use Rattle.surface.specs.Plot.{Plot, posts, row, column, is_height, height, below, directed, PostOf}
use Rattle.surface.specs.Spacings.{Spaced}
use Rattle.surface.specs.Lines.{squared, squared_length, squared_drop}
use Rattle.surface.specs.declared.Spacings.{Spacings}
use Rattle.surface.proofs.General.Bools.{either}
use Rattle.surface.proofs.General.FirstNot.{all-at}
use Rattle.surface.proofs.AnyOrder.Grid.{not-pit}
use Rattle.surface.proofs.General.Order.{StrictTotal}
use Rattle.surface.proofs.OfPlots.HeightOrder.{below-strict, height-below}
use Rattle.surface.proofs.OfPlots.Counted.{counted, counted-less, counted-apart, height-mag}
use Rattle.order.specs.Ties.{Stands}
use Rattle.keys.specs.Keys.{There}
use Rattle.next.proofs.Onward.{fall_to, onward, onward-own, own-onward, nearer-first, same-distance}
use Rattle.next.proofs.Scanned.{toward-strict}

-- the squared length of an edge, by where its other end stands
abbrev pub length_at : Spacings → ℕ → ℕ → ℕ
length_at s down along = cond (eqb down 1) (squared s.east) (cond (eqb along 1) (squared s.south) (squared s.east + squared s.south))

same_line : (a b d : ℕ) → b + 1 ≡ a + d → eqb a b ≡ eqb d 1
same_line a b d h = go (ℕ_discrete d 1)
  where
    go : Dec (d ≡ 1) → eqb a b ≡ eqb d 1
    go (yes e) = eq-eqb a b (omega (arith, h)) ∙ sym (eq-eqb d 1 e)
    go (no e) = ne_eqb a b (λ f. e (omega (arith, h))) ∙ sym (ne_eqb d 1 e)

pub length-stands : (pl : Plot) (s : Spacings) (p q down along : ℕ) → Stands pl.columns p q down along → squared_length pl s p q ≡ length_at s down along
unfolding squared_length
length-stands pl s p q down along t =
    rw (same_line (row pl.columns p) (row pl.columns q) down t.in_row, same_line (column pl.columns p) (column pl.columns q) along t.in_column)

module _ {pl : Plot} {p : ℕ} (post : PostOf pl p) where
  abbrev h : ℕ → ℕ
  h q = counted 1000001 (height pl q)

  small : (q : ℕ) → mag (height pl q) < 1000001
  small q = omega (arith, height-mag (height pl q) (all-at is_height pl.heights (pos 0) refl post.valid.in_range q))

  -- what is below has no greater height
  below-low : (a q : ℕ) → a < posts pl → q < posts pl → below pl a q ≡ true → h a ≤ h q
  below-low a q i j e =
      ltb-false (h q) (h a)
      (sym (counted-less 1000001 (height pl q) (height pl a) (small q) (small a))
      ∙ either (lt_z (height pl q) (height pl a)) (λ f. absurd (true≢false (sym ((below-strict pl).trans a q a e (height-below pl q a (not-pit post.valid.sides j) (not-pit post.valid.sides i) f)) ∙ (below-strict pl).irrefl a))) (λ f. f))

  -- how far two posts are apart in height
  drop-counted : (s : Spacings) (q : ℕ) → squared_drop pl p q ≡ squared ((h p - h q) + (h q - h p))
  unfolding squared_drop
  drop-counted s q = ap squared (counted-apart 1000001 (height pl p) (height pl q) (small p) (small q))

  module _ (s : Spacings) (spaced : Spaced s) (upward : Bool) where
    abbrev lower : ℕ → ℕ → Bool
    lower = directed upward (below pl)

    abbrev ahead : ℕ → ℕ → Bool
    ahead = onward pl s lower p

    o : StrictTotal lower
    o = toward-strict upward pl

    -- what is lower falls further
    falls-further : (a q : ℕ) → a < posts pl → q < posts pl → lower a q ≡ true → fall_to pl s lower p q ≤ fall_to pl s lower p a
    unfolding fall_to
    falls-further a q i j e = either (lower q p) (λ f. rw (f, o.trans a q p e f, drop-counted s q, drop-counted s a) (apart upward e f)) (λ f. rw f (omega arith))
      where
        apart : (u : Bool) → directed u (below pl) a q ≡ true → directed u (below pl) q p ≡ true → squared ((h p - h q) + (h q - h p)) ≤ squared ((h p - h a) + (h a - h p))
        apart true e f =
            let x : (h p - h q) + (h q - h p) ≤ (h p - h a) + (h a - h p) = omega (arith, below-low q a j i e, below-low p q post.post j f) in
            mul-le-mul x x
        apart false e f =
            let x : (h p - h q) + (h q - h p) ≤ (h p - h a) + (h a - h p) = omega (arith, below-low a q i j e, below-low q p j post.post f) in
            mul-le-mul x x

    module _ {down along down' along' : ℕ} (x : There pl p down along) (y : There pl p down' along') where
      far : squared_length pl s p x.q ≡ length_at s down along
      far = length-stands pl s p x.q down along x.stands

      far' : squared_length pl s p y.q ≡ length_at s down' along'
      far' = length-stands pl s p y.q down' along' y.stands

      -- nearer, and lower
      pub nearer-ahead : length_at s down along ≤ length_at s down' along' → lower x.q y.q ≡ true → ahead x.q y.q ≡ true
      nearer-ahead l e =
          nearer-first pl s lower p o spaced x.q y.q (falls-further x.q y.q x.post y.post e) (omega (arith, far, far', l)) e

      -- at one distance
      level-ahead : length_at s down along ≡ length_at s down' along' → ahead x.q y.q ≡ lower x.q y.q
      level-ahead l =
          same-distance pl s lower p o spaced x.q y.q (falls-further x.q y.q x.post y.post) (falls-further y.q x.q y.post x.post) (far ∙ l ∙ sym far')

    -- p, or a post so far from it
    pub record At (l q : ℕ) : Type 0 where
      pub down : ℕ
      pub along : ℕ
      pub there : There pl p down along
      pub is : there.q ≡ q
      pub far : length_at s down along ≡ l

    abbrev pub Group : ℕ → ℕ → Type 0
    Group l q = (q ≡ p) ⊎ At l q

    -- where they go by the order itself
    pub group-agree : (l a q : ℕ) → Group l a → Group l q → ahead a q ≡ lower a q
    group-agree l a q (inl e) g = rw e (own-onward pl s lower p o spaced q)
    group-agree l a q (inr i) (inl e) = rw e (onward-own pl s lower p o spaced a)
    group-agree l a q (inr i) (inr j) = rw (← i.is, ← j.is) (level-ahead i.there j.there (i.far ∙ sym j.far))

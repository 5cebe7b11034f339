-- The height order of a plot is a strict total order in which the virtual pit is lowest.
use Prim.Native.Nat.{ℕ}
use native.Mathlib.Omega.{arith}
use mathlib.Core.Path.{◌≡◌, refl, sym, ◌∙◌, ap}
use mathlib.Core.Bool.{Bool, true, false, not, ◌&&◌, ◌||◌, true≢false, or-true}
use lib.Dec.{eqb}
use lib.IntN.{ℤ, pos, negsuc}
use lib.Signed.{lt_z}
use borrow.Author.Tests.{ltb-true, ltb-false, lt-ltb, le-ltb, eqb-true, eq-eqb, ne_eqb}
use Rattle.surface.specs.Plot.{Plot, height, virtual_pit, driven_before, below, tied}
use Rattle.surface.proofs.General.Bools.{either}
use Rattle.surface.proofs.General.Order.{StrictTotal}
use Rattle.surface.proofs.General.Lex.{Weak, strict-ties, lex, lex-strict}
use Rattle.surface.proofs.OfPlots.Driven.{driven-strict}

-- whole numbers
pub lt_z-irrefl : (a : ℤ) → lt_z a a ≡ false
lt_z-irrefl (pos a) = le-ltb a a (omega arith)
lt_z-irrefl (negsuc a) = le-ltb a a (omega arith)

pub lt_z-trans : (a b c : ℤ) → lt_z a b ≡ true → lt_z b c ≡ true → lt_z a c ≡ true
lt_z-trans (pos a) (pos b) (pos c) h k = lt-ltb a c (omega (arith, ltb-true a b h, ltb-true b c k))
lt_z-trans (pos a) (pos b) (negsuc c) h k = k
lt_z-trans (pos a) (negsuc b) (pos c) h k = absurd (true≢false (sym h))
lt_z-trans (pos a) (negsuc b) (negsuc c) h k = h
lt_z-trans (negsuc a) (pos b) (pos c) h k = refl
lt_z-trans (negsuc a) (pos b) (negsuc c) h k = absurd (true≢false (sym k))
lt_z-trans (negsuc a) (negsuc b) (pos c) h k = refl
lt_z-trans (negsuc a) (negsuc b) (negsuc c) h k = lt-ltb c a (omega (arith, ltb-true b a h, ltb-true c b k))

pub lt_z-level : (a b : ℤ) → lt_z a b ≡ false → lt_z b a ≡ false → a ≡ b
lt_z-level (pos a) (pos b) h k = ap pos (omega (arith, ltb-false a b h, ltb-false b a k))
lt_z-level (pos a) (negsuc b) h k = absurd (true≢false k)
lt_z-level (negsuc a) (pos b) h k = absurd (true≢false h)
lt_z-level (negsuc a) (negsuc b) h k = ap negsuc (omega (arith, ltb-false b a h, ltb-false a b k))

pub lt_z-asym : (a b : ℤ) → lt_z a b ≡ true → lt_z b a ≡ false
lt_z-asym a b h = go (lt_z b a) refl
  where
    go : (t : Bool) → lt_z b a ≡ t → t ≡ false
    go true k = sym (lt_z-trans a b a h k) ∙ lt_z-irrefl a
    go false k = refl

lt_z-weak : Weak lt_z
lt_z-weak = record { asym = lt_z-asym; via = λ a b c h k. either (lt_z b a) (λ e. lt_z-trans b a c e h) (λ e. rw (lt_z-level a b k e) at h) }

-- posts by height, then as driven
module _ (pl : Plot) where
  by_height : ℕ → ℕ → Bool
  by_height = lex lt_z (height pl) (driven_before pl.columns)

  by_height-strict : StrictTotal by_height
  unfolding by_height
  by_height-strict = lex-strict lt_z (height pl) (driven_before pl.columns) lt_z-weak (strict-ties lt_z (height pl) (driven-strict pl.columns))

  -- between posts the order is by height, then as driven
  pub below-lex : (p q : ℕ) → (p ≡ virtual_pit → ⊥) → (q ≡ virtual_pit → ⊥)
      → below pl p q ≡ lt_z (height pl p) (height pl q) || (not (lt_z (height pl q) (height pl p)) && driven_before pl.columns p q)
  unfolding below
  below-lex p q h k = rw (ne_eqb p virtual_pit h, ne_eqb q virtual_pit k)

  -- so a post of less height is below
  pub height-below : (p q : ℕ) → (p ≡ virtual_pit → ⊥) → (q ≡ virtual_pit → ⊥) → lt_z (height pl p) (height pl q) ≡ true → below pl p q ≡ true
  height-below p q h k e = rw (below-lex p q h k, e)

  -- the virtual pit is below every post
  pub pit-below : (q : ℕ) → (q ≡ virtual_pit → ⊥) → below pl virtual_pit q ≡ true
  unfolding below
  pit-below q k = rw (ne_eqb q virtual_pit k, eq-eqb virtual_pit virtual_pit refl)

  pub not-below-pit : (p : ℕ) → below pl p virtual_pit ≡ false
  unfolding below
  not-below-pit p = rw (eq-eqb virtual_pit virtual_pit refl)

  -- ties are between posts
  pub tied-level : (p q : ℕ) → (p ≡ virtual_pit → ⊥) → (q ≡ virtual_pit → ⊥)
      → tied pl p q ≡ not (lt_z (height pl p) (height pl q) || lt_z (height pl q) (height pl p))
  tied-level p q h k = rw (ne_eqb p virtual_pit h, ne_eqb q virtual_pit k)

  pub not-tied-pit : (p : ℕ) → tied pl p virtual_pit ≡ false
  not-tied-pit p = rw (eq-eqb virtual_pit virtual_pit refl, or-true)

  pub below-strict : StrictTotal (below pl)
  unfolding below by_height
  below-strict = record { irrefl = irr; other = oth; trans = tra }
    where
      irr : (p : ℕ) → below pl p p ≡ false
      irr p = go (eqb p virtual_pit)
        where
          go : (t : Bool) → not t && (t || by_height p p) ≡ false
          go true = refl
          go false = by_height-strict.irrefl p

      oth : (p q : ℕ) → (p ≡ q → ⊥) → below pl q p ≡ not (below pl p q)
      oth p q h = go (eqb p virtual_pit) (eqb q virtual_pit) refl refl
        where
          go : (a b : Bool) → eqb p virtual_pit ≡ a → eqb q virtual_pit ≡ b → not a && (b || by_height q p) ≡ not (not b && (a || by_height p q))
          go true true e f = absurd (h (eqb-true p virtual_pit e ∙ sym (eqb-true q virtual_pit f)))
          go true false e f = refl
          go false true e f = refl
          go false false e f = by_height-strict.other p q h

      tra : (p q r : ℕ) → below pl p q ≡ true → below pl q r ≡ true → below pl p r ≡ true
      tra p q r h k = go (eqb p virtual_pit) (eqb q virtual_pit) (eqb r virtual_pit) h k
        where
          go : (a b c : Bool) → not b && (a || by_height p q) ≡ true → not c && (b || by_height q r) ≡ true → not c && (a || by_height p r) ≡ true
          go a true c e f = absurd (true≢false (sym e))
          go a false true e f = absurd (true≢false (sym f))
          go true false false e f = refl
          go false false false e f = by_height-strict.trans p q r e f

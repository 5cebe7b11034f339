-- Posts compared by a key, and where their keys are level by a tie: a strict total order, if the tie is one among posts whose keys are level.
use Prim.Native.Nat.{ℕ}
use native.Mathlib.Omega.{arith}
use mathlib.Core.Path.{◌≡◌, refl, sym, ◌∙◌}
use mathlib.Core.Logic.{◌⊎◌, ⊎_elim, inl, inr}
use mathlib.Core.Bool.{Bool, true, false, not, ◌&&◌, ◌||◌, true≢false}
use lib.Dec.{ltb}
use borrow.Author.Tests.{ltb-true, ltb-false, lt-ltb, le-ltb}
use Rattle.surface.proofs.General.Bools.{either}
use Rattle.surface.proofs.General.Order.{StrictTotal}

-- a strict order of keys: what is less than another, but not less than b, has b between
pub record Weak {A : Type 0} (less : A → A → Bool) : Type 0 where
  pub asym : (a b : A) → less a b ≡ true → less b a ≡ false
  pub via : (a b c : A) → less a c ≡ true → less a b ≡ false → less b c ≡ true

pub ltb-weak : Weak ltb
ltb-weak =
    record {
      asym = λ a b h. le-ltb b a (omega (arith, ltb-true a b h));
      via = λ a b c h k. lt-ltb b c (omega (arith, ltb-true a c h, ltb-false a b k));
    }

-- neither is less
abbrev pub Level : {A : Type 0} → (A → A → Bool) → A → A → Type 0
Level less a b = (less a b ≡ false) × (less b a ≡ false)

-- a tie among posts of level keys
pub record Ties {A : Type 0} (less : A → A → Bool) (key : ℕ → A) (tie : ℕ → ℕ → Bool) : Type 0 where
  pub irrefl : (p : ℕ) → tie p p ≡ false
  pub other : (p q : ℕ) → Level less (key p) (key q) → (p ≡ q → ⊥) → tie q p ≡ not (tie p q)
  pub trans : (p q r : ℕ) → Level less (key p) (key q) → Level less (key q) (key r) → tie p q ≡ true → tie q r ≡ true → tie p r ≡ true

pub strict-ties : {A : Type 0} (less : A → A → Bool) (key : ℕ → A) {tie : ℕ → ℕ → Bool} → StrictTotal tie → Ties less key tie
strict-ties less key o = record { irrefl = o.irrefl; other = λ p q _ h. o.other p q h; trans = λ p q r _ _ h k. o.trans p q r h k }

module _ {A : Type 0} (less : A → A → Bool) (key : ℕ → A) (tie : ℕ → ℕ → Bool) where
  abbrev pub lex : ℕ → ℕ → Bool
  lex p q = less (key p) (key q) || (not (less (key q) (key p)) && tie p q)

  module _ (m : Weak less) (t : Ties less key tie) where
    pub weak-irrefl : (a : A) → less a a ≡ false
    weak-irrefl a = either (less a a) (m.asym a a) (λ e. e)

    -- level keys are so to all others
    stays : (a b c : A) → less a b ≡ false → less b c ≡ false → less a c ≡ false
    stays a b c h k = either (less a c) (λ e. absurd (true≢false (sym (m.via a b c e h) ∙ k))) (λ e. e)

    through : (a b c : A) → less a b ≡ true → less c b ≡ false → less a c ≡ true
    through a b c h k = either (less a c) (λ e. e) (λ e. absurd (true≢false (sym (m.via a c b h e) ∙ k)))

    cases : (p q : ℕ) → lex p q ≡ true → (less (key p) (key q) ≡ true) ⊎ (Level less (key p) (key q) × (tie p q ≡ true))
    cases p q h = go (less (key p) (key q)) (less (key q) (key p)) refl refl h
      where
        go : (a b : Bool) → less (key p) (key q) ≡ a → less (key q) (key p) ≡ b → a || (not b && tie p q) ≡ true
            → (less (key p) (key q) ≡ true) ⊎ (Level less (key p) (key q) × (tie p q ≡ true))
        go true b e f k = inl e
        go false true e f k = absurd (true≢false (sym k))
        go false false e f k = inr ((e, f), k)

    first : (p q : ℕ) → less (key p) (key q) ≡ true → lex p q ≡ true
    first p q h = rw h

    tra : (p q r : ℕ) → lex p q ≡ true → lex q r ≡ true → lex p r ≡ true
    tra p q r h k =
        ⊎_elim
        (λ (a : less (key p) (key q) ≡ true).
        ⊎_elim
        (λ (b : less (key q) (key r) ≡ true). first p r (through (key p) (key q) (key r) a (m.asym (key q) (key r) b)))
        (λ (b : Level less (key q) (key r) × (tie q r ≡ true)). first p r (through (key p) (key q) (key r) a b.0.1))
        (cases q r k))
        (λ (a : Level less (key p) (key q) × (tie p q ≡ true)).
        ⊎_elim
        (λ (b : less (key q) (key r) ≡ true). first p r (turn-back a b))
        (λ (b : Level less (key q) (key r) × (tie q r ≡ true)). rw (stays (key p) (key q) (key r) a.0.0 b.0.0, stays (key r) (key q) (key p) b.0.1 a.0.1, t.trans p q r a.0 b.0 a.1 b.1))
        (cases q r k))
        (cases p q h)
      where
        turn-back : Level less (key p) (key q) × (tie p q ≡ true) → less (key q) (key r) ≡ true → less (key p) (key r) ≡ true
        turn-back a b = m.via (key q) (key p) (key r) b a.0.1

    oth : (p q : ℕ) → (p ≡ q → ⊥) → lex q p ≡ not (lex p q)
    oth p q h = go (less (key p) (key q)) (less (key q) (key p)) refl refl
      where
        go : (a b : Bool) → less (key p) (key q) ≡ a → less (key q) (key p) ≡ b → b || (not a && tie q p) ≡ not (a || (not b && tie p q))
        go true true e f = absurd (true≢false (sym f ∙ m.asym (key p) (key q) e))
        go true false e f = refl
        go false true e f = refl
        go false false e f = t.other p q (e, f) h

    pub lex-strict : StrictTotal lex
    lex-strict = record { irrefl = λ p. rw (weak-irrefl (key p)) (t.irrefl p); other = oth; trans = tra }

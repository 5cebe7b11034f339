-- A pattern's multiplicity is one less than its runs, and at each post of a plot joins and splits are that of its pattern.
use Prim.Native.Nat.{ℕ, zero, suc, ◌+◌, ◌-◌, ◌/◌, ◌%◌, ◌≤◌, ◌<◌}
use native.Mathlib.Omega.{arith}
use mathlib.Core.Path.{◌≡◌, refl, ◌∙◌, ap}
use mathlib.Core.Bool.{Bool, true, false}
use mathlib.Core.List.{List}
use lib.Dec.{eqb, ltb}
use mir.Val.{bool_byte}
use lib.ListN.{length, get_or}
use borrow.Author.Tests.{ne_eqb, lt-ltb}
use Rattle.surface.specs.Lists.{list_of}
use Rattle.surface.specs.Plot.{Plot, posts, Valid}
use Rattle.surface.specs.Marks.{multiplicity}
use Rattle.surface.specs.Flags.{mark_by}
use Rattle.surface.specs.Patterns.{pattern_at, changes_in, mark_in}
use Rattle.surface.specs.Bodies.{joins_at, splits_at, joins_of, splits_of}
use Rattle.surface.proofs.General.ListOf.{length-list_of, get_or-list_of, list_of-ext}
use Rattle.surface.proofs.OfPlots.Joins.{post-joins-splits}
use Rattle.surface.proofs.OfPlots.Patterns.{mark-in}

runs-less : (side : Bool) (k : ℕ) → multiplicity (mark_by side k) ≡ k - 1
unfolding mark_by
runs-less true zero = refl
runs-less false zero = refl
runs-less side (suc zero) = refl
runs-less side (suc (suc k)) = rw (ne_eqb (suc (suc k)) 0 (omega arith), ne_eqb (suc (suc k)) 1 (omega arith)) (omega arith)

pub multiplicity-in : (b : ℕ) → multiplicity (mark_in b) ≡ changes_in b / 2 - 1
unfolding mark_in
multiplicity-in b = runs-less (eqb (b % 2) 1) (changes_in b / 2)

-- one less, where there is one
pub less-some : (k : ℕ) → (bool_byte (ltb 0 k) ≤ k) × (k - bool_byte (ltb 0 k) ≡ k - 1)
less-some zero = (omega arith, refl)
less-some (suc k) = rw (lt-ltb 0 (suc k) (omega arith)) (omega arith, refl)

module _ (pl : Plot) (valid : Valid pl) where
  joins-are : (p : ℕ) → p < posts pl → joins_at pl p + splits_at pl p ≡ multiplicity (mark_in (pattern_at pl p))
  joins-are p h = post-joins-splits pl valid.sides p h ∙ ap multiplicity (mark-in (record { valid = valid; post = h }))

  -- of lists with the patterns and with the splits
  module _ {patterns splits : List ℕ} (e : patterns ≡ list_of (pattern_at pl) (posts pl)) (f : splits ≡ splits_of pl) where
    pattern-of : (p : ℕ) → p < posts pl → get_or patterns p 0 ≡ pattern_at pl p
    pattern-of p h = rw e (get_or-list_of (pattern_at pl) (posts pl) p 0 h)

    splits-each : (p : ℕ) → p < posts pl → get_or splits p 0 ≡ splits_at pl p
    splits-each p h = rw f (unfold splits_of in get_or-list_of (splits_at pl) (posts pl) p 0 h)

    pub patterns-long : length patterns ≡ posts pl
    patterns-long = ap length e ∙ length-list_of (pattern_at pl) (posts pl)

    pub splits-long : length splits ≡ posts pl
    splits-long = rw f (unfold splits_of in length-list_of (splits_at pl) (posts pl))

    pub splits-le : (p : ℕ) → p < length patterns → get_or splits p 0 ≤ multiplicity (mark_in (get_or patterns p 0))
    splits-le p h =
        let n : p < posts pl = omega (arith, patterns-long) in
        rw (pattern-of p n, splits-each p n) (omega (arith, joins-are p n))

    pub joins-told : list_of (λ p. multiplicity (mark_in (get_or patterns p 0)) - get_or splits p 0) (length patterns) ≡ joins_of pl
    unfolding joins_of
    joins-told =
        rw patterns-long
        (list_of-ext _ (joins_at pl) (posts pl) (λ p h. rw (pattern-of p h, splits-each p h) (omega (arith, joins-are p h))))

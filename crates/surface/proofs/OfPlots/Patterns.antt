-- The pattern of a post of a plot: it has the changes of the post's ring, it tells the mark, and comparisons alone tell it. The table of changes is read
-- at any pattern.
use Prim.Native.Nat.{ℕ, ◌+◌, ◌*◌, ◌≤◌, ◌<◌}
use native.Mathlib.Omega.{arith}
use mathlib.Core.Path.{◌≡◌}
use mathlib.Core.Bool.{Bool, true, false}
use lib.ListN.{get_or}
use Rattle.surface.specs.Lists.{one}
use Rattle.surface.specs.Plot.{Plot, below, PostOf}
use Rattle.surface.specs.Edges.{falls_in, ring_of}
use Rattle.surface.specs.Marks.{mark_at}
use Rattle.surface.specs.Flags.{sign_by, pair_by, lower_by, upper_by, east_pair, south_pair, north_pair, west_sign, west_pair}
use Rattle.surface.specs.Patterns.{changes, signs_at, pattern_at, signs_of, changes_in, change_table, mark_in}
use Rattle.surface.proofs.General.ListOf.{get_or-list_of}
use Rattle.surface.proofs.AnyOrder.Grid.{not-pit}
use Rattle.surface.proofs.AnyOrder.RingEdges.{ring-other}
use Rattle.surface.proofs.AnyOrder.Changes.{changes-le}
use Rattle.surface.proofs.AnyOrder.Patterns.{pattern-changes, mark-pattern}
use Rattle.surface.proofs.AnyOrder.PatternFlags.{pattern-by-flags}
use Rattle.surface.proofs.OfPlots.HeightOrder.{below-strict, pit-below}

-- a side and its corner make a number of two digits
pub pair-le : (h side corner after : Bool) → pair_by h side corner after ≤ 3
unfolding pair_by
pair-le h side corner after = go side (sign_by h side corner after)
  where
    go : (x y : Bool) → one x + 2 * one y ≤ 3
    go true true = omega arith
    go true false = omega arith
    go false true = omega arith
    go false false = omega arith

pub pairs-le : (pl : Plot) (p : ℕ) → (north_pair pl p ≤ 3) × (west_pair pl p ≤ 3) × (east_pair pl p ≤ 3) × (south_pair pl p ≤ 3)
unfolding north_pair west_pair east_pair south_pair
pairs-le pl p = (pair-le _ _ _ _, pair-le _ _ _ _, pair-le _ _ _ _, pair-le _ _ _ _)

-- a ring's pattern has the ring's changes of side
pub ring-changes : (pl : Plot) (p : ℕ) → changes_in (pattern_at pl p) ≡ changes (λ q. below pl q p) (ring_of pl p)
unfolding signs_at ring_of
ring-changes pl p = pattern-changes (below pl) (below-strict pl) pl.rows pl.columns (falls_in pl) p

module _ {pl : Plot} {p : ℕ} (post : PostOf pl p) where
  pub mark-in : mark_at pl p ≡ mark_in (pattern_at pl p)
  unfolding signs_at ring_of mark_at
  mark-in =
      mark-pattern (below pl) (below-strict pl) pl.rows pl.columns (falls_in pl) p (λ q m. ring-other post.valid.sides (falls_in pl) p q post.post m)

  pub pattern-flags : pattern_at pl p ≡ upper_by (north_pair pl p) (west_pair pl p) + lower_by (east_pair pl p) (south_pair pl p)
  unfolding signs_at north_pair west_pair west_sign east_pair south_pair
  pattern-flags =
      let s = post.valid.sides in
      pattern-by-flags (below pl) (below-strict pl) pl.highest s p (pit-below pl p (not-pit s post.post))

  pub pattern_lt : pattern_at pl p < 256
  pattern_lt = omega (arith, pattern-flags, pairs-le pl p)

-- no more changes than signs
pub changes_in-le : (k : ℕ) → changes_in k ≤ 8
unfolding changes_in signs_of
changes_in-le k = changes-le (λ x. x) (signs_of 8 k)

-- the table's rule at each entry
pub table_at : (k : ℕ) → k < 256 → get_or change_table k 0 ≡ changes_in k
unfolding change_table
table_at k h = get_or-list_of changes_in 256 k 0 h

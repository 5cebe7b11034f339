-- One new height moves peaks and pits by at most five each, since it changes no mark but those of the posts that touch it; and the saddle sum with them.
use Prim.Native.Nat.{ℕ, ◌+◌, ◌≤◌, ◌<◌}
use native.Mathlib.Omega.{arith}
use mathlib.Core.Path.{◌≡◌, sym, ap}
use mathlib.Core.Bool.{Bool, true, false, cond}
use mathlib.Core.List.{List}
use lib.Dec.{eqb}
use lib.IntN.{ℤ}
use lib.ListN.{set}
use borrow.Author.Tests.{eqb-true}
use Rattle.surface.specs.Lists.{any, count}
use Rattle.surface.specs.Plot.{Plot, posts, over, reshot, below, directed, Sides}
use Rattle.surface.specs.Edges.{falls_in, ring, ring_of}
use Rattle.surface.specs.Marks.{mark_at, marks_of, peaks, pits, saddles, touches}
use Rattle.surface.proofs.General.Bounds.{sum-beyond}
use Rattle.surface.proofs.General.ListOf.{count-list_of}
use Rattle.surface.proofs.AnyOrder.Order.{directed-strict}
use Rattle.surface.proofs.AnyOrder.Blocks.{block-ends}
use Rattle.surface.proofs.AnyOrder.Network.{mark-pit, mark-peak}
use Rattle.surface.proofs.OfPlots.HeightOrder.{below-strict}
use Rattle.surface.proofs.OfPlots.Instance.{any-network, plot-balance}
use Rattle.surface.proofs.OfPlots.Redrawn.{mark_at-set}

-- the mark of an end: upward a peak's, downward a pit's
abbrev is_end : Bool → ℕ → Bool
is_end upward m = eqb m (cond upward 1 2)

module _ (pl : Plot) (sides : Sides pl.rows pl.columns) where
  -- no neighbour of an end is lower, or upward higher
  end_none : (upward : Bool) (p : ℕ) → p < posts pl → is_end upward (mark_at pl p) ≡ true
      → any (λ q. directed upward (below pl) q p) (ring pl.rows pl.columns (falls_in pl) p) ≡ false
  unfolding mark_at ring_of
  end_none true p h e = (mark-peak (any-network pl sides) p h).0 (eqb-true _ 1 e)
  end_none false p h e = (mark-pit (any-network pl sides) p h).0 (eqb-true _ 2 e)

  -- the plot with other heights, where only marks of posts that touch z differ
  ends-beyond : (upward : Bool) (z : ℕ) (hs' : List ℤ)
      → ((p : ℕ) → p < posts pl → touches pl.columns z p ≡ false → mark_at pl p ≡ mark_at (over pl hs') p)
      → count (is_end upward) (marks_of pl) ≤ count (is_end upward) (marks_of (over pl hs')) + 5
  unfolding marks_of
  ends-beyond upward z hs' same =
      omega (
        arith,
        count-list_of (is_end upward) (mark_at pl) (posts pl),
        count-list_of (is_end upward) (mark_at (over pl hs')) (posts pl),
        sum-beyond (posts pl) (λ p. is_end upward (mark_at pl p)) (λ p. is_end upward (mark_at (over pl hs') p)) (touches pl.columns z)
            (λ p h t. ap (is_end upward) (same p h t)),
        block-ends sides (falls_in pl) (directed upward (below pl)) (directed-strict upward (below-strict pl)) (λ p. is_end upward (mark_at pl p))
            (end_none upward) z,
      )

-- a new height at z
module _ (pl : Plot) (sides : Sides pl.rows pl.columns) (z : ℕ) (new : ℤ) where
  abbrev old : List ℕ
  old = marks_of pl

  abbrev fresh : List ℕ
  fresh = marks_of (reshot pl z new)

  ends-move : (upward : Bool)
      → (count (is_end upward) old ≤ count (is_end upward) fresh + 5) × (count (is_end upward) fresh ≤ count (is_end upward) old + 5)
  ends-move upward = (
    ends-beyond pl sides upward z (set pl.heights z new) (λ p h t. sym (mark_at-set pl sides z new p h t)),
    ends-beyond (reshot pl z new) sides upward z pl.heights (mark_at-set pl sides z new),
  )

  pub peaks-move : (peaks old ≤ peaks fresh + 5) × (peaks fresh ≤ peaks old + 5)
  unfolding peaks
  peaks-move = ends-move true

  pub pits-move : (pits old ≤ pits fresh + 5) × (pits fresh ≤ pits old + 5)
  unfolding pits
  pits-move = omega (arith, ends-move false)

  -- the saddle sum moves by the two changes together: by the balance before and after
  pub saddles-together : saddles fresh + (peaks old + pits old) ≡ saddles old + (peaks fresh + pits fresh)
  saddles-together = omega (arith, plot-balance pl sides, plot-balance (reshot pl z new) sides)

  pub saddles-move : (saddles old ≤ saddles fresh + 10) × (saddles fresh ≤ saddles old + 10)
  saddles-move = omega (arith, peaks-move, pits-move, saddles-together)

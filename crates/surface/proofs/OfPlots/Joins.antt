-- Joins and splits of a plot: what the laws over any order and diagonals say of them.
use Prim.Native.Nat.{ℕ, ◌+◌, ◌-◌, ◌<◌}
use native.Mathlib.Omega.{arith}
use mathlib.Core.Path.{◌≡◌, ap}
use mathlib.Core.Logic.{◌↔◌}
use mathlib.Core.Bool.{Bool, true}
use Rattle.surface.specs.Lists.{total}
use Rattle.surface.specs.Plot.{Plot, posts, Sides, below, directed}
use Rattle.surface.specs.Edges.{falls_in, ring_of}
use Rattle.surface.specs.Ways.{Way, EdgeOf}
use Rattle.surface.specs.Marks.{mark_at, multiplicity, marks_of, peaks, pits, saddles}
use Rattle.surface.specs.Bodies.{in_one_body, BelowOf, bodies_at, BodiesLessOne, neighbours_of, joins_at, splits_at, joins_of, splits_of}
use Rattle.surface.proofs.General.ListOf.{total-sum}
use Rattle.surface.proofs.AnyOrder.Bodies.{one-body, one-of-each}
use Rattle.surface.proofs.AnyOrder.Joins.{neighbours-edge, joins-sum, splits-sum, both-sum}
use Rattle.surface.proofs.AnyOrder.JoinsSplits.{joins-splits}
use Rattle.surface.proofs.OfPlots.Instance.{any-network}

module _ (pl : Plot) (sides : Sides pl.rows pl.columns) where
  -- two vertices below p, or above it, are in one body exactly where a way through such joins them
  pub plot-one-body : (up : Bool) (p q r : ℕ) → BelowOf (directed up (below pl)) (posts pl) p q → BelowOf (directed up (below pl)) (posts pl) p r
      → in_one_body (directed up (below pl)) (neighbours_of pl) (posts pl) p q r ≡ true ↔ Way (EdgeOf pl) (BelowOf (directed up (below pl)) (posts pl) p) q r
  plot-one-body up = one-body sides (falls_in pl) (directed up (below pl)) (neighbours_of pl) (neighbours-edge (any-network pl sides))

  -- and the bodies of its lower neighbours, or of its upper ones, are told by ways
  pub bodies-less-one : (up : Bool) (p : ℕ) → p < posts pl
      → BodiesLessOne pl (directed up (below pl)) p (bodies_at (directed up (below pl)) (neighbours_of pl) (posts pl) p - 1)
  bodies-less-one up p h =
      let b = one-of-each sides (falls_in pl) (directed up (below pl)) (neighbours_of pl) (neighbours-edge (any-network pl sides)) p h in
      (b.0, (b.1.0, ap (λ (k : ℕ). k - 1) b.1.1))

  pub joins-total : total (joins_of pl) + 1 ≡ pits (marks_of pl)
  unfolding joins_of joins_at marks_of mark_at ring_of
  joins-total = omega (arith, total-sum (joins_at pl) (posts pl), joins-sum (any-network pl sides))

  pub splits-total : total (splits_of pl) + 1 ≡ peaks (marks_of pl)
  unfolding splits_of splits_at marks_of mark_at ring_of
  splits-total = omega (arith, total-sum (splits_at pl) (posts pl), splits-sum (any-network pl sides))

  pub both-total : total (joins_of pl) + total (splits_of pl) ≡ saddles (marks_of pl)
  unfolding joins_of joins_at splits_of splits_at marks_of mark_at ring_of
  both-total =
      omega (arith, total-sum (joins_at pl) (posts pl), total-sum (splits_at pl) (posts pl), both-sum (any-network pl sides))

  -- and so they are at every post
  pub post-joins-splits : (p : ℕ) → p < posts pl → joins_at pl p + splits_at pl p ≡ multiplicity (mark_at pl p)
  unfolding joins_at splits_at mark_at ring_of
  post-joins-splits = joins-splits (any-network pl sides)

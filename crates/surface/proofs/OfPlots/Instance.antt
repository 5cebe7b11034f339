-- The height order of a plot, the diagonals by its rule and the step to the steepest neighbour make a network. This is the one place where
-- these three meet the laws over any order, diagonals and picks.
use Prim.Native.Nat.{ℕ, ◌+◌, ◌<◌}
use mathlib.Core.Path.{◌≡◌}
use mathlib.Core.Bool.{Bool, true, false}
use Rattle.surface.specs.Plot.{Plot, posts, virtual_pit, Vertex, below, reversed, Sides}
use Rattle.surface.specs.Edges.{is_border, falls_in, ring_of}
use Rattle.surface.specs.Marks.{mark_at, marks_of, peaks, pits, saddles, IsPit, IsPeak}
use Rattle.surface.specs.Lines.{next, steepest, down, up, toward, dale_at, hill_at, dales_of, hills_of}
use Rattle.surface.specs.Spacings.{spacings}
use Rattle.surface.specs.Ways.{EdgeOf}
use Rattle.surface.specs.Parts.{InDale, InHill, Parts}
use Rattle.surface.specs.declared.Spacings.{Spacings}
use Rattle.surface.proofs.AnyOrder.Walks.{Falling}
use Rattle.surface.proofs.AnyOrder.Network.{Network, Ends, falling-down, falling-up, down_ends, up_ends, border-next, balanced, dale-parts, hill-parts}
use Rattle.surface.proofs.OfPlots.HeightOrder.{below-strict, pit-below}
use Rattle.surface.proofs.OfPlots.Steepest.{steepest-member, pit-taken}

module _ (pl : Plot) (sides : Sides pl.rows pl.columns) (s : Spacings) where
  pub network : Network pl.rows pl.columns (below pl) (falls_in pl) (steepest pl s (below pl)) (steepest pl s (reversed (below pl)))
  network =
      record {
        sides = sides;
        order = below-strict pl;
        pit_below = pit-below pl;
        picks_down = steepest-member pl s (below pl);
        picks_pit = pit-taken pl s (below pl);
        picks_up = steepest-member pl s (reversed (below pl));
      }

  pub down-falling : Falling (posts pl) (down pl s)
  unfolding ring_of
  down-falling = falling-down network

  pub up-falling : Falling (posts pl) (up pl s)
  unfolding ring_of
  up-falling = falling-up network

  pub toward-falling : (upward : Bool) → Falling (posts pl) (toward pl s upward)
  toward-falling true = up-falling
  toward-falling false = down-falling

  pub pits-end : Ends (posts pl) (down pl s) (Vertex (posts pl)) (IsPit pl) (mark_at pl) 2
  unfolding ring_of mark_at
  pits-end = down_ends network

  pub peaks-end : Ends (posts pl) (up pl s) (λ p. p < posts pl) (IsPeak pl) (mark_at pl) 1
  unfolding ring_of mark_at
  peaks-end = up_ends network

  -- a border post drains to the virtual pit
  pub border-drains : (p : ℕ) → p < posts pl → is_border pl.rows pl.columns p ≡ true → next (down pl s) p ≡ virtual_pit
  unfolding ring_of
  border-drains = border-next network

  pub dales-part : Parts (posts pl) (EdgeOf pl) (IsPit pl) (InDale (posts pl) (dales_of pl s)) (dales_of pl s) (pits (marks_of pl))
  unfolding dales_of dale_at marks_of mark_at ring_of
  dales-part = dale-parts network

  pub hills-part : Parts (posts pl) (EdgeOf pl) (IsPeak pl) (InHill (posts pl) (hills_of pl s)) (hills_of pl s) (peaks (marks_of pl))
  unfolding hills_of hill_at marks_of mark_at ring_of
  hills-part = hill-parts network

-- marks and bodies hang on no spacings: any will do
pub any-network : (pl : Plot) → Sides pl.rows pl.columns → let s = spacings 1 1 in Network pl.rows pl.columns (below pl) (falls_in pl) (steepest pl s (below pl)) (steepest pl s (reversed (below pl)))
any-network pl sides = network pl sides (spacings 1 1)

pub plot-balance : (pl : Plot) → Sides pl.rows pl.columns → peaks (marks_of pl) + pits (marks_of pl) ≡ 2 + saddles (marks_of pl)
unfolding marks_of mark_at ring_of
plot-balance pl sides = balanced (any-network pl sides)

-- The law that the places round a post, by its borders and corners, hold its ring.
use Rattle.surface.specs.Plot.{plot_of}
use Rattle.surface.specs.Edges.{falls_in, ring_of}
use Rattle.rings.proofs.Around.{neighbours}
use Rattle.rings.proofs.Rings.{ring-is}
use Rattle.rings.proofs.ring.ring_at.Goals as goal

pub ring_of-requires : goal.ring_of-requires
ring_of-requires c =
    let post = c.requires in
    rw (c.corners_of-joined.ensures, c.borders_of-at.ensures)
    (post.valid.sides, neighbours post.valid.sides c.args.p post.post (falls_in (plot_of c.args.grid c.args.heights.now)))

pub returns : goal.returns
unfolding ring_of
returns c =
    rw (← (ring-is c.requires.valid.sides c.args.p (falls_in (plot_of c.args.grid c.args.heights.now))))
    (rw (c.corners_of-joined.ensures, c.borders_of-at.ensures) at c.ring_of.ensures)

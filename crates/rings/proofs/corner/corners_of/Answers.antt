-- The cells that are there have their four posts in the plot; then the truth table of a corner.
use Prim.Native.Nat.{◌+◌, ◌-◌}
use mathlib.Core.Path.{◌≡◌}
use native.Mathlib.Omega.{arith}
use Rattle.surface.specs.Plot.{plot_of}
use Rattle.surface.specs.Edges.{top, bottom, left, right, falls_in}
use Rattle.rings.proofs.Around.{cell-ne, cell-se, cell-sw, cell-nw, joined_by}
use Rattle.rings.proofs.corner.corners_of.Goals as goal

pub falls_back-requires : goal.falls_back-requires
falls_back-requires c = (c.requires.0.valid, λ h. cell-ne c.requires.0.valid.sides c.args.p c.requires.0.post (rw c.requires.1 at h))

pub falls_back-requires-2 : goal.falls_back-requires-2
falls_back-requires-2 c = (c.requires.0.valid, λ h. cell-se c.requires.0.valid.sides c.args.p c.requires.0.post (rw c.requires.1 at h))

pub falls_back-requires-3 : goal.falls_back-requires-3
falls_back-requires-3 c = (c.requires.0.valid, λ h. cell-sw c.requires.0.valid.sides c.args.p c.requires.0.post (rw c.requires.1 at h))

pub falls_back-requires-4 : goal.falls_back-requires-4
falls_back-requires-4 c = (c.requires.0.valid, λ h. cell-nw c.requires.0.valid.sides c.args.p c.requires.0.post (rw c.requires.1 at h))

pub returns : goal.returns
returns c =
    let p = c.args.p in
    let pl = plot_of c.args.grid c.args.heights.now in
    let se : p - 0 ≡ p = omega arith in
    let nw : p - (pl.columns + 1) ≡ p - pl.columns - 1 = omega arith in
    rw (
      c.falls_back-4.ensures,
      c.falls_back-3.ensures,
      c.falls_back-2.ensures,
      c.falls_back.ensures,
      c.requires.1,
      se,
      nw,
    )
    (joined_by (top pl.columns p) (bottom pl.rows pl.columns p) (left pl.columns p) (right pl.columns p) (falls_in pl (p - pl.columns)) (falls_in pl p) (falls_in pl (p - 1)) (falls_in pl (p - pl.columns - 1)))

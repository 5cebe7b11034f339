-- Within the ring the code of its member, past it the 0 that stands for none.
use native.Mathlib.Omega.{arith}
use mathlib.Core.Path.{sym, ◌∙◌, ap}
use mathlib.Core.List.{List}
use lib.ListN.{get_or, get_or-eq_default}
use lib.Seq.{get_or-take}
use Rattle.surface.specs.Plot.{plot_of}
use Rattle.surface.specs.Edges.{ring_of}
use Rattle.surface.specs.Codes.{member_code, codes_of}
use Rattle.surface.proofs.General.ListOf.{get_or-mapped}
use Rattle.surface.proofs.OfPlots.Codes.{codes-number}
use Rattle.rings.proofs.Rings.{held-vertex}
use Rattle.ring.proofs.codes.code_at.Goals as goal

pub code_of-requires : goal.code_of-requires
code_of-requires c =
    let r = c.args.ring in
    (c.requires.0, rw (← (get_or-take r.len r.members c.args.i 0 c.if-i-ring.true)) (held-vertex c.requires.0 c.requires.1 c.args.i c.if-i-ring.true))

pub returns-then-i-ring : goal.returns-then-i-ring
unfolding codes_of
returns-then-i-ring c =
    let r = c.args.ring in
    let i = c.args.i in
    let pl = plot_of c.args.grid c.args.heights.now in
    let p = c.args.p in
    c.code_of.ensures
    ∙ ap (member_code pl p) (sym (get_or-take r.len r.members i 0 c.if-i-ring.true) ∙ ap (λ (l : List _). get_or l i 0) c.requires.1.members)
    ∙ sym (get_or-mapped (member_code pl p) (ring_of pl p) i 0 0 (omega (arith, c.if-i-ring.true, c.requires.1.len)))

pub returns : goal.returns
returns c =
    let pl = plot_of c.args.grid c.args.heights.now in
    let p = c.args.p in
    sym (get_or-eq_default (codes_of pl p) 0 (omega (arith, codes-number pl p, c.if-i-ring.false, c.requires.1.len)))

-- The virtual pit has no height; the heights of two posts are compared both ways.
use mathlib.Core.Path.{sym, ◌∙◌, ap}
use native.Mathlib.Omega.{arith}
use Rattle.surface.specs.Plot.{plot_of, virtual_pit, tied}
use Rattle.surface.proofs.AnyOrder.Grid.{not-pit}
use Rattle.surface.proofs.OfPlots.HeightOrder.{tied-level, not-tied-pit}
use Rattle.order.proofs.Level.{vertex-post}
use Rattle.order.proofs.is_tied.Goals as goal

pub is_less-requires : goal.is_less-requires
is_less-requires c =
    omega (arith, c.requires.0.post, c.requires.0.valid.size, vertex-post c.requires.1 c.if-q-ne-VIRTUAL_PIT.true)

pub is_less-requires-then-q-ne-VIRTUAL_PIT : goal.is_less-requires-then-q-ne-VIRTUAL_PIT
is_less-requires-then-q-ne-VIRTUAL_PIT c =
    omega (arith, c.requires.0.post, c.requires.0.valid.size, vertex-post c.requires.1 c.if-q-ne-VIRTUAL_PIT.true)

pub returns-then-q-ne-VIRTUAL_PIT : goal.returns-then-q-ne-VIRTUAL_PIT
unfolding virtual_pit
returns-then-q-ne-VIRTUAL_PIT c =
    let post = c.requires.0 in
    rw (c.is_less.ensures, c.is_less-then-q-ne-VIRTUAL_PIT.ensures)
    (sym (tied-level (plot_of c.args.grid c.args.heights.now) c.args.p c.args.q (not-pit post.valid.sides post.post) c.if-q-ne-VIRTUAL_PIT.true))

pub returns : goal.returns
unfolding virtual_pit
returns c =
    let a = c.args in
    let pl = plot_of a.grid a.heights.now in
    sym (ap (tied pl a.p) c.if-q-ne-VIRTUAL_PIT.false ∙ not-tied-pit pl a.p)

-- The virtual pit, or by slopes.
use Rattle.surface.specs.Plot.{virtual_pit}
use Rattle.runs.specs.Slopes.{ahead}
use borrow.Author.Tests.{eq-eqb, ne_eqb}
use Rattle.order.proofs.Level.{vertex-post}
use Rattle.runs.proofs.slope.goes_first.Goals as goal

pub returns-then-r-eq-VIRTUAL_PIT : goal.returns-then-r-eq-VIRTUAL_PIT
unfolding ahead virtual_pit
returns-then-r-eq-VIRTUAL_PIT c = rw (eq-eqb _ 65535 c.if-r-eq-VIRTUAL_PIT.true)

pub returns-then-q-eq-VIRTUAL_PIT : goal.returns-then-q-eq-VIRTUAL_PIT
unfolding ahead virtual_pit
returns-then-q-eq-VIRTUAL_PIT c = rw (ne_eqb _ 65535 c.if-r-eq-VIRTUAL_PIT.false, eq-eqb _ 65535 c.if-q-eq-VIRTUAL_PIT.true)

pub goes_before-requires : goal.goes_before-requires
unfolding virtual_pit
goes_before-requires c =
    let k = c.requires in
    (k.0, vertex-post k.1 c.if-q-eq-VIRTUAL_PIT.false, vertex-post k.2 c.if-r-eq-VIRTUAL_PIT.false, k.3)

pub returns : goal.returns
unfolding ahead virtual_pit
returns c = rw (ne_eqb _ 65535 c.if-r-eq-VIRTUAL_PIT.false, ne_eqb _ 65535 c.if-q-eq-VIRTUAL_PIT.false) c.goes_before.ensures

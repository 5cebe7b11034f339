-- By whether the vertex is the virtual pit.
use native.Mathlib.Omega.{arith}
use Prim.Native.Nat.{◌<◌}
use mathlib.Core.Logic.{⊎_elim}
use mathlib.Core.Path.{◌≡◌}
use lib.ListN.{length}
use Rattle.surface.specs.Plot.{virtual_pit}
use Rattle.saddle_lines.proofs.Saddles.{end-pit, end-post}
use Rattle.saddle_lines.proofs.end_from.Goals as goal
use Rattle.saddle_lines.proofs.end_from.Goals.{Else-vertex-eq-VIRTUAL_PIT}

inside : (c : Else-vertex-eq-VIRTUAL_PIT) → c.args.vertex < length c.args.ends.now
unfolding virtual_pit
inside c = ⊎_elim (λ h. h) (λ (e : c.args.vertex ≡ virtual_pit). absurd (c.if-vertex-eq-VIRTUAL_PIT.false e)) c.requires

pub returns-then-vertex-eq-VIRTUAL_PIT : goal.returns-then-vertex-eq-VIRTUAL_PIT
unfolding virtual_pit
returns-then-vertex-eq-VIRTUAL_PIT c = end-pit c.args.ends.now c.args.vertex c.if-vertex-eq-VIRTUAL_PIT.true

pub offset_bounds-ends-vertex : goal.offset_bounds-ends-vertex
offset_bounds-ends-vertex c = omega (arith, inside c)

pub bounds-ends-vertex : goal.bounds-ends-vertex
bounds-ends-vertex c = inside (goal.at.bounds-ends-vertex c).Else-vertex-eq-VIRTUAL_PIT

pub returns : goal.returns
unfolding virtual_pit
returns c = end-post c.args.ends.now c.args.vertex c.if-vertex-eq-VIRTUAL_PIT.false

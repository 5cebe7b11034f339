-- Both counts are of the marks lent, as they were and as they are redrawn.
use Prim.Native.Nat.{◌≤◌}
use native.Mathlib.Omega.{arith}
use mathlib.Core.Path.{◌≡◌, sym, ◌∙◌}
use mathlib.Core.List.{map}
use lib.IntN.{pos}
use lib.ListN.{length}
use mir.Syntax.{w32}
use mir.Val.{to_z, of_z}
use borrow.Author.Rules.{rules}
use Rattle.surface.specs.Patterns.{mark_in}
use Rattle.surface.proofs.General.ListOf.{length-part-replicate}
use Rattle.retally.specs.Room.{max_copy}
use Rattle.surface.proofs.General.Stores.{map-stores}
use Rattle.retally.proofs.count_redrawn.Goals as goal
use Rattle.retally.proofs.count_redrawn.Goals.{After-mark_all, Start}

-- the new height, as the code holds it
held : (s : Start) → to_z w32 (of_z w32 s.args.height) ≡ s.args.height
held s = search rules

few : (s : Start) → length s.args.patterns.now ≤ max_copy
few s = omega (arith, s.requires.2, s.requires.3, s.requires.0.valid.size)

pub mark_all-requires : goal.mark_all-requires
mark_all-requires c = omega (arith, few (goal.at.mark_all-requires c).Start)

-- the marks that are made
made : (c : After-mark_all) → c.mark_all.new.marks ≡ map mark_in c.args.patterns.now
made c = c.mark_all.ensures ∙ map-stores mark_in c.args.patterns.now

pub count-before-requires : goal.count-before-requires
count-before-requires c =
    omega (arith, c.mark_all.auto.marks, few (goal.at.count-before-requires c).Start)

pub redraw_copy-requires : goal.redraw_copy-requires
redraw_copy-requires c =
    let a = c.requires in
    rw (held (goal.at.redraw_copy-requires c).Start) (a.0, a.1, length-part-replicate max_copy (length c.args.heights.now) (pos 0) a.3, c.mark_all.auto.marks ∙ a.2)

pub returns : goal.returns
returns c =
    let after = (goal.at.returns c).After-mark_all in
    record { counted = rw (made after) at c.count-before.ensures; counted_2 = rw (rw (held (goal.at.returns c).Start, made after) at c.redraw_copy.ensures) at c.count-after.ensures }

pub slice_bounds-redraw_copy-end : goal.slice_bounds-redraw_copy-end
slice_bounds-redraw_copy-end c = sym (length-part-replicate max_copy _ (pos 0) c.requires.3)

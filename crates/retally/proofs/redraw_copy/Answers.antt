-- The copy with the new height is the re-shot plot.
use mathlib.Core.Path.{◌≡◌}
use mir.Syntax.{w32}
use mir.Val.{to_z, of_z}
use borrow.Author.Rules.{rules}
use Rattle.surface.proofs.OfCalls.Series.{reshot-valid}
use Rattle.retally.proofs.redraw_copy.Goals as goal
use Rattle.retally.proofs.redraw_copy.Goals.{Start}

-- the new height, as the code holds it
held : (s : Start) → to_z w32 (of_z w32 s.args.height) ≡ s.args.height
held s = search rules

pub redraw-requires : goal.redraw-requires
redraw-requires c =
    let a = c.requires in
    rw (held (goal.at.redraw-requires c).Start, c.copy_from_slice.ensures.after)
    (record { valid = reshot-valid _ c.args.post c.args.height a.0.valid a.1; post = a.0.post }, a.3)

pub returns : goal.returns
returns c =
    rw (held (goal.at.returns c).Start, c.copy_from_slice.ensures.after) at c.redraw.ensures

-- The height that was handed on is the one that was lent.
use mathlib.Core.Path.{◌≡◌, ◌∙◌}
use mir.Syntax.{w32}
use mir.Val.{to_z, of_z}
use borrow.Author.Rules.{rules}
use Rattle.surface_network.proofs.sn_reshoot.Goals as goal

pub returns : goal.returns
returns c =
    let r : to_z w32 (of_z w32 c.args.height) ≡ c.args.height = search rules in
    let e = rw r at c.reshoot.ensures in
    record { value = c.answer_of.ensures ∙ e.value; heights_after = e.heights_after; marks_after = e.marks_after }

-- The tests are those of `name-is`; the bytes after the first two are there, since the entry ends where the sheet does or before.
use Rattle.std.proofs.Common.{arith, true, ◌+◌, ◌-◌, length, drop}
use lib.Seq.{take_all}
use lib.ListN.{length-drop}
use Rattle.surface.specs.Settings.{is_printable}
use Rattle.surface.proofs.General.Slices.{fold-all}
use Rattle.settings.proofs.Walk.{next-in}
use Rattle.settings.proofs.Says.{name-is}
use Rattle.settings.proofs.entries.is_name.Goals as goal

pub slice_bounds-are_printable-count : goal.slice_bounds-are_printable-count
slice_bounds-are_printable-count c = omega (arith, next-in c.args.sheet.now c.args.at c.requires.1 c.requires.0)

pub slice_bounds-are_printable-start : goal.slice_bounds-are_printable-start
slice_bounds-are_printable-start c = omega (arith, next-in c.args.sheet.now c.args.at c.requires.1 c.requires.0)

pub returns : goal.returns
returns c =
    let sheet = c.args.sheet.now in
    let at = c.args.at in
    rw (c.are_printable.ensures, fold-all is_printable true, take_all (length sheet - (at + 2)) (drop (at + 2) sheet) (rw (length-drop (at + 2) sheet) (omega arith)), c.byte_at.ensures, c.byte_at-size.ensures)
    (name-is sheet at c.requires.1 c.requires.0)

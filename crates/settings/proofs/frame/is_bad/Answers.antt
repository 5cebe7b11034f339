-- Too short, another version or count, or entries that end elsewhere.
use mathlib.Core.Path.{sym}
use mathlib.Core.Bool.{true, false}
use Rattle.settings.proofs.Sheets.{bad-short, bad-is}
use Rattle.settings.proofs.frame.is_bad.Goals as goal

pub returns-then-sheet-lt-HEADER : goal.returns-then-sheet-lt-HEADER
returns-then-sheet-lt-HEADER c = sym (bad-short c.args.sheet.now c.if-sheet-lt-HEADER.true)

pub returns-then-sheet-word_at : goal.returns-then-sheet-word_at
returns-then-sheet-word_at c =
    sym (bad-is c.args.sheet.now c.if-sheet-lt-HEADER.false true (rw c.word_at.ensures at c.if-sheet-word_at.true))

pub returns : goal.returns
returns c =
    rw c.is_whole.ensures (sym (bad-is c.args.sheet.now c.if-sheet-lt-HEADER.false false (rw c.word_at.ensures at c.if-sheet-word_at.false)))

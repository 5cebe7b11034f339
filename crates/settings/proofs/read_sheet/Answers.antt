-- No sheet, or what its bytes say.
use borrow.Author.Tests.{eqb-true}
use mathlib.Core.Path.{sym}
use Rattle.settings.proofs.Sheets.{says-empty}
use Rattle.settings.proofs.read_sheet.Goals as goal

pub returns-then-is_empty : goal.returns-then-is_empty
returns-then-is_empty c = sym (says-empty c.args.sheet.now (eqb-true _ 0 (sym c.if-is_empty.ensures)))

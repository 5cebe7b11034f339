-- Row 13, or what the entries say.
use mathlib.Core.Path.{◌≡◌, sym, ◌∙◌, ap}
use mathlib.Core.Bool.{false}
use borrow.Author.Tests.{not-false, not-true}
use Rattle.surface.specs.Settings.{is_bad_sheet}
use Rattle.surface.specs.Refused.{sheet_of}
use Rattle.surface.specs.declared.Refusal.TheVariants.{BadSheet}
use Rattle.surface.proofs.OfCalls.Outcomes.{unless-passed, unless-failed, handed}
use Rattle.settings.proofs.Sheets.{sheet-whole, says-bad, says-entries, sheet_by}
use Rattle.settings.proofs.read_bytes.Goals as goal
use Rattle.settings.proofs.read_bytes.Goals.{In_ok-unless}

framed : (c : In_ok-unless) → is_bad_sheet c.args.sheet.now ≡ false
framed c = sym c.is_bad.ensures ∙ not-true _ (unless-passed BadSheet _ c.in_ok-unless.ensures)

pub returns-in_err-unless : goal.returns-in_err-unless
returns-in_err-unless c =
    let bad = unless-failed BadSheet _ _ c.in_err-unless.ensures in
    ap sheet_of (handed _ _ c.from_residual.ensures.1) ∙ sheet_by bad.1 ∙ sym (says-bad c.args.sheet.now (sym c.is_bad.ensures ∙ not-false _ bad.0))

pub read_entries-requires : goal.read_entries-requires
read_entries-requires c = sheet-whole c.args.sheet.now (framed c)

pub returns : goal.returns
returns c = c.read_entries.ensures ∙ sym (says-entries _ (framed (goal.at.returns c).In_ok-unless))

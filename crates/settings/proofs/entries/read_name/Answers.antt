-- No entry, a name, or what is neither.
use mathlib.Core.Path.{◌≡◌, refl, sym, ◌∙◌, ap}
use mathlib.Core.Bool.{true}
use Rattle.surface.specs.Settings.{are_entries, value_of}
use Rattle.surface.specs.Refused.{sheet_of}
use Rattle.surface.specs.declared.Refusal.TheVariants.{BadEntry}
use Rattle.surface.proofs.OfCalls.Outcomes.{unless-passed, unless-failed, handed}
use Rattle.settings.specs.Walk.{entries_from}
use Rattle.settings.proofs.Walk.{none-at, value-size}
use Rattle.settings.proofs.Says.{name-value}
use Rattle.settings.proofs.Sheets.{sheet_by}
use Rattle.settings.proofs.entries.read_name.Goals as goal

pub returns-then-sheet-at : goal.returns-then-sheet-at
unfolding are_entries value_of
returns-then-sheet-at c = let a = c.args in rw (none-at a.sheet.now a.at c.if-sheet-at.true) refl

pub is_name-requires : goal.is_name-requires
is_name-requires c = (c.requires, c.if-sheet-at.false)

pub returns-in_err-unless : goal.returns-in_err-unless
returns-in_err-unless c =
    let bad = unless-failed BadEntry _ _ c.in_err-unless.ensures in
    let e = sym c.is_name.ensures ∙ bad.0 in
    ap sheet_of (handed _ _ c.from_residual.ensures.1) ∙ rw e (sheet_by bad.1)

pub returns : goal.returns
returns c =
    let S = c.args.sheet.now in
    let at = c.args.at in
    let h = c.if-sheet-at.false in
    let e : are_entries 1 (entries_from S at) ≡ true = sym c.is_name.ensures ∙ unless-passed BadEntry _ c.in_ok-unless.ensures in
    rw (e, name-value S at h c.requires e, value-size S at h c.requires, c.wide.ensures.0, c.byte_at.ensures) refl

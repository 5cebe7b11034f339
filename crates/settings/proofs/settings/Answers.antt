-- A refusal is handed on; an accepted sheet ends with its name.
use Prim.Native.Nat.{◌≤◌}
use native.Mathlib.Omega.{arith}
use mathlib.Core.Path.{◌≡◌, sym, ◌∙◌, ap}
use borrow.Author.Tests.{eqb-true, eqb-false}
use lib.ListN.{length}
use Rattle.std.specs.Prelude.{Ok}
use Rattle.surface.specs.Calls.{sheet_says}
use Rattle.surface.specs.Refused.{sheet_of}
use Rattle.surface.specs.declared.Sheet.{Sheet}
use Rattle.surface.specs.declared.Refusal.TheVariants.{BadListLength}
use Rattle.surface.proofs.OfCalls.Outcomes.{refused-numbered, unless-passed, unless-failed, handed}
use Rattle.settings.proofs.Sheets.{sheet_by, sheet-refused, room-refused, served, named_in, name-bytes}
use Rattle.settings.proofs.settings.Goals as goal
use Rattle.settings.proofs.settings.Goals.{In_ok-said}

code : {x y : Sheet} → x ≡ y → x.code ≡ y.code
code e = ap (λ (x : Sheet). x.code) e

-- an accepted sheet
module _ (c : In_ok-said) where
  said : sheet_of (Ok c.in_ok-said.said) ≡ sheet_says c.args.sheet.now
  said = c.in_ok-said.ensures

  passed : (sheet_says c.args.sheet.now).code ≡ 0
  passed = sym (code said)

  name : c.in_ok-said.said.named ≡ (sheet_says c.args.sheet.now).named
  name = ap (λ (x : Sheet). x.named) said

  short : c.in_ok-said.said.named ≤ length c.args.sheet.now
  short = omega (arith, name, named_in c.args.sheet.now passed)

pub returns-in_err-said : goal.returns-in_err-said
returns-in_err-said c =
    let e = c.in_err-said.ensures in
    let r = sheet-refused c.args.sheet.now c.args.name.now (λ z. refused-numbered _ (code e ∙ z)) in
    record { value = ap sheet_of (handed _ _ c.from_residual.ensures.1) ∙ e ∙ sym r.0; name_after = sym r.1 }

pub returns-in_err-unless : goal.returns-in_err-unless
returns-in_err-unless c =
    let here = (goal.at.returns-in_err-unless c).In_ok-said in
    let bad = unless-failed BadListLength _ _ c.in_err-unless.ensures in
    let r = room-refused c.args.sheet.now c.args.name.now (passed here) (eqb-false _ _ bad.0) in
    record { value = ap sheet_of (handed _ _ c.from_residual-in_err-unless.ensures.1) ∙ sheet_by bad.1 ∙ sym r.0; name_after = sym r.1 }

pub overflow_sub-sheet : goal.overflow_sub-sheet
overflow_sub-sheet c = short (goal.at.overflow_sub-sheet c).In_ok-said

pub put_name-requires : goal.put_name-requires
put_name-requires c = (omega arith, eqb-true _ _ (unless-passed BadListLength _ c.in_ok-unless.ensures))

pub returns : goal.returns
returns c =
    let here = (goal.at.returns c).In_ok-said in
    let r = served c.args.sheet.now c.args.name.now (passed here) (eqb-true _ _ (unless-passed BadListLength _ c.in_ok-unless.ensures)) in
    let b = name-bytes c.args.sheet.now (passed here) in
    record { value = said here ∙ sym r.0; name_after = c.put_name.ensures ∙ rw (name here) (sym (r.1 ∙ b)) }

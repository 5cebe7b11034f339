-- A refusal is handed on, and what an accepted read found is what filling the list asks.
use Prim.Native.Nat.{◌≤◌}
use mathlib.Core.Path.{◌≡◌, sym, ◌∙◌, ap}
use native.Mathlib.Omega.{arith}
use lib.ListN.{length}
use Rattle.surface.specs.SurveyFile.{version_in, header_for}
use Rattle.surface.specs.Refusals.{read_verdict}
use Rattle.surface.specs.declared.Answer.{Answer}
use Rattle.surface.proofs.OfCalls.Verdicts.{code}
use Rattle.surface.proofs.OfCalls.Outcomes.{refused-numbered, handed}
use Rattle.survey_file.specs.Told.{size_of}
use Rattle.surface.proofs.OfCalls.FileCalls.{ForRead, read-valid, header-bounds, read-refused, read-served, read-filled}
use Rattle.survey_file.specs.Layout.{least_size}
use Rattle.survey_file.proofs.read_survey.Goals as goal
use Rattle.survey_file.proofs.read_survey.Goals.{In_ok-check_read}

-- where it was accepted
module _ (c : In_ok-check_read) where
  accepted : let a = c.args in (read_verdict a.file.now a.heights.now).code ≡ 0
  accepted = sym (code c.in_ok-check_read.ensures)

  found : let a = c.args in ForRead a.file.now a.heights.now
  found = read-valid _ _ accepted

  long : let file = c.args.file.now in (least_size ≤ length file) × (header_for (version_in file) ≤ length file)
  long =
      let file = c.args.file.now in
      (omega (arith, found.size, header-bounds (version_in file)), omega (arith, found.size))

pub returns-in_err-check_read : goal.returns-in_err-check_read
returns-in_err-check_read c =
    let e = c.in_err-check_read.ensures in
    let r = read-refused _ _ (λ z. refused-numbered _ (code e ∙ z)) in
    record {
      value = ap size_of (handed _ _ c.from_residual.ensures.1)
          ∙ ap (λ (a : Answer). record { code = a.code; place = a.place; rows = 0; columns = 0; east = 0; south = 0 }) e
          ∙ sym r.0;
      heights_after = sym r.1;
    }

pub read_heights-requires : goal.read_heights-requires
read_heights-requires c =
    let branch = (goal.at.read_heights-requires c).In_ok-check_read in
    let f = found branch in let h = long branch in record { least_size_in_bounds = h.0; heights_in_bounds = omega (arith, f.size, f.room) }

pub returns : goal.returns
returns c =
    let a = accepted (goal.at.returns c).In_ok-check_read in record { value = rw (c.wide.ensures.0, c.wide-2.ensures.0, c.spacings_in.ensures) (sym (read-served _ _ a)); heights_after = c.read_heights.ensures ∙ sym (read-filled _ _ a) }

pub spacings_in-requires : goal.spacings_in-requires
spacings_in-requires c =
    let h = long (goal.at.spacings_in-requires c).In_ok-check_read in record { least_size_in_bounds = h.0; file_in_bounds = h.1 }

pub bounds-file-5 : goal.bounds-file-5
bounds-file-5 c = omega (arith, long (goal.at.bounds-file-5 c).In_ok-check_read)

pub bounds-file-6 : goal.bounds-file-6
bounds-file-6 c = omega (arith, long (goal.at.bounds-file-6 c).In_ok-check_read)

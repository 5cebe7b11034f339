-- A refusal is handed on, and what an accepted call was given is what writing asks.
use mathlib.Core.Path.{◌≡◌, sym, ◌∙◌, ap}
use native.Mathlib.Omega.{arith}
use Rattle.surface.specs.Plot.{plot}
use Rattle.surface.specs.Spacings.{spacings}
use Rattle.surface.specs.Refusals.{write_verdict}
use Rattle.surface.specs.Calls.{write_answer}
use Rattle.surface.specs.Refused.{outcome}
use Rattle.surface.proofs.OfCalls.Verdicts.{code}
use Rattle.surface.proofs.OfCalls.Outcomes.{refused-numbered, handed}
use Rattle.surface.proofs.OfCalls.FileCalls.{ForWrite, write-valid, write-refused, write-filled}
use Rattle.survey_file.proofs.Stores.{file-stored}
use Rattle.survey_file.proofs.write_survey.Goals as goal
use Rattle.survey_file.proofs.write_survey.Goals.{In_ok-check_write}

-- where it was accepted
module _ (c : In_ok-check_write) where
  accepted :
      let a = c.args in
      (write_verdict (plot a.rows a.columns a.heights.now) (spacings a.east a.south) a.file.now).code ≡ 0
  accepted = sym (code c.in_ok-check_write.ensures)

  given :
      let a = c.args in
      ForWrite (plot a.rows a.columns a.heights.now) (spacings a.east a.south) a.file.now
  given = write-valid _ _ _ accepted

pub returns-in_err-check_write : goal.returns-in_err-check_write
unfolding write_answer
returns-in_err-check_write c =
    let e = c.in_err-check_write.ensures in
    record {
      value = ap outcome (handed _ _ c.from_residual.ensures.1) ∙ e;
      file_after = sym (write-refused _ _ _ (λ z. refused-numbered _ (code e ∙ z)));
    }

pub write_header-requires : goal.write_header-requires
write_header-requires c = let g = given (goal.at.write_header-requires c).In_ok-check_write in record { sides = g.valid.sides; written_in_bounds = omega (arith, g.room) }

pub write_heights-requires : goal.write_heights-requires
write_heights-requires c =
    let g = given (goal.at.write_heights-requires c).In_ok-check_write in
    record { heights_value = omega (arith, g.valid.size, g.room, c.write_header.auto.file); heights_value_2 = g.valid.in_range }

pub returns : goal.returns
unfolding write_answer
returns c =
    let branch = (goal.at.returns c).In_ok-check_write in
    record { value = c.in_ok-check_write.ensures; file_after = file-stored _ _ _ _ _ (given branch) c.write_header.ensures c.write_heights.ensures ∙ sym (write-filled _ _ _ (accepted branch)) }

-- Rows 1, 15 and 2 lead, then row 3, then row 4.
use mathlib.Core.Path.{◌≡◌, sym, ◌∙◌, ap}
use mathlib.Core.Bool.{not}
use mathlib.Core.List.{[], ◌∷◌}
use native.Mathlib.Omega.{arith}
use borrow.Author.Tests.{eq-eqb, ne_eqb}
use lib.ListN.{length}
use Rattle.surface.specs.Plot.{Plot, plot, posts, is_height, Sides}
use Rattle.surface.specs.SurveyFile.{file_size}
use Rattle.surface.specs.Refusals.{verdict, row1, row2, row3, row4, row15, write_verdict}
use Rattle.surface.specs.declared.Spacings.{Spacings}
use Rattle.surface.specs.Refused.{outcome}
use Rattle.surface.proofs.OfCalls.Outcomes.{check-refused, handed}
use Rattle.surface.proofs.OfCalls.Verdicts.{code, row-holds, row-passed, leads-passed}
use Rattle.surface.proofs.OfCalls.Accepted.{plot-sized}
use Rattle.survey_file.specs.Layout.{written, height_at}
use Rattle.survey_file.proofs.writing.check_write.Goals as goal
use Rattle.survey_file.proofs.writing.check_write.Goals.{In_ok-check_spaced}

-- rows 1, 15 and 2 pass
module _ (c : In_ok-check_spaced) where
  abbrev pl : Plot
  pl = let a = c.args in plot a.rows a.columns a.heights.now

  abbrev apart : Spacings
  apart = c.args.spacings

  led : (verdict (row1 pl.rows pl.columns ∷ row15 apart ∷ row2 pl ∷ [])).code ≡ 0
  led = sym (code c.in_ok-check_spaced.ensures)

  sized : Sides pl.rows pl.columns × (length pl.heights ≡ posts pl)
  sized = plot-sized pl apart led

  size : height_at written (length pl.heights) ≡ file_size written pl.rows pl.columns
  size = omega (arith, sized.1)

  passed :
      let file = c.args.file.now in
      write_verdict pl apart file ≡ verdict (row3 file (file_size written pl.rows pl.columns) ∷ row4 is_height pl.heights ∷ [])
  unfolding write_verdict
  passed = leads-passed (_ ∷ _ ∷ _ ∷ []) _ tt led

pub returns-in_err-check_spaced : goal.returns-in_err-check_spaced
unfolding write_verdict
returns-in_err-check_spaced c =
    ap outcome (handed _ _ c.from_residual.ensures.1) ∙ check-refused (_ ∷ _ ∷ _ ∷ []) _ tt _ c.in_err-check_spaced.ensures

pub returns-then-file-heights : goal.returns-then-file-heights
returns-then-file-heights c =
    let branch = (goal.at.returns-then-file-heights c).In_ok-check_spaced in
    sym (passed branch ∙ row-holds _ _ (ap not (ne_eqb _ _ (λ e. c.if-file-heights.true (e ∙ sym (size branch))))))

pub returns : goal.returns
returns c =
    let branch = (goal.at.returns c).In_ok-check_spaced in
    c.check_heights.ensures ∙ sym (passed branch ∙ row-passed _ _ (ap not (eq-eqb _ _ (c.if-file-heights.false ∙ size branch))))

pub check_heights-requires : goal.check_heights-requires
check_heights-requires c = omega (arith, sized (goal.at.check_heights-requires c).In_ok-check_spaced)

-- Refused by the sheet or the file, or a plot, which is then surveyed and parted.
use mathlib.Core.Path.{◌≡◌, refl, ◌∙◌, ap}
use mathlib.Core.List.{List}
use lib.Dec.{eqb}
use lib.IntN.{ℤ}
use Prim.Native.Nat.{ℕ}
use Rattle.std.specs.Prelude.{Ok, Err}
use Rattle.surface.specs.Plot.{ruled}
use Rattle.surface.specs.Calls.{plot_by, survey_answer, parts_answer}
use Rattle.surface.specs.Spacings.{spacings}
use Rattle.surface.specs.Lister.{file_listing, listing}
use Rattle.surface.specs.Refused.{sheet_of}
use Rattle.surface.specs.declared.Counts.{Counts}
use Rattle.surface.specs.declared.Sheet.{Sheet}
use Rattle.surface.specs.declared.Size.{Size}
use Rattle.surface.proofs.OfCalls.Verdicts.{code}
use Rattle.surface.proofs.OfCalls.Outcomes.{refused-numbered, handed}
use Rattle.survey.specs.Told.{counts_of}
use Rattle.survey_file.specs.Told.{size_of}
use Rattle.listing.proofs.Starting.{said-means, sheet-refuses, sheet-passes, file-refuses, survey-passes, parts-pass, goes}
use Rattle.listing.proofs.survey_plot.Goals as goal
use Rattle.listing.proofs.survey_plot.Goals.{In_ok-said, In_ok-read}

-- a sheet that is not refused
module _ (c : In_ok-said) where
  abbrev said : Sheet
  said = sheet_of (Ok c.in_ok-said.said)

  passes : file_listing c.args.sheet.now c.args.file.now ≡ listing c.args.sheet.now c.args.file.now
  passes = sheet-passes _ _ said c.in_ok-said.ensures refl

  means : (rows columns : ℕ) (heights : List ℤ) → plot_by c.args.sheet.now rows columns heights ≡ ruled (eqb said.rule 2) rows columns heights
  means = said-means _ said c.in_ok-said.ensures refl

pub returns-in_err-said : goal.returns-in_err-said
returns-in_err-said c =
    rw (handed _ _ c.from_residual.ensures.1)
    (sheet-refuses c.args.sheet.now c.args.file.now (sheet_of (Err c.in_err-said.field-0.0)) c.in_err-said.ensures (refused-numbered _))

pub returns-in_err-read : goal.returns-in_err-read
returns-in_err-read c =
    let here = (goal.at.returns-in_err-read c).In_ok-said in
    rw (handed _ _ c.from_residual-in_err-read.ensures.1)
    (file-refuses c.args.sheet.now c.args.file.now c.args.heights.now c.requires.heights_size (size_of (Err c.in_err-read.field-0.0)) c.in_err-read.ensures.value (refused-numbered _)
    ∙ passes here)

-- a file that is not refused: its plot can be surveyed and parted
module _ (c : In_ok-read) where
  abbrev here : In_ok-said
  here = (goal.at.In_ok-read c).In_ok-said

  abbrev size : Size
  size = size_of (Ok c.in_ok-read.read)

  surveys : (survey_answer (plot_by c.args.sheet.now size.rows size.columns c.read_survey.new.heights) c.args.marks.now).code ≡ 0
  surveys =
      survey-passes c.args.sheet.now c.args.file.now c.args.heights.now c.requires.heights_size size c.in_ok-read.ensures.value _ (means here) _ _ c.args.dales.now c.args.hills.now refl
      c.in_ok-read.ensures.heights_after c.requires

  parts : (parts_answer (plot_by c.args.sheet.now size.rows size.columns c.read_survey.new.heights) (spacings size.east size.south) c.args.dales.now c.args.hills.now).code ≡ 0
  parts =
      parts-pass c.args.sheet.now c.args.file.now c.args.heights.now c.requires.heights_size size c.in_ok-read.ensures.value _ (means here) _ c.args.marks.now _ _ refl
      c.in_ok-read.ensures.heights_after c.requires

pub returns-in_err-counts : goal.returns-in_err-counts
returns-in_err-counts c =
    let at = (goal.at.returns-in_err-counts c).In_ok-read in
    absurd (refused-numbered c.in_err-counts.field-0.0 (ap (λ (x : Counts). x.code) c.in_err-counts.ensures.value ∙ surveys at))

pub returns-in_err-dales_and_hills : goal.returns-in_err-dales_and_hills
returns-in_err-dales_and_hills c =
    let at = (goal.at.returns-in_err-dales_and_hills c).In_ok-read in
    absurd (refused-numbered c.in_err-dales_and_hills.field-0.0 (code c.in_err-dales_and_hills.ensures.value ∙ parts at))

pub returns : goal.returns
returns c =
    let at = (goal.at.returns c).In_ok-read in
    rw (← passes (here at), c.grid_of.ensures, c.into.ensures)
    (goes c.args.sheet.now c.args.file.now c.args.heights.now c.requires.heights_size (size at) c.in_ok-read.ensures.value _ (means (here at)) _ c.args.marks.now c.args.dales.now c.args.hills.now refl
    c.in_ok-read.ensures.heights_after c.requires _ _ _ (counts_of (Ok c.in_ok-counts.counts)) c.in_ok-counts.ensures.value c.in_ok-counts.ensures.marks_after
    c.in_ok-dales_and_hills.ensures.dales_after c.in_ok-dales_and_hills.ensures.hills_after)

-- The outcomes of a survey and of a re-shoot, by whether the call was accepted, and what acceptance says of them.
use Prim.Native.Nat.{ℕ, ◌<◌}
use mathlib.Core.Path.{◌≡◌}
use mathlib.Core.Bool.{true}
use mathlib.Core.List.{List}
use borrow.Author.Tests.{ltb-true, ne_eqb, not-false}
use lib.IntN.{ℤ}
use lib.ListN.{length, set}
use Rattle.surface.specs.Plot.{Plot, posts, reshot, is_height, Valid}
use Rattle.surface.specs.Marks.{marks_of, redrawn, peaks, pits, saddles}
use Rattle.surface.specs.Refusals.{accepted, survey_verdict, reshoot_verdict}
use Rattle.surface.specs.Calls.{survey_answer, survey_marks, reshoot_heights, reshoot_marks}
use Rattle.surface.proofs.OfCalls.Verdicts.{passed, done, ◌⨟◌, clear-accepted, settled-refused, settled-accepted}
use Rattle.surface.proofs.OfCalls.Accepted.{SheetPasses, test-equal, equal-test, rows-valid, row1-passes, row2-passes, row4-passes}

module _ (pl : Plot) (marks : List ℕ) where
  -- a survey is accepted exactly of a plot and as many marks
  pub record ForSurvey : Type 0 where
    pub sheet : SheetPasses pl
    pub valid : Valid pl
    pub marks_size : length marks ≡ posts pl

  pub survey-valid : (survey_verdict pl marks).code ≡ 0 → ForSurvey
  unfolding survey_verdict
  survey-valid e =
      let row = passed _ tt e in
      record { sheet = (row 13, row 14); valid = rows-valid pl (row 1) (row 2) (row 4); marks_size = test-equal _ _ (row 3) }

  pub valid-survey : ForSurvey → survey_verdict pl marks ≡ accepted
  unfolding survey_verdict
  valid-survey f =
      let v = f.valid in
      clear-accepted (f.sheet.0 ⨟ f.sheet.1 ⨟ row1-passes pl v ⨟ row2-passes pl v ⨟ equal-test _ _ f.marks_size ⨟ row4-passes pl v ⨟ done)

  -- a refused survey returns its number and place, and 0 for each other value, and leaves the marks
  pub survey-refused : ((survey_verdict pl marks).code ≡ 0 → ⊥)
      → (survey_answer pl marks
      ≡ record {
        code = (survey_verdict pl marks).code;
        place = (survey_verdict pl marks).place;
        peaks = 0;
        pits = 0;
        saddles = 0;
      })
      × (survey_marks pl marks ≡ marks)
  unfolding survey_answer survey_marks
  survey-refused n = (rw (ne_eqb (survey_verdict pl marks).code 0 n), settled-refused (survey_verdict pl marks) _ _ n)

  -- an accepted one returns 0, 0 and the counts of the marks that it wrote
  pub survey-filled : (survey_verdict pl marks).code ≡ 0 → survey_marks pl marks ≡ marks_of pl
  unfolding survey_marks
  survey-filled e = settled-accepted (survey_verdict pl marks) _ _ e

  pub survey-served : (survey_verdict pl marks).code ≡ 0
      → let m = survey_marks pl marks in
      survey_answer pl marks ≡ record { code = 0; place = 0; peaks = peaks m; pits = pits m; saddles = saddles m }
  unfolding survey_answer
  survey-served e = rw (survey-filled e, valid-survey (survey-valid e))

  module _ (post : ℕ) (new : ℤ) where
    -- a re-shoot is accepted of a plot, as many marks, one of its posts and a height
    pub record ForReshoot : Type 0 where
      pub sheet : SheetPasses pl
      pub valid : Valid pl
      pub marks_size : length marks ≡ posts pl
      pub post_in : post < posts pl
      pub in_range : is_height new ≡ true

    pub reshoot-valid : (reshoot_verdict pl marks post new).code ≡ 0 → ForReshoot
    unfolding reshoot_verdict
    reshoot-valid e =
        let row = passed _ tt e in
        record {
          sheet = (row 13, row 14);
          valid = rows-valid pl (row 1) (row 2) (row 4);
          marks_size = test-equal _ _ (row 3);
          post_in = ltb-true post (posts pl) (not-false _ (row 5));
          in_range = not-false (is_height new) (row 6);
        }

    -- a refused one leaves both lists
    pub reshoot-refused : ((reshoot_verdict pl marks post new).code ≡ 0 → ⊥)
        → (reshoot_heights pl marks post new ≡ pl.heights) × (reshoot_marks pl marks post new ≡ marks)
    unfolding reshoot_heights reshoot_marks
    reshoot-refused n = let v = reshoot_verdict pl marks post new in (settled-refused v _ _ n, settled-refused v _ _ n)

    -- an accepted one puts the height in and redraws the marks round it
    pub reshoot-filled : (reshoot_verdict pl marks post new).code ≡ 0
        → (reshoot_heights pl marks post new ≡ set pl.heights post new)
        × (reshoot_marks pl marks post new ≡ redrawn (reshot pl post new) marks post)
    unfolding reshoot_heights reshoot_marks
    reshoot-filled e = let v = reshoot_verdict pl marks post new in (settled-accepted v _ _ e, settled-accepted v _ _ e)

-- docs/SPECIFICATION.md, "Calls": the whole outcome of each call, its answer and every list that it may write as it stands afterwards, accepted or
-- refused. (A list lent to be read cannot be written.)
-- An accepted call answers 0, 0 and its values. A refused one answers its number and place and 0 for each value, and leaves every list.
use Rattle.std.specs.Prelude.{ℕ, ◌*◌, List, eqb, ℤ, length, get_or, set}
use Rattle.surface.specs.Lists.{at_front}
use Rattle.surface.specs.Plot.{Plot, posts, reshot}
use Rattle.surface.specs.Marks.{mark_at, marks_of, redrawn, peaks, pits, saddles}
use Rattle.surface.specs.Codes.{ring_bytes, runs_below}
use Rattle.surface.specs.Lines.{Descent, next, line, down, up, dales_of, hills_of}
use Rattle.surface.specs.Bodies.{joins_of, splits_of}
use Rattle.surface.specs.SurveyFile.{spacings_in, heights_in, file_of}
use Rattle.surface.specs.Settings.{rule_in, name_in, name_bytes}
use Rattle.surface.specs.Refusals.{settled, sheet_verdict, settings_verdict, survey_verdict, reshoot_verdict, trial_verdict, ring_verdict, joins_verdict, next_verdict, line_verdict, parts_verdict, read_verdict, write_verdict}
use Rattle.surface.specs.declared.Grid.{Grid}
use Rattle.surface.specs.declared.Answer.{Answer}
use Rattle.surface.specs.declared.Sheet.{Sheet}
use Rattle.surface.specs.declared.Counts.{Counts}
use Rattle.surface.specs.declared.TrialCounts.{TrialCounts}
use Rattle.surface.specs.declared.RingMark.{RingMark}
use Rattle.surface.specs.declared.Next.{Next}
use Rattle.surface.specs.declared.Entries.{Entries}
use Rattle.surface.specs.declared.Size.{Size}
use Rattle.surface.specs.declared.Spacings.{Spacings}

-- a sheet's rule and the length of its name, by a verdict
abbrev pub said_by : Answer → List ℕ → Sheet
said_by v sheet =
    record { code = v.code; place = v.place; rule = settled v (rule_in sheet) 0; named = settled v (length (name_in sheet)) 0 }

-- what a call makes of its settings sheet, and the plot that it is lent with that sheet
unfoldable pub sheet_says : List ℕ → Sheet
sheet_says sheet = said_by (sheet_verdict sheet) sheet

abbrev pub plot_said : Sheet → ℕ → ℕ → List ℤ → Plot
plot_said said rows columns heights =
    record {
      rows = rows;
      columns = columns;
      heights = heights;
      bad_sheet = eqb said.code 13;
      bad_entry = eqb said.code 14;
      highest = eqb said.rule 2;
    }

-- the grid that a call goes on with, which has the rule that its sheet says
abbrev pub grid_said : Sheet → ℕ → ℕ → Grid
grid_said said rows columns = record { rows = rows; columns = columns; highest = eqb said.rule 2 }

abbrev pub plot_by : List ℕ → ℕ → ℕ → List ℤ → Plot
plot_by sheet = plot_said (sheet_says sheet)

-- settings(sheet, name)
unfoldable pub settings_answer : List ℕ → List ℕ → Sheet
settings_answer sheet name = said_by (settings_verdict sheet name) sheet

unfoldable pub settings_name : List ℕ → List ℕ → List ℕ
settings_name sheet name = settled (settings_verdict sheet name) (name_bytes sheet) name

-- the counts of the marks that are and of those that would be, by a verdict
abbrev pub tried_by : Answer → List ℕ → List ℕ → TrialCounts
tried_by v marks then =
    record {
      code = v.code;
      place = v.place;
      peaks = settled v (peaks marks) 0;
      pits = settled v (pits marks) 0;
      saddles = settled v (saddles marks) 0;
      newPeaks = settled v (peaks then) 0;
      newPits = settled v (pits then) 0;
      newSaddles = settled v (saddles then) 0;
    }

-- The calls of a plot, which is lent as sheet, rows, columns and heights.
module _ (pl : Plot) where
  -- survey(sheet, rows, columns, heights, marks)
  unfoldable pub survey_marks : List ℕ → List ℕ
  survey_marks marks = settled (survey_verdict pl marks) (marks_of pl) marks

  unfoldable pub survey_answer : List ℕ → Counts
  survey_answer marks =
      let v = survey_verdict pl marks in
      record {
        code = v.code;
        place = v.place;
        peaks = settled v (peaks (marks_of pl)) 0;
        pits = settled v (pits (marks_of pl)) 0;
        saddles = settled v (saddles (marks_of pl)) 0;
      }

  -- reshoot(sheet, rows, columns, heights, marks, post, height)
  unfoldable pub reshoot_heights : List ℕ → ℕ → ℤ → List ℤ
  reshoot_heights marks post new = settled (reshoot_verdict pl marks post new) (set pl.heights post new) pl.heights

  unfoldable pub reshoot_marks : List ℕ → ℕ → ℤ → List ℕ
  reshoot_marks marks post new = settled (reshoot_verdict pl marks post new) (redrawn (reshot pl post new) marks post) marks

  unfoldable pub reshoot_answer : List ℕ → ℕ → ℤ → Answer
  reshoot_answer marks post new = reshoot_verdict pl marks post new

  -- trial(sheet, rows, columns, heights, post, height): the counts that hold, and those that would hold with the height put in at the post
  unfoldable pub trial_answer : ℕ → ℤ → TrialCounts
  trial_answer post new = tried_by (trial_verdict pl post new) (marks_of pl) (marks_of (reshot pl post new))

  -- ring(sheet, rows, columns, heights, post, ring)
  unfoldable pub ring_answer : ℕ → List ℕ → RingMark
  ring_answer post ring =
      let v = ring_verdict pl post ring in
      record { code = v.code; place = v.place; k = settled v (runs_below pl post) 0; mark = settled v (mark_at pl post) 0 }

  unfoldable pub ring_list : ℕ → List ℕ → List ℕ
  ring_list post ring = settled (ring_verdict pl post ring) (ring_bytes pl post) ring

  -- joins_and_splits(sheet, rows, columns, heights, joins, splits)
  unfoldable pub joins_answer : List ℕ → List ℕ → Answer
  joins_answer joins splits = joins_verdict pl joins splits

  unfoldable pub joins_list : List ℕ → List ℕ → List ℕ
  joins_list joins splits = settled (joins_verdict pl joins splits) (joins_of pl) joins

  unfoldable pub splits_list : List ℕ → List ℕ → List ℕ
  splits_list joins splits = settled (joins_verdict pl joins splits) (splits_of pl) splits

-- Those that take the spacings of its posts too, after the columns; to write a file, without a sheet.
module _ (pl : Plot) (s : Spacings) where
  -- next_down(sheet, rows, columns, along_row, along_column, heights, post), next_up(..)
  abbrev pub next_answer : Descent → ℕ → Next
  next_answer d post =
      let v = next_verdict pl s post in
      record { code = v.code; place = v.place; post = settled v (next d post) 0 }

  unfoldable pub next_down_answer : ℕ → Next
  next_down_answer = next_answer (down pl s)

  unfoldable pub next_up_answer : ℕ → Next
  next_up_answer = next_answer (up pl s)

  -- thalweg(sheet, rows, columns, along_row, along_column, heights, post, run, line), ridge(..): how many entries the line has, 0 where it was refused; and
  -- its list, with the entries at the front, where later ones keep their content
  abbrev pub line_answer : Descent → ℕ → ℕ → List ℕ → Entries
  line_answer d post run list =
      let v = line_verdict pl s d post run list in
      record { code = v.code; place = v.place; count = settled v (length (line d (posts pl) post run)) 0 }

  abbrev pub line_list : Descent → ℕ → ℕ → List ℕ → List ℕ
  line_list d post run list = settled (line_verdict pl s d post run list) (at_front (line d (posts pl) post run) list) list

  unfoldable pub thalweg_answer : ℕ → ℕ → List ℕ → Entries
  thalweg_answer = line_answer (down pl s)

  unfoldable pub thalweg_list : ℕ → ℕ → List ℕ → List ℕ
  thalweg_list = line_list (down pl s)

  unfoldable pub ridge_answer : ℕ → ℕ → List ℕ → Entries
  ridge_answer = line_answer (up pl s)

  unfoldable pub ridge_list : ℕ → ℕ → List ℕ → List ℕ
  ridge_list = line_list (up pl s)

  -- dales_and_hills(sheet, rows, columns, along_row, along_column, heights, dales, hills)
  unfoldable pub parts_answer : List ℕ → List ℕ → Answer
  parts_answer dales hills = parts_verdict pl s dales hills

  unfoldable pub parts_dales : List ℕ → List ℕ → List ℕ
  parts_dales dales hills = settled (parts_verdict pl s dales hills) (dales_of pl s) dales

  unfoldable pub parts_hills : List ℕ → List ℕ → List ℕ
  parts_hills dales hills = settled (parts_verdict pl s dales hills) (hills_of pl s) hills

  -- write_survey(rows, columns, along_row, along_column, heights, file)
  unfoldable pub write_answer : List ℕ → Answer
  write_answer file = write_verdict pl s file

  unfoldable pub write_file : List ℕ → List ℕ
  write_file file = settled (write_verdict pl s file) (file_of pl s) file

-- read_survey(file, heights)
unfoldable pub read_answer : List ℕ → List ℤ → Size
read_answer file hs =
    let v = read_verdict file hs in
    record {
      code = v.code;
      place = v.place;
      rows = settled v (get_or file 5 0) 0;
      columns = settled v (get_or file 6 0) 0;
      east = settled v (spacings_in file).east 0;
      south = settled v (spacings_in file).south 0;
    }

unfoldable pub read_heights : List ℕ → List ℤ → List ℤ
read_heights file hs = settled (read_verdict file hs) (heights_in file (get_or file 5 0 * get_or file 6 0)) hs

-- docs/SPECIFICATION.md, "Refusals": the table, and for each call the rows that it has a use for, in order.
use Rattle.std.specs.Prelude.{ℕ, ◌-◌, ◌*◌, Bool, cond, not, ◌&&◌, ◌||◌, List, [], ◌∷◌, ◌++◌, ltb, eqb, ℤ, length, get_or}
use Rattle.surface.specs.Lists.{first_not}
use Rattle.surface.specs.Plot.{Plot, posts, is_side, is_height}
use Rattle.surface.specs.Marks.{is_saddle, mark_at}
use Rattle.surface.specs.Codes.{ring_length}
use Rattle.surface.specs.Lines.{Descent, runs_of, line}
use Rattle.surface.specs.Spacings.{is_spacing}
use Rattle.surface.specs.SurveyFile.{version_in, header_for, stated_count, count_for, file_size, spacings_in, is_tenths, tenths_of}
use Rattle.surface.specs.Settings.{is_bad_sheet, has_bad_entry, name_length}
use Rattle.surface.specs.declared.Answer.{Answer}
use Rattle.surface.specs.declared.Spacings.{Spacings}

-- a row of the table: when it holds, what is returned and the place
pub record Row : Type 0 where
  pub holds : Bool
  pub code : ℕ
  pub place : ℕ

-- what a call returns first: number and place, 0 and 0 where it is accepted
abbrev pub accepted : Answer
accepted = record { code = 0; place = 0 }

-- where several rows hold, the upper row wins
unfoldable pub verdict : List Row → Answer
verdict [] = accepted
verdict (r ∷ rs) = cond r.holds (record { code = r.code; place = r.place }) (verdict rs)

abbrev pub is_accepted : Answer → Bool
is_accepted v = eqb v.code 0

-- what stands afterwards: `new` where the call was accepted, `old` where it was refused
abbrev pub settled : {A : Type 0} → Answer → A → A → A
settled v new old = cond (is_accepted v) new old

-- a row whose place is 0
abbrev pub row_of : ℕ → Bool → Row
row_of code holds = record { holds = holds; code = code; place = 0 }

-- a row that looks at a list post by post: it holds where some element does not pass, its place is the first such post, and its number is told by the post
abbrev pub row_by_post : {A : Type 0} → (A → Bool) → (ℕ → ℕ) → List A → Row
row_by_post passes code_at l = let p = first_not passes l in record { holds = ltb p (length l); code = code_at p; place = p }

-- the list has another length than n
abbrev pub is_not : {A : Type 0} → List A → ℕ → Bool
is_not l n = not (eqb (length l) n)

-- 1: rows or columns outside 2 to 120
abbrev pub row1 : ℕ → ℕ → Row
row1 rows columns = row_of 1 (not (is_side rows && is_side columns))

-- 2: heights lent to be read are not rows times columns
abbrev pub row2 : Plot → Row
row2 pl = row_of 2 (is_not pl.heights (posts pl))

-- 3: another lent list is not exactly its size
abbrev pub row3 : {A : Type 0} → List A → ℕ → Row
row3 l size = row_of 3 (is_not l size)

-- 4: a held or filed height outside its range; the place is the first such post
abbrev pub row4 : (ℤ → Bool) → List ℤ → Row
row4 is_in hs = row_by_post is_in (λ _. 4) hs

-- 5: post number not below rows times columns
abbrev pub row5 : Plot → ℕ → Row
row5 pl post = row_of 5 (not (ltb post (posts pl)))

-- 6: new height outside its range
abbrev pub row6 : ℤ → Row
row6 new = row_of 6 (not (is_height new))

-- 7: a line of a post that is no saddle
abbrev pub row7 : Plot → ℕ → Row
row7 pl post = row_of 7 (not (is_saddle (mark_at pl post)))

-- 8: run number not below the post's runs of that sort: the lower ones downward, the upper ones upward
abbrev pub row8 : Descent → ℕ → ℕ → Row
row8 d post run = row_of 8 (not (ltb run (length (runs_of d post))))

-- 9: the line has more entries than its list
abbrev pub row9 : List ℕ → List ℕ → Row
row9 entries list = row_of 9 (ltb (length list) (length entries))

-- 10: file under 7 bytes; of version 2, under 11
abbrev pub row10 : List ℕ → ℕ → Row
row10 file least = row_of 10 (ltb (length file) least)

-- 11: version neither 1 nor 2
abbrev pub row11 : List ℕ → Row
row11 file = row_of 11 (not (eqb (version_in file) 1 || eqb (version_in file) 2))

-- 12: stated count differs from the bytes present after it, or from the count rule
abbrev pub row12 : List ℕ → ℕ → ℕ → Row
row12 file rows columns =
    row_of 12 (not (eqb (stated_count file) (length file - 5)) || not (eqb (stated_count file) (count_for (version_in file) rows columns)))

-- 13: a bad settings sheet; 14: a bad entry of it
abbrev pub row13 : Bool → Row
row13 bad_sheet = row_of 13 bad_sheet

abbrev pub row14 : Bool → Row
row14 bad_entry = row_of 14 bad_entry

-- 15: a spacing outside 1 to 1,000
abbrev pub row15 : Spacings → Row
row15 s = row_of 15 (not (is_spacing s.east && is_spacing s.south))

-- the rows of a settings sheet, which go before all others
abbrev pub sheet_rows : Bool → Bool → List Row
sheet_rows bad_sheet bad_entry = row13 bad_sheet ∷ row14 bad_entry ∷ []

-- What each call is turned away for.
module _ (pl : Plot) where
  -- the rows that lead a call with a settings sheet and no spacings
  abbrev pub leading : List Row
  leading = sheet_rows pl.bad_sheet pl.bad_entry ++ row1 pl.rows pl.columns ∷ row2 pl ∷ []

  unfoldable pub survey_verdict : List ℕ → Answer
  survey_verdict marks = verdict (leading ++ row3 marks (posts pl) ∷ row4 is_height pl.heights ∷ [])

  unfoldable pub reshoot_verdict : List ℕ → ℕ → ℤ → Answer
  reshoot_verdict marks post new = verdict (leading ++ row3 marks (posts pl) ∷ row4 is_height pl.heights ∷ row5 pl post ∷ row6 new ∷ [])

  -- a trial's are a re-shoot's, but for the row of the marks, which it has not
  unfoldable pub trial_verdict : ℕ → ℤ → Answer
  trial_verdict post new = verdict (leading ++ row4 is_height pl.heights ∷ row5 pl post ∷ row6 new ∷ [])

  unfoldable pub joins_verdict : List ℕ → List ℕ → Answer
  joins_verdict joins splits =
      verdict (leading ++ row_of 3 (is_not joins (posts pl) || is_not splits (posts pl)) ∷ row4 is_height pl.heights ∷ [])

  unfoldable pub ring_verdict : ℕ → List ℕ → Answer
  ring_verdict post ring = verdict (leading ++ row3 ring ring_length ∷ row4 is_height pl.heights ∷ row5 pl post ∷ [])

-- and of the calls with spacings
module _ (pl : Plot) (s : Spacings) where
  -- the rows that lead those with a settings sheet: 15 stands directly after 1
  abbrev pub leading_spaced : List Row
  leading_spaced = sheet_rows pl.bad_sheet pl.bad_entry ++ row1 pl.rows pl.columns ∷ row15 s ∷ row2 pl ∷ []

  unfoldable pub next_verdict : ℕ → Answer
  next_verdict post = verdict (leading_spaced ++ row4 is_height pl.heights ∷ row5 pl post ∷ [])

  -- of a line downward or upward
  unfoldable pub line_verdict : Descent → ℕ → ℕ → List ℕ → Answer
  line_verdict d post run list =
      verdict
      (leading_spaced
      ++ row4 is_height pl.heights
      ∷ row5 pl post
      ∷ row7 pl post
      ∷ row8 d post run
      ∷ row9 (line d (posts pl) post run) list
      ∷ [])

  unfoldable pub parts_verdict : List ℕ → List ℕ → Answer
  parts_verdict dales hills =
      verdict (leading_spaced ++ row_of 3 (is_not dales (posts pl) || is_not hills (posts pl)) ∷ row4 is_height pl.heights ∷ [])

  unfoldable pub write_verdict : List ℕ → Answer
  write_verdict file =
      verdict (row1 pl.rows pl.columns ∷ row15 s ∷ row2 pl ∷ row3 file (file_size 2 pl.rows pl.columns) ∷ row4 is_height pl.heights ∷ [])

-- of a settings sheet alone, and with a list that receives the name
unfoldable pub sheet_verdict : List ℕ → Answer
sheet_verdict sheet = verdict (sheet_rows (is_bad_sheet sheet) (has_bad_entry sheet))

unfoldable pub settings_verdict : List ℕ → List ℕ → Answer
settings_verdict sheet name = verdict (sheet_rows (is_bad_sheet sheet) (has_bad_entry sheet) ++ row3 name name_length ∷ [])

-- of reading a file into a list that receives the heights
unfoldable pub read_verdict : List ℕ → List ℤ → Answer
read_verdict file hs =
    let rows = get_or file 5 0 in
    let columns = get_or file 6 0 in
    verdict
    (row10 file 7
    ∷ row11 file
    ∷ row10 file (header_for (version_in file))
    ∷ row1 rows columns
    ∷ row15 (spacings_in file)
    ∷ row12 file rows columns
    ∷ row3 hs (rows * columns)
    ∷ row4 is_tenths (tenths_of file (rows * columns))
    ∷ [])

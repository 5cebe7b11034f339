-- docs/SPECIFICATION.md, "Example plots": flat, crossed, star, hollow and the roundings, all together, over the outcomes of the calls.
use Rattle.std.specs.Prelude.{ℕ, ◌≡◌, List, [], ◌∷◌, ◌++◌, pos, negsuc, replicate, get_or}
use Rattle.surface.specs.SurveyFile.{file_of}
use Rattle.surface.specs.Calls.{survey_answer, survey_marks, thalweg_answer, thalweg_list, ridge_answer, ridge_list, read_answer, read_heights}
use Rattle.surface.specs.Lister.{text_line, printed}
use Rattle.surface.specs.Examples.{metre, rule_one, flat, crossed, star, hollow, marks, entries, counted, read}
use Rattle.surface.specs.declared.Entries.{Entries}

-- a 2 by 2 file of version 1, by the bytes of its four heights
abbrev pub filed : List ℕ → List ℕ
filed bytes =
    1
    ∷ 0 ∷ 0 ∷ 0 ∷ 18
    ∷ 2 ∷ 2
    ∷ bytes

-- the tenths 4, 5, 15, -5
abbrev pub tenths : List ℕ
tenths =
    filed (
    0 ∷ 0 ∷ 0 ∷ 4
    ∷ 0 ∷ 0 ∷ 0 ∷ 5
    ∷ 0 ∷ 0 ∷ 0 ∷ 15
    ∷ 255 ∷ 255 ∷ 255 ∷ 251
    ∷ [])

-- the tenths 25, -4, -15, -25
abbrev pub more_tenths : List ℕ
more_tenths =
    filed (
    0 ∷ 0 ∷ 0 ∷ 25
    ∷ 255 ∷ 255 ∷ 255 ∷ 252
    ∷ 255 ∷ 255 ∷ 255 ∷ 241
    ∷ 255 ∷ 255 ∷ 255 ∷ 231
    ∷ [])

abbrev pub written : ℕ → Entries
written n = record { code = 0; place = 0; count = n }

abbrev pub refused : ℕ → Entries
refused code = record { code = code; place = 0; count = 0 }

pub record Starred : Type 0 where
  -- flat 2 by 2: post 2 a peak, the rest ordinary; counts 1, 1, 0
  pub flat_marks : survey_marks flat (marks 4) ≡ 0 ∷ 0 ∷ 1 ∷ 0 ∷ []
  pub flat_counts : survey_answer flat (marks 4) ≡ counted 1 1 0
  -- crossed: posts 0 and 3 peaks, post 2 a saddle of multiplicity 1; counts 2, 1, 1
  pub crossed_marks : survey_marks crossed (marks 4) ≡ 1 ∷ 0 ∷ 3 ∷ 1 ∷ []
  pub crossed_counts : survey_answer crossed (marks 4) ≡ counted 2 1 1
  -- crossed, post 2, water line 0: 2, 1, 65535 in three entries; later entries keep their content
  pub crossed_line : thalweg_list crossed metre 2 0 (entries 4) ≡ 2 ∷ 1 ∷ 65535 ∷ 7 ∷ []
  pub crossed_count : thalweg_answer crossed metre 2 0 (entries 4) ≡ written 3
  pub crossed_exact : thalweg_list crossed metre 2 0 (entries 3) ≡ 2 ∷ 1 ∷ 65535 ∷ []
  pub crossed_exact_count : thalweg_answer crossed metre 2 0 (entries 3) ≡ written 3
  -- a list of two: refusal 9
  pub crossed_short : thalweg_answer crossed metre 2 0 (entries 2) ≡ refused 9
  pub crossed_short_list : thalweg_list crossed metre 2 0 (entries 2) ≡ entries 2
  -- star: post 4 has mark 5
  pub star_mark : get_or (survey_marks star (marks 9)) 4 9 ≡ 5
  -- its crest line 0: 4, 1 in two entries
  pub star_line : ridge_list star metre 4 0 (entries 3) ≡ 4 ∷ 1 ∷ 7 ∷ []
  pub star_count : ridge_answer star metre 4 0 (entries 3) ≡ written 2
  pub star_exact : ridge_list star metre 4 0 (entries 2) ≡ 4 ∷ 1 ∷ []
  pub star_exact_count : ridge_answer star metre 4 0 (entries 2) ≡ written 2
  -- its listing: N 3 3 4 1 3 / T 4 0 V / T 4 1 V / T 4 2 V / T 4 3 V / R 4 0 1 / R 4 1 5 / R 4 2 7 / R 4 3 3
  pub star_listing :
      printed rule_one (file_of star metre)
      ≡ text_line 78 ((51 ∷ []) ∷ (51 ∷ []) ∷ (52 ∷ []) ∷ (49 ∷ []) ∷ (51 ∷ []) ∷ [])
      ++ text_line 84 ((52 ∷ []) ∷ (48 ∷ []) ∷ (86 ∷ []) ∷ [])
      ++ text_line 84 ((52 ∷ []) ∷ (49 ∷ []) ∷ (86 ∷ []) ∷ [])
      ++ text_line 84 ((52 ∷ []) ∷ (50 ∷ []) ∷ (86 ∷ []) ∷ [])
      ++ text_line 84 ((52 ∷ []) ∷ (51 ∷ []) ∷ (86 ∷ []) ∷ [])
      ++ text_line 82 ((52 ∷ []) ∷ (48 ∷ []) ∷ (49 ∷ []) ∷ [])
      ++ text_line 82 ((52 ∷ []) ∷ (49 ∷ []) ∷ (53 ∷ []) ∷ [])
      ++ text_line 82 ((52 ∷ []) ∷ (50 ∷ []) ∷ (55 ∷ []) ∷ [])
      ++ text_line 82 ((52 ∷ []) ∷ (51 ∷ []) ∷ (51 ∷ []) ∷ [])
  -- with no sheet: N 3 3 1 2 1 / T 1 0 4 / T 1 1 V / R 1 0 7 / R 1 1 7
  pub star_no_sheet :
      printed [] (file_of star metre)
      ≡ text_line 78 ((51 ∷ []) ∷ (51 ∷ []) ∷ (49 ∷ []) ∷ (50 ∷ []) ∷ (49 ∷ []) ∷ [])
      ++ text_line 84 ((49 ∷ []) ∷ (48 ∷ []) ∷ (52 ∷ []) ∷ [])
      ++ text_line 84 ((49 ∷ []) ∷ (49 ∷ []) ∷ (86 ∷ []) ∷ [])
      ++ text_line 82 ((49 ∷ []) ∷ (48 ∷ []) ∷ (55 ∷ []) ∷ [])
      ++ text_line 82 ((49 ∷ []) ∷ (49 ∷ []) ∷ (55 ∷ []) ∷ [])
  -- run 2 of the crossed saddle: refusal 8
  pub crossed_run : thalweg_answer crossed metre 2 2 (entries 4) ≡ refused 8
  pub crossed_run_up : ridge_answer crossed metre 2 2 (entries 4) ≡ refused 8
  pub crossed_run_list : thalweg_list crossed metre 2 2 (entries 4) ≡ entries 4
  pub crossed_run_up_list : ridge_list crossed metre 2 2 (entries 4) ≡ entries 4
  -- hollow: post 4 a pit, post 0 a saddle, post 8 a peak; counts 1, 2, 1
  pub hollow_pit : get_or (survey_marks hollow (marks 9)) 4 9 ≡ 2
  pub hollow_saddle : get_or (survey_marks hollow (marks 9)) 0 9 ≡ 3
  pub hollow_peak : get_or (survey_marks hollow (marks 9)) 8 9 ≡ 1
  pub hollow_counts : survey_answer hollow (marks 9) ≡ counted 1 2 1
  -- tenths 4, 5, 15, -5 read as 0, 0, 2, 0, and 25, -4, -15, -25 as 2, 0, -2, -2
  pub roundings : read_heights tenths (replicate 4 (pos 7)) ≡ pos 0 ∷ pos 0 ∷ pos 2 ∷ pos 0 ∷ []
  pub roundings_read : read_answer tenths (replicate 4 (pos 7)) ≡ read 2 2 metre
  pub more_roundings : read_heights more_tenths (replicate 4 (pos 7)) ≡ pos 2 ∷ pos 0 ∷ negsuc 1 ∷ negsuc 1 ∷ []

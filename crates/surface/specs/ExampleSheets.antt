-- docs/SPECIFICATION.md, "Example plots": settings sheets: each way to be bad, and two plots by rule 2.
use Rattle.std.specs.Prelude.{ℕ, ◌≡◌, List, [], ◌∷◌, ◌++◌, replicate}
use Rattle.surface.specs.Calls.{plot_by, settings_answer, settings_name, survey_answer, survey_marks}
use Rattle.surface.specs.Examples.{sheet, rule_one, crossed, star, marks, counted}
use Rattle.surface.specs.declared.Sheet.{Sheet}

-- rule 2, and the name pond
abbrev pub pond : List ℕ
pond = sheet (1 ∷ 1 ∷ 2 ∷ 2 ∷ 4 ∷ 112 ∷ 111 ∷ 110 ∷ 100 ∷ [])

abbrev pub said : ℕ → ℕ → Sheet
said rule named = record { code = 0; place = 0; rule = rule; named = named }

-- what settings answers with a list of 32 bytes
abbrev pub told : List ℕ → Sheet
told bytes = settings_answer bytes (marks 32)

abbrev pub unsaid : ℕ → Sheet
unsaid code = record { code = code; place = 0; rule = 0; named = 0 }

pub record ExampleSheets : Type 0 where
  -- no sheet, and a sheet with no entry: rule 2, no name; with a name alone, rule 2 too
  pub none : told [] ≡ said 2 0
  pub none_name : settings_name [] (marks 32) ≡ replicate 32 0
  pub bare : told (sheet []) ≡ said 2 0
  pub name_alone : told (sheet (2 ∷ 1 ∷ 65 ∷ [])) ≡ said 2 1
  -- rule 1, and no name
  pub rule_alone : told rule_one ≡ said 1 0
  -- rule 2 and a name; in a list of 31 bytes, refusal 3
  pub whole : told pond ≡ said 2 4
  pub whole_name : settings_name pond (marks 32) ≡ (112 ∷ 111 ∷ 110 ∷ 100 ∷ []) ++ replicate 28 0
  pub whole_short : settings_answer pond (marks 31) ≡ unsaid 3
  pub whole_short_name : settings_name pond (marks 31) ≡ marks 31
  -- 13: two bytes; version 2; a count of one byte too few; a kind without a length; a length that overruns, after a rule that is none too
  pub short : told (1 ∷ 0 ∷ []) ≡ unsaid 13
  pub version : told (2 ∷ 0 ∷ 0 ∷ 0 ∷ 0 ∷ []) ≡ unsaid 13
  pub count : told (1 ∷ 0 ∷ 0 ∷ 0 ∷ 2 ∷ 1 ∷ 1 ∷ 1 ∷ []) ≡ unsaid 13
  pub lone_kind : told (sheet (1 ∷ 1 ∷ 1 ∷ 2 ∷ [])) ≡ unsaid 13
  pub overrun : told (sheet (1 ∷ 1 ∷ 3 ∷ 2 ∷ 2 ∷ 65 ∷ [])) ≡ unsaid 13
  -- 14: rule 3; a rule of two bytes; a name of none; byte 127 in a name; an unknown kind; one kind twice; a name before a rule
  pub rule_three : told (sheet (1 ∷ 1 ∷ 3 ∷ [])) ≡ unsaid 14
  pub long_rule : told (sheet (1 ∷ 2 ∷ 1 ∷ 1 ∷ [])) ≡ unsaid 14
  pub no_name : told (sheet (2 ∷ 0 ∷ [])) ≡ unsaid 14
  pub delete : told (sheet (2 ∷ 1 ∷ 127 ∷ [])) ≡ unsaid 14
  pub unknown : told (sheet (3 ∷ 0 ∷ [])) ≡ unsaid 14
  pub twice : told (sheet (1 ∷ 1 ∷ 1 ∷ 1 ∷ 1 ∷ 1 ∷ [])) ≡ unsaid 14
  pub falling : told (sheet (2 ∷ 1 ∷ 65 ∷ 1 ∷ 1 ∷ 1 ∷ [])) ≡ unsaid 14
  -- star by rule 2: post 4 a pit, post 7 the one peak, post 1 a saddle; counts 1, 2, 1
  pub star_highest : survey_marks (plot_by pond 3 3 star.heights) (marks 9) ≡ 0 ∷ 3 ∷ 0 ∷ 0 ∷ 2 ∷ 0 ∷ 0 ∷ 1 ∷ 0 ∷ []
  pub star_highest_counts : survey_answer (plot_by pond 3 3 star.heights) (marks 9) ≡ counted 1 2 1
  -- crossed by rule 2: post 3 the one peak, and no saddle; counts 1, 1, 0
  pub crossed_highest : survey_marks (plot_by pond 2 2 crossed.heights) (marks 4) ≡ 0 ∷ 0 ∷ 0 ∷ 1 ∷ []
  pub crossed_highest_counts : survey_answer (plot_by pond 2 2 crossed.heights) (marks 4) ≡ counted 1 1 0

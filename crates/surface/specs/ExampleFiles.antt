-- docs/SPECIFICATION.md, "Example plots": survey files of version 2.
use Rattle.std.specs.Prelude.{ℕ, ◌≡◌, List, [], ◌∷◌, ◌++◌, pos, replicate}
use Rattle.surface.specs.Spacings.{spacings}
use Rattle.surface.specs.SurveyFile.{file_of}
use Rattle.surface.specs.Calls.{read_answer, read_heights}
use Rattle.surface.specs.Examples.{flat, read}
use Rattle.surface.specs.declared.Size.{Size}

-- a 2 by 2 file of version 2 by the bytes of its spacings, all heights 0
abbrev pub spaced_file : List ℕ → List ℕ
spaced_file bytes =
    2
    ∷ 0 ∷ 0 ∷ 0 ∷ 22
    ∷ 2 ∷ 2
    ∷ bytes
    ++ replicate 16 0

-- what reading answers, into four heights
abbrev pub read_by : List ℕ → Size
read_by file = read_answer file (replicate 4 (pos 7))

abbrev pub unread : ℕ → Size
unread code = record { code = code; place = 0; rows = 0; columns = 0; east = 0; south = 0 }

pub record ExampleFiles : Type 0 where
  -- along a row first: 300 and 4
  pub spaced : read_by (spaced_file (1 ∷ 44 ∷ 0 ∷ 4 ∷ [])) ≡ read 2 2 (spacings 300 4)
  pub spaced_heights : read_heights (spaced_file (1 ∷ 44 ∷ 0 ∷ 4 ∷ [])) (replicate 4 (pos 7)) ≡ replicate 4 (pos 0)
  -- and so it is written
  pub written : file_of flat (spacings 300 4) ≡ spaced_file (1 ∷ 44 ∷ 0 ∷ 4 ∷ [])
  -- 10: version 2 in 8 bytes, whatever its sides; 11: version 3 in 8 bytes, and version 0
  pub cut : read_by (2 ∷ 0 ∷ 0 ∷ 0 ∷ 3 ∷ 1 ∷ 2 ∷ 0 ∷ []) ≡ unread 10
  pub version : read_by (3 ∷ 0 ∷ 0 ∷ 0 ∷ 3 ∷ 2 ∷ 2 ∷ 0 ∷ []) ≡ unread 11
  pub no_version : read_by (0 ∷ 0 ∷ 0 ∷ 0 ∷ 2 ∷ 2 ∷ 2 ∷ []) ≡ unread 11
  -- 15: no spacing along a row; 1,001 along a column; before a count that is wrong too. 12: version 2 with the count of version 1
  pub no_spacing : read_by (spaced_file (0 ∷ 0 ∷ 0 ∷ 4 ∷ [])) ≡ unread 15
  pub far_apart : read_by (spaced_file (1 ∷ 44 ∷ 3 ∷ 233 ∷ [])) ≡ unread 15
  pub no_spacing_cut : read_by (2 ∷ 0 ∷ 0 ∷ 0 ∷ 6 ∷ 2 ∷ 2 ∷ 0 ∷ 0 ∷ 0 ∷ 4 ∷ []) ≡ unread 15
  pub count : read_by (2 ∷ 0 ∷ 0 ∷ 0 ∷ 18 ∷ 2 ∷ 2 ∷ 0 ∷ 1 ∷ 0 ∷ 1 ∷ replicate 12 0) ≡ unread 12

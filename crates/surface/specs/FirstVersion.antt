-- What is proved of survey files of version 1 (proofs/OfCalls/FirstVersion): they read as they did before there was another version.
use Rattle.std.specs.Prelude.{ℕ, ◌+◌, ◌-◌, ◌*◌, ◌≡◌, not, ◌||◌, List, [], ◌∷◌, map, eqb, ℤ, length, get_or}
use Rattle.surface.specs.Lists.{list_of}
use Rattle.surface.specs.Spacings.{spacings}
use Rattle.surface.specs.SurveyFile.{version_in, stated_count, spacings_in, is_tenths, rounded, heights_in}
use Rattle.surface.specs.Words.{word_at, signed}
use Rattle.surface.specs.Refusals.{verdict, row_of, row1, row3, row4, row10, read_verdict}

module _ (file : List ℕ) where
  -- the filed heights of n posts, from byte 7 on
  unfoldable pub first_tenths : ℕ → List ℤ
  first_tenths n = list_of (λ i. signed (word_at file (7 + 4 * i))) n

  pub record FirstVersion : Type 0 where
    -- the count is 2 + 4 times rows times columns, and no row is about spacings
    pub refused :
        (hs : List ℤ)
        → let rows = get_or file 5 0 in
        let columns = get_or file 6 0 in
        let stated = stated_count file in
        read_verdict file hs
        ≡ verdict
        (row10 file 7
        ∷ row1 rows columns
        ∷ row_of 12 (not (eqb stated (length file - 5)) || not (eqb stated (2 + 4 * (rows * columns))))
        ∷ row3 hs (rows * columns)
        ∷ row4 is_tenths (first_tenths (rows * columns))
        ∷ [])
    -- posts a metre apart either way
    pub spaced : spacings_in file ≡ spacings 100 100
    pub heights : (n : ℕ) → heights_in file n ≡ map rounded (first_tenths n)

-- of every file of version 1
abbrev pub FirstVersions : Type 0
FirstVersions = (file : List ℕ) → version_in file ≡ 1 → FirstVersion file

-- docs/SPECIFICATION.md, "Example plots": the plots, lists and answers that the examples share.
use Rattle.std.specs.Prelude.{ℕ, List, [], ◌∷◌, ◌++◌, pos, length, replicate}
use Rattle.surface.specs.Plot.{Plot}
use Rattle.surface.specs.Spacings.{spacings}
use Rattle.surface.specs.Words.{bytes_of}
use Rattle.surface.specs.Calls.{plot_by}
use Rattle.surface.specs.declared.Counts.{Counts}
use Rattle.surface.specs.declared.Next.{Next}
use Rattle.surface.specs.declared.Size.{Size}
use Rattle.surface.specs.declared.Spacings.{Spacings}

-- posts a metre apart either way
abbrev pub metre : Spacings
metre = spacings 100 100

-- a settings sheet, by the bytes of its entries
abbrev pub sheet : List ℕ → List ℕ
sheet bytes = 1 ∷ bytes_of (length bytes) ++ bytes

-- one that names rule 1 and no more; flat, crossed, star and hollow are read with it
abbrev pub rule_one : List ℕ
rule_one = sheet (1 ∷ 1 ∷ 1 ∷ [])

-- 0 0 / 0 0
abbrev pub flat : Plot
flat = plot_by rule_one 2 2 (replicate 4 (pos 0))

-- 5 0 / 0 5
abbrev pub crossed : Plot
crossed = plot_by rule_one 2 2 (pos 5 ∷ pos 0 ∷ pos 0 ∷ pos 5 ∷ [])

-- 0 2 0 / 2 1 2 / 0 2 0
abbrev pub star : Plot
star = plot_by rule_one 3 3 (pos 0 ∷ pos 2 ∷ pos 0 ∷ pos 2 ∷ pos 1 ∷ pos 2 ∷ pos 0 ∷ pos 2 ∷ pos 0 ∷ [])

-- 1 1 1 / 1 0 1 / 1 1 1
abbrev pub hollow : Plot
hollow = plot_by rule_one 3 3 (pos 1 ∷ pos 1 ∷ pos 1 ∷ pos 1 ∷ pos 0 ∷ pos 1 ∷ pos 1 ∷ pos 1 ∷ pos 1 ∷ [])

-- lists lent: n marks that were never a survey's, n entries of a line list
abbrev pub marks : ℕ → List ℕ
marks n = replicate n 9

abbrev pub entries : ℕ → List ℕ
entries n = replicate n 7

-- answers
abbrev pub counted : ℕ → ℕ → ℕ → Counts
counted peaks pits saddles = record { code = 0; place = 0; peaks = peaks; pits = pits; saddles = saddles }

abbrev pub read : ℕ → ℕ → Spacings → Size
read rows columns s =
    record { code = 0; place = 0; rows = rows; columns = columns; east = s.east; south = s.south }

abbrev pub goes : ℕ → Next
goes q = record { code = 0; place = 0; post = q }

-- The loop's invariant: the first i heights are the file's, the others are as they were.
use Prim.Native.Nat.{ℕ}
use mathlib.Core.List.{List}
use lib.IntN.{ℤ}
use Rattle.surface.specs.SurveyFile.{version_in, rounded}
use Rattle.surface.specs.Words.{word_at, signed}
use Rattle.surface.proofs.General.ListOf.{Filled}
use Rattle.survey_file.specs.Layout.{height_at}
use Rattle.survey_file.proofs.reading.read_heights.Given as goal

-- the height that a file has at a post
abbrev pub height : List ℕ → ℕ → ℤ
height file i = rounded (signed (word_at file (height_at (version_in file) i)))

abbrev pub invariant-loop-i : goal.invariant-loop-i
invariant-loop-i l = Filled (height l.file) l.initial.heights l.i l.heights

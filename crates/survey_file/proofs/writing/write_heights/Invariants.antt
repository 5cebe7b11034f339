-- The loop's invariant: the heights of i posts are stored.
use mathlib.Core.Path.{◌≡◌}
use lib.ListN.{take}
use lib.Seq.{sets}
use Rattle.surface.specs.SurveyFile.{header_for, filed_heights}
use Rattle.survey_file.specs.Layout.{written}
use Rattle.survey_file.proofs.writing.write_heights.Given as goal

abbrev pub invariant-loop-i : goal.invariant-loop-i
invariant-loop-i l = l.file ≡ sets l.initial.file (header_for written) (filed_heights (take l.i l.heights))

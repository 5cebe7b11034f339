-- By the version; one that is not the first has bytes 7 to 10.
use borrow.Author.Tests.{eq-eqb, ne_eqb}
use Rattle.surface.specs.SurveyFile.{spacings_in}
use Rattle.survey_file.proofs.header.spacings_in.Goals as goal
use Rattle.survey_file.proofs.header.spacings_in.Goals.{Else-file-eq-FIRST}

pub returns-then-file-eq-FIRST : goal.returns-then-file-eq-FIRST
unfolding spacings_in
returns-then-file-eq-FIRST c = rw (eq-eqb _ 1 c.if-file-eq-FIRST.true)

pub returns : goal.returns
unfolding spacings_in
returns c = rw (ne_eqb _ 1 c.if-file-eq-FIRST.false, c.half_at.ensures, c.half_at-2.ensures)

-- The law in one direction.
use Rattle.surface.specs.Calls.{thalweg_answer, thalweg_list}
use Rattle.lines.proofs.thalweg.Goals as goal

pub returns : goal.returns
unfolding thalweg_answer thalweg_list
returns c = c.draw_line.ensures

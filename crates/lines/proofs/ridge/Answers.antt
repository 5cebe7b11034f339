-- The law in one direction.
use Rattle.surface.specs.Calls.{ridge_answer, ridge_list}
use Rattle.lines.proofs.ridge.Goals as goal

pub returns : goal.returns
unfolding ridge_answer ridge_list
returns c = c.draw_line.ensures

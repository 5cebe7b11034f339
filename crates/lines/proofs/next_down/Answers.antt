-- The law in one direction.
use Rattle.surface.specs.Calls.{next_down_answer}
use Rattle.lines.proofs.next_down.Goals as goal

pub returns : goal.returns
unfolding next_down_answer
returns c = c.next_post.ensures

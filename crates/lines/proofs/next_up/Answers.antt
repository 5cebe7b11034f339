-- The law in one direction.
use Rattle.surface.specs.Calls.{next_up_answer}
use Rattle.lines.proofs.next_up.Goals as goal

pub returns : goal.returns
unfolding next_up_answer
returns c = c.next_post.ensures

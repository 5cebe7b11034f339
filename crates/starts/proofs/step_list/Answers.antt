-- The nine numbers as they stand.
use Rattle.starts.specs.Starts.{strides}
use borrow.Author.Rules.{rules}
use Rattle.starts.proofs.step_list.Goals as goal

pub returns : goal.returns
unfolding strides
returns c = search rules

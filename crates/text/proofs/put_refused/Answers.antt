use Rattle.surface.specs.Lister.{refused_text}
use Rattle.text.proofs.put_refused.Goals as goal

pub returns : goal.returns
unfolding refused_text
returns c = c.put_numbers.ensures

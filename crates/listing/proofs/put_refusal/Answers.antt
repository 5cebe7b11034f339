-- The text of a refusal, and no plot.
use mathlib.Core.Path.{refl}
use Rattle.text.proofs.Writing.{front}
use Rattle.listing.proofs.put_refusal.Goals as goal

pub returns : goal.returns
returns c =
    let f = front c.args.out.now _ _ _ c.requires (rw c.into-code.ensures at c.put_refused.ensures) in
    record { room = f.2; bytes = f.0; refused = refl }

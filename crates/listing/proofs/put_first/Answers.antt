-- The first line, or the whole listing where it is refused.
use native.Mathlib.Omega.{arith}
use mathlib.Core.Path.{◌∙◌}
use Rattle.text.proofs.Writing.{front}
use Rattle.listing.proofs.put_first.Goals as goal

pub put_head-requires : goal.put_head-requires
put_head-requires c = omega (arith, c.requires.1)

pub returns-in-Ok : goal.returns-in-Ok
returns-in-Ok c =
    let f = front c.args.out.now _ _ _ c.requires.1 c.put_head.ensures in
    record { room = f.2; rest = rw f.0 c.in-Ok.ensures }

pub returns-in-Err : goal.returns-in-Err
returns-in-Err c =
    let f = c.put_refusal.ensures in
    record { room = f.room; rest = rw f.refused (f.bytes ∙ c.in-Err.ensures) }

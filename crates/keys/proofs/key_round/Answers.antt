-- The post that is there, or p itself.
use mathlib.Core.Path.{◌≡◌}
use mir.Syntax.{w32}
use mir.Val.{to_z, of_z}
use borrow.Author.Rules.{rules}
use Rattle.keys.proofs.key_round.Goals as goal

pub key_at-requires : goal.key_at-requires
key_at-requires c = (c.requires.0, c.requires.1, c.requires.3 c.if-there.true)

pub returns-then-there : goal.returns-then-there
returns-then-there c =
    let bits : to_z w32 (of_z w32 c.key_at.result) ≡ c.key_at.result = search rules in
    rw (c.if-there.true, bits) c.key_at.ensures

pub returns : goal.returns
returns c =
    let bits : to_z w32 (of_z w32 c.args.own) ≡ c.args.own = search rules in
    rw (c.if-there.false, bits) c.requires.2

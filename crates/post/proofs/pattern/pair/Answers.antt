-- Two digits.
use native.Mathlib.Omega.{arith}
use Rattle.surface.specs.Flags.{pair_by}
use Rattle.surface.proofs.General.Bools.{flag}
use Rattle.post.proofs.pattern.pair.Goals as goal

pub overflow_mul-result : goal.overflow_mul-result
overflow_mul-result c = omega (arith, c.sign.ensures)

pub overflow_add-result : goal.overflow_add-result
overflow_add-result c = omega (arith, c.sign.ensures, flag c.args.side)

pub returns : goal.returns
unfolding pair_by
returns c = rw (c.sign.ensures.0, (flag c.args.side).0) (omega (arith, c.sign.ensures, flag c.args.side), omega (arith, c.sign.ensures, flag c.args.side))

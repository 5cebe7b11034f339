-- The ring once more after its last member.
use native.Mathlib.Omega.{arith}
use mathlib.Core.Path.{sym, ◌∙◌}
use Prim.Native.Nat.{◌-◌}
use lib.Seq.{get_or-take, length-take-le}
use Rattle.rings.specs.Rings.{held}
use Rattle.runs.proofs.Running.{get_or-front, get_or-back}
use Rattle.runs.proofs.member_at.Goals as goal

pub returns-then-j-len : goal.returns-then-j-len
returns-then-j-len c =
    let r = c.args.ring in
    let n = length-take-le r.len r.members (omega (arith, c.requires)) in
    sym (get_or-front (held r) (held r) c.args.j (omega arith) ∙ get_or-take r.len r.members c.args.j 0 c.if-j-len.true)

pub returns : goal.returns
returns c =
    let r = c.args.ring in
    let n = length-take-le r.len r.members (omega (arith, c.requires)) in
    sym
    (get_or-back (held r) (held r) c.args.j (omega arith)
    ∙ rw n (get_or-take r.len r.members (c.args.j - r.len) 0 (omega (arith, c.requires.2, c.if-j-len.false))))

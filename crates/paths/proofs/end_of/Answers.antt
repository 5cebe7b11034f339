use Prim.Native.Nat.{ℕ, ◌<◌}
use native.Mathlib.Omega.{arith}
use mathlib.Core.Path.{◌≡◌, sym, ◌∙◌}
use lib.ListN.{length, get_or}
use borrow.Author.Tests.{ltb-false}
use Rattle.paths.proofs.Shorter.{outside, along-stays, shorter-none, read-end, read-nearer}
use Rattle.paths.proofs.end_of.Goals as goal
use Rattle.paths.proofs.end_of.Goals.{In-Some}

-- e has an entry
there : (c : In-Some) → (c.loop-next.e < length c.args.list.now) × ((d : ℕ) → c.in-Some.next.now ≡ get_or c.args.list.now c.loop-next.e d)
there c = c.in-Some.ensures.lookup.3

pub loop-next-init : goal.loop-next-init
loop-next-init c =
    let a = c.args in
    (omega (arith, c.type_inv.list a.p), read-end (shorter-none _) a.p c.requires.0 c.requires.1)

pub loop-next-smaller : goal.loop-next-smaller
loop-next-smaller c =
    let k = there (goal.at.loop-next-smaller c).In-Some in
    rw (k.1 0) (read-nearer (shorter-none _) c.loop-next.e c.requires.0 k.0 (λ h. c.if-next-e.false (k.1 c.loop-next.e ∙ h)))

pub loop-next-preserved : goal.loop-next-preserved
loop-next-preserved c =
    let k = there (goal.at.loop-next-preserved c).In-Some in
    rw (k.1 0) (omega (arith, c.type_inv.list c.loop-next.e), read-end (shorter-none _) c.loop-next.e c.requires.0 k.0 ∙ c.loop-next.invariant.1)

pub returns-in_default : goal.returns-in_default
returns-in_default c =
    let list = c.args.list.now in
    let e = c.loop-next.e in
    sym (along-stays list (length list) e (outside list e (ltb-false e (length list) (sym c.in_default.ensures.lookup.0)))) ∙ c.loop-next.invariant.1

pub returns-then-next-e : goal.returns-then-next-e
returns-then-next-e c =
    let list = c.args.list.now in
    let e = c.loop-next.e in
    let k = there (goal.at.returns-then-next-e c).In-Some in
    sym (along-stays list (length list) e (sym (k.1 e) ∙ c.if-next-e.true)) ∙ c.loop-next.invariant.1

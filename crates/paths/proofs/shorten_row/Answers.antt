use Prim.Native.Nat.{◌+◌, ◌-◌, ◌≤◌}
use native.Mathlib.Omega.{arith}
use mathlib.Core.Path.{◌≡◌, refl}
use Rattle.paths.proofs.Shorter.{settled-none, settled-one, settled-then, settled-of}
use Rattle.paths.proofs.Turns.{met, met-in, met_all, before_more}
use Rattle.paths.proofs.shorten_row.Goals as goal
use Rattle.paths.proofs.shorten_row.Goals.{then-back, else-back, Joined-back}

pub loop-turn-init : goal.loop-turn-init
loop-turn-init c = settled-of (settled-none c.requires.0) (λ p b. absurd (omega (arith, b.early)))

place : (c : Joined-back) → let a = c.args in c.if-back.i ≡ met a.back a.n c.loop-turn.turn
place c = elim c.if-back.branch [ then-back w ↦ rw (w.i-is, w.if-back.true) refl | else-back w ↦ rw (w.i-is, w.if-back.false) refl ]

-- the post of this turn is in the list
here : (c : Joined-back) → let a = c.args in a.first + c.if-back.i ≤ a.first + a.n - 1
here c =
    let a = c.args in
    omega (arith, (place c), met-in a.back a.n c.loop-turn.turn c.loop-turn-test.true)

pub settle-requires : goal.settle-requires
settle-requires c =
    let s = c.loop-turn.invariant in
    (s.ends, omega (arith, here (goal.at.settle-requires c).Joined-back, s.size, c.requires.1, c.loop-turn-test.true))

pub loop-turn-preserved : goal.loop-turn-preserved
loop-turn-preserved c =
    let s = c.settle.ensures in
    settled-then c.loop-turn.invariant (settled-one c.loop-turn.invariant.ends s.0 _ s.1) (λ p b. rw (place (goal.at.loop-turn-preserved c).Joined-back) (before_more b))

pub returns : goal.returns
returns c =
    let l = c.loop-turn in
    let a = c.args in
    settled-of l.invariant
    (λ p r. record {
      turn = met a.back a.n (p - a.first);
      early = omega (arith, met-in a.back a.n (p - a.first) (omega (arith, r)));
      holds = omega (arith, met_all a.back a.n (p - a.first) (omega (arith, r)), r);
    })

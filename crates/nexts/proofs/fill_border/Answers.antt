use Prim.Native.Nat.{◌+◌}
use native.Mathlib.Omega.{arith}
use mathlib.Core.Path.{◌≡◌, sym}
use lib.ListN.{set}
use Rattle.surface.specs.Plot.{plot_of, virtual_pit, PostOf}
use Rattle.surface.specs.Lines.{next, down}
use Rattle.surface.proofs.OfPlots.Instance.{border-drains}
use Rattle.nexts.specs.Filled.{ForNexts, NextsFilled}
use Rattle.nexts.proofs.Filled.{next_fits, filled_none, filled-both, filled-one, filled-lists}
use Rattle.nexts.proofs.fill_border.Goals as goal
use Rattle.nexts.proofs.fill_border.Goals.{then-both, else-both, At-loop-i, In-loop-i, Joined-both}

lent : (l : At-loop-i) → ForNexts (plot_of l.args.grid l.args.heights.now) l.args.spacings l.args.both l.loop-i.downs l.loop-i.ups
lent l = filled-lists l.loop-i.invariant l.requires.for_nexts.0

-- a turn's post
post : (c : In-loop-i) → PostOf (plot_of c.args.grid c.args.heights.now) (c.args.from + c.loop-i.i)
post c = record { valid = (lent (goal.at.In-loop-i c).At-loop-i).valid; post = omega (arith, c.requires.for_nexts.1) }

pub loop-i-init : goal.loop-i-init
loop-i-init c = filled_none _ _ _ _ _ _

pub overflow_add-p : goal.overflow_add-p
overflow_add-p c = omega (arith, (post c).post, (post c).valid.sides)

pub offset_bounds-downs-p : goal.offset_bounds-downs-p
offset_bounds-downs-p c = omega (arith, (post c).post, (post c).valid.sides)

pub bounds-downs-p : goal.bounds-downs-p
bounds-downs-p c = omega (arith, (post c).post, (lent (goal.at.bounds-downs-p c).At-loop-i).downs_size)

pub next_up_anywhere-requires : goal.next_up_anywhere-requires
next_up_anywhere-requires c = (post (goal.at.next_up_anywhere-requires c).In-loop-i, (lent (goal.at.next_up_anywhere-requires c).At-loop-i).spaced)

pub overflow_cast-ups : goal.overflow_cast-ups
overflow_cast-ups c = omega (arith, c.next_up_anywhere.ensures, next_fits (post (goal.at.overflow_cast-ups c).In-loop-i) c.args.spacings)

pub offset_bounds-ups-p : goal.offset_bounds-ups-p
offset_bounds-ups-p c =
    let turn = (goal.at.offset_bounds-ups-p c).In-loop-i in
    omega (arith, (post turn).post, (post turn).valid.sides)

pub bounds-ups-p : goal.bounds-ups-p
bounds-ups-p c = omega (arith, (post (goal.at.bounds-ups-p c).In-loop-i).post, (lent (goal.at.bounds-ups-p c).At-loop-i).ups_size c.if-both.true)

-- a border post drains to the virtual pit
drained : (c : In-loop-i)
    → let a = c.args in
    65535 ≡ next (down (plot_of a.grid a.heights.now) a.spacings) (a.from + c.loop-i.i)
unfolding virtual_pit
drained c =
    sym (border-drains _ (post c).valid.sides c.args.spacings _ (post c).post (c.requires.by_index c.loop-i.i c.loop-i-test.true))

-- after a turn: one post more in the first list and, where both are filled, in the second
turned : (c : Joined-both)
    → let a = c.args in
    NextsFilled (plot_of a.grid a.heights.now) a.spacings a.both a.from (c.loop-i.i + 1) a.downs.now a.ups.now (set c.loop-i.downs (a.from + c.loop-i.i) 65535) c.if-both.ups
turned c =
    let f = c.loop-i.invariant in
    let d = drained (goal.at.Joined-both c).In-loop-i in
    elim c.if-both.branch [ then-both w ↦ rw w.ups-is (filled-both f w.if-both.true _ _ d w.next_up_anywhere.ensures) | else-both w ↦ rw w.ups-is (filled-one f w.if-both.false _ d) ]

pub loop-i-preserved : goal.loop-i-preserved
loop-i-preserved c = turned c

pub returns : goal.returns
returns c =
    let e : c.loop-i.i ≡ c.args.n = omega arith in
    rw e at c.loop-i.invariant

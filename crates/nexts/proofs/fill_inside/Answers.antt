use Prim.Native.Nat.{◌+◌}
use native.Mathlib.Omega.{arith}
use mathlib.Core.Path.{◌≡◌}
use lib.ListN.{set}
use mathlib.Core.Bool.{true, false}
use Rattle.surface.specs.Plot.{plot_of, row, is_odd, PostOf}
use Rattle.surface.specs.Edges.{is_border}
use Rattle.surface.specs.Spacings.{Spaced}
use Rattle.nexts.specs.Filled.{ForNexts, NextsFilled}
use Rattle.nexts.proofs.Filled.{next_fits, filled_none, filled-both, filled-one, filled-lists}
use Rattle.nexts.proofs.fill_inside.Goals as goal
use Rattle.nexts.proofs.fill_inside.Goals.{then-both, else-both, After-next_inside-down, At-loop-i, In-loop-i, Joined-both}

lent : (l : At-loop-i) → ForNexts (plot_of l.args.grid l.args.heights.now) l.args.spacings l.args.both l.loop-i.downs l.loop-i.ups
lent l = filled-lists l.loop-i.invariant l.requires.for_nexts.0

-- a turn's post
post : (c : In-loop-i) → PostOf (plot_of c.args.grid c.args.heights.now) (c.args.from + c.loop-i.i)
post c = record { valid = (lent (goal.at.In-loop-i c).At-loop-i).valid; post = omega (arith, c.requires.for_nexts.1) }

inside : (c : In-loop-i)
    → let a = c.args in
    PostOf (plot_of a.grid a.heights.now) (a.from + c.loop-i.i)
    × (is_border a.grid.rows a.grid.columns (a.from + c.loop-i.i) ≡ false)
    × (a.odd ≡ is_odd (row a.grid.columns (a.from + c.loop-i.i)))
    × Spaced a.spacings
    × (a.highest ≡ a.grid.highest)
    × (a.even ≡ true → a.spacings.east ≡ a.spacings.south)
inside c =
    let p = c.requires in
    let k = p.by_index c.loop-i.i c.loop-i-test.true in
    (post c, k.0, k.1, (lent (goal.at.In-loop-i c).At-loop-i).spaced, p.highest_value.0, p.highest_value.1)

pub loop-i-init : goal.loop-i-init
loop-i-init c = filled_none _ _ _ _ _ _

pub overflow_add-p : goal.overflow_add-p
overflow_add-p c = omega (arith, (post c).post, (post c).valid.sides)

pub next_inside-down-requires : goal.next_inside-down-requires
next_inside-down-requires c = inside c

pub next_inside-up-requires : goal.next_inside-up-requires
next_inside-up-requires c = inside (goal.at.next_inside-up-requires c).In-loop-i

-- the turn's post, once next down is known
turn : (c : After-next_inside-down)
    → PostOf (plot_of c.args.grid c.args.heights.now) (c.args.from + c.loop-i.i)
turn c = post (goal.at.After-next_inside-down c).In-loop-i

pub overflow_cast-ups : goal.overflow_cast-ups
overflow_cast-ups c = omega (arith, c.next_inside-up.ensures, next_fits (turn (goal.at.overflow_cast-ups c).After-next_inside-down) c.args.spacings)

pub offset_bounds-ups-p : goal.offset_bounds-ups-p
offset_bounds-ups-p c =
    let after = (goal.at.offset_bounds-ups-p c).After-next_inside-down in
    omega (arith, (turn after).post, (turn after).valid.sides)

pub bounds-ups-p : goal.bounds-ups-p
bounds-ups-p c = omega (arith, (turn (goal.at.bounds-ups-p c).After-next_inside-down).post, (lent (goal.at.bounds-ups-p c).At-loop-i).ups_size c.if-both.true)

pub overflow_cast-downs : goal.overflow_cast-downs
overflow_cast-downs c = omega (arith, c.next_inside-down.ensures, next_fits (turn (goal.at.overflow_cast-downs c).After-next_inside-down) c.args.spacings)

pub offset_bounds-downs-p : goal.offset_bounds-downs-p
offset_bounds-downs-p c =
    let after = (goal.at.offset_bounds-downs-p c).After-next_inside-down in
    omega (arith, (turn after).post, (turn after).valid.sides)

pub bounds-downs-p : goal.bounds-downs-p
bounds-downs-p c = omega (arith, (turn (goal.at.bounds-downs-p c).After-next_inside-down).post, (lent (goal.at.bounds-downs-p c).At-loop-i).downs_size)

-- after a turn: one post more in the first list and, where both are filled, in the second
turned : (c : Joined-both)
    → let a = c.args in
    NextsFilled (plot_of a.grid a.heights.now) a.spacings a.both a.from (c.loop-i.i + 1) a.downs.now a.ups.now (set c.loop-i.downs (a.from + c.loop-i.i) c.next_inside-down.result) c.if-both.ups
turned c =
    let f = c.loop-i.invariant in
    let d = c.next_inside-down.ensures in
    elim c.if-both.branch [ then-both w ↦ rw w.ups-is (filled-both f w.if-both.true _ _ d w.next_inside-up.ensures) | else-both w ↦ rw w.ups-is (filled-one f w.if-both.false _ d) ]

pub loop-i-preserved : goal.loop-i-preserved
loop-i-preserved c = turned c

pub returns : goal.returns
returns c =
    let e : c.loop-i.i ≡ c.args.n = omega arith in
    rw e at c.loop-i.invariant

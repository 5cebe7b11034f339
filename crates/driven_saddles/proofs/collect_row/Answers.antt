use borrow.Author.Tests.{ne_eqb}
use Prim.Native.Nat.{ℕ, ◌+◌, ◌-◌, ◌%◌, ◌*◌, ◌≤◌, ◌<◌}
use native.Mathlib.Omega.{arith}
use native.Mathlib.Nat.{add-mul, one-mul}
use mathlib.Core.Path.{◌≡◌, refl}
use mathlib.Core.Bool.{cond}
use lib.ListN.{length}
use Rattle.surface.specs.Plot.{is_odd}
use Rattle.surface.proofs.AnyOrder.Grid.{row_in}
use Rattle.surface.proofs.OfPlots.Driven.{along_drive}
use Rattle.driven_saddles.proofs.Picking.{picked-rows, picked_next, along-rows, along-turn}
use Rattle.driven_saddles.proofs.collect_row.Goals as goal
use Rattle.driven_saddles.proofs.collect_row.Goals.{then-back, else-back, Joined-back, Start}

abbrev first : Start → ℕ
first s = s.args.r * s.args.grid.columns

-- the row is in the plot
row_here : (s : Start) → first s + s.args.grid.columns ≤ s.args.grid.rows * s.args.grid.columns
row_here s = row_in s.args.grid.columns s.args.r s.requires.sides.1

pub loop-turn-init : goal.loop-turn-init
loop-turn-init c =
    let start = (goal.at.loop-turn-init c).Start in
    let found = c.requires.collected in
    (omega (arith, found.few), (picked-rows c.requires.sides.0 c.args.r (first start) (first start + 0) refl (omega arith)).0 found.picked)

-- this turn's column
column : (c : Joined-back) → c.if-back.column ≡ cond (is_odd c.args.r) (c.args.grid.columns - 1 - c.loop-turn.turn) c.loop-turn.turn
column c = elim c.if-back.branch [ then-back w ↦ rw (w.column-is, w.if-back.true) refl | else-back w ↦ rw (w.column-is, ne_eqb (c.args.r % 2) 1 w.if-back.false) refl ]

-- this turn's post, how far along it is, and that it is in the plot
abbrev post : Joined-back → ℕ
post c = first (goal.at.Joined-back c).Start + c.if-back.column

along : (c : Joined-back)
    → along_drive c.args.grid.columns (post c) ≡ first (goal.at.Joined-back c).Start + c.loop-turn.turn
along c = rw (column c) (along-turn c.requires.sides.0 c.args.r c.loop-turn.turn c.loop-turn-test.true)

inside : (c : Joined-back) → let a = c.args in post c < a.grid.rows * a.grid.columns
inside c =
    (along-rows c.requires.sides.0 c.args.grid.rows _ refl _).1 (omega (arith, along c, row_here (goal.at.Joined-back c).Start))

fits : (c : Joined-back) → post c < 14400
fits c = omega (arith, inside c, c.requires.sides.0.few)

room : (c : Joined-back) → c.loop-turn.m < length c.loop-turn.list
room c = omega (arith, row_here (goal.at.Joined-back c).Start, c.requires.patterns_len.1)

pub loop-turn-preserved : goal.loop-turn-preserved
loop-turn-preserved c =
    let after = (goal.at.loop-turn-preserved c).Joined-back in
    let inv = c.loop-turn.invariant in
    let t = c.saddle_at-m.ensures in (
      omega arith,
      picked_next c.requires.sides.0 (first (goal.at.loop-turn-preserved c).Start) c.loop-turn.turn (post after) (along after) t.0 (room after) inv.1,
    )

pub returns : goal.returns
returns c =
    let start = (goal.at.returns c).Start in
    let columns = c.args.grid.columns in
    let k : c.loop-turn.turn ≡ columns = omega arith in
    record {
      few = omega arith;
      picked = (picked-rows c.requires.sides.0 (c.args.r + 1) (first start + columns) (first start + c.loop-turn.turn) (omega (arith, add-mul c.args.r 1 columns, one-mul columns)) (omega arith)).1 c.loop-turn.invariant.1;
    }

use Prim.Native.Nat.{suc, ◌-◌, ◌*◌, ◌<◌}
use native.Mathlib.Omega.{arith}
use mathlib.Core.Path.{◌≡◌, ap}
use lib.ListN.{length, get_or}
use Rattle.surface.specs.Plot.{plot_of}
use Rattle.surface.specs.Patterns.{pattern_at}
use Rattle.surface.proofs.General.ListOf.{length-list_of}
use Rattle.sweep.proofs.Sweeping.{Swept, swept-first, swept-next, swept-last, saddle-pattern}
use Rattle.sweep.proofs.sweep.Goals as goal
use Rattle.sweep.proofs.sweep.Goals.{At-loop-i, In-loop-i}

pub loop-i-init : goal.loop-i-init
loop-i-init c = let f = c.requires in λ v. swept-first _ v _ _ _ _ f.ascending f.led f.cleared

abbrev swept : (a : At-loop-i) → Swept (plot_of a.args.grid a.args.heights.now) a.requires.valid a.args.sorted.now a.loop-i.i a.loop-i.leads a.loop-i.splits
swept a = a.loop-i.invariant a.requires.valid

-- the next saddle is a post
saddle : (c : In-loop-i) → (c.loop-i.i - 1 < c.args.m) × (get_or c.args.sorted.now (c.loop-i.i - 1) 0 < c.args.grid.rows * c.args.grid.columns)
saddle c =
    let h : c.loop-i.i - 1 < c.args.m = omega arith in
    (h, c.requires.ascending.post (c.loop-i.i - 1) h)

pub bounds-patterns-p : goal.bounds-patterns-p
bounds-patterns-p c =
    omega (arith, (saddle (goal.at.bounds-patterns-p c).In-loop-i).1, ap length c.requires.patterned, length-list_of (pattern_at (plot_of c.args.grid c.args.heights.now)) (c.args.grid.rows * c.args.grid.columns))

pub take_saddle-requires : goal.take_saddle-requires
take_saddle-requires c =
    let turn = (goal.at.take_saddle-requires c).In-loop-i in
    let k = saddle-pattern _ c.requires.valid c.requires.patterned c.requires.ascending (c.loop-i.i - 1) (saddle turn).0 in
    record { rising = ((swept (goal.at.take_saddle-requires c).At-loop-i).rising, (saddle turn).1, c.requires.tabled, c.step_list-steps.ensures); pattern_value = k }

pub bounds-splits-p : goal.bounds-splits-p
bounds-splits-p c = omega (arith, (saddle (goal.at.bounds-splits-p c).In-loop-i).1, (swept (goal.at.bounds-splits-p c).At-loop-i).size)

pub loop-i-preserved : goal.loop-i-preserved
loop-i-preserved c =
    let t = c.take_saddle.ensures in
    let e : c.loop-i.i ≡ suc (c.loop-i.i - 1) = omega arith in
    λ v. swept-next _ v c.requires.ascending (rw e at (c.loop-i.invariant v)) (saddle (goal.at.loop-i-preserved c).In-loop-i).0 t.0 _ t.1

pub returns : goal.returns
returns c = swept-last _ c.requires.valid (omega arith) (swept (goal.at.returns c).At-loop-i)

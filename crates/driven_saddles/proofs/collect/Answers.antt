use Prim.Native.Nat.{ℕ, ◌*◌}
use native.Mathlib.Omega.{arith}
use native.Mathlib.Nat.{add-mul, one-mul}
use mathlib.Core.Path.{◌≡◌, ◌∙◌, ap}
use Rattle.driven_saddles.proofs.Picking.{nothing-collected, collected-of}
use Rattle.driven_saddles.proofs.collect.Goals as goal

pub loop-r-init : goal.loop-r-init
loop-r-init c = nothing-collected _ _ _

pub collect_row-m-requires : goal.collect_row-m-requires
collect_row-m-requires c =
    let p = c.requires in
    record { sides = (p.sides.0, c.loop-r-test.true, p.sides.1); patterns_len = (p.patterns_len.0, c.loop-r.auto.list ∙ p.patterns_len.1); collected = c.loop-r.invariant }

pub loop-r-preserved : goal.loop-r-preserved
loop-r-preserved c =
    let columns = c.args.grid.columns in
    collected-of (omega (arith, add-mul c.loop-r.r 1 columns, one-mul columns)) c.collect_row-m.ensures

pub returns : goal.returns
returns c =
    let e : c.loop-r.r ≡ c.args.grid.rows = omega arith in
    collected-of (ap (λ (r : ℕ). r * c.args.grid.columns) e) c.loop-r.invariant

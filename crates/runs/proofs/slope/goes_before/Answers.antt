-- By products, or where they are equal by the order.
use native.Mathlib.Omega.{arith}
use native.Mathlib.Nat.{mul-le-mul}
use mathlib.Core.Logic.{inl}
use mathlib.Core.Path.{◌∙◌}
use Rattle.surface.specs.Plot.{Plot, plot_of, below, directed}
use Rattle.surface.specs.Lines.{squared_drop, squared_length}
use Rattle.runs.proofs.Sloping.{by-slopes, by_order}
use Rattle.runs.proofs.slope.goes_before.Goals as goal
use Rattle.runs.proofs.slope.goes_before.Goals.{Start}

pub squared_drop-requires : goal.squared_drop-requires
squared_drop-requires c =
    let k = c.requires in
    let v = k.0.valid in (v.in_range, omega (arith, v.size, k.0.post), omega (arith, v.size, k.1))

pub squared_length-requires : goal.squared_length-requires
squared_length-requires c = let k = c.requires in (k.3, k.0.valid.sides.wide)

pub overflow_mul-to_q : goal.overflow_mul-to_q
overflow_mul-to_q c = omega (arith, mul-le-mul c.squared_drop.ensures.1 c.squared_length.ensures.1)

pub squared_drop-requires-2 : goal.squared_drop-requires-2
squared_drop-requires-2 c =
    let k = c.requires in
    let v = k.0.valid in (v.in_range, omega (arith, v.size, k.0.post), omega (arith, v.size, k.2))

pub squared_length-requires-2 : goal.squared_length-requires-2
squared_length-requires-2 c = let k = c.requires in (k.3, k.0.valid.sides.wide)

pub overflow_mul-to_r : goal.overflow_mul-to_r
overflow_mul-to_r c = omega (arith, mul-le-mul c.squared_drop-2.ensures.1 c.squared_length-2.ensures.1)

abbrev pl : Start → Plot
pl s = plot_of s.args.grid s.args.heights.now

pub returns-then-to_q-to_r : goal.returns-then-to_q-to_r
unfolding squared_drop squared_length
returns-then-to_q-to_r c =
    let start = (goal.at.returns-then-to_q-to_r c).Start in
    let a = c.args in
    by-slopes (pl start) a.spacings (directed a.up (below (pl start))) a.p a.q a.r
    c.squared_drop.ensures.0
    c.squared_length.ensures.0
    c.squared_drop-2.ensures.0
    c.squared_length-2.ensures.0
    c.if-to_q-to_r.true

pub is_lower-requires : goal.is_lower-requires
is_lower-requires c = let k = c.requires in (k.0.valid, inl k.1, inl k.2)

pub returns : goal.returns
unfolding squared_drop squared_length
returns c =
    let start = (goal.at.returns c).Start in
    let a = c.args in
    c.is_lower.ensures
    ∙ by_order (pl start) a.spacings (directed a.up (below (pl start))) a.p a.q a.r
    c.squared_drop.ensures.0
    c.squared_length.ensures.0
    c.squared_drop-2.ensures.0
    c.squared_length-2.ensures.0
    c.if-to_q-to_r.false

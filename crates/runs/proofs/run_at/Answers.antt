use native.Mathlib.Omega.{arith}
use mathlib.Core.Path.{◌≡◌, ◌∙◌}
use Prim.Native.Nat.{ℕ, ◌+◌, ◌-◌, ◌≤◌, ◌<◌}
use mathlib.Core.Logic.{inl}
use mathlib.Core.Bool.{Bool, not, ◌&&◌}
use mathlib.Core.List.{◌++◌}
use mir.Val.{bool_byte}
use lib.ListN.{length, get_or}
use Rattle.surface.specs.Plot.{plot_of, below, directed}
use Rattle.rings.specs.Rings.{held}
use Rattle.runs.proofs.Running.{Seek, seek-none, seek-more, seek_found, seek-end, get_or-front}
use Rattle.runs.proofs.Ringed.{long, some, mixed, twice-vertex}
use Rattle.runs.proofs.run_at.Goals as goal
use Rattle.runs.proofs.run_at.Goals.{After-is_lower-here, Else-starts-left, In-loop-i}

inside : (c : In-loop-i) → c.loop-i.i < length (held c.args.ring)
inside c = omega (arith, long c.requires, c.loop-i-test.true)

-- what the comparison told
side : (c : After-is_lower-here)
    → let a = c.args in
    let q = get_or (held a.ring) c.loop-i.i 0 in
    c.is_lower-here.result ≡ directed a.up (below (plot_of a.grid a.heights.now)) q a.p
side c =
    let r = held c.args.ring in
    c.is_lower-here.ensures ∙ rw (c.member_at-in-loop-i.ensures, get_or-front r r c.loop-i.i (inside (goal.at.After-is_lower-here c).In-loop-i))

more : (c : Else-starts-left)
    → let a = c.args in
    let low : ℕ → Bool = λ q. directed a.up (below (plot_of a.grid a.heights.now)) q a.p in
    let starts : Bool = low (get_or (held a.ring) c.loop-i.i 0) && not c.loop-i.before in
    Seek low (held a.ring) a.run (c.loop-i.i + 1) (low (get_or (held a.ring) c.loop-i.i 0)) (c.loop-i.left - bool_byte starts)
    × (bool_byte starts ≤ c.loop-i.left)
more c = seek-more _ (inside (goal.at.Else-starts-left c).In-loop-i) c.loop-i.invariant (rw (side (goal.at.Else-starts-left c).After-is_lower-here) at c.if-starts-left.false)

pub member_at-requires : goal.member_at-requires
member_at-requires c = let h = c.requires.holds in (h.low, h.size, omega (arith, some c.requires))

pub is_lower-before-requires : goal.is_lower-before-requires
is_lower-before-requires c =
    let z = c.requires in
    (z.post.valid, rw c.member_at.ensures (twice-vertex z (c.args.ring.len - 1) (omega (arith, some z))), inl z.post.post)

pub is_lower-here-requires : goal.is_lower-here-requires
is_lower-here-requires c =
    let z = c.requires in
    (z.post.valid, rw c.member_at-in-loop-i.ensures (twice-vertex z c.loop-i.i (omega arith)), inl z.post.post)

pub returns-then-starts-left : goal.returns-then-starts-left
returns-then-starts-left c =
    seek_found _ (inside (goal.at.returns-then-starts-left c).In-loop-i) c.loop-i.invariant (rw (side (goal.at.returns-then-starts-left c).After-is_lower-here) at c.if-starts-left.true)

pub overflow_sub-ring : goal.overflow_sub-ring
overflow_sub-ring c = omega (arith, some c.requires)

pub loop-i-init : goal.loop-i-init
loop-i-init c =
    let z = c.requires in
    let r = c.args.ring in
    let e : get_or (held r ++ held r) (r.len - 1) 0 ≡ get_or (held r) (length (held r) - 1) 0 =
    get_or-front (held r) (held r) (r.len - 1) (omega (arith, long z, some z)) ∙ rw (long z) in
    rw (c.is_lower-before.ensures, c.member_at.ensures, e) (seek-none _ (held r) c.args.run (omega (arith, long z, some z)) (mixed z c.args.up))

pub loop-i-preserved : goal.loop-i-preserved
loop-i-preserved c = rw (side (goal.at.loop-i-preserved c).After-is_lower-here) (more c).0

pub returns : goal.returns
returns c = seek-end _ (omega (arith, long c.requires)) c.loop-i.invariant

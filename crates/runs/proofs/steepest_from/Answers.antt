use native.Mathlib.Omega.{arith}
use mathlib.Core.Path.{◌≡◌, sym, ◌∙◌}
use Prim.Native.Nat.{◌<◌}
use mathlib.Core.Logic.{inl}
use mathlib.Core.Bool.{Bool}
use mathlib.Core.List.{◌++◌}
use lib.ListN.{length, get_or}
use Rattle.surface.specs.Plot.{plot_of, posts, Vertex, below, directed}
use Rattle.rings.specs.Rings.{held}
use Rattle.runs.specs.Slopes.{ahead}
use Rattle.runs.proofs.Running.{while-stop, while-end, get_or-front, low_first, low-more, low-none}
use Rattle.runs.proofs.Sloping.{steepest-first}
use Rattle.runs.proofs.Ringed.{chosen-vertex, long, twice-long, twice-vertex}
use Rattle.runs.proofs.steepest_from.Goals as goal
use Rattle.runs.proofs.steepest_from.Goals.{After-is_lower, After-member_at-q, In-loop-j}

-- the place is one of the ring gone round twice, its member is a vertex, and it was compared with the post
inside : (c : In-loop-j) → let r = held c.args.ring in c.loop-j.j < length (r ++ r)
inside c = omega (arith, twice-long c.requires.saddle, c.loop-j-test.true)

member : (c : After-member_at-q)
    → let a = c.args in Vertex (posts (plot_of a.grid a.heights.now)) c.member_at-q.result
member c =
    let z = c.requires.saddle in
    rw c.member_at-q.ensures (twice-vertex z c.loop-j.j c.loop-j-test.true)

low : {b : Bool} (c : After-is_lower) → c.is_lower.result ≡ b
    → let a = c.args in
    let q = get_or (held a.ring ++ held a.ring) c.loop-j.j 0 in
    directed a.up (below (plot_of a.grid a.heights.now)) q a.p ≡ b
low c e = rw (← c.member_at-q.ensures) (sym c.is_lower.ensures ∙ e)

pub loop-j-init : goal.loop-j-init
loop-j-init c =
    let z = c.requires.saddle in
    let i = c.args.i in
    let r = held c.args.ring in
    let h : i < length (r ++ r) = omega (arith, twice-long z, c.requires.place) in
    let e : get_or (r ++ r) i 0 ≡ get_or r i 0 = get_or-front r r i (omega (arith, long z, c.requires.place)) in
    rw c.member_at-best.ensures (
      low_first _ _ (r ++ r) i h (rw e c.requires.lower) ∙ sym (steepest-first _ _ _ c.args.p _),
      twice-vertex z i (omega (arith, c.requires.place)),
    )

pub is_lower-requires : goal.is_lower-requires
is_lower-requires c =
    let z = c.requires.saddle in (z.post.valid, member c, inl z.post.post)

pub returns-then-not-is_lower : goal.returns-then-not-is_lower
returns-then-not-is_lower c =
    low-none _ _ _ c.loop-j.best c.loop-j.j (while-stop _ _ c.loop-j.j (inside (goal.at.returns-then-not-is_lower c).In-loop-j) (low c.before c.if-not-is_lower.true))
    ∙ c.loop-j.invariant.0

pub first_of-best-requires : goal.first_of-best-requires
first_of-best-requires c =
    (c.requires.saddle.post, c.loop-j.invariant.1, member (goal.at.first_of-best-requires c).After-member_at-q, c.requires.spaced)

pub loop-j-preserved : goal.loop-j-preserved
loop-j-preserved c =
    let l = c.loop-j in
    let a = c.args in
    let pl = plot_of a.grid a.heights.now in
    rw c.first_of-best.ensures (
      rw c.member_at-q.ensures
          (low-more _ _ _ l.best l.j (inside (goal.at.loop-j-preserved c).In-loop-j) (low c.before.before c.if-not-is_lower.false) ∙ l.invariant.0),
      chosen-vertex (ahead pl a.spacings (directed a.up (below pl)) a.p c.member_at-q.result l.best) l.invariant.1 (member (goal.at.loop-j-preserved c).After-member_at-q),
    )

pub returns-after-loop-j : goal.returns-after-loop-j
returns-after-loop-j c =
    let l = c.loop-j in
    low-none _ _ _ l.best l.j (while-end _ _ l.j (omega (arith, twice-long c.requires.saddle, c.requires.place))) ∙ l.invariant.0

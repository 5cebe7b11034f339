use native.Mathlib.Omega.{arith}
use mathlib.Core.Path.{refl}
use Prim.Native.Nat.{ℕ, ◌-◌, ◌*◌, ◌≤◌, ◌<◌}
use borrow.Author.Tests.{ltb-true, leb-true}
use lib.Dec.{ltb, leb}
use lib.ListN.{length}
use Rattle.surface.specs.Plot.{plot_of}
use Rattle.surface.proofs.General.Bools.{and_left, and_right}
use Rattle.saddle_lines.specs.Lines.{post_room}
use Rattle.saddle_lines.proofs.Chunks.{going-none, going_more, going_end}
use Rattle.saddle_lines.proofs.put_posts.Goals as goal
use Rattle.saddle_lines.proofs.put_posts.Goals.{At-loop-post, In-loop-post}

-- how many posts there are, and the last place at which a post's lines have room
abbrev end-post : At-loop-post → ℕ
end-post l = let g = l.args.grid in g.rows * g.columns

abbrev end-byte : At-loop-post → ℕ
end-byte l = length l.args.out.now - post_room

-- a turn has a post left and room for its lines
left : (c : In-loop-post) → c.loop-post.post < end-post (goal.at.In-loop-post c).At-loop-post
left c =
    ltb-true c.loop-post.post (end-post (goal.at.In-loop-post c).At-loop-post) (and_left (ltb c.loop-post.post (end-post (goal.at.In-loop-post c).At-loop-post)) (leb c.loop-post.bytes (end-byte (goal.at.In-loop-post c).At-loop-post)) c.loop-post-test.true)

room : (c : In-loop-post) → c.loop-post.bytes ≤ end-byte (goal.at.In-loop-post c).At-loop-post
room c =
    leb-true c.loop-post.bytes (end-byte (goal.at.In-loop-post c).At-loop-post) (and_right (ltb c.loop-post.post (end-post (goal.at.In-loop-post c).At-loop-post)) (leb c.loop-post.bytes (end-byte (goal.at.In-loop-post c).At-loop-post)) c.loop-post-test.true)

pub loop-post-init : goal.loop-post-init
loop-post-init c =
    let a = c.args in
    (refl, omega (arith, c.requires.2), c.requires.1, going-none (plot_of a.grid a.heights.now) a.spacings a.from a.out.now _)

pub loop-post-preserved : goal.loop-post-preserved
loop-post-preserved c =
    let turn = (goal.at.loop-post-preserved c).In-loop-post in
    let l = c.loop-post in
    let a = c.args in
    let w = c.put_post-bytes in (
      l.invariant.0,
      l.invariant.1,
      omega (arith, left turn),
      going_more (plot_of a.grid a.heights.now) a.spacings a.from l.invariant.3 (room turn) w.ensures (omega (arith, w.auto)),
    )

pub returns : goal.returns
returns c =
    let a = c.args in
    let v = c.loop-post.invariant in
    going_end (plot_of a.grid a.heights.now) a.spacings a.from v.3 v.1 v.2 c.loop-post-test.false

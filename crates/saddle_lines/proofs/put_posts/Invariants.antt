-- The loop's invariant: the lines of the posts before `post` are written, and where none is, no byte.
use mathlib.Core.Path.{◌≡◌}
use Prim.Native.Nat.{◌+◌, ◌-◌, ◌≤◌}
use lib.ListN.{length}
use Rattle.surface.specs.Plot.{plot_of, posts}
use Rattle.saddle_lines.specs.Lines.{post_room}
use Rattle.saddle_lines.proofs.Chunks.{Going}
use Rattle.saddle_lines.proofs.put_posts.Given as goal

abbrev pub invariant-loop-post : goal.invariant-loop-post
invariant-loop-post l =
    let pl = plot_of l.grid l.heights in
    (l.posts ≡ posts pl) × (l.last + post_room ≡ length l.initial.out) × (l.post ≤ posts pl) × Going pl l.spacings l.from l.initial.out l.out l.last l.post l.bytes

abbrev pub decreases-loop-post : goal.decreases-loop-post
decreases-loop-post l = l.posts - l.post

use Rattle.std.proofs.Common.{◌-◌, ◌≤◌}
use Rattle.lister.proofs.output.print_posts.Given as goal

abbrev pub invariant-loop-post : goal.invariant-loop-post
invariant-loop-post g l = l.post ≤ l.posts

abbrev pub decreases-loop-post : goal.decreases-loop-post
decreases-loop-post g l = l.posts - l.post

use Prim.Native.Nat.{ℕ, ◌+◌, ◌*◌, ◌≤◌, ◌<◌}
use native.Mathlib.Omega.{arith}
use native.Mathlib.Numerals.{add-one}
use mathlib.Core.Path.{◌≡◌, refl, sym, ◌∙◌, ap}
use lib.ListN.{length, get_or}
use Rattle.surface.specs.Plot.{plot_of, max_side, max_posts}
use Rattle.surface.specs.Patterns.{upper_starts}
use Rattle.paths.specs.Paths.{path_end}
use Rattle.starts.specs.Starts.{strides, stride_to, post_at, start_posts}
use Rattle.starts.proofs.Entries.{starts-few}
use Rattle.merges.specs.Merges.{Merged}
use Rattle.merges.proofs.Merging.{merged-one, merged-more, down_to, few-splits, merged-all, merged-from, start_fits}
use Rattle.merges.proofs.take_saddle.Goals as goal
use Rattle.merges.proofs.take_saddle.Invariants.{start_at}
use Rattle.merges.proofs.take_saddle.Goals.{After-post_at-first, After-post_at-q, At-loop-j, Start}

-- what is asked where the post of j is worked out
asked : (z : Start) (j place : ℕ) → j < length (upper_starts z.args.pattern) → place ≡ get_or (upper_starts z.args.pattern) j 8 → place ≤ 8
    → (z.args.steps.now ≡ strides z.args.grid.columns) × (z.args.grid.columns ≤ max_side) × (z.args.p < max_posts) × (place ≤ 8)
    × (z.args.grid.columns + 1 ≤ z.args.p + stride_to z.args.grid.columns place)
asked z j place h e few =
    let k = z.requires.rising in
    let v = k.0.valid.sides in
    (k.3, v.narrow, omega (arith, k.1, v.few), few, rw e (start_fits k.0 z.args.p z.args.pattern k.1 z.requires.pattern_value.0 j h).0)

-- and that it is a post
post : (z : Start) (j q place : ℕ) → j < length (upper_starts z.args.pattern) → place ≡ get_or (upper_starts z.args.pattern) j 8
    → q ≡ post_at z.args.grid.columns z.args.p place
    → (q ≡ start_at z.args.grid.columns z.args.pattern z.args.p j) × (q < z.args.grid.rows * z.args.grid.columns)
post z j q place h e f =
    let k = z.requires.rising in
    rw (f, e) (refl, (start_fits k.0 z.args.p z.args.pattern k.1 z.requires.pattern_value.0 j h).1)

pub post_at-first-requires : goal.post_at-first-requires
post_at-first-requires c =
    asked (goal.at.post_at-first-requires c).Start 0 c.first_start.result (omega (arith, c.requires.pattern_value.1)) c.first_start.ensures.0 c.first_start.ensures.1

first : (c : After-post_at-first) → (c.post_at-first.result ≡ start_at c.args.grid.columns c.args.pattern c.args.p 0) × (c.post_at-first.result < c.args.grid.rows * c.args.grid.columns)
first c =
    post (goal.at.After-post_at-first c).Start 0 c.post_at-first.result c.first_start.result (omega (arith, c.requires.pattern_value.1)) c.first_start.ensures.0 c.post_at-first.ensures.0

pub end_of-end-requires : goal.end_of-end-requires
end_of-end-requires c = (c.requires.rising.0, (first (goal.at.end_of-end-requires c).After-post_at-first).1)

pub loop-j-init : goal.loop-j-init
unfolding down_to
loop-j-init c =
    let e = c.end_of-end.ensures in (
      c.requires.pattern_value.1,
      merged-one _ _ (e.0 ∙ sym (e.2.ends _) ∙ ap (path_end _) (first (goal.at.loop-j-init c).After-post_at-first).0) e.1 (record { rising = e.2.rising; ends = λ v. refl }),
    )

pub post_at-q-requires : goal.post_at-q-requires
post_at-q-requires c =
    let k = c.in-Some.ensures in
    asked (goal.at.post_at-q-requires c).Start c.loop-j.j c.in-Some.place k.0 k.1 (omega (arith, k.2))

next : (c : After-post_at-q) → (c.post_at-q.result ≡ start_at c.args.grid.columns c.args.pattern c.args.p c.loop-j.j) × (c.post_at-q.result < c.args.grid.rows * c.args.grid.columns)
next c =
    let k = c.in-Some.ensures in
    post (goal.at.After-post_at-q c).Start c.loop-j.j c.post_at-q.result c.in-Some.place k.0 k.1 c.post_at-q.ensures.0

pub merge-body-requires : goal.merge-body-requires
merge-body-requires c =
    let m = c.loop-j.invariant.1 in
    (m.rising, m.end, (next (goal.at.merge-body-requires c).After-post_at-q).1, omega (arith, few-splits _ _ m))

pub loop-j-preserved : goal.loop-j-preserved
unfolding down_to
loop-j-preserved c = (
  omega (arith, c.in-Some.ensures),
  rw (add-one c.loop-j.j) (rw (next (goal.at.loop-j-preserved c).After-post_at-q).0 at (merged-more _ c.loop-j.invariant.1 c.merge-body.ensures)),
)

-- all starts were merged
all : (a : At-loop-j) → a.loop-j.j ≡ length (upper_starts a.args.pattern) → (end : ℕ) × Merged (plot_of a.args.grid a.args.heights.now) a.args.list.now a.loop-j.list (start_posts (plot_of a.args.grid a.args.heights.now) a.args.p) end a.loop-j.body.splits
all a e =
    let c = a.args.grid.columns in
    (a.loop-j.body.end, rw (← a.requires.pattern_value.0) (merged-from a.end_of-end.ensures.2 (merged-all (post_at c a.args.p) (upper_starts a.args.pattern) 8 a.loop-j.j e a.loop-j.invariant.1)))

pub returns-after-loop-j : goal.returns-after-loop-j
returns-after-loop-j c = all (goal.at.returns-after-loop-j c).At-loop-j (omega (arith, starts-few c.args.pattern (omega (arith, c.ranges.pattern.fits))))

pub returns-in_default : goal.returns-in_default
returns-in_default c = all (goal.at.returns-in_default c).At-loop-j (omega (arith, c.in_default.ensures))

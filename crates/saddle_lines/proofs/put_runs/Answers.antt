use native.Mathlib.Omega.{arith}
use mathlib.Core.Path.{◌≡◌}
use Prim.Native.Nat.{◌<◌}
use lib.ListN.{length}
use Rattle.surface.specs.Plot.{plot_of}
use Rattle.surface.specs.Lines.{runs_of, toward}
use Rattle.saddle_lines.specs.Lines.{run_lines}
use Rattle.saddle_lines.proofs.Saddles.{few-runs, vertex, line-more, no_lines}
use Rattle.text.proofs.Writing.{within}
use Rattle.saddle_lines.proofs.put_runs.Goals as goal
use Rattle.saddle_lines.proofs.put_runs.Goals.{In-Some}

-- there is such a run, one of at most eight
there : (c : In-Some) → c.loop-post.run < 8
there c = omega (arith, few-runs c.requires.0, c.in-Some.ensures)

pub loop-post-init : goal.loop-post-init
loop-post-init c =
    let a = c.args in
    let pl = plot_of a.grid a.heights.now in
    (omega arith, no_lines pl a.letter (toward pl a.spacings a.up) a.p a.out.now a.at)

pub end_from-end-requires : goal.end_from-end-requires
end_from-end-requires c = let k = c.in-Some.ensures in vertex c.requires.0 k.0 k.1

pub put_line-next-requires : goal.put_line-next-requires
put_line-next-requires c =
    let w = c.loop-post.invariant.1 in omega (arith, there (goal.at.put_line-next-requires c).In-Some, w.place, w.bound, c.requires.1)

pub overflow_add-run : goal.overflow_add-run
overflow_add-run c = omega (arith, there (goal.at.overflow_add-run c).In-Some)

pub loop-post-smaller : goal.loop-post-smaller
loop-post-smaller c = omega (arith, there (goal.at.loop-post-smaller c).In-Some)

pub loop-post-preserved : goal.loop-post-preserved
loop-post-preserved c =
    let k = c.in-Some.ensures in
    (omega (arith, k.0), line-more c.requires.0 k.0 k.1 c.args.letter _ c.end_from-end.ensures c.loop-post.invariant.1 c.put_line-next.ensures)

pub returns : goal.returns
unfolding run_lines
returns c =
    let a = c.args in
    let n : c.loop-post.run ≡ length (runs_of (toward (plot_of a.grid a.heights.now) a.spacings a.up) a.p) =
    omega (arith, c.loop-post.invariant.0, c.in_default.ensures) in
    rw (← n) (within (omega (arith, few-runs c.requires.0)) c.loop-post.invariant.1)

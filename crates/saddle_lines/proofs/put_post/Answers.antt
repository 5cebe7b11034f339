-- The mark tells a saddle, whose water lines come before its crest lines.
use native.Mathlib.Omega.{arith}
use mathlib.Core.Path.{◌≡◌}
use lib.ListN.{get_or}
use Rattle.surface.specs.Plot.{plot_of}
use Rattle.surface.specs.Marks.{mark_at}
use Rattle.runs.specs.Runs.{Saddle}
use Rattle.saddle_lines.proofs.Chunks.{marks-long, mark-known, downward, upward, no-saddle, both-written}
use borrow.Author.Tests.{le-leb, lt-leb}
use Rattle.saddle_lines.proofs.put_post.Goals as goal
use Rattle.saddle_lines.proofs.put_post.Goals.{After-ring_at-ring, Start}

marked : (c : Start)
    → let a = c.args in get_or a.marks.now a.p 0 ≡ mark_at (plot_of a.grid a.heights.now) a.p
marked c = mark-known c.requires.0 c.requires.1

-- the post is a saddle
saddle : (c : After-ring_at-ring) → let a = c.args in Saddle (plot_of a.grid a.heights.now) a.p c.ring_at-ring.result
saddle c =
    record {
      post = record { valid = c.requires.0.valid; post = c.requires.1 };
      saddle = le-leb 3 (mark_at (plot_of c.args.grid c.args.heights.now) c.args.p) (omega (arith, marked (goal.at.After-ring_at-ring c).Start, c.if-marks-p-lt-SADDLE.false));
      holds = c.ring_at-ring.ensures;
    }

pub bounds-marks-p : goal.bounds-marks-p
bounds-marks-p c = omega (arith, marks-long c.requires.0, c.requires.1)

pub returns-then-marks-p-lt-SADDLE : goal.returns-then-marks-p-lt-SADDLE
returns-then-marks-p-lt-SADDLE c =
    let a = c.args in
    no-saddle (plot_of a.grid a.heights.now) a.spacings a.p a.out.now a.at
    (lt-leb 3 (mark_at (plot_of a.grid a.heights.now) a.p) (omega (arith, marked (goal.at.returns-then-marks-p-lt-SADDLE c).Start, c.if-marks-p-lt-SADDLE.true)))

pub put_runs-end-requires : goal.put_runs-end-requires
put_runs-end-requires c =
    (downward c.requires.0 (saddle (goal.at.put_runs-end-requires c).After-ring_at-ring), omega (arith, c.requires.2))

pub put_runs-requires : goal.put_runs-requires
put_runs-requires c =
    let w = c.put_runs-end in
    (upward c.requires.0 (saddle (goal.at.put_runs-requires c).After-ring_at-ring), omega (arith, c.requires.2, w.auto, w.ensures.place, w.ensures.bound))

pub returns : goal.returns
returns c =
    let a = c.args in
    both-written (plot_of a.grid a.heights.now) a.spacings a.p (saddle (goal.at.returns c).After-ring_at-ring).saddle c.put_runs-end.ensures c.put_runs.ensures

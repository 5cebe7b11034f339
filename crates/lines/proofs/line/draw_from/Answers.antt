-- By the row that refuses the line, or by its entries.
use native.Mathlib.Omega.{arith}
use mathlib.Core.Path.{◌≡◌, sym, ◌∙◌}
use Prim.Native.Nat.{◌<◌}
use mathlib.Core.Bool.{true}
use borrow.Author.Tests.{ltb-true, ltb-false, le-leb, lt-leb}
use lib.ListN.{length}
use Rattle.surface.specs.Plot.{Plot, plot_of, posts}
use Rattle.surface.specs.Marks.{is_saddle, mark_at}
use Rattle.surface.specs.Lines.{Descent, runs_of, line_start, toward}
use Rattle.surface.proofs.AnyOrder.Walks.{Falling}
use Rattle.surface.proofs.OfPlots.Instance.{toward-falling}
use Rattle.surface.proofs.OfCalls.LineCalls.{ForNext, next-valid, no-saddle, no_run, too_long, drawn}
use Rattle.lines.specs.declared.walk.Walk.{Walk}
use Rattle.lines.specs.Walks.{WalkOf, path}
use Rattle.lines.proofs.Walking.{path-low, start-short}
use Rattle.runs.proofs.Ringed.{start-vertex}
use Rattle.lines.proofs.line.draw_from.Goals as goal
use Rattle.lines.proofs.line.draw_from.Goals.{Else-mark_at-lt-SADDLE, Else-not-has_room, In-Some, Start}

abbrev plotted : Start → Plot
plotted s = plot_of s.args.grid s.args.heights.now

post : (s : Start) → ForNext (plotted s) s.args.spacings s.args.p
post s = next-valid (plotted s) _ _ s.requires

saddle : (c : Else-mark_at-lt-SADDLE) → is_saddle (mark_at (plotted (goal.at.Else-mark_at-lt-SADDLE c).Start) c.args.p) ≡ true
saddle c = le-leb 3 (mark_at (plotted (goal.at.Else-mark_at-lt-SADDLE c).Start) c.args.p) (omega (arith, c.mark_at.ensures, c.if-mark_at-lt-SADDLE.false))

abbrev descent : In-Some → Descent
descent c = toward (plotted (goal.at.In-Some c).Start) c.args.spacings c.args.up

has : (c : In-Some) → let a = c.args in a.run < length (runs_of (descent c) a.p)
has c = c.in-Some.ensures.0

goes : (c : In-Some) → let a = c.args in c.in-Some.post ≡ line_start (descent c) a.p a.run
goes c = c.in-Some.ensures.1

-- the walk from where its line goes to
abbrev walking : In-Some → Walk
walking c = record { post = c.in-Some.post; up = c.args.up }

law : (c : In-Some) → Falling (posts (plotted (goal.at.In-Some c).Start)) (descent c)
law c = toward-falling (plotted (goal.at.In-Some c).Start) (post (goal.at.In-Some c).Start).post_of.valid.sides c.args.spacings c.args.up

stands : (c : In-Some) → WalkOf (plotted (goal.at.In-Some c).Start) c.args.spacings (walking c)
stands c =
    let p = post (goal.at.In-Some c).Start in
    record { valid = p.post_of.valid; spaced = p.spaced; vertex = start-vertex (law c) p.post_of.post (has c) (goes c) }

-- the list has room
room : (c : Else-not-has_room)
    → length (path (plotted (goal.at.Else-not-has_room c).Start) c.args.spacings (walking (goal.at.Else-not-has_room c).In-Some)) < length c.args.line.now
room c = ltb-true _ _ (sym c.has_room.ensures ∙ c.if-not-has_room.false)

pub mark_at-requires : goal.mark_at-requires
mark_at-requires c = (post (goal.at.mark_at-requires c).Start).post_of

pub returns-then-mark_at-lt-SADDLE : goal.returns-then-mark_at-lt-SADDLE
returns-then-mark_at-lt-SADDLE c =
    let k =
    no-saddle _ _ _ _ _ _ c.requires (lt-leb 3 (mark_at (plotted (goal.at.returns-then-mark_at-lt-SADDLE c).Start) c.args.p) (omega (arith, c.mark_at.ensures, c.if-mark_at-lt-SADDLE.true)))
    in
    record { value = k.0; line_after = k.1 }

pub ring_at-ring-requires : goal.ring_at-ring-requires
ring_at-ring-requires c = (post (goal.at.ring_at-ring-requires c).Start).post_of

pub line_start-requires : goal.line_start-requires
line_start-requires c =
    let p = post (goal.at.line_start-requires c).Start in
    (record { post = p.post_of; saddle = saddle (goal.at.line_start-requires c).Else-mark_at-lt-SADDLE; holds = c.ring_at-ring.ensures }, p.spaced)

pub returns-in_default : goal.returns-in_default
returns-in_default c =
    let k = no_run _ _ _ _ _ _ c.requires (saddle (goal.at.returns-in_default c).Else-mark_at-lt-SADDLE) c.in_default.ensures in
    record { value = k.0; line_after = k.1 }

pub has_room-requires : goal.has_room-requires
has_room-requires c = (stands c, start-short (law c) (post (goal.at.has_room-requires c).Start).post_of.post (has c) (goes c))

pub returns-then-not-has_room : goal.returns-then-not-has_room
returns-then-not-has_room c =
    let branch = (goal.at.returns-then-not-has_room c).In-Some in
    let k =
    too_long _ _ _ _ _ _ c.requires (saddle (goal.at.returns-then-not-has_room c).Else-mark_at-lt-SADDLE) (has branch)
    _ (goes branch) (ltb-false _ _ (sym c.has_room.ensures ∙ c.if-not-has_room.true))
    in
    record { value = k.0; line_after = k.1 }

pub write_entries-count-requires : goal.write_entries-count-requires
write_entries-count-requires c =
    record { walk = stands (goal.at.write_entries-count-requires c).In-Some; post = (post (goal.at.write_entries-count-requires c).Start).post_of.post; room = room (goal.at.write_entries-count-requires c).Else-not-has_room }

pub overflow_cast-result : goal.overflow_cast-result
overflow_cast-result c = omega (arith, c.write_entries-count.ensures.value, path-low (stands (goal.at.overflow_cast-result c).In-Some))

pub returns : goal.returns
returns c =
    let branch = (goal.at.returns c).In-Some in
    let k =
    drawn _ _ _ _ _ _ c.requires (saddle (goal.at.returns c).Else-mark_at-lt-SADDLE) (has branch)
    _ (goes branch) (room (goal.at.returns c).Else-not-has_room)
    in
    rw (c.write_entries-count.ensures.value, c.write_entries-count.ensures.line_after) (record { value = k.0; line_after = k.1 })

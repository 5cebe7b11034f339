use Prim.Native.Nat.{ℕ, ◌+◌, ◌*◌, ◌≤◌, ◌<◌}
use native.Mathlib.Omega.{arith}
use mathlib.Core.Path.{◌≡◌, refl, sym, ◌∙◌}
use mathlib.Core.Bool.{Bool}
use lib.ListN.{length}
use lib.Seq.{ext_get_or}
use Rattle.surface.specs.Lists.{list_of}
use Rattle.surface.specs.Plot.{row, Sides}
use Rattle.surface.proofs.General.ListOf.{length-list_of, get_or-list_of}
use Rattle.surface.proofs.AnyOrder.Grid.{post_is, column-lt, row_lt}
use Rattle.paths.specs.Paths.{path_end}
use Rattle.surface.proofs.AnyOrder.Grid.{row_in}
use Rattle.paths.proofs.Shorter.{entry, settled-none, settled-then, settled-of}
use Rattle.paths.proofs.Turns.{met, met-in, met_all, Before, before_more}
use Rattle.paths.proofs.shorten.Goals as goal
use Rattle.paths.proofs.shorten.Invariants.{RowOf}
use Rattle.paths.proofs.shorten.Goals.{then-up, else-up, Joined-up}

-- every post is in one of the rows met
in_row : {rows columns : ℕ} → Sides rows columns → (up : Bool) (p : ℕ) → p < rows * columns → Before rows (RowOf rows columns up) p
in_row {rows} {columns} s up p h =
    let r = row columns p in
    let k = (row_lt s rows p).1 h in
    record { turn = met up rows r; early = met-in up rows r k; holds = rw (met_all up rows r k) (omega (arith, post_is columns p, column-lt s p)) }

pub loop-turn-init : goal.loop-turn-init
loop-turn-init c = settled-of (settled-none c.requires.0) (λ p b. absurd (omega (arith, b.early)))

place : (c : Joined-up) → let a = c.args in c.if-up.r ≡ met a.up a.grid.rows c.loop-turn.turn
place c = elim c.if-up.branch [ then-up w ↦ rw (w.r-is, w.if-up.true) refl | else-up w ↦ rw (w.r-is, w.if-up.false) refl ]

-- the row of this turn is in the list
here : (c : Joined-up) → let g = c.args.grid in c.if-up.r * g.columns + g.columns ≤ g.rows * g.columns
here c =
    let a = c.args in
    rw (place c) (row_in a.grid.columns _ (met-in a.up a.grid.rows c.loop-turn.turn c.loop-turn-test.true))

pub shorten_row-requires : goal.shorten_row-requires
shorten_row-requires c =
    let s = c.loop-turn.invariant in
    (s.ends, omega (arith, here (goal.at.shorten_row-requires c).Joined-up, s.size, c.requires.2))

pub loop-turn-preserved : goal.loop-turn-preserved
loop-turn-preserved c =
    settled-then c.loop-turn.invariant c.shorten_row.ensures (λ p b. rw (place (goal.at.loop-turn-preserved c).Joined-up) (before_more b))

pub returns : goal.returns
returns c =
    let l = c.loop-turn in
    let was = c.args.list.now in
    let n = length was in
    let s = l.invariant in
    let e : l.turn ≡ c.args.grid.rows = omega arith in
    ext_get_or 0 l.list (list_of (path_end was) n) (s.size ∙ sym (length-list_of (path_end was) n))
    (λ q h.
    let k : q < n = omega (arith, s.size) in
    entry l.list q 0 q h ∙ s.told q (rw e (in_row c.requires.1 c.args.up q (omega (arith, c.requires.2)))) ∙ sym (get_or-list_of (path_end was) n q 0 k))

pub overflow_mul-r : goal.overflow_mul-r
overflow_mul-r c = omega (arith, here (goal.at.overflow_mul-r c).Joined-up, c.requires.1)

-- The lower of two ends is led to the higher one.
use Prim.Native.Nat.{◌*◌, ◌<◌}
use native.Mathlib.Omega.{arith}
use mathlib.Core.Path.{sym, ◌∙◌, ap}
use mathlib.Core.Logic.{inl}
use mathlib.Core.Bool.{not}
use lib.ListN.{length}
use Rattle.surface.specs.Plot.{Vertex}
use Rattle.surface.proofs.OfPlots.HeightOrder.{below-strict}
use Rattle.merges.proofs.Forest.{linked, linked-back}
use borrow.Author.Rules.{rules}
use Rattle.merges.proofs.link.Goals as goal
use Rattle.merges.proofs.link.Goals.{After-is_below}

pub is_below-requires : goal.is_below-requires
is_below-requires c =
    let h = c.requires in
    let v = h.0.valid in
    let a : Vertex (c.args.grid.rows * c.args.grid.columns) c.args.a = inl h.1.post in
    let b : Vertex (c.args.grid.rows * c.args.grid.columns) c.args.b = inl h.2.post in
    search rules

pub returns-then-is_below : goal.returns-then-is_below
returns-then-is_below c = let h = c.requires in linked-back (linked h.0 _ _ h.2 h.1 (sym c.is_below.ensures ∙ c.if-is_below.true))

pub returns : goal.returns
returns c =
    let h = c.requires in
    linked h.0 _ _ h.1 h.2 ((below-strict _).other c.args.a c.args.b h.3 ∙ ap not (sym c.is_below.ensures ∙ c.if-is_below.false))

-- posts are small, and have entries
fits : (c : After-is_below) → (c.args.a < 65536) × (c.args.b < 65536)
fits c = let h = c.requires in (omega (arith, h.1.post, h.0.valid.sides.few), omega (arith, h.2.post, h.0.valid.sides.few))

listed : (c : After-is_below) → (c.args.a < length c.args.list.now) × (c.args.b < length c.args.list.now)
listed c = let h = c.requires in (omega (arith, h.1.post, h.0.size), omega (arith, h.2.post, h.0.size))

pub overflow_cast-list : goal.overflow_cast-list
overflow_cast-list c = omega (arith, (fits (goal.at.overflow_cast-list c).After-is_below).1)

pub offset_bounds-list-a : goal.offset_bounds-list-a
offset_bounds-list-a c = omega (arith, (fits (goal.at.offset_bounds-list-a c).After-is_below).0)

pub bounds-list-a : goal.bounds-list-a
bounds-list-a c = (listed (goal.at.bounds-list-a c).After-is_below).0

pub overflow_cast-list-2 : goal.overflow_cast-list-2
overflow_cast-list-2 c = omega (arith, (fits (goal.at.overflow_cast-list-2 c).After-is_below).0)

pub offset_bounds-list-b : goal.offset_bounds-list-b
offset_bounds-list-b c = omega (arith, (fits (goal.at.offset_bounds-list-b c).After-is_below).1)

pub bounds-list-b : goal.bounds-list-b
bounds-list-b c = (listed (goal.at.bounds-list-b c).After-is_below).1

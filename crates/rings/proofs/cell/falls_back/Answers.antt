-- What is asked of a cell that is there goes on to its diagonal, by the rule.
use Prim.Native.Nat.{◌-◌}
use mathlib.Core.Path.{◌≡◌, sym, ◌∙◌}
use mathlib.Core.Bool.{Bool, true, false}
use Rattle.surface.specs.Plot.{plot_of, below, directed}
use Rattle.surface.specs.Edges.{through_lowest}
use Rattle.rings.proofs.cell.falls_back.Goals as goal
use Rattle.rings.proofs.cell.falls_back.Goals.{Else-not-there, Start}

there : (c : Else-not-there) → c.args.there ≡ true
there c = c.if-not-there.false

-- a diagonal by two names of one rule
by-rule : (s : Start) {h k : Bool} → h ≡ k
    → let pl = plot_of s.args.grid s.args.heights.now in
    through_lowest (directed h (below pl)) pl.columns (s.args.p - s.args.d) ≡ through_lowest (directed k (below pl)) pl.columns (s.args.p - s.args.d)
by-rule s e = rw e

pub returns-then-not-there : goal.returns-then-not-there
returns-then-not-there c = let h : c.args.there ≡ false = c.if-not-there.true in rw h

pub overflow_sub-p : goal.overflow_sub-p
overflow_sub-p c = (c.requires.1 (there (goal.at.overflow_sub-p c).Else-not-there)).from

pub falls-requires : goal.falls-requires
falls-requires c = let k = c.requires.1 (there (goal.at.falls-requires c).Else-not-there) in (c.requires.0, k.posts, k.inner)

pub returns-then-grid : goal.returns-then-grid
returns-then-grid c = rw (there (goal.at.returns-then-grid c).Else-not-there) (c.falls.ensures ∙ by-rule (goal.at.returns-then-grid c).Start (sym c.if-grid.true))

pub overflow_sub-p-2 : goal.overflow_sub-p-2
overflow_sub-p-2 c = (c.requires.1 (there (goal.at.overflow_sub-p-2 c).Else-not-there)).from

pub falls-requires-2 : goal.falls-requires-2
falls-requires-2 c = let k = c.requires.1 (there (goal.at.falls-requires-2 c).Else-not-there) in (c.requires.0, k.posts, k.inner)

pub returns : goal.returns
returns c = rw (there (goal.at.returns c).Else-not-there) (c.falls-2.ensures ∙ by-rule (goal.at.returns c).Start (sym c.if-grid.false))

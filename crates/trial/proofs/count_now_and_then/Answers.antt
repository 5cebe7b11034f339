-- The counts of the marks that the patterns tell, and those with the new height.
use Prim.Native.Nat.{ℕ}
use mathlib.Core.Path.{◌≡◌, sym, ◌∙◌, ap}
use mathlib.Core.List.{List, map}
use native.Mathlib.Omega.{arith}
use mir.Syntax.{w32}
use mir.Val.{to_z, of_z}
use borrow.Author.Rules.{rules}
use Rattle.surface.specs.Lists.{list_of}
use Rattle.surface.specs.Plot.{Plot, posts, Valid}
use Rattle.surface.specs.Marks.{marks_of}
use Rattle.surface.specs.Patterns.{pattern_at, mark_in}
use Rattle.surface.proofs.General.ListOf.{list_of-ext, map-list_of}
use Rattle.surface.proofs.OfPlots.Patterns.{mark-in}
use Rattle.trial.proofs.count_now_and_then.Goals as goal
use Rattle.trial.proofs.count_now_and_then.Goals.{Start}

-- the patterns of a plot tell its marks
marks-told : (pl : Plot) → Valid pl → {patterns : List ℕ} → patterns ≡ list_of (pattern_at pl) (posts pl) → map mark_in patterns ≡ marks_of pl
unfolding marks_of
marks-told pl v e =
    ap (map mark_in) e ∙ map-list_of mark_in (pattern_at pl) (posts pl) ∙ list_of-ext _ _ (posts pl) (λ p h. sym (mark-in (record { valid = v; post = h })))

-- the new height, as the code holds it
held : (s : Start) → to_z w32 (of_z w32 s.args.height) ≡ s.args.height
held s = search rules

pub pattern_plot-requires : goal.pattern_plot-requires
pattern_plot-requires c = let a = c.requires in (a.0.valid, a.2)

pub count_patterns-before-requires : goal.count_patterns-before-requires
count_patterns-before-requires c =
    let a = c.requires in
    omega (arith, c.pattern_plot.auto.patterns, a.2, a.0.valid.sides)

pub recount-after-requires : goal.recount-after-requires
recount-after-requires c =
    rw (held (goal.at.recount-after-requires c).Start) (c.requires.0, c.requires.1, c.pattern_plot.ensures, rw (marks-told _ c.requires.0.valid c.pattern_plot.ensures) at c.count_patterns-before.ensures)

pub returns : goal.returns
returns c =
    let t = rw (marks-told _ c.requires.0.valid c.pattern_plot.ensures) at c.count_patterns-before.ensures in
    let u = rw (held (goal.at.returns c).Start) at c.recount-after.ensures in
    cc (t.peaks_are, t.pits_are, t.saddles_are, u.peaks_are, u.pits_are, u.saddles_are)

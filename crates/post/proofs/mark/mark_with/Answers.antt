-- The pattern tells the mark.
use mathlib.Core.Path.{sym, ◌∙◌, ap}
use Rattle.surface.specs.Patterns.{mark_in}
use Rattle.surface.proofs.OfPlots.Patterns.{mark-in}
use Rattle.post.proofs.mark.mark_with.Goals as goal

pub pattern_at-pattern-requires : goal.pattern_at-pattern-requires
pattern_at-pattern-requires c = c.requires.0

pub changes_of-requires : goal.changes_of-requires
changes_of-requires c = c.requires.1

pub mark_of-requires : goal.mark_of-requires
mark_of-requires c = c.changes_of.ensures.0

pub returns : goal.returns
returns c =
    c.mark_of.ensures ∙ ap mark_in c.pattern_at-pattern.ensures ∙ sym (mark-in c.requires.0)

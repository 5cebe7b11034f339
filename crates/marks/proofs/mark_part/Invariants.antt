-- The loop's invariant: c marks were stored, and the patterns after them are as they were.
use mathlib.Core.Path.{◌≡◌}
use lib.ListN.{get_or}
use Rattle.surface.specs.Lists.{stores}
use Rattle.surface.specs.Patterns.{mark_in}
use Rattle.marks.proofs.mark_part.Given as goal

abbrev pub invariant-loop-c : goal.invariant-loop-c
invariant-loop-c l = l.marks ≡ stores (λ k. mark_in (get_or l.initial.marks k 0)) 0 l.c l.initial.marks

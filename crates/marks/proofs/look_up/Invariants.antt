-- The loop's invariant: c numbers of changes were stored.
use mathlib.Core.Path.{◌≡◌}
use lib.ListN.{get_or}
use Rattle.surface.specs.Lists.{stores}
use Rattle.surface.specs.Patterns.{changes_in}
use Rattle.marks.proofs.look_up.Given as goal

abbrev pub invariant-loop-c : goal.invariant-loop-c
invariant-loop-c l = l.changes ≡ stores (λ k. changes_in (get_or l.patterns k 0)) 0 l.c l.initial.changes

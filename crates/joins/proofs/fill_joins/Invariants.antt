-- The loop's invariant: p joins were stored, and the patterns after them are as they were.
use Prim.Native.Nat.{◌-◌}
use mathlib.Core.Path.{◌≡◌}
use lib.ListN.{get_or}
use Rattle.surface.specs.Lists.{stores}
use Rattle.surface.specs.Marks.{multiplicity}
use Rattle.surface.specs.Patterns.{mark_in}
use Rattle.joins.proofs.fill_joins.Given as goal

abbrev pub invariant-loop-p : goal.invariant-loop-p
invariant-loop-p l = l.joins ≡ stores (λ p. multiplicity (mark_in (get_or l.initial.joins p 0)) - get_or l.splits p 0) 0 l.p l.initial.joins

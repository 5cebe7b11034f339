-- The loop's invariant: c patterns were stored.
use mathlib.Core.Path.{◌≡◌}
use Rattle.surface.specs.Lists.{stores}
use Rattle.halves.specs.Halves.{pattern_in}
use Rattle.halves.proofs.lower_row.Given as goal

abbrev pub invariant-loop-c : goal.invariant-loop-c
invariant-loop-c l = l.pattern ≡ stores (pattern_in l.highest l.side l.south l.fall l.rise l.under l.upper) 0 l.c l.initial.pattern

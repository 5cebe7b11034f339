-- The loop's invariant: c halves were stored.
use mathlib.Core.Path.{◌≡◌}
use Rattle.surface.specs.Lists.{stores}
use Rattle.halves.specs.Halves.{upper_in}
use Rattle.halves.proofs.upper_row.Given as goal

abbrev pub invariant-loop-c : goal.invariant-loop-c
invariant-loop-c l = l.upper ≡ stores (upper_in l.highest l.side l.south l.fall l.rise l.under) 0 l.c l.initial.upper

-- Half the changes, less one where there are any, less the splits.
use Prim.Native.Nat.{ℕ, ◌-◌, ◌/◌}
use native.Mathlib.Omega.{arith}
use mathlib.Core.Path.{◌≡◌, ◌∙◌, ap}
use lib.ListN.{length, get_or}
use Rattle.surface.specs.Patterns.{changes_in, change_table, mark_in}
use Rattle.surface.specs.Marks.{multiplicity}
use Rattle.surface.proofs.General.ListOf.{length-list_of}
use Rattle.surface.proofs.OfPlots.Patterns.{table_at}
use Rattle.joins.proofs.Patterned.{multiplicity-in, less-some}
use Rattle.joins.proofs.joins_from.Goals as goal
use Rattle.joins.proofs.joins_from.Goals.{After-shared_slice_known-1}

pub bounds-table-pattern : goal.bounds-table-pattern
unfolding change_table
bounds-table-pattern c = omega (arith, ap length c.requires.0, length-list_of changes_in 256)

-- the runs by the table
abbrev runs : After-shared_slice_known-1 → ℕ
runs c = get_or c.args.table.now c.args.pattern 0 / 2

told : (c : After-shared_slice_known-1) → multiplicity (mark_in c.args.pattern) ≡ runs c - 1
told c = multiplicity-in c.args.pattern ∙ rw (c.requires.0, table_at c.args.pattern (omega arith))

pub overflow_sub-result : goal.overflow_sub-result
overflow_sub-result c = omega (arith, (less-some (runs c)).0)

pub overflow_sub-result-2 : goal.overflow_sub-result-2
overflow_sub-result-2 c = omega (arith, c.requires.1, told c, (less-some (runs c)).1)

pub returns : goal.returns
returns c = omega (arith, told c, (less-some (runs c)).1)

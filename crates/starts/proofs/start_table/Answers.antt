-- The rule at each entry, by a test over the whole table.
use mathlib.Core.Path.{refl}
use Rattle.surface.specs.Lists.{any, last_or}
use Rattle.surface.specs.Patterns.{signs_of, turns_from, upper_starts, start_table}
use Rattle.surface.proofs.General.Tables.{follows, table_is}
use Rattle.starts.proofs.start_table.Goals as goal

pub returns : goal.returns
unfolding start_table follows upper_starts turns_from signs_of last_or any
returns c = table_is _ _ 1024 refl refl

-- The rule at each entry, by a test over the whole table.
use mathlib.Core.Path.{refl}
use Rattle.surface.specs.Lists.{last_or}
use Rattle.surface.specs.Patterns.{changes, changes_from, changes_in, signs_of, change_table}
use Rattle.surface.proofs.General.Tables.{follows, table_is}
use Rattle.changes.proofs.change_table.Goals as goal

pub returns : goal.returns
unfolding change_table follows changes_in changes changes_from signs_of last_or
returns c = table_is changes_in _ 256 refl refl

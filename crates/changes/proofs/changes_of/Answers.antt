use Prim.Native.Nat.{◌<◌}
use native.Mathlib.Omega.{arith}
use Rattle.surface.specs.Patterns.{changes_in, change_table}
use Rattle.surface.proofs.General.ListOf.{length-list_of}
use Rattle.surface.proofs.OfPlots.Patterns.{changes_in-le, table_at}
use Rattle.changes.proofs.changes_of.Goals as goal

pub bounds-table-pattern : goal.bounds-table-pattern
unfolding change_table
bounds-table-pattern c = rw (c.requires, length-list_of changes_in 256) (omega (arith, c.ranges.pattern))

pub returns : goal.returns
returns c =
    let k = c.args.pattern in
    let h : k < 256 = omega (arith, c.ranges.pattern) in
    (rw c.requires (table_at k h), rw (c.requires, table_at k h) (changes_in-le k))

-- The first of a pattern's entries of the table.
use Prim.Native.Nat.{◌+◌, ◌*◌}
use native.Mathlib.Omega.{arith}
use mathlib.Core.Path.{◌≡◌, ap}
use lib.ListN.{length, get_or}
use Rattle.starts.specs.Starts.{first_start}
use Rattle.starts.proofs.Entries.{table-length, table-entry, starts-small}
use Rattle.starts.proofs.first_start.Goals as goal

pub bounds-table-pattern : goal.bounds-table-pattern
bounds-table-pattern c = omega (arith, ap length c.requires, table-length)

pub returns : goal.returns
returns c =
    let b = c.args.pattern in
    let z : 4 * b ≡ 4 * b + 0 = omega arith in
    let e : get_or c.args.table.now (4 * b) 0 ≡ first_start b = rw (c.requires, z) (table-entry b 0 (omega arith) (omega arith)) in
    (e, omega (arith, e, starts-small b (omega arith) 0))

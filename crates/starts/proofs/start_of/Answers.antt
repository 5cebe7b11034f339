-- An entry of the table, which tells by 8 that there is no such run.
use Prim.Native.Nat.{◌+◌, ◌*◌}
use native.Mathlib.Omega.{arith}
use mathlib.Core.Path.{◌≡◌, ap}
use lib.Dec.{ltb}
use lib.ListN.{length, get_or, get_or-eq_default}
use borrow.Author.Tests.{ltb-true, ltb-false}
use Rattle.surface.specs.Patterns.{upper_starts}
use Rattle.surface.proofs.General.Bools.{either}
use Rattle.starts.proofs.Entries.{table-length, table-entry, start-place}
use Rattle.starts.proofs.start_of.Goals as goal
use Rattle.starts.proofs.start_of.Goals.{Start}

pub bounds-table-pattern : goal.bounds-table-pattern
bounds-table-pattern c = omega (arith, ap length c.requires.0, table-length)

entry : (c : Start) → let a = c.args in get_or a.table.now (4 * a.pattern + a.j) 0 ≡ get_or (upper_starts a.pattern) a.j 8
entry c = let a = c.args in rw c.requires.0 (table-entry a.pattern a.j (omega arith) c.requires.1)

pub returns-then-place-lt8 : goal.returns-then-place-lt8
returns-then-place-lt8 c =
    let l = upper_starts c.args.pattern in
    let e = entry (goal.at.returns-then-place-lt8 c).Start in
    (either (ltb c.args.j (length l)) (ltb-true c.args.j (length l)) (λ f. absurd (omega (arith, e, get_or-eq_default l 8 (ltb-false c.args.j (length l) f), c.if-place-lt8.true))), e, c.if-place-lt8.true)

pub returns-else-place-lt8 : goal.returns-else-place-lt8
returns-else-place-lt8 c =
    let l = upper_starts c.args.pattern in
    let e = entry (goal.at.returns-else-place-lt8 c).Start in
    either (ltb c.args.j (length l))
    (λ f. absurd (omega (arith, e, start-place c.args.pattern (omega arith) c.args.j (ltb-true c.args.j (length l) f), c.if-place-lt8.false)))
    (ltb-false c.args.j (length l))

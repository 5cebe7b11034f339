-- The loop's invariant: each count is what was passed, and what is left makes up the rest.
use Prim.Native.Nat.{◌+◌, ◌*◌, ◌≤◌}
use mathlib.Core.Path.{◌≡◌}
use mathlib.Core.List.{map}
use lib.Dec.{eqb}
use lib.ListN.{length}
use Rattle.surface.specs.Lists.{count, total}
use Rattle.surface.specs.Marks.{multiplicity}
use Rattle.tally.proofs.count.Given as goal

abbrev pub invariant-loop-part : goal.invariant-loop-part
invariant-loop-part l =
    let rest = l.part-iterator.rest.now in
    (l.part-iterator.size ≡ 240)
    × (l.peaks + count (λ m. eqb m 1) rest ≡ count (λ m. eqb m 1) l.marks)
    × (l.pits + count (λ m. eqb m 2) rest ≡ 1 + count (λ m. eqb m 2) l.marks)
    × (l.saddles + total (map multiplicity rest) ≡ total (map multiplicity l.marks))
    × (l.peaks + length rest ≤ length l.marks)
    × (l.pits + length rest ≤ length l.marks + 1)
    × (l.saddles + 255 * length rest ≤ 255 * length l.marks)

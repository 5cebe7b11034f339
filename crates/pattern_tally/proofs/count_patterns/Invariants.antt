-- The loop's invariant: each sum is what was passed, and what is left makes up the rest.
use Prim.Native.Nat.{◌+◌, ◌*◌, ◌≤◌}
use mathlib.Core.Path.{◌≡◌}
use mathlib.Core.List.{map}
use lib.Dec.{eqb}
use lib.ListN.{length}
use Rattle.surface.specs.Lists.{count, total}
use Rattle.surface.specs.Patterns.{changes_in}
use Rattle.pattern_tally.proofs.count_patterns.Given as goal

abbrev pub invariant-loop-part : goal.invariant-loop-part
invariant-loop-part l =
    let rest = l.part-iterator.rest.now in
    (l.part-iterator.size ≡ 240)
    × (l.peaks + count (λ k. eqb k 255) rest ≡ count (λ k. eqb k 255) l.patterns)
    × (l.pits + count (λ k. eqb k 0) rest ≡ count (λ k. eqb k 0) l.patterns)
    × (l.changes + total (map changes_in rest) ≡ total (map changes_in l.patterns))
    × (l.peaks + length rest ≤ length l.patterns)
    × (l.pits + length rest ≤ length l.patterns)
    × (l.changes + 8 * length rest ≤ 8 * length l.patterns)

use native.Mathlib.Omega.{arith}
use mathlib.Core.Path.{◌≡◌, ◌∙◌}
use mathlib.Core.List.{map}
use lib.Dec.{eqb}
use Rattle.surface.specs.Lists.{count, total}
use Rattle.surface.specs.Marks.{peaks, pits, saddles}
use Rattle.surface.specs.Patterns.{changes_in}
use Rattle.tally.proofs.Parts.{count-le, count-parted, total-parted, length-parted, total-none}
use Rattle.pattern_tally.proofs.Told.{Told, patterns-tell}
use Rattle.pattern_tally.proofs.count_patterns.Goals as goal
use Rattle.pattern_tally.proofs.count_patterns.Goals.{In-None}

pub loop-part-init : goal.loop-part-init
loop-part-init c =
    let m = c.chunks-part-items.ensures in
    rw (c.into_iter-part-iterator.ensures.into_iter_gives, m.rest) (m.size, omega arith, omega arith, omega arith, omega arith, omega arith, omega arith)

pub overflow_add-peaks : goal.overflow_add-peaks
overflow_add-peaks c = omega (arith, c.loop-part.invariant, c.count_part.type_inv, c.requires)

pub overflow_add-pits : goal.overflow_add-pits
overflow_add-pits c = omega (arith, c.loop-part.invariant, c.count_part-in-loop-part.type_inv, c.requires)

pub sum_part-changes-requires : goal.sum_part-changes-requires
sum_part-changes-requires c = (c.change_table-table.ensures, omega (arith, c.in-Some.ensures.steps, c.loop-part.invariant))

pub overflow_add-changes : goal.overflow_add-changes
overflow_add-changes c = omega (arith, c.in-Some.ensures.steps, c.loop-part.invariant, c.sum_part-changes.ensures.1, c.requires)

pub loop-part-preserved : goal.loop-part-preserved
loop-part-preserved c =
    let v = c.loop-part.invariant in
    let part = c.in-Some.part.now in
    let left = c.next.new.self.rest.now in
    let s = c.in-Some.ensures.steps in
    let e = s.1.0 in
    let n = length-parted part left e in
    let peaks = c.count_part.ensures in
    let pits = c.count_part-in-loop-part.ensures in
    let changes = c.sum_part-changes.ensures in (
      s.0 ∙ v.0,
      omega (arith, v.1, peaks.0, count-parted part left (λ k. eqb k 255) e),
      omega (arith, v.2, pits.0, count-parted part left (λ k. eqb k 0) e),
      omega (arith, v.3, changes.0, total-parted part left changes_in e),
      omega (arith, v.4, peaks.1, n),
      omega (arith, v.5, pits.1, n),
      omega (arith, v.6, changes.1, n),
    )

-- what all patterns tell, where none is left
told : (c : In-None) → let ps = c.args.patterns.now in
    Told ps
    × (c.loop-part.peaks ≡ count (λ k. eqb k 255) ps)
    × (c.loop-part.pits ≡ count (λ k. eqb k 0) ps)
    × (c.loop-part.changes ≡ total (map changes_in ps))
told c =
    let ps = c.args.patterns.now in
    let v = c.loop-part.invariant in
    let rest = c.loop-part.part-iterator.rest.now in
    let none = c.in-None.ensures.steps.1.0 in (
      patterns-tell ps (λ k _. omega (arith, c.type_inv.patterns k)),
      omega (arith, v.1, none, count-le (λ k. eqb k 255) rest),
      omega (arith, v.2, none, count-le (λ k. eqb k 0) rest),
      omega (arith, v.3, total-none changes_in rest none),
    )

pub returns : goal.returns
unfolding peaks pits saddles
returns c = let t = told c in record { peaks_are = omega (arith, t); pits_are = omega (arith, t); saddles_are = omega (arith, t) }

pub overflow_add-result : goal.overflow_add-result
overflow_add-result c = omega (arith, told (goal.at.overflow_add-result c).In-None)

pub overflow_add-result-2 : goal.overflow_add-result-2
overflow_add-result-2 c = omega (arith, told (goal.at.overflow_add-result-2 c).In-None)

pub overflow_add-result-3 : goal.overflow_add-result-3
overflow_add-result-3 c = omega (arith, told (goal.at.overflow_add-result-3 c).In-None)

pub overflow_cast-result : goal.overflow_cast-result
overflow_cast-result c = omega (arith, told (goal.at.overflow_cast-result c).In-None)

pub overflow_sub-result : goal.overflow_sub-result
overflow_sub-result c = omega (arith, told (goal.at.overflow_sub-result c).In-None)

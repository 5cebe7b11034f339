use native.Mathlib.Omega.{arith}
use mathlib.Core.Path.{refl, ◌∙◌}
use lib.Dec.{eqb}
use Rattle.surface.specs.Marks.{multiplicity, peaks, pits, saddles}
use Rattle.tally.proofs.Parts.{count-le, count-parted, total-parted, length-parted, total-none}
use Rattle.tally.proofs.count.Goals as goal

pub loop-part-init : goal.loop-part-init
loop-part-init c =
    let m = c.chunks-part-items.ensures in
    rw (c.into_iter-part-iterator.ensures.into_iter_gives, m.rest) (m.size, omega arith, refl, omega arith, omega arith, omega arith, omega arith)

pub overflow_add-peaks : goal.overflow_add-peaks
overflow_add-peaks c = omega (arith, c.loop-part.invariant, c.count_part.type_inv, c.requires)

pub overflow_add-pits : goal.overflow_add-pits
overflow_add-pits c = omega (arith, c.loop-part.invariant, c.count_part-in-loop-part.type_inv, c.requires)

pub overflow_add-saddles : goal.overflow_add-saddles
overflow_add-saddles c = omega (arith, c.loop-part.invariant, c.total_part.type_inv, c.requires)

pub loop-part-preserved : goal.loop-part-preserved
loop-part-preserved c =
    let v = c.loop-part.invariant in
    let part = c.in-Some.part.now in
    let left = c.next.new.self.rest.now in
    let s = c.in-Some.ensures.steps in
    let e = s.1.0 in
    let n = length-parted part left e in
    let peaks = c.count_part.ensures in
    let pits = c.count_part-in-loop-part.ensures in
    let saddles = c.total_part.ensures in (
      s.0 ∙ v.0,
      omega (arith, v.1, peaks.0, count-parted part left (λ m. eqb m 1) e),
      omega (arith, v.2, pits.0, count-parted part left (λ m. eqb m 2) e),
      omega (arith, v.3, saddles.0, total-parted part left multiplicity e),
      omega (arith, v.4, peaks.1, n),
      omega (arith, v.5, pits.1, n),
      omega (arith, v.6, saddles.1, n),
    )

pub returns : goal.returns
unfolding peaks pits saddles
returns c =
    let v = c.loop-part.invariant in
    let rest = c.loop-part.part-iterator.rest.now in
    let none = c.in-None.ensures.steps.1.0 in
    record {
      peaks_are = omega (arith, v.1, none, count-le (λ m. eqb m 1) rest);
      pits_are = omega (arith, v.2, none, count-le (λ m. eqb m 2) rest);
      saddles_are = omega (arith, v.3, total-none multiplicity rest none);
    }

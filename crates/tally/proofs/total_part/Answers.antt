use mathlib.Core.Path.{◌≡◌, ◌∙◌}
use mathlib.Core.List.{map}
use native.Mathlib.Omega.{arith}
use borrow.Author.Rules.{rules}
use Rattle.std.specs.List.{sum}
use Rattle.surface.specs.Marks.{multiplicity}
use Rattle.surface.proofs.General.Slices.{sum-total}
use Rattle.tally.proofs.Parts.{total-le}
use Rattle.tally.proofs.total_part.Goals as goal

pub returns : goal.returns
returns c =
    let summed : c.sum.result ≡ sum (map multiplicity c.args.part.now) = search rules in
    let e = summed ∙ sum-total (map multiplicity c.args.part.now) in
    (e, rw e (total-le multiplicity 255 c.args.part.now (λ i h. omega (arith, c.type_inv.part i))))

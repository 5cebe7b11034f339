use mathlib.Core.Path.{◌≡◌, ◌∙◌}
use mathlib.Core.List.{map}
use lib.ListN.{get_or}
use borrow.Author.Rules.{rules}
use Rattle.std.specs.List.{sum}
use Rattle.surface.specs.Patterns.{changes_in}
use Rattle.surface.proofs.General.Slices.{sum-total}
use Rattle.surface.proofs.OfPlots.Patterns.{changes_in-le}
use Rattle.tally.proofs.Parts.{total-le}
use Rattle.pattern_tally.proofs.sum_part.Goals as goal

pub returns : goal.returns
returns c =
    let summed : c.sum.result ≡ sum (map changes_in c.args.part.now) = search rules in
    let e = summed ∙ sum-total (map changes_in c.args.part.now) in
    (e, rw e (total-le changes_in 8 c.args.part.now (λ i h. changes_in-le (get_or c.args.part.now i 0))))

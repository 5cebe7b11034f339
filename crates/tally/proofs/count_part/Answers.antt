use mathlib.Core.Path.{◌≡◌, ◌∙◌}
use lib.Dec.{eqb}
use borrow.Author.Rules.{rules}
use Rattle.std.specs.List.{count_by}
use Rattle.surface.proofs.General.Slices.{count_by-count}
use Rattle.tally.proofs.Parts.{count-le}
use Rattle.tally.proofs.count_part.Goals as goal

pub returns : goal.returns
returns c =
    let counted : c.sum.result ≡ count_by (λ m. eqb m c.args.mark) c.args.part.now = search rules in
    let e = counted ∙ count_by-count (λ m. eqb m c.args.mark) c.args.part.now in
    (e, rw e (count-le (λ m. eqb m c.args.mark) c.args.part.now))

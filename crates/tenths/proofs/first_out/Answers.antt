use Rattle.std.proofs.Common.{rules, ◌≡◌, true, false, refl, arith, ℕ, ◌+◌, ◌*◌, pos}
use borrow.Author.Tests.{tests}
use Rattle.std.proofs.lemmas.Iterator.{YieldsList-from_range, IsFirst-from_position}
use Rattle.surface.specs.SurveyFile.{version_in, header_for, is_tenths, tenths_of}
use Rattle.surface.specs.Words.{word_at, signed}
use Rattle.surface.proofs.OfPlots.SurveyFile.{length-tenths_of, get_or-tenths_of}
use Rattle.tenths.proofs.Found.{found}
use Rattle.tenths.proofs.first_out.Goals as goal

pub returns : goal.returns
returns c =
    let file = c.args.file.now in
    let n = c.args.n in
    let at : ℕ → _ = λ i. signed (word_at file (header_for (version_in file) + 4 * i)) in
    found is_tenths (tenths_of file n) (pos 0) at n (length-tenths_of file n) (λ i h. get_or-tenths_of file n i h) _
    (IsFirst-from_position _ _ _ (λ i. is_tenths (at i) ≡ false) (λ i. is_tenths (at i) ≡ true) c.position.ensures.ran (YieldsList-from_range 0 n n refl (omega arith)) (λ x q k. search (rules, tests)) (λ x q k. search (rules, tests)))

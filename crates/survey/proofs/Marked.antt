-- The rows that begin a survey's table and a re-shoot's: where they pass there is a height for each post.
use mathlib.Core.Path.{◌≡◌}
use mathlib.Core.List.{List}
use Prim.Native.Nat.{ℕ}
use borrow.Author.Tests.{not-false, eqb-true}
use lib.ListN.{length}
use Rattle.surface.specs.Plot.{Plot, posts, Sides}
use Rattle.surface.specs.Refusals.{verdict}
use Rattle.surface.proofs.AnyOrder.Grid.{test-sides}
use Rattle.surface.proofs.OfCalls.Verdicts.{passed}
use Rattle.survey.specs.Leading.{leading_marked}

pub marked-sized : (pl : Plot) (marks : List ℕ) → (verdict (leading_marked pl marks)).code ≡ 0
    → Sides pl.rows pl.columns × (length pl.heights ≡ posts pl)
marked-sized pl marks e =
    let row = passed (leading_marked pl marks) tt e in
    (test-sides _ _ (not-false _ (row 1)), eqb-true _ _ (not-false _ (row 2)))

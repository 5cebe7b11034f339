-- After the rows that lead, row 3.
use mathlib.Core.Path.{◌≡◌, sym, ◌∙◌, ap}
use mathlib.Core.Bool.{not}
use mathlib.Core.List.{List, [], ◌∷◌}
use Prim.Native.Nat.{ℕ}
use lib.Dec.{eqb}
use lib.ListN.{length}
use Rattle.surface.specs.Plot.{Plot, posts}
use Rattle.surface.specs.Refusals.{verdict, row_of, row3}
use Rattle.surface.specs.Refused.{outcome}
use Rattle.surface.specs.Calls.{plot_by}
use Rattle.surface.proofs.OfCalls.Verdicts.{code}
use Rattle.surface.proofs.OfCalls.Outcomes.{check-refused, check-passed, handed}
use Rattle.surface.proofs.OfCalls.Accepted.{led-sized}
use Rattle.survey.proofs.verdict.marked_grid.Goals as goal
use Rattle.survey.proofs.verdict.marked_grid.Goals.{In_ok-grid}

module _ (c : In_ok-grid) where
  abbrev asked : Plot
  asked = let a = c.args in plot_by a.sheet.now a.rows a.columns a.heights.now

  -- there is a height for each post, so that row 3 may count heights
  counted : (marks : List ℕ) → verdict (row_of 3 (not (eqb (length marks) (length asked.heights))) ∷ []) ≡ verdict (row3 marks (posts asked) ∷ [])
  counted marks = ap (λ (n : ℕ). verdict (row3 marks n ∷ [])) (led-sized asked (sym (code c.in_ok-grid.ensures.value))).1

pub returns-in_err-grid-clause-value : goal.returns-in_err-grid-clause-value
returns-in_err-grid-clause-value c =
    ap outcome (handed _ _ c.from_residual.ensures.1) ∙ check-refused (_ ∷ _ ∷ _ ∷ _ ∷ []) _ tt _ c.in_err-grid.ensures.value

pub returns-in_err-unless-clause-value : goal.returns-in_err-unless-clause-value
returns-in_err-unless-clause-value c =
    let here = (goal.at.returns-in_err-unless-clause-value c).In_ok-grid in
    ap outcome (handed _ _ c.from_residual-in_err-unless.ensures.1)
    ∙ c.in_err-unless.ensures
    ∙ counted here c.args.marks.now
    ∙ sym (check-passed (_ ∷ _ ∷ _ ∷ _ ∷ []) _ tt c.in_ok-grid.ensures.value)

pub returns-clause-value : goal.returns-clause-value
returns-clause-value c =
    let here = (goal.at.returns-clause-value c).In_ok-grid in
    c.in_ok-unless.ensures ∙ counted here c.args.marks.now ∙ sym (check-passed (_ ∷ _ ∷ _ ∷ _ ∷ []) _ tt c.in_ok-grid.ensures.value)

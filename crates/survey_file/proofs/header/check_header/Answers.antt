-- At each return the tests on the way say which row of the table is the first that holds.
use Prim.Native.Nat.{ℕ}
use mathlib.Core.Path.{◌≡◌, refl, sym, ◌∙◌, ap}
use mathlib.Core.Bool.{Bool, true, false, not, ◌&&◌, ◌||◌}
use mathlib.Core.List.{List}
use native.Mathlib.Omega.{arith}
use borrow.Author.Tests.{lt-ltb, le-ltb}
use lib.Dec.{eqb}
use lib.ListN.{length, drop}
use Rattle.surface.specs.SurveyFile.{version_in, header_for, spacings_in}
use Rattle.surface.specs.Refusals.{verdict, row11, row15}
use Rattle.surface.proofs.OfCalls.Verdicts.{row-holds, row-passed, none_left}
use Rattle.survey_file.specs.Layout.{header_rows}
use Rattle.survey_file.proofs.Posts.{posts-plot, posts-none}
use Rattle.survey_file.proofs.header.check_header.Goals as goal
use Rattle.survey_file.proofs.header.check_header.Goals.{After-is_spaced, Else-file, Else-file-header, Else-file-lt-FIRST_HEADER, Else-posts_in-eq0, Start}

neither : (a b : Bool) → not (a || b) ≡ (not a && not b)
neither true b = refl
neither false b = refl

abbrev F : Start → List ℕ
F s = s.args.file.now

-- row 11, as the code asks it
unknown : (s : Start) → (row11 (F s)).holds ≡ (not (eqb (version_in (F s)) 1) && not (eqb (version_in (F s)) 2))
unknown s = neither (eqb (version_in (F s)) 1) (eqb (version_in (F s)) 2)

-- n rows do not hold
abbrev Passed : Start → ℕ → Type 0
Passed s n = verdict (header_rows (F s)) ≡ verdict (drop n (header_rows (F s)))

passed1 : (c : Else-file-lt-FIRST_HEADER) → Passed (goal.at.Else-file-lt-FIRST_HEADER c).Start 1
passed1 c = row-passed _ _ (le-ltb _ _ c.if-file-lt-FIRST_HEADER.false)

passed2 : (c : Else-file) → Passed (goal.at.Else-file c).Start 2
passed2 c = passed1 (goal.at.Else-file c).Else-file-lt-FIRST_HEADER ∙ row-passed _ _ (unknown (goal.at.Else-file c).Start ∙ c.if-file.false)

passed3 : (c : Else-file-header) → Passed (goal.at.Else-file-header c).Start 3
passed3 c =
    let file = F (goal.at.Else-file-header c).Start in
    passed2 (goal.at.Else-file-header c).Else-file ∙ row-passed _ _ (le-ltb (length file) (header_for (version_in file)) (omega (arith, c.header_size-header.ensures)))

passed4 : (c : Else-posts_in-eq0) → Passed (goal.at.Else-posts_in-eq0 c).Start 4
passed4 c =
    passed3 (goal.at.Else-posts_in-eq0 c).Else-file-header ∙ row-passed _ _ (ap not (posts-plot _ (λ e. c.if-posts_in-eq0.false (c.posts_in.ensures.0 ∙ e))))

-- row 15 is what `is_spaced` was asked
spaced : (c : After-is_spaced) → (row15 (spacings_in (F (goal.at.After-is_spaced c).Start))).holds ≡ not c.is_spaced.result
spaced c = rw (← c.spacings_in.ensures) (ap not (sym c.is_spaced.ensures))

pub returns-then-file-lt-FIRST_HEADER : goal.returns-then-file-lt-FIRST_HEADER
returns-then-file-lt-FIRST_HEADER c = sym (row-holds _ _ (lt-ltb _ _ c.if-file-lt-FIRST_HEADER.true))

pub returns-then-file : goal.returns-then-file
returns-then-file c = sym (passed1 (goal.at.returns-then-file c).Else-file-lt-FIRST_HEADER ∙ row-holds _ _ (unknown (goal.at.returns-then-file c).Start ∙ c.if-file.true))

pub returns-then-file-header : goal.returns-then-file-header
returns-then-file-header c =
    let file = F (goal.at.returns-then-file-header c).Start in
    sym (passed2 (goal.at.returns-then-file-header c).Else-file ∙ row-holds _ _ (lt-ltb (length file) (header_for (version_in file)) (omega (arith, c.header_size-header.ensures))))

pub returns-then-posts_in-eq0 : goal.returns-then-posts_in-eq0
returns-then-posts_in-eq0 c = sym (passed3 (goal.at.returns-then-posts_in-eq0 c).Else-file-header ∙ row-holds _ _ (ap not (posts-none _ (sym c.posts_in.ensures.0 ∙ c.if-posts_in-eq0.true))))

pub returns-then-not-is_spaced : goal.returns-then-not-is_spaced
returns-then-not-is_spaced c = sym (passed4 (goal.at.returns-then-not-is_spaced c).Else-posts_in-eq0 ∙ row-holds _ _ (spaced (goal.at.returns-then-not-is_spaced c).After-is_spaced ∙ ap not c.if-not-is_spaced.true))

pub returns : goal.returns
returns c = sym (passed4 (goal.at.returns c).Else-posts_in-eq0 ∙ row-passed _ _ (spaced (goal.at.returns c).After-is_spaced ∙ ap not c.if-not-is_spaced.false) ∙ none_left)

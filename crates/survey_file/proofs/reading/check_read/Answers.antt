-- After the rows about what stands before the heights, the tests on the way say which row of the
-- table is the first that holds.
use Prim.Native.Nat.{ℕ, ◌+◌, ◌-◌, ◌*◌, ◌≤◌}
use mathlib.Core.Path.{◌≡◌, refl, sym, ◌∙◌, ap}
use mathlib.Core.Bool.{not, ◌||◌}
use mathlib.Core.List.{List, [], ◌∷◌}
use native.Mathlib.Omega.{arith}
use borrow.Author.Tests.{not-false, eq-eqb, ne_eqb, ltb-false, lt-ltb, le-ltb}
use lib.Dec.{ltb, eqb}
use lib.IntN.{ℤ}
use lib.ListN.{length, drop}
use Rattle.surface.specs.Lists.{first_not}
use Rattle.surface.specs.SurveyFile.{version_in, stated_count, count_for, tenths_of, is_tenths}
use Rattle.surface.specs.Refusals.{Row, verdict, row3, row4, row12, read_verdict}
use Rattle.surface.proofs.OfPlots.SurveyFile.{length-tenths_of}
use Rattle.surface.proofs.OfCalls.FileCalls.{rows_in, columns_in, posts_in, header-bounds}
use Rattle.surface.specs.Refused.{outcome}
use Rattle.surface.proofs.OfCalls.Outcomes.{check-refused, handed}
use Rattle.surface.proofs.OfCalls.Verdicts.{code, passed, row-holds, row-passed, none_left, leads-passed}
use Rattle.survey_file.specs.Layout.{least_size, header_rows}
use Rattle.survey_file.proofs.Posts.{plot-posts}
use Rattle.survey_file.proofs.reading.check_read.Goals as goal
use Rattle.survey_file.proofs.reading.check_read.Goals.{After-first_out, After-posts_in-posts, After-word_at-stated, In_ok-check_header, Else-heights-posts, Else-stated-file}

-- the rows that come last
abbrev rows : List ℕ → List ℤ → List Row
rows file hs =
    row12 file (rows_in file) (columns_in file) ∷ row3 hs (posts_in file) ∷ row4 is_tenths (tenths_of file (posts_in file)) ∷ []

-- the file passed those before; n of these do not hold
module _ (c : In_ok-check_header) where
  abbrev F : List ℕ
  F = c.args.file.now

  abbrev Passed : ℕ → Type 0
  Passed n = let hs = c.args.heights.now in read_verdict F hs ≡ verdict (drop n (rows F hs))

  led : (verdict (header_rows F)).code ≡ 0
  led = sym (code c.in_ok-check_header.ensures)

  long : least_size ≤ length F
  long = ltb-false _ _ (passed (header_rows F) tt led 10)

  passed0 : Passed 0
  unfolding read_verdict
  passed0 = leads-passed (header_rows F) _ tt led

posts : (c : After-posts_in-posts) → c.posts_in-posts.result ≡ posts_in (F (goal.at.After-posts_in-posts c).In_ok-check_header)
posts c =
    let sides = not-false _ (passed (header_rows (F (goal.at.After-posts_in-posts c).In_ok-check_header)) tt (led (goal.at.After-posts_in-posts c).In_ok-check_header) 1) in
    c.posts_in-posts.ensures.0 ∙ sym (plot-posts (F (goal.at.After-posts_in-posts c).In_ok-check_header) _ _ refl refl sides).0

-- row 12, as the code asks it
module _ (c : After-word_at-stated) where
  abbrev counted : ℕ
  counted = c.header_size-before.result - 5 + 4 * c.posts_in-posts.result

  count : counted ≡ count_for (version_in (F (goal.at.After-word_at-stated c).In_ok-check_header)) (rows_in (F (goal.at.After-word_at-stated c).In_ok-check_header)) (columns_in (F (goal.at.After-word_at-stated c).In_ok-check_header))
  count = omega (arith, header-bounds (version_in (F (goal.at.After-word_at-stated c).In_ok-check_header)), c.header_size-before.ensures, posts (goal.at.After-word_at-stated c).After-posts_in-posts)

  tested :
      (row12 (F (goal.at.After-word_at-stated c).In_ok-check_header) (rows_in (F (goal.at.After-word_at-stated c).In_ok-check_header)) (columns_in (F (goal.at.After-word_at-stated c).In_ok-check_header))).holds
      ≡ (not (eqb c.word_at-stated.result (length (F (goal.at.After-word_at-stated c).In_ok-check_header) - 5)) || not (eqb c.word_at-stated.result counted))
  unfolding stated_count
  tested = rw (← c.word_at-stated.ensures, ← count)

passed1 : (c : Else-stated-file) → Passed (goal.at.Else-stated-file c).In_ok-check_header 1
passed1 c = passed0 (goal.at.Else-stated-file c).In_ok-check_header ∙ row-passed _ _ (tested (goal.at.Else-stated-file c).After-word_at-stated ∙ c.if-stated-file.false)

passed2 : (c : Else-heights-posts) → Passed (goal.at.Else-heights-posts c).In_ok-check_header 2
passed2 c =
    let a = c.args in
    passed1 (goal.at.Else-heights-posts c).Else-stated-file ∙ row-passed _ _ (ap not (eq-eqb (length a.heights.now) (posts_in a.file.now) (omega (arith, posts (goal.at.Else-heights-posts c).After-posts_in-posts))))

-- the first filed height that is out of range
module _ (c : After-first_out) where
  abbrev tenths : List ℤ
  tenths = tenths_of (F (goal.at.After-first_out c).In_ok-check_header) (posts_in (F (goal.at.After-first_out c).In_ok-check_header))

  ranged : (row4 is_tenths tenths).holds ≡ ltb (first_not is_tenths tenths) c.posts_in-posts.result
  ranged = rw (length-tenths_of (F (goal.at.After-first_out c).In_ok-check_header) (posts_in (F (goal.at.After-first_out c).In_ok-check_header)), ← posts (goal.at.After-first_out c).After-posts_in-posts)

pub returns-in_err-check_header : goal.returns-in_err-check_header
unfolding read_verdict
returns-in_err-check_header c =
    ap outcome (handed _ _ c.from_residual.ensures.1) ∙ check-refused (_ ∷ _ ∷ _ ∷ _ ∷ _ ∷ []) _ tt _ c.in_err-check_header.ensures

pub returns-then-stated-file : goal.returns-then-stated-file
returns-then-stated-file c = sym (passed0 (goal.at.returns-then-stated-file c).In_ok-check_header ∙ row-holds _ _ (tested (goal.at.returns-then-stated-file c).After-word_at-stated ∙ c.if-stated-file.true))

pub returns-then-heights-posts : goal.returns-then-heights-posts
returns-then-heights-posts c = sym (passed1 (goal.at.returns-then-heights-posts c).Else-stated-file ∙ row-holds _ _ (ap not (ne_eqb _ _ (λ z. c.if-heights-posts.true (z ∙ sym (posts (goal.at.returns-then-heights-posts c).After-posts_in-posts))))))

pub returns-in-Some : goal.returns-in-Some
returns-in-Some c =
    let after = (goal.at.returns-in-Some c).After-first_out in
    let found = rw (posts (goal.at.returns-in-Some c).After-posts_in-posts) at c.in-Some.ensures.0 in
    rw (← found) (sym (passed2 (goal.at.returns-in-Some c).Else-heights-posts ∙ row-holds _ _ (ranged after ∙ lt-ltb _ _ (rw found c.in-Some.ensures.1))))

pub returns-in-None : goal.returns-in-None
returns-in-None c =
    let found = rw (posts (goal.at.returns-in-None c).After-posts_in-posts) at c.in-None.ensures in
    sym (passed2 (goal.at.returns-in-None c).Else-heights-posts ∙ row-passed _ _ (ranged (goal.at.returns-in-None c).After-first_out ∙ le-ltb _ _ (omega (arith, found, posts (goal.at.returns-in-None c).After-posts_in-posts))) ∙ none_left)

pub header_size-before-requires : goal.header_size-before-requires
header_size-before-requires c = long (goal.at.header_size-before-requires c).In_ok-check_header

pub word_at-stated-requires : goal.word_at-stated-requires
word_at-stated-requires c = omega (arith, long (goal.at.word_at-stated-requires c).In_ok-check_header)

pub overflow_sub-file : goal.overflow_sub-file
overflow_sub-file c = omega (arith, long (goal.at.overflow_sub-file c).In_ok-check_header)

-- The outcome of joins and splits, by the row that refuses the call or by what it leaves, what acceptance says of it, and what is proved of the lists.
use Prim.Native.Nat.{ℕ, ◌+◌, ◌<◌}
use mathlib.Core.Path.{◌≡◌, sym, ◌∙◌, ap}
use mathlib.Core.Bool.{Bool, true, false, ◌||◌}
use mathlib.Core.List.{List, [], ◌∷◌}
use lib.ListN.{length, get_or}
use Rattle.surface.specs.Plot.{Plot, posts, below, reversed, is_height, Sides, Valid}
use Rattle.surface.specs.Marks.{mark_at, marks_of, multiplicity, pits, peaks, saddles}
use Rattle.surface.specs.Bodies.{BodiesLessOne, joins_at, splits_at, joins_of, splits_of}
use Rattle.surface.specs.Refusals.{verdict, row_of, is_not, row4, leading, survey_verdict, joins_verdict}
use Rattle.surface.specs.Calls.{survey_answer, survey_marks, joins_answer, joins_list, splits_list}
use Rattle.surface.specs.Joins.{JoinsAndSplits}
use Rattle.surface.proofs.General.Bools.{or_left, or_right}
use Rattle.surface.proofs.General.ListOf.{get_or-list_of}
use Rattle.surface.proofs.OfPlots.Joins.{plot-one-body, bodies-less-one, joins-total, splits-total, both-total, post-joins-splits}
use Rattle.surface.proofs.OfCalls.Verdicts.{passed, row-holds, row-passed, leads-refused, leads-passed, settled-refused, settled-accepted}
use Rattle.surface.proofs.OfCalls.Accepted.{SheetPasses, test-equal, rows-valid, led-sized}
use Rattle.surface.proofs.OfCalls.MarkCalls.{valid-survey, survey-filled, survey-served}

module _ (pl : Plot) (joins splits : List ℕ) where
  -- an accepted call was lent a plot and two lists of its size
  pub record ForJoins : Type 0 where
    pub sheet : SheetPasses pl
    pub valid : Valid pl
    pub joins_size : length joins ≡ posts pl
    pub splits_size : length splits ≡ posts pl

  pub joins-valid : (joins_verdict pl joins splits).code ≡ 0 → ForJoins
  unfolding joins_verdict
  joins-valid e =
      let row = passed _ tt e in
      record {
        sheet = (row 13, row 14);
        valid = rows-valid pl (row 1) (row 2) (row 4);
        joins_size = test-equal _ _ (or_left (is_not joins (posts pl)) _ (row 3));
        splits_size = test-equal _ _ (or_right (is_not joins (posts pl)) _ (row 3));
      }

  pub joins-led : ((verdict (leading pl)).code ≡ 0 → ⊥) → joins_verdict pl joins splits ≡ verdict (leading pl)
  unfolding joins_verdict
  joins-led h = leads-refused (leading pl) _ tt h

  -- where the rows that lead pass: row 3, by the number of heights
  module _ (z : (verdict (leading pl)).code ≡ 0) where
    abbrev unequal : Bool
    unequal = is_not joins (length pl.heights) || is_not splits (length pl.heights)

    size-passed : joins_verdict pl joins splits ≡ verdict (row_of 3 unequal ∷ row4 is_height pl.heights ∷ [])
    unfolding joins_verdict
    size-passed =
        leads-passed (leading pl) _ tt z
        ∙ ap (λ (n : ℕ). verdict (row_of 3 (is_not joins n || is_not splits n) ∷ row4 is_height pl.heights ∷ [])) (sym (led-sized pl z).1)

    pub joins-unequal : unequal ≡ true → joins_verdict pl joins splits ≡ record { code = 3; place = 0 }
    joins-unequal h = size-passed ∙ row-holds _ _ h

    pub joins-equal : unequal ≡ false → joins_verdict pl joins splits ≡ verdict (row4 is_height pl.heights ∷ [])
    joins-equal h = size-passed ∙ row-passed _ _ h

  -- a refused call leaves the lists, and an accepted one fills them
  pub joins-refused : ((joins_verdict pl joins splits).code ≡ 0 → ⊥) → (joins_list pl joins splits ≡ joins) × (splits_list pl joins splits ≡ splits)
  unfolding joins_list splits_list
  joins-refused n = let v = joins_verdict pl joins splits in (settled-refused v _ _ n, settled-refused v _ _ n)

  pub joins-filled : (joins_verdict pl joins splits).code ≡ 0 → (joins_list pl joins splits ≡ joins_of pl) × (splits_list pl joins splits ≡ splits_of pl)
  unfolding joins_list splits_list
  joins-filled e = let v = joins_verdict pl joins splits in (settled-accepted v _ _ e, settled-accepted v _ _ e)

pub joins-and-splits : JoinsAndSplits
unfolding joins_answer
joins-and-splits pl joins splits e =
    record {
      bodies_below = plot-one-body pl sides false;
      bodies_above = plot-one-body pl sides true;
      joins_bodies = λ p h. rw filled.0 (joins-bodies p h);
      splits_bodies = λ p h. rw filled.1 (splits-bodies p h);
      joins_sum = λ marks m. rw (filled.0, counts marks m) (joins-total pl sides);
      splits_sum = λ marks m. rw (filled.1, counts marks m) (splits-total pl sides);
      both_sum = λ marks m. rw (filled.0, filled.1, counts marks m) (both-total pl sides);
      each_post = λ marks m p h. rw (filled.0, filled.1, marked marks m) (each p h);
    }
  where
    lent : ForJoins pl joins splits
    lent = joins-valid pl joins splits e

    sides : Sides pl.rows pl.columns
    sides = lent.valid.sides

    filled : (joins_list pl joins splits ≡ joins_of pl) × (splits_list pl joins splits ≡ splits_of pl)
    filled = joins-filled pl joins splits e

    surveyed : (marks : List ℕ) → length marks ≡ posts pl → (survey_verdict pl marks).code ≡ 0
    surveyed marks m = ap (λ v. v.code) (valid-survey pl marks (record { sheet = lent.sheet; valid = lent.valid; marks_size = m }))

    marked : (marks : List ℕ) → length marks ≡ posts pl → survey_marks pl marks ≡ marks_of pl
    marked marks m = survey-filled pl marks (surveyed marks m)

    counts : (marks : List ℕ) → length marks ≡ posts pl → let m = marks_of pl in
        survey_answer pl marks ≡ record { code = 0; place = 0; peaks = peaks m; pits = pits m; saddles = saddles m }
    counts marks m = rw (marked marks m) at (survey-served pl marks (surveyed marks m))

    joins-bodies : (p : ℕ) → p < posts pl → BodiesLessOne pl (below pl) p (get_or (joins_of pl) p 0)
    joins-bodies p h = unfold joins_of joins_at in rw (get_or-list_of (joins_at pl) (posts pl) p 0 h) (bodies-less-one pl sides false p h)

    splits-bodies : (p : ℕ) → p < posts pl → BodiesLessOne pl (reversed (below pl)) p (get_or (splits_of pl) p 0)
    splits-bodies p h = unfold splits_of splits_at in rw (get_or-list_of (splits_at pl) (posts pl) p 0 h) (bodies-less-one pl sides true p h)

    each : (p : ℕ) → p < posts pl → get_or (joins_of pl) p 0 + get_or (splits_of pl) p 0 ≡ multiplicity (get_or (marks_of pl) p 0)
    each p h =
        unfold joins_of splits_of marks_of in
        rw (get_or-list_of (joins_at pl) (posts pl) p 0 h, get_or-list_of (splits_at pl) (posts pl) p 0 h, get_or-list_of (mark_at pl) (posts pl) p 0 h)
        (post-joins-splits pl sides p h)

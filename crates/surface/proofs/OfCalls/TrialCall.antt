-- The outcome of a trial, by whether it was accepted, and what acceptance says of it.
use Prim.Native.Nat.{ℕ, ◌<◌}
use mathlib.Core.Path.{◌≡◌}
use mathlib.Core.Bool.{true}
use borrow.Author.Tests.{ltb-true, ne_eqb, not-false}
use lib.IntN.{ℤ}
use Rattle.surface.specs.Plot.{Plot, posts, reshot, is_height, Valid}
use Rattle.surface.specs.Marks.{marks_of}
use Rattle.surface.specs.Refusals.{accepted, trial_verdict}
use Rattle.surface.specs.Calls.{tried_by, trial_answer}
use Rattle.surface.proofs.OfCalls.Verdicts.{passed, code-accepted}
use Rattle.surface.proofs.OfCalls.Accepted.{SheetPasses, rows-valid}

module _ (pl : Plot) (post : ℕ) (new : ℤ) where
  -- a trial is accepted of a plot, one of its posts and a height
  pub record ForTrial : Type 0 where
    pub sheet : SheetPasses pl
    pub valid : Valid pl
    pub post_in : post < posts pl
    pub in_range : is_height new ≡ true

  pub trial-valid : (trial_verdict pl post new).code ≡ 0 → ForTrial
  unfolding trial_verdict
  trial-valid e =
      let row = passed _ tt e in
      record {
        sheet = (row 13, row 14);
        valid = rows-valid pl (row 1) (row 2) (row 4);
        post_in = ltb-true post (posts pl) (not-false _ (row 5));
        in_range = not-false (is_height new) (row 6);
      }

  -- a refused trial returns its number and place, and 0 for each count
  pub trial-refused : ((trial_verdict pl post new).code ≡ 0 → ⊥)
      → trial_answer pl post new
      ≡ record {
        code = (trial_verdict pl post new).code;
        place = (trial_verdict pl post new).place;
        peaks = 0;
        pits = 0;
        saddles = 0;
        newPeaks = 0;
        newPits = 0;
        newSaddles = 0;
      }
  unfolding trial_answer
  trial-refused n = rw (ne_eqb (trial_verdict pl post new).code 0 n)

  -- an accepted one returns 0, 0 and the counts of the marks before and after
  pub trial-served : (trial_verdict pl post new).code ≡ 0 → trial_answer pl post new ≡ tried_by accepted (marks_of pl) (marks_of (reshot pl post new))
  unfolding trial_verdict trial_answer
  trial-served e = rw (code-accepted _ tt e)

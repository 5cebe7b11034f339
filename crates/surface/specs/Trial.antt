-- What is proved of trials of a re-shoot ("Trial of a re-shoot"), over the outcomes of the calls.
use Rattle.std.specs.Prelude.{ℕ, ◌+◌, ◌≤◌, ◌<◌, ◌≡◌, false, List, ℤ, length, get_or}
use Rattle.surface.specs.Plot.{Plot, posts, over}
use Rattle.surface.specs.Marks.{touches}
use Rattle.surface.specs.Calls.{survey_answer, survey_marks, reshoot_answer, reshoot_heights, trial_answer}
use Rattle.surface.specs.declared.Counts.{Counts}

-- at most k apart, either way
abbrev pub Within : ℕ → ℕ → ℕ → Type 0
Within k a b = (a ≤ b + k) × (b ≤ a + k)

-- what an accepted survey with these counts answers
abbrev pub surveyed : ℕ → ℕ → ℕ → Counts
surveyed peaks pits saddles = record { code = 0; place = 0; peaks = peaks; pits = pits; saddles = saddles }

module _ (pl : Plot) (post : ℕ) (new : ℤ) where
  -- the plot as a re-shoot with the same arguments leaves it
  abbrev pub after : List ℕ → Plot
  after marks = over pl (reshoot_heights pl marks post new)

  -- of every trial, and of every list of marks of the right size: the trial is refused where that re-shoot is, with the same number and place, and accepted
  -- where it is accepted
  pub record AsReshoot (marks : List ℕ) : Type 0 where
    pub same_code : (trial_answer pl post new).code ≡ (reshoot_answer pl marks post new).code
    pub same_place : (trial_answer pl post new).place ≡ (reshoot_answer pl marks post new).place

  -- of an accepted trial, of every list of marks that the re-shoot is lent, and of every list that surveys before and after it are lent
  pub record Tried (marks lent : List ℕ) : Type 0 where
    -- the first three are a survey's counts, and the others those of a survey after the re-shoot
    pub now : survey_answer pl lent ≡ surveyed (trial_answer pl post new).peaks (trial_answer pl post new).pits (trial_answer pl post new).saddles
    pub then :
        survey_answer (after marks) lent
        ≡ surveyed (trial_answer pl post new).newPeaks (trial_answer pl post new).newPits (trial_answer pl post new).newSaddles
    -- only the mark of the post and those of the posts that touch it by side or corner can differ
    pub kept : (q : ℕ) → q < posts pl → touches pl.columns post q ≡ false
        → get_or (survey_marks (after marks) lent) q 0 ≡ get_or (survey_marks pl lent) q 0
    -- peaks and pits each move by at most five
    pub peaks_move : Within 5 (trial_answer pl post new).peaks (trial_answer pl post new).newPeaks
    pub pits_move : Within 5 (trial_answer pl post new).pits (trial_answer pl post new).newPits
    -- the saddle sum moves by the two changes together, so by at most ten
    pub together :
        (trial_answer pl post new).newSaddles + ((trial_answer pl post new).peaks + (trial_answer pl post new).pits)
        ≡ (trial_answer pl post new).saddles + ((trial_answer pl post new).newPeaks + (trial_answer pl post new).newPits)
    pub saddles_move : Within 10 (trial_answer pl post new).saddles (trial_answer pl post new).newSaddles

pub record Trials : Type 0 where
  pub as_reshoot : (pl : Plot) (post : ℕ) (new : ℤ) (marks : List ℕ) → length marks ≡ posts pl → AsReshoot pl post new marks
  pub tried : (pl : Plot) (post : ℕ) (new : ℤ) (marks lent : List ℕ) → (trial_answer pl post new).code ≡ 0 → length marks ≡ posts pl → length lent ≡ posts pl
      → Tried pl post new marks lent

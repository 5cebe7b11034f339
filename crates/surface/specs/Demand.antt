-- Demand 3 (docs/PROOFS.md), as one statement about a whole series: a field for each of its sentences, over the outcomes of the calls.
use Rattle.std.specs.Prelude.{ℕ, ◌+◌, ◌≤◌, ◌<◌, ◌≡◌, Bool, true, List, length, get_or, take}
use Rattle.surface.specs.Plot.{Plot, posts, over, below, reversed}
use Rattle.surface.specs.Edges.{ring_of, lower_runs, upper_runs}
use Rattle.surface.specs.Ways.{EdgeOf}
use Rattle.surface.specs.Marks.{is_saddle, marks_of, IsPit, IsPeak}
use Rattle.surface.specs.Spacings.{Spaced}
use Rattle.surface.specs.Lines.{LineFrom}
use Rattle.surface.specs.Parts.{Parts, InDale, InHill}
use Rattle.surface.specs.Calls.{survey_answer, survey_marks, thalweg_answer, thalweg_list, ridge_answer, ridge_list, parts_answer, parts_dales, parts_hills}
use Rattle.surface.specs.Series.{Reshoot, Marked, after_calls, Kept, plain_all}
use Rattle.surface.specs.declared.Entries.{Entries}
use Rattle.surface.specs.declared.Spacings.{Spacings}

-- the lines of one direction, given by a call's answers and lists; `runs post` are the runs of a post
pub record Lines (n : ℕ) (lower : ℕ → ℕ → Bool) (is_end : ℕ → Type 0) (marks : List ℕ) (runs : ℕ → List (List ℕ)) (answer : ℕ → ℕ → List ℕ → Entries) (list : ℕ → ℕ → List ℕ → List ℕ) : Type 0 where
  -- every line falls at every step and ends at an end
  pub falls : (post run : ℕ) (lent : List ℕ) → (answer post run lent).code ≡ 0
      → LineFrom n lower is_end post (take (answer post run lent).count (list post run lent))
  -- and every run of every saddle has its line: a list of one entry more than there are posts always has room for it
  pub drawn : (post run : ℕ) (lent : List ℕ) → post < n → is_saddle (get_or marks post 0) ≡ true → run < length (runs post) → n + 1 ≤ length lent
      → (answer post run lent).code ≡ 0

module _ (pl : Plot) where
  -- what dales_and_hills leaves in lists of the right size; dales number the pits, hills the peaks, as a survey counts them
  pub record Parted (s : Spacings) (dales hills : List ℕ) : Type 0 where
    pub accepted : (parts_answer pl s dales hills).code ≡ 0
    pub into_dales : (lent : List ℕ) → length lent ≡ posts pl
        → Parts (posts pl) (EdgeOf pl) (IsPit pl) (InDale (posts pl) (parts_dales pl s dales hills)) (parts_dales pl s dales hills) (survey_answer pl lent).pits
    pub into_hills : (lent : List ℕ) → length lent ≡ posts pl
        → Parts (posts pl) (EdgeOf pl) (IsPeak pl) (InHill (posts pl) (parts_hills pl s dales hills)) (parts_hills pl s dales hills) (survey_answer pl lent).peaks

  -- what holds of heights and the marks beside them; of lines, dales and hills by every pair of spacings in range
  pub record Surveyed (marks : List ℕ) : Type 0 where
    -- the marks are exactly those of a fresh survey
    pub marked : marks ≡ marks_of pl
    pub fresh : (lent : List ℕ) → length lent ≡ posts pl → ((survey_answer pl lent).code ≡ 0) × (survey_marks pl lent ≡ marks)
    -- in that survey's counts peaks plus pits, the virtual pit included, less saddles by multiplicity, make two
    pub balance : (lent : List ℕ) → length lent ≡ posts pl
        → (survey_answer pl lent).peaks + (survey_answer pl lent).pits ≡ 2 + (survey_answer pl lent).saddles
    -- every water line falls at every step in the height order and ends at a pit
    pub thalwegs : (s : Spacings) → Spaced s
        → Lines (posts pl) (below pl) (IsPit pl) marks (lower_runs (below pl) (ring_of pl)) (thalweg_answer pl s) (thalweg_list pl s)
    -- every crest line rises so and ends at a peak
    pub ridges : (s : Spacings) → Spaced s
        → Lines (posts pl) (reversed (below pl)) (IsPeak pl) marks (upper_runs (below pl) (ring_of pl)) (ridge_answer pl s) (ridge_list pl s)
    -- every post lies in exactly one dale and one hill; dales number the pits, hills the peaks, and each is in one piece along edges
    pub parted : (s : Spacings) → Spaced s → (dales hills : List ℕ) → length dales ≡ posts pl → length hills ≡ posts pl → Parted s dales hills

-- the two lists as a survey left them
abbrev pub surveyed : Plot → List ℕ → Marked
surveyed pl marks = record { heights = pl.heights; marks = survey_marks pl marks }

-- what a series leaves, from a survey of `pl`
pub record Promised (pl : Plot) (calls : List Reshoot) (left : Marked) : Type 0 where
  -- the heights are the surveyed ones with each accepted new height put in, in turn
  pub heights : left.heights ≡ plain_all pl.heights calls
  pub holds : Surveyed (over pl left.heights) left.marks

-- Take any accepted survey and any series of re-shoots after it, accepted and turned away in any order, the accepted ones with the survey's rows and
-- columns and with sheets that mean its rule.
abbrev pub Demand3 : Type 0
Demand3 =
    (pl : Plot) (marks : List ℕ) (calls : List Reshoot)
    → (survey_answer pl marks).code ≡ 0
    → Kept pl (surveyed pl marks) calls
    → Promised pl calls (after_calls (surveyed pl marks) calls)

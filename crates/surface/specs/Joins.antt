-- What is proved of joins and splits ("Joins and splits"), over the lists that the call fills and what a survey of the same plot gives.
use Rattle.std.specs.Prelude.{ℕ, ◌+◌, ◌<◌, ◌≡◌, ◌↔◌, Bool, true, List, length, get_or}
use Rattle.surface.specs.Lists.{total}
use Rattle.surface.specs.Plot.{Plot, posts, below, reversed}
use Rattle.surface.specs.Ways.{Way, EdgeOf}
use Rattle.surface.specs.Marks.{multiplicity}
use Rattle.surface.specs.Bodies.{in_one_body, BelowOf, BodiesLessOne, neighbours_of}
use Rattle.surface.specs.Calls.{survey_answer, survey_marks, joins_answer, joins_list, splits_list}

-- bodies are told by ways: of what is below p, two lie in one body exactly where a way along edges through what is below p joins them
abbrev pub BodiesByWays : Plot → (ℕ → ℕ → Bool) → Type 0
BodiesByWays pl lower =
    (p q r : ℕ) → BelowOf lower (posts pl) p q → BelowOf lower (posts pl) p r
    → in_one_body lower (neighbours_of pl) (posts pl) p q r ≡ true ↔ Way (EdgeOf pl) (BelowOf lower (posts pl) p) q r

-- of lists that an accepted call was lent, and of every list of marks that a survey of the plot is lent
pub record Joined (pl : Plot) (joins splits : List ℕ) : Type 0 where
  pub bodies_below : BodiesByWays pl (below pl)
  pub bodies_above : BodiesByWays pl (reversed (below pl))
  -- joins are the bodies that a post's lower neighbours lie in, less one, and splits those of its upper neighbours
  pub joins_bodies : (p : ℕ) → p < posts pl → BodiesLessOne pl (below pl) p (get_or (joins_list pl joins splits) p 0)
  pub splits_bodies : (p : ℕ) → p < posts pl → BodiesLessOne pl (reversed (below pl)) p (get_or (splits_list pl joins splits) p 0)
  -- joins sum to the pits less one, the virtual pit being a pit
  pub joins_sum : (marks : List ℕ) → length marks ≡ posts pl → total (joins_list pl joins splits) + 1 ≡ (survey_answer pl marks).pits
  -- splits to the peaks less one
  pub splits_sum : (marks : List ℕ) → length marks ≡ posts pl → total (splits_list pl joins splits) + 1 ≡ (survey_answer pl marks).peaks
  -- and both together to the saddles by multiplicity
  pub both_sum : (marks : List ℕ) → length marks ≡ posts pl
      → total (joins_list pl joins splits) + total (splits_list pl joins splits) ≡ (survey_answer pl marks).saddles
  -- as they do at every post
  pub each_post : (marks : List ℕ) → length marks ≡ posts pl → (p : ℕ) → p < posts pl
      → get_or (joins_list pl joins splits) p 0 + get_or (splits_list pl joins splits) p 0 ≡ multiplicity (get_or (survey_marks pl marks) p 0)

-- of every accepted call
abbrev pub JoinsAndSplits : Type 0
JoinsAndSplits = (pl : Plot) (joins splits : List ℕ) → (joins_answer pl joins splits).code ≡ 0 → Joined pl joins splits

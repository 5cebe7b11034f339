-- What an accepted ring call shows, over the outcomes of the calls: the grounds of a mark.
use Rattle.std.specs.Prelude.{ℕ, ◌-◌, ◌<◌, ◌≡◌, not, List, ◌++◌, ltb, length, get_or, replicate}
use Rattle.surface.specs.Lists.{filter, any, all}
use Rattle.surface.specs.Plot.{Plot, posts}
use Rattle.surface.specs.Edges.{ring_of, runs}
use Rattle.surface.specs.Marks.{mark_for}
use Rattle.surface.specs.Codes.{ring_length, says_below, Says}
use Rattle.surface.specs.Calls.{survey_answer, survey_marks, ring_answer, ring_list}

-- the codes in a list: those that are not zero
abbrev pub codes_in : List ℕ → List ℕ
codes_in bytes = filter (λ c. ltb 0 c) bytes

-- of a post, in the outcome of the call: its answer's k and mark, and the eight bytes that it left
pub record Grounds (pl : Plot) (post k mark : ℕ) (bytes : List ℕ) : Type 0 where
  -- the mark is the one that a survey of the same heights by the same rule writes at that post, whatever marks are lent to it
  pub surveyed : (marks : List ℕ) → length marks ≡ posts pl
      → ((survey_answer pl marks).code ≡ 0) × (post < length (survey_marks pl marks)) × (get_or (survey_marks pl marks) post 0 ≡ mark)
  -- each code says how its member stands to the post, in the ring's order; the codes number the ring's members, and are at the front, with zeros
  -- after, eight bytes in all
  pub says : (i : ℕ) → i < length (ring_of pl post) → Says pl post (get_or (ring_of pl post) i 0) (get_or (codes_in bytes) i 0)
  pub number : length (codes_in bytes) ≡ length (ring_of pl post)
  pub front : bytes ≡ codes_in bytes ++ replicate (ring_length - length (codes_in bytes)) 0
  pub size : length bytes ≡ ring_length
  -- k is the number of lower runs of the codes read as a circle: at a peak 1, at a pit 0
  pub runs_of_codes : k ≡ length (runs says_below (codes_in bytes))
  pub at_peak : mark ≡ 1 → k ≡ 1
  pub at_pit : mark ≡ 2 → k ≡ 0
  -- and the mark follows from them: whether some member is above, whether some is below, and k
  pub marked : mark ≡ mark_for (not (all says_below (codes_in bytes))) (any says_below (codes_in bytes)) k

-- of every accepted call, whatever bytes were lent to it
abbrev pub RingGrounds : Type 0
RingGrounds =
    (pl : Plot) (post : ℕ) (lent : List ℕ)
    → (ring_answer pl post lent).code ≡ 0
    → Grounds pl post (ring_answer pl post lent).k (ring_answer pl post lent).mark (ring_list pl post lent)

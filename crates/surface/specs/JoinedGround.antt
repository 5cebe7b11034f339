-- docs/SPECIFICATION.md, "Example plots": a rim of high ground round a pit. By rule 1 lower runs lie in fewer
-- bodies than there are runs, by rule 2 upper runs do.
use Rattle.std.specs.Prelude.{◌≡◌, Bool, true, false, [], ◌∷◌, pos, replicate}
use Rattle.surface.specs.Plot.{Plot, ruled}
use Rattle.surface.specs.Calls.{survey_marks, joins_list, splits_list}
use Rattle.surface.specs.Examples.{marks}

-- 3 9 4 / 8 0 7 / 5 6 5
abbrev pub rim : Bool → Plot
rim highest = ruled highest 3 3 (pos 3 ∷ pos 9 ∷ pos 4 ∷ pos 8 ∷ pos 0 ∷ pos 7 ∷ pos 5 ∷ pos 6 ∷ pos 5 ∷ [])

pub record JoinedGround : Type 0 where
  -- by rule 1 the four corners are saddles of two lower runs, one of them at the pit in the middle and one at the virtual pit
  pub rim_marks : survey_marks (rim false) (marks 9) ≡ 3 ∷ 1 ∷ 3 ∷ 1 ∷ 2 ∷ 1 ∷ 3 ∷ 1 ∷ 3 ∷ []
  -- the lowest joins these two; at the others both runs lie in one body already, and they split the rim
  pub rim_joins : joins_list (rim false) (marks 9) (marks 9) ≡ 1 ∷ replicate 8 0
  pub rim_splits : splits_list (rim false) (marks 9) (marks 9) ≡ 0 ∷ 0 ∷ 1 ∷ 0 ∷ 0 ∷ 0 ∷ 1 ∷ 0 ∷ 1 ∷ []
  pub rim_marks_highest : survey_marks (rim true) (marks 9) ≡ 0 ∷ 1 ∷ 0 ∷ 0 ∷ 2 ∷ 0 ∷ 0 ∷ 3 ∷ 0 ∷ []
  -- by rule 2 the corners are not joined to the middle: the lowest post of the rim beside it joins the two
  pub rim_joins_highest : joins_list (rim true) (marks 9) (marks 9) ≡ 0 ∷ 0 ∷ 0 ∷ 0 ∷ 0 ∷ 0 ∷ 0 ∷ 1 ∷ 0 ∷ []
  pub rim_splits_highest : splits_list (rim true) (marks 9) (marks 9) ≡ replicate 9 0

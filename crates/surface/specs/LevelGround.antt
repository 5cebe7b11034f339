-- docs/SPECIFICATION.md, "Example plots": level ground, where the drive decides, by either rule.
use Rattle.std.specs.Prelude.{◌≡◌, Bool, true, false, [], ◌∷◌, ◌++◌, pos, replicate, get_or}
use Rattle.surface.specs.Plot.{Plot, ruled}
use Rattle.surface.specs.Calls.{survey_marks, ring_list, next_down_answer, next_up_answer}
use Rattle.surface.specs.Examples.{metre, flat, marks, goes}

-- 0 0 0 / 0 0 0, and flat 3 by 3
abbrev pub wide : Bool → Plot
wide highest = ruled highest 2 3 (replicate 6 (pos 0))

abbrev pub square : Bool → Plot
square highest = ruled highest 3 3 (replicate 9 (pos 0))

-- level channels along row 1 and along row 2: 9 9 9 9 / 9 5 5 9 / 9 9 9 9, and the same with a row of 9 before it
abbrev pub odd_channel : Bool → Plot
odd_channel highest = ruled highest 3 4 (replicate 5 (pos 9) ++ pos 5 ∷ pos 5 ∷ replicate 5 (pos 9))

abbrev pub even_channel : Bool → Plot
even_channel highest = ruled highest 4 4 (replicate 9 (pos 9) ++ pos 5 ∷ pos 5 ∷ replicate 5 (pos 9))

-- a level bay among slopes, open to the east in row 1: 20 21 22 23 / 34 5 5 3 / 33 5 5 24 / 32 31 30 29
abbrev pub bay : Bool → Plot
bay highest =
    ruled highest 4 4 (
    pos 20 ∷ pos 21 ∷ pos 22 ∷ pos 23
    ∷ pos 34 ∷ pos 5 ∷ pos 5 ∷ pos 3
    ∷ pos 33 ∷ pos 5 ∷ pos 5 ∷ pos 24
    ∷ pos 32 ∷ pos 31 ∷ pos 30 ∷ pos 29
    ∷ [])

pub record LevelGround : Type 0 where
  -- flat 2 by 2: how post 2, the peak, and post 3 see their rings; by rule 2 the diagonal joins posts 1 and 2
  pub flat_ring : ring_list flat 2 (marks 8) ≡ 4 ∷ 4 ∷ 3 ∷ replicate 5 0
  pub flat_ring_beside : ring_list flat 3 (marks 8) ≡ 4 ∷ 3 ∷ 2 ∷ 4 ∷ replicate 4 0
  pub flat_ring_highest : ring_list (ruled true 2 2 flat.heights) 2 (marks 8) ≡ 4 ∷ 4 ∷ 4 ∷ 3 ∷ replicate 4 0
  -- flat 2 by 3: post 3 a peak, the rest ordinary, by either rule
  pub wide_marks : (highest : Bool) → survey_marks (wide highest) (marks 6) ≡ 0 ∷ 0 ∷ 0 ∷ 1 ∷ 0 ∷ 0 ∷ []
  -- flat 3 by 3 has its peak at post 8, as it would by numbers; next up tells the two apart: by numbers it would be 7 and 5
  pub square_peak : (highest : Bool) → get_or (survey_marks (square highest) (marks 9)) 8 9 ≡ 1
  pub square_up : next_up_answer (square false) metre 3 ≡ goes 6
  pub square_up_highest : next_up_answer (square true) metre 1 ≡ goes 3
  -- water runs east along an odd row and west along an even one
  pub odd_runs : (highest : Bool) → next_down_answer (odd_channel highest) metre 5 ≡ goes 6
  pub odd_pit : (highest : Bool) → next_down_answer (odd_channel highest) metre 6 ≡ goes 6
  pub even_runs : (highest : Bool) → next_down_answer (even_channel highest) metre 10 ≡ goes 9
  pub even_pit : (highest : Bool) → next_down_answer (even_channel highest) metre 9 ≡ goes 9
  -- so out of the bay, without a pit: along row 1, and to it from row 2, by rule 1 to the post that is driven past first, by rule 2 straight
  pub bay_first : (highest : Bool) → next_down_answer (bay highest) metre 5 ≡ goes 6
  pub bay_mouth : (highest : Bool) → next_down_answer (bay highest) metre 6 ≡ goes 7
  pub bay_back : next_down_answer (bay false) metre 9 ≡ goes 6
  pub bay_back_highest : next_down_answer (bay true) metre 9 ≡ goes 5

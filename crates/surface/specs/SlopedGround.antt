-- docs/SPECIFICATION.md, "Example plots": slopes, by several spacings.
use Rattle.std.specs.Prelude.{ℕ, ◌≡◌, Bool, true, false, [], ◌∷◌, ◌++◌, pos, replicate}
use Rattle.surface.specs.Plot.{Plot, ruled, plot}
use Rattle.surface.specs.Spacings.{spacings}
use Rattle.surface.specs.Calls.{next_down_answer, next_up_answer, thalweg_list}
use Rattle.surface.specs.Examples.{metre, entries, goes}
use Rattle.surface.specs.declared.Next.{Next}

-- slopes from the middle post of nine: to the east, south and south-east, and by rule 1 to the north-west, where they make it a saddle;
-- 12 30 30 / 30 20 10 / 30 14 9
abbrev pub fork : Bool → Plot
fork highest = ruled highest 3 3 (pos 12 ∷ pos 30 ∷ pos 30 ∷ pos 30 ∷ pos 20 ∷ pos 10 ∷ pos 30 ∷ pos 14 ∷ pos 9 ∷ [])

-- by spacings of 3 and 4, so 5 across, the slopes to the east, the south and the south-east are equal: down, 30 30 30 / 30 20 14 / 30 12 10, and up,
-- 0 0 0 / 0 20 26 / 0 28 30
abbrev pub fall : Bool → Plot
fall highest = ruled highest 3 3 (replicate 4 (pos 30) ++ pos 20 ∷ pos 14 ∷ pos 30 ∷ pos 12 ∷ pos 10 ∷ [])

abbrev pub rise : Bool → Plot
rise highest = ruled highest 3 3 (replicate 4 (pos 0) ++ pos 20 ∷ pos 26 ∷ pos 0 ∷ pos 28 ∷ pos 30 ∷ [])

-- a saddle on the border, by rule 2: its lower run 1 is post 0 and the virtual pit; 2 5 9 / 9 1 9 / 9 9 9
abbrev pub brink : Plot
brink = ruled true 3 3 (pos 2 ∷ pos 5 ∷ pos 9 ∷ pos 9 ∷ pos 1 ∷ replicate 4 (pos 9))

-- turned away, with place 0
abbrev pub stays : ℕ → Next
stays code = record { code = code; place = 0; post = 0 }

pub record SlopedGround : Type 0 where
  -- equal spacings do not mean the lowest neighbour, post 8: across it is further
  pub across : (highest : Bool) → next_down_answer (fork highest) metre 4 ≡ goes 5
  -- the longer spacing turns the line: with posts twice as far apart along a row, to the south; along a column, east as before
  pub long_row : (highest : Bool) → next_down_answer (fork highest) (spacings 200 100) 4 ≡ goes 7
  pub long_column : (highest : Bool) → next_down_answer (fork highest) (spacings 100 200) 4 ≡ goes 5
  -- the water lines of the saddle and its run: to its steepest member, and on to the virtual pit
  pub fork_line : thalweg_list (fork false) metre 4 0 (entries 3) ≡ 4 ∷ 5 ∷ 65535 ∷ []
  pub fork_long_row : thalweg_list (fork false) (spacings 200 100) 4 0 (entries 3) ≡ 4 ∷ 7 ∷ 65535 ∷ []
  -- a run that holds the virtual pit goes there, whatever else it holds
  pub brink_line : thalweg_list brink metre 1 1 (entries 2) ≡ 1 ∷ 65535 ∷ []
  -- of equal slopes the lower, upward the higher; with a little more along the row, to the south
  pub equal_down : (highest : Bool) → next_down_answer (fall highest) (spacings 3 4) 4 ≡ goes 8
  pub equal_up : (highest : Bool) → next_up_answer (rise highest) (spacings 3 4) 4 ≡ goes 8
  pub unequal : (highest : Bool) → next_down_answer (fall highest) (spacings 4 4) 4 ≡ goes 7
  -- spacings outside 1 to 1,000, after sides outside theirs, before heights of another number
  pub none : next_down_answer (fork false) (spacings 0 100) 4 ≡ stays 15
  pub more : next_down_answer (fork false) (spacings 100 1001) 4 ≡ stays 15
  pub most : (highest : Bool) → next_down_answer (fork highest) (spacings 1000 1000) 4 ≡ goes 5
  pub none_flat : next_down_answer (plot 1 3 []) (spacings 0 100) 4 ≡ stays 1
  pub none_short : next_down_answer (plot 3 3 []) (spacings 100 0) 4 ≡ stays 15
  pub short : next_down_answer (plot 3 3 []) metre 4 ≡ stays 2

-- docs/SPECIFICATION.md, "Example plots": trials of the hollow and of the star. With 2 in its middle the hollow has diagonals that it had not: by those of
-- before it would have one peak.
use Rattle.std.specs.Prelude.{ℕ, ◌≡◌, Bool, true, false, pos}
use Rattle.surface.specs.Plot.{Plot, ruled}
use Rattle.surface.specs.Calls.{trial_answer}
use Rattle.surface.specs.Examples.{star, hollow}
use Rattle.surface.specs.declared.TrialCounts.{TrialCounts}

-- the two by either rule
abbrev pub hollow_by : Bool → Plot
hollow_by highest = ruled highest 3 3 hollow.heights

abbrev pub star_by : Bool → Plot
star_by highest = ruled highest 3 3 star.heights

-- answers
abbrev pub tried : ℕ → ℕ → ℕ → ℕ → ℕ → ℕ → TrialCounts
tried p q s p' q' s' =
    record { code = 0; place = 0; peaks = p; pits = q; saddles = s; newPeaks = p'; newPits = q'; newSaddles = s' }

abbrev pub turned_away : ℕ → TrialCounts
turned_away code =
    record { code = code; place = 0; peaks = 0; pits = 0; saddles = 0; newPeaks = 0; newPits = 0; newSaddles = 0 }

pub record TriedGround : Type 0 where
  pub hollow_tried : trial_answer (hollow_by false) 4 (pos 2) ≡ tried 1 2 1 2 1 1
  pub hollow_highest : trial_answer (hollow_by true) 4 (pos 2) ≡ tried 1 2 1 1 1 0
  -- four peaks are gone, and the middle is one
  pub star_tried : trial_answer (star_by false) 4 (pos 3) ≡ tried 4 1 3 1 1 0
  pub star_highest : trial_answer (star_by true) 4 (pos 3) ≡ tried 1 2 1 1 1 0
  -- a post that is not there, and a height out of range
  pub no_post : trial_answer (star_by true) 9 (pos 3) ≡ turned_away 5
  pub too_high : trial_answer (star_by true) 4 (pos 1000001) ≡ turned_away 6

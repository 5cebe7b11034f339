-- Level ground, by computation.
use mathlib.Core.Path.{◌≡◌, refl}
use mathlib.Core.List.{[], ◌∷◌}
use lib.ListN.{get_or}
use mathlib.Core.Bool.{Bool, true, false}
use Rattle.surface.specs.Lists.{list_of, filter, any, all, take_while, last_or, count, total, first_not}
use Rattle.surface.specs.Plot.{virtual_pit, driven_before, below}
use Rattle.surface.specs.Edges.{lowest, lowest_or, through_lowest, members, places, ring, ring_of, runs, runs_from}
use Rattle.surface.specs.Marks.{mark_for, mark, mark_at, marks_of}
use Rattle.surface.specs.Codes.{member_code, codes_of, ring_bytes}
use Rattle.surface.specs.Lines.{is_end, next, squared_length, squared_drop, steeper, steepest}
use Rattle.surface.specs.Words.{word_at, bytes_of}
use Rattle.surface.specs.Settings.{entries_in, entries_of, extent, is_bad_sheet, are_entries, has_bad_entry, value_of, rule_in}
use Rattle.surface.specs.Refusals.{verdict, sheet_verdict, survey_verdict, ring_verdict, next_verdict}
use Rattle.surface.specs.Calls.{sheet_says, survey_marks, ring_list, next_down_answer, next_up_answer}
use Rattle.surface.specs.Examples.{metre, marks, goes}
use Rattle.surface.specs.LevelGround.{wide, square, odd_channel, even_channel, bay, LevelGround}

-- by both rules
pub each : (A : Bool → Type 0) → A false → A true → (h : Bool) → A h
each A f t true = t
each A f t false = f

pub level-ground : LevelGround
unfolding list_of filter any all take_while last_or count total first_not virtual_pit driven_before below lowest lowest_or through_lowest members places ring runs runs_from mark_for mark mark_at marks_of ring_of member_code codes_of ring_bytes is_end next squared_length squared_drop steeper steepest word_at bytes_of entries_in entries_of extent is_bad_sheet are_entries has_bad_entry value_of rule_in verdict sheet_verdict survey_verdict ring_verdict next_verdict sheet_says survey_marks ring_list next_down_answer next_up_answer
level-ground =
    record {
      flat_ring = refl;
      flat_ring_beside = refl;
      flat_ring_highest = refl;
      wide_marks = each (λ h. survey_marks (wide h) (marks 6) ≡ 0 ∷ 0 ∷ 0 ∷ 1 ∷ 0 ∷ 0 ∷ []) refl refl;
      square_peak = each (λ h. get_or (survey_marks (square h) (marks 9)) 8 9 ≡ 1) refl refl;
      square_up = refl;
      square_up_highest = refl;
      odd_runs = each (λ h. next_down_answer (odd_channel h) metre 5 ≡ goes 6) refl refl;
      odd_pit = each (λ h. next_down_answer (odd_channel h) metre 6 ≡ goes 6) refl refl;
      even_runs = each (λ h. next_down_answer (even_channel h) metre 10 ≡ goes 9) refl refl;
      even_pit = each (λ h. next_down_answer (even_channel h) metre 9 ≡ goes 9) refl refl;
      bay_first = each (λ h. next_down_answer (bay h) metre 5 ≡ goes 6) refl refl;
      bay_mouth = each (λ h. next_down_answer (bay h) metre 6 ≡ goes 7) refl refl;
      bay_back = refl;
      bay_back_highest = refl;
    }

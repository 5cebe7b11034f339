-- Sloped ground, by computation.
use mathlib.Core.Path.{◌≡◌, refl}
use Rattle.surface.specs.Lists.{list_of, filter, any, all, take_while, last_or, first_not}
use Rattle.surface.specs.Plot.{virtual_pit, driven_before, below}
use Rattle.surface.specs.Edges.{lowest, lowest_or, through_lowest, members, places, ring, ring_of, runs, runs_from}
use Rattle.surface.specs.Marks.{mark_for, mark, mark_at}
use Rattle.surface.specs.Lines.{is_end, next, walk, line, squared_length, squared_drop, steeper, steepest}
use Rattle.surface.specs.Spacings.{spacings}
use Rattle.surface.specs.Refusals.{verdict, next_verdict, line_verdict}
use Rattle.surface.specs.Calls.{next_down_answer, next_up_answer, thalweg_list}
use Rattle.surface.specs.Examples.{metre, goes}
use Rattle.surface.specs.SlopedGround.{fork, fall, rise, SlopedGround}
use Rattle.surface.proofs.OfCalls.LevelGround.{each}

pub sloped-ground : SlopedGround
unfolding list_of filter any all take_while last_or first_not virtual_pit driven_before below lowest lowest_or through_lowest members places ring runs runs_from mark_for mark mark_at ring_of is_end next walk line squared_length squared_drop steeper steepest verdict next_verdict line_verdict next_down_answer next_up_answer thalweg_list
sloped-ground =
    record {
      across = each (λ h. next_down_answer (fork h) metre 4 ≡ goes 5) refl refl;
      long_row = each (λ h. next_down_answer (fork h) (spacings 200 100) 4 ≡ goes 7) refl refl;
      long_column = each (λ h. next_down_answer (fork h) (spacings 100 200) 4 ≡ goes 5) refl refl;
      fork_line = refl;
      fork_long_row = refl;
      brink_line = refl;
      equal_down = each (λ h. next_down_answer (fall h) (spacings 3 4) 4 ≡ goes 8) refl refl;
      equal_up = each (λ h. next_up_answer (rise h) (spacings 3 4) 4 ≡ goes 8) refl refl;
      unequal = each (λ h. next_down_answer (fall h) (spacings 4 4) 4 ≡ goes 7) refl refl;
      none = refl;
      more = refl;
      most = each (λ h. next_down_answer (fork h) (spacings 1000 1000) 4 ≡ goes 5) refl refl;
      none_flat = refl;
      none_short = refl;
      short = refl;
    }

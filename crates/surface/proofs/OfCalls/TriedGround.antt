-- Trials of the hollow and of the star, by computation.
use mathlib.Core.Path.{refl}
use Rattle.surface.specs.Lists.{list_of, any, all, take_while, last_or, count, total, first_not}
use Rattle.surface.specs.Plot.{virtual_pit, driven_before, below}
use Rattle.surface.specs.Edges.{lowest, lowest_or, through_lowest, members, places, ring, ring_of, runs, runs_from}
use Rattle.surface.specs.Marks.{mark_for, mark, peaks, pits, saddles, mark_at, marks_of}
use Rattle.surface.specs.Refusals.{verdict, trial_verdict}
use Rattle.surface.specs.Calls.{trial_answer}
use Rattle.surface.specs.TriedGround.{TriedGround}

pub tried-ground : TriedGround
unfolding list_of any all take_while last_or count total first_not virtual_pit driven_before below lowest lowest_or through_lowest members places ring ring_of runs runs_from mark_for mark peaks pits saddles mark_at marks_of verdict trial_verdict trial_answer
tried-ground = record { hollow_tried = refl; hollow_highest = refl; star_tried = refl; star_highest = refl; no_post = refl; too_high = refl }

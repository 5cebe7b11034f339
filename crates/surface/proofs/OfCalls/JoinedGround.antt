-- The rim round a pit, by computation.
use mathlib.Core.Path.{refl}
use Rattle.surface.specs.Lists.{list_of, filter, any, all, take_while, last_or, first_not}
use Rattle.surface.specs.Plot.{virtual_pit, driven_before, below}
use Rattle.surface.specs.Edges.{lowest, lowest_or, through_lowest, members, places, ring, ring_of, runs, runs_from}
use Rattle.surface.specs.Marks.{mark_for, mark, mark_at, marks_of}
use Rattle.surface.specs.Bodies.{reached, in_one_body, classes, bodies_at, neighbours, joins_at, splits_at, joins_of, splits_of}
use Rattle.surface.specs.Refusals.{verdict, survey_verdict, joins_verdict}
use Rattle.surface.specs.Calls.{survey_marks, joins_list, splits_list}
use Rattle.surface.specs.JoinedGround.{JoinedGround}

pub joined-ground : JoinedGround
unfolding list_of filter any all take_while last_or first_not virtual_pit driven_before below lowest lowest_or through_lowest members places ring ring_of runs runs_from mark_for mark mark_at marks_of reached in_one_body classes bodies_at neighbours joins_at splits_at joins_of splits_of verdict survey_verdict joins_verdict survey_marks joins_list splits_list
joined-ground = record { rim_marks = refl; rim_joins = refl; rim_splits = refl; rim_marks_highest = refl; rim_joins_highest = refl; rim_splits_highest = refl }

-- Example sheets, and example plots by rule 2, by computation.
use mathlib.Core.Path.{refl}
use Rattle.surface.specs.Lists.{list_of, any, all, take_while, last_or, count, total, first_not}
use Rattle.surface.specs.Plot.{virtual_pit, driven_before, below}
use Rattle.surface.specs.Edges.{lowest, lowest_or, through_lowest, members, places, ring, ring_of, runs, runs_from}
use Rattle.surface.specs.Marks.{mark_for, mark, mark_at, marks_of, peaks, pits, saddles}
use Rattle.surface.specs.Words.{word_at, bytes_of}
use Rattle.surface.specs.Settings.{entries_in, entries_of, extent, is_bad_sheet, are_entries, has_bad_entry, value_of, rule_in, name_in, name_bytes}
use Rattle.surface.specs.Refusals.{verdict, sheet_verdict, settings_verdict, survey_verdict}
use Rattle.surface.specs.Calls.{sheet_says, settings_answer, settings_name, survey_answer, survey_marks}
use Rattle.surface.specs.ExampleSheets.{ExampleSheets}

pub example-sheets : ExampleSheets
unfolding list_of any all take_while last_or count total first_not virtual_pit driven_before below lowest lowest_or through_lowest members places ring runs runs_from mark_for mark mark_at marks_of ring_of peaks pits saddles word_at bytes_of entries_in entries_of extent is_bad_sheet are_entries has_bad_entry value_of rule_in name_in name_bytes verdict sheet_verdict settings_verdict survey_verdict sheet_says settings_answer settings_name survey_answer survey_marks
example-sheets =
    record {
      none = refl;
      none_name = refl;
      bare = refl;
      name_alone = refl;
      rule_alone = refl;
      whole = refl;
      whole_name = refl;
      whole_short = refl;
      whole_short_name = refl;
      short = refl;
      version = refl;
      count = refl;
      lone_kind = refl;
      overrun = refl;
      rule_three = refl;
      long_rule = refl;
      no_name = refl;
      delete = refl;
      unknown = refl;
      twice = refl;
      falling = refl;
      star_highest = refl;
      star_highest_counts = refl;
      crossed_highest = refl;
      crossed_highest_counts = refl;
    }

-- The example plots, by computation.
use mathlib.Core.Path.{refl}
use mathlib.Core.List.{flatten}
use Rattle.surface.specs.Lists.{list_of, filter, any, all, take_while, last_or, count, total, first_not}
use Rattle.surface.specs.Plot.{virtual_pit, driven_before, below}
use Rattle.surface.specs.Edges.{lowest, lowest_or, through_lowest, members, places, ring, ring_of, runs, runs_from}
use Rattle.surface.specs.Marks.{mark_for, mark, mark_at, marks_of, peaks, pits, saddles}
use Rattle.surface.specs.Lines.{is_end, next, walk, line, squared_length, squared_drop, steeper, steepest}
use Rattle.surface.specs.Rounding.{round_ties_to_even}
use Rattle.surface.specs.Words.{word_at, signed, unsigned, bytes_of, half_bytes}
use Rattle.surface.specs.SurveyFile.{stated_count, spacings_in, tenths_of, rounded, heights_in, filed_heights, file_of}
use Rattle.surface.specs.Settings.{entries_in, entries_of, extent, is_bad_sheet, are_entries, has_bad_entry, value_of, rule_in}
use Rattle.surface.specs.Refusals.{verdict, sheet_verdict, survey_verdict, line_verdict, read_verdict}
use Rattle.surface.specs.Calls.{sheet_says, survey_answer, survey_marks, thalweg_answer, thalweg_list, ridge_answer, ridge_list, read_answer, read_heights}
use Rattle.surface.specs.Lister.{digits, decimal, fields, text_line, end_name, head_line, line_text, saddle_lines, post_lines, plot_text, file_listing, listing, printed}
use Rattle.surface.specs.Starred.{Starred}

pub starred : Starred
unfolding list_of filter any all take_while last_or count total first_not virtual_pit driven_before below lowest lowest_or through_lowest members places ring runs runs_from mark_for mark mark_at marks_of ring_of peaks pits saddles is_end next walk line squared_length squared_drop steeper steepest word_at signed unsigned bytes_of half_bytes stated_count spacings_in tenths_of round_ties_to_even rounded heights_in filed_heights file_of entries_in entries_of extent is_bad_sheet are_entries has_bad_entry value_of rule_in verdict sheet_verdict sheet_says survey_verdict line_verdict read_verdict survey_answer survey_marks thalweg_answer thalweg_list ridge_answer ridge_list read_answer read_heights flatten digits decimal fields text_line end_name head_line line_text saddle_lines post_lines plot_text file_listing listing printed
starred =
    record {
      flat_marks = refl;
      flat_counts = refl;
      crossed_marks = refl;
      crossed_counts = refl;
      crossed_line = refl;
      crossed_count = refl;
      crossed_exact = refl;
      crossed_exact_count = refl;
      crossed_short = refl;
      crossed_short_list = refl;
      star_mark = refl;
      star_line = refl;
      star_count = refl;
      star_exact = refl;
      star_exact_count = refl;
      star_listing = refl;
      star_no_sheet = refl;
      crossed_run = refl;
      crossed_run_up = refl;
      crossed_run_list = refl;
      crossed_run_up_list = refl;
      hollow_pit = refl;
      hollow_saddle = refl;
      hollow_peak = refl;
      hollow_counts = refl;
      roundings = refl;
      roundings_read = refl;
      more_roundings = refl;
    }

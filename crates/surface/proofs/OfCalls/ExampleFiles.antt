-- The example files, by computation.
use mathlib.Core.Path.{refl}
use Rattle.surface.specs.Lists.{list_of, first_not}
use Rattle.surface.specs.Rounding.{round_ties_to_even}
use Rattle.surface.specs.Words.{word_at, signed, unsigned, bytes_of, half_bytes}
use Rattle.surface.specs.SurveyFile.{stated_count, spacings_in, tenths_of, rounded, heights_in, filed_heights, file_of}
use Rattle.surface.specs.Refusals.{verdict, read_verdict}
use Rattle.surface.specs.Calls.{read_answer, read_heights}
use Rattle.surface.specs.ExampleFiles.{ExampleFiles}

pub example-files : ExampleFiles
unfolding list_of first_not round_ties_to_even word_at signed unsigned bytes_of half_bytes stated_count spacings_in tenths_of rounded heights_in filed_heights file_of verdict read_verdict read_answer read_heights
example-files =
    record {
      spaced = refl;
      spaced_heights = refl;
      written = refl;
      cut = refl;
      version = refl;
      no_version = refl;
      no_spacing = refl;
      far_apart = refl;
      no_spacing_cut = refl;
      count = refl;
    }

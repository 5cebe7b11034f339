-- The rows round a post, cut out of a plot.
use Rattle.std.specs.Prelude.{ℕ, ◌-◌, ◌+◌, ◌*◌, ◌/◌, min, take, drop}
use Rattle.surface.specs.Plot.{Plot}

-- the rows of a plot from row `first` to before row `end`, as a plot
abbrev pub band_of : Plot → ℕ → ℕ → Plot
band_of pl first end =
    record {
      rows = end - first;
      columns = pl.columns;
      heights = take (end * pl.columns - first * pl.columns) (drop (first * pl.columns) pl.heights);
      bad_sheet = pl.bad_sheet;
      bad_entry = pl.bad_entry;
      highest = pl.highest;
    }

-- The rows round a row: from two or three rows before it, an even row, or from the first, to two rows after it, or to the last. From an even row, so that
-- ties go as they do in the plot.
abbrev pub band_first : ℕ → ℕ
band_first row = (row - 2) / 2 * 2

abbrev pub band_end : ℕ → ℕ → ℕ
band_end rows row = min (row + 3) rows

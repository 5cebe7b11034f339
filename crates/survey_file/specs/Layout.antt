-- docs/SPECIFICATION.md, "Survey file": where the parts of a file stand.
use Rattle.std.specs.Prelude.{ℕ, ◌+◌, ◌*◌, cond, ◌&&◌, List, [], ◌∷◌, ◌++◌, get_or}
use Rattle.surface.specs.Plot.{is_side}
use Rattle.surface.specs.Words.{bytes_of, half_bytes}
use Rattle.surface.specs.SurveyFile.{version_in, header_for, count_for, spacings_in}
use Rattle.surface.specs.Refusals.{Row, row1, row10, row11, row15}
use Rattle.surface.specs.declared.Spacings.{Spacings}

-- the bytes that a file of either version begins with, up to its columns
abbrev pub least_size : ℕ
least_size = 7

-- the version that is written, and all bytes before its heights
abbrev pub written : ℕ
written = 2

unfoldable pub header : ℕ → ℕ → Spacings → List ℕ
header rows columns s =
    written ∷ bytes_of (count_for written rows columns) ++ rows ∷ columns ∷ half_bytes s.east ++ half_bytes s.south

-- the byte at which a post's height starts, by the version; with the number of posts, the size of a file
abbrev pub height_at : ℕ → ℕ → ℕ
height_at version post = header_for version + 4 * post

-- how many posts a file's plot has, 0 where its sides are none of a plot
unfoldable pub plot_posts : List ℕ → ℕ
plot_posts file = cond (is_side (get_or file 5 0) && is_side (get_or file 6 0)) (get_or file 5 0 * get_or file 6 0) 0

-- the rows of the table that are about the bytes before the heights, the count apart
abbrev pub header_rows : List ℕ → List Row
header_rows file =
    row10 file least_size
    ∷ row11 file
    ∷ row10 file (header_for (version_in file))
    ∷ row1 (get_or file 5 0) (get_or file 6 0)
    ∷ row15 (spacings_in file)
    ∷ []

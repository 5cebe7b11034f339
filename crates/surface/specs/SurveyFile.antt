-- docs/SPECIFICATION.md, "Survey file".
--
--     byte   0        1 .. 4               5      6         7 .. 8         9 .. 10        11 .. 14       ..
--            version  bytes that follow    rows   columns   along a row    along a column post 0         ..
--            2        unsigned             2 to 120         spacings in centimetres       tenths of a millimetre, signed
--
-- All numbers are big-endian. Version 1 has no spacings, so that the heights begin at byte 7; it is read as if both were 100.
use Rattle.std.specs.Prelude.{ℕ, ◌+◌, ◌*◌, Bool, cond, not, ◌&&◌, List, [], ◌∷◌, ◌++◌, map, eqb, ℤ, pos, negsuc, ◌*ℤ◌, get_or}
use Rattle.std.specs.Int.Signed.{lt_z}
use Rattle.surface.specs.Lists.{list_of}
use Rattle.surface.specs.Plot.{Plot}
use Rattle.surface.specs.Spacings.{spacings}
use Rattle.surface.specs.Rounding.{round_ties_to_even}
use Rattle.surface.specs.Words.{word_at, signed, unsigned, bytes_of, half_at, half_bytes}
use Rattle.surface.specs.declared.Spacings.{Spacings}

abbrev pub version_in : List ℕ → ℕ
version_in file = get_or file 0 0

unfoldable pub stated_count : List ℕ → ℕ
stated_count file = word_at file 1

-- how many bytes stand between the count and the heights: the sides and, in version 2, the spacings; and how many stand before the heights
abbrev pub details_for : ℕ → ℕ
details_for version = cond (eqb version 1) 2 6

abbrev pub header_for : ℕ → ℕ
header_for version = 5 + details_for version

-- the count rule, and the size of a whole file
abbrev pub count_for : ℕ → ℕ → ℕ → ℕ
count_for version rows columns = details_for version + 4 * (rows * columns)

abbrev pub file_size : ℕ → ℕ → ℕ → ℕ
file_size version rows columns = 5 + count_for version rows columns

-- the spacings of a file
unfoldable pub spacings_in : List ℕ → Spacings
spacings_in file = cond (eqb (version_in file) 1) (spacings 100 100) (spacings (half_at file 7) (half_at file 9))

-- a filed height is in tenths of a millimetre, from -10,000,000 to 10,000,000
abbrev pub is_tenths : ℤ → Bool
is_tenths z = not (lt_z z (negsuc 9999999)) && not (lt_z (pos 10000000) z)

-- the filed heights of n posts
unfoldable pub tenths_of : List ℕ → ℕ → List ℤ
tenths_of file n = list_of (λ i. signed (word_at file (header_for (version_in file) + 4 * i))) n

-- tenths to whole millimetres, a half going to the even one
unfoldable pub rounded : ℤ → ℤ
rounded t = round_ties_to_even t 10

-- what reading makes of n filed heights
unfoldable pub heights_in : List ℕ → ℕ → List ℤ
heights_in file n = map rounded (tenths_of file n)

-- writing multiplies by ten
unfoldable pub filed_heights : List ℤ → List ℕ
filed_heights [] = []
filed_heights (z ∷ hs) = bytes_of (unsigned (z *ℤ pos 10)) ++ filed_heights hs

-- a file that is written, of version 2
unfoldable pub file_of : Plot → Spacings → List ℕ
file_of pl s =
    2
    ∷ bytes_of (count_for 2 pl.rows pl.columns)
    ++ pl.rows
    ∷ pl.columns
    ∷ half_bytes s.east
    ++ half_bytes s.south
    ++ filed_heights pl.heights

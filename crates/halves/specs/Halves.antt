-- What rows of flags (flags/specs/Rows) tell of patterns: the lower halves of a row's, and turned round the upper halves of the next row's.
use Rattle.std.specs.Prelude.{ℕ, ◌+◌, ◌≤◌, ◌<◌, Bool, false, not, List, length, get_or}
use Rattle.surface.specs.Flags.{pair_by, lower_by, upper_by}

-- the lower half of the pattern of the post in column c of a row, and the upper half of that of the post below it
abbrev pub lower_in : Bool → (side south fall rise under : List Bool) → ℕ → ℕ
lower_in h side south fall rise under c =
    lower_by (pair_by h (get_or side (c + 1) false) (get_or fall (c + 1) false) (get_or under (c + 1) false))
    (pair_by h (get_or south (c + 1) false) (get_or rise c false) (get_or south c false))

abbrev pub upper_in : Bool → (side south fall rise under : List Bool) → ℕ → ℕ
upper_in h side south fall rise under c =
    upper_by (pair_by h (not (get_or south (c + 1) false)) (not (get_or rise (c + 1) false)) (not (get_or south (c + 2) false)))
    (pair_by h (not (get_or under c false)) (not (get_or fall c false)) (not (get_or side c false)))

-- the pattern of the post in column c of the row, the upper halves of which are known
abbrev pub pattern_in : Bool → (side south fall rise under : List Bool) → List ℕ → ℕ → ℕ
pattern_in h side south fall rise under upper c = get_or upper c 0 + lower_in h side south fall rise under c

-- the rows of flags are long enough for n posts
pub record Wide (n : ℕ) (side south fall rise under : List Bool) : Type 0 where
  pub side_long : n < length side
  pub south_long : n + 1 < length south
  pub fall_long : n < length fall
  pub rise_long : n < length rise
  pub under_long : n < length under

-- what the upper halves of a row ask, and what its patterns do
pub record ForHalves (width : ℕ) (side south fall rise under : List Bool) (upper : List ℕ) : Type 0 where
  pub flags : Wide width side south fall rise under
  pub upper_long : width ≤ length upper

pub record ForPatterns (width : ℕ) (side south fall rise under : List Bool) (upper pattern : List ℕ) : Type 0 where
  pub flags : Wide width side south fall rise under
  pub upper_long : width ≤ length upper
  pub pattern_long : width ≤ length pattern
  pub low : (c : ℕ) → c < width → get_or upper c 0 ≤ 195

-- Where the patterns of a plot stand at the head of a row (flags/specs/Rows says what its rows of flags are).
use Rattle.std.specs.Prelude.{ℕ, ◌+◌, ◌≤◌, ◌<◌, ◌≡◌, Bool, true, false, List, length, get_or}
use Rattle.surface.specs.Plot.{Plot, Valid}
use Rattle.surface.specs.Flags.{upper_by, north_pair, west_pair}
use Rattle.flags.specs.Rows.{PitAtSides, PitAtEnds, Side}
use Rattle.halves.specs.Halves.{Wide}

-- where the patterns stand at the head of the row that starts at `base`: the upper halves of its patterns are known, and the flags along it. (`low` is
-- of the places past the row's end too: with a lower half each stays a byte.)
pub record Head (pl : Plot) (base width : ℕ) (side south fall rise under : List Bool) (upper : List ℕ) : Type 0 where
  pub above : (c : ℕ) → c < pl.columns → get_or upper c 0 ≡ upper_by (north_pair pl (base + c)) (west_pair pl (base + c))
  pub low : (c : ℕ) → c < width → get_or upper c 0 ≤ 195
  pub along : Side pl base side
  pub ends : PitAtEnds pl.columns south fall rise
  pub sides : PitAtSides pl.columns under

-- the flags above the plot
pub record Blank (columns : ℕ) (side south fall rise : List Bool) : Type 0 where
  pub side_true : (c : ℕ) → c ≤ columns → get_or side c false ≡ true
  pub south_false : (c : ℕ) → c ≤ columns → get_or south c false ≡ false
  pub fall_false : (c : ℕ) → c ≤ columns → get_or fall c false ≡ false
  pub rise_false : (c : ℕ) → c ≤ columns → get_or rise c false ≡ false

-- what the top row asks
pub record ForTop (pl : Plot) (width : ℕ) (side south fall rise under : List Bool) (upper : List ℕ) : Type 0 where
  pub valid : Valid pl
  pub flags : Wide width side south fall rise under
  pub wide : pl.columns ≤ width
  pub upper_long : width ≤ length upper
  pub blank : Blank pl.columns side south fall rise

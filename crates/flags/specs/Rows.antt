-- Rows of flags: each tells of the posts of a row whether the post on one side, or at one corner, is below. Turned round they tell the same of the row
-- below.
--     side                 from the post before a place to the one there: to E, and turned to W
--     south fall rise      to S, from the post before a place; to SE, from there to the place; and to SW, from the place to the post before it
--     under                the flags `side` of the row below
use Rattle.std.specs.Prelude.{ℕ, ◌+◌, ◌*◌, ◌≤◌, ◌<◌, ◌≡◌, Bool, true, false, ◌||◌, List, length, get_or}
use Rattle.surface.specs.Plot.{Plot, posts, row, is_odd, below, Valid}
use Rattle.surface.specs.Edges.{bottom}

-- a row starts at `base`
pub record RowOf (rows columns base : ℕ) : Type 0 where
  pub r : ℕ
  pub start : base ≡ r * columns
  pub room : base + columns ≤ rows * columns

-- at both ends the flags along a row tell of the virtual pit
pub record PitAtSides (columns : ℕ) (side : List Bool) : Type 0 where
  pub west : get_or side 0 false ≡ false
  pub east : get_or side columns false ≡ true

-- and those to the row below
pub record PitAtEnds (columns : ℕ) (south fall rise : List Bool) : Type 0 where
  pub south_first : get_or south 0 false ≡ false
  pub south_last : get_or south (columns + 1) false ≡ true
  pub fall_first : get_or fall 0 false ≡ false
  pub fall_last : get_or fall columns false ≡ true
  pub rise_first : get_or rise 0 false ≡ true
  pub rise_last : get_or rise columns false ≡ false

-- the flags of the edges along the row that starts at `base`
pub record Side (pl : Plot) (base : ℕ) (side : List Bool) : Type 0 where
  pub ends : PitAtSides pl.columns side
  pub along : (c : ℕ) → c + 1 < pl.columns → get_or side (c + 1) false ≡ below pl (base + (c + 1)) (base + c)

-- the flags from that row to the one below it, and along that one; below the bottom row is the virtual pit
pub record South (pl : Plot) (base : ℕ) (south fall rise under : List Bool) : Type 0 where
  pub down : (c : ℕ) → c < pl.columns → get_or south (c + 1) false ≡ bottom pl.rows pl.columns (base + c) || below pl (base + pl.columns + c) (base + c)
  pub falls : base + pl.columns < posts pl → (c : ℕ) → c + 1 < pl.columns → get_or fall (c + 1) false ≡ below pl (base + pl.columns + (c + 1)) (base + c)
  pub rises : base + pl.columns < posts pl → (c : ℕ) → c + 1 < pl.columns → get_or rise (c + 1) false ≡ below pl (base + pl.columns + c) (base + (c + 1))
  pub next : base + pl.columns < posts pl → Side pl (base + pl.columns) under
  pub beyond : posts pl ≤ base + pl.columns → (c : ℕ) → c + 1 < pl.columns → (get_or fall (c + 1) false ≡ true) × (get_or rise (c + 1) false ≡ true)
  pub none : posts pl ≤ base + pl.columns → (c : ℕ) → c < pl.columns → get_or under (c + 1) false ≡ false
  pub ends : PitAtEnds pl.columns south fall rise

-- the rows of flags to the row below are long enough for a row
pub record Long (columns : ℕ) (south fall rise under : List Bool) : Type 0 where
  pub south_long : columns < length south
  pub fall_long : columns ≤ length fall
  pub rise_long : columns ≤ length rise
  pub under_long : columns < length under

-- what comparing a row with the one below it asks: of the flags, that they tell of the virtual pit at their ends already
pub record ForSouth (pl : Plot) (base : ℕ) (odd : Bool) (south fall rise under : List Bool) : Type 0 where
  pub valid : Valid pl
  pub at : RowOf pl.rows pl.columns base
  pub parity : odd ≡ is_odd (row pl.columns base)
  pub long : Long pl.columns south fall rise under
  pub ends : PitAtEnds pl.columns south fall rise
  pub sides : PitAtSides pl.columns under

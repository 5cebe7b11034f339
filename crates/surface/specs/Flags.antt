-- Between the definitions and the code: a post's pattern by which of the eight posts round it are below it, joined to it or not, and which of the corners
-- are below the side after them; its mark by the runs that start, and the lower runs that a mark tells of. (The calls' promises do not speak of these.)
-- Beyond a border is the virtual pit, which is below every post and not below itself.
use Rattle.std.specs.Prelude.{ℕ, ◌+◌, ◌-◌, ◌*◌, Bool, cond, not, ◌&&◌, ◌||◌, eqb}
use Rattle.surface.specs.Lists.{one}
use Rattle.surface.specs.Plot.{Plot, below}
use Rattle.surface.specs.Edges.{top, bottom, left, right}
use Rattle.surface.specs.Marks.{is_saddle}

-- the sign at a corner, joined to the post or not, by that of the side before it, by whether the corner is below the post, and by whether it is below
-- the side after it: by rule 2, and by rule 1
unfoldable pub sign_by : Bool → Bool → Bool → Bool → Bool
sign_by highest side corner after = cond highest (side && (corner || after)) (side || (corner && after))

-- a side and the corner after it, as two digits
unfoldable pub pair_by : Bool → Bool → Bool → Bool → ℕ
pair_by highest side corner after = one side + 2 * one (sign_by highest side corner after)

-- the digits of E, SE, S and SW, by a pair for E and one for S; and those of N, NE, W and NW
abbrev pub lower_by : ℕ → ℕ → ℕ
lower_by east south = 4 * (east + 4 * south)

abbrev pub upper_by : ℕ → ℕ → ℕ
upper_by north west = north + 64 * west

-- the pairs of a post p, which stands at these borders: t top, b bottom, l left, r right
module _ (pl : Plot) (p : ℕ) where
  abbrev c : ℕ
  c = pl.columns

  abbrev t : Bool
  t = top c p

  abbrev b : Bool
  b = bottom pl.rows c p

  abbrev l : Bool
  l = left c p

  abbrev r : Bool
  r = right c p

  -- q is below q'
  abbrev low : ℕ → ℕ → Bool
  low = below pl

  unfoldable pub east_pair : ℕ
  east_pair = pair_by pl.highest (r || low (p + 1) p) (r || (b || low (p + c + 1) p)) (not b && (r || low (p + c + 1) (p + c)))

  unfoldable pub south_pair : ℕ
  south_pair = pair_by pl.highest (b || low (p + c) p) (b || (l || low (p + c - 1) p)) (not l && (b || low (p + c - 1) (p - 1)))

  unfoldable pub north_pair : ℕ
  north_pair = pair_by pl.highest (t || low (p - c) p) (t || (r || low (p - c + 1) p)) (not r && (t || low (p - c + 1) (p + 1)))

  -- the first post of all has no member at W, which carries the sign of S
  unfoldable pub west_sign : Bool
  west_sign = cond (t && l) (b || low (p + c) p) (l || low (p - 1) p)

  unfoldable pub west_pair : ℕ
  west_pair = pair_by pl.highest west_sign (l || (t || low (p - c - 1) p)) (not t && (l || low (p - c - 1) (p - c)))

-- the mark by whether the ring's first member is below and the number of lower runs that start: where none does, all members are of one sort
unfoldable pub mark_by : Bool → ℕ → ℕ
mark_by first k = cond (eqb k 0) (cond first 1 2) (cond (eqb k 1) 0 (k + 1))

-- the lower runs that a mark tells of: none at a pit, one at a peak or an ordinary post, one less than the mark at a saddle
unfoldable pub runs_for : ℕ → ℕ
runs_for m = cond (is_saddle m) (m - 1) (one (not (eqb m 2)))

-- The order in which level posts stand, as the code tells it.
use Rattle.std.specs.Prelude.{ℕ, ◌+◌, ◌-◌, ◌*◌, ◌≤◌, ◌<◌, ◌≡◌, Bool, cond, not, eqb}
use Rattle.surface.specs.Plot.{row, column, is_odd, driven_before}
use Rattle.surface.specs.Lists.{flipped}

-- n pairs of posts, from q and from p on: `tie` tells of each whether the first is driven past before the second
pub record Drives (columns : ℕ) (tie : Bool) (p q n : ℕ) : Type 0 where
  pub told : (k : ℕ) → k < n → driven_before columns (q + k) (p + k) ≡ tie

-- q is one of the nine posts round p, p among them
pub record Near (columns p q : ℕ) : Type 0 where
  pub north : row columns p ≤ row columns q + 1
  pub south : row columns q ≤ row columns p + 1
  pub west : column columns p ≤ column columns q + 1
  pub east : column columns q ≤ column columns p + 1

-- q stands so many rows and columns after the first of them
pub record Stands (columns p q down along : ℕ) : Type 0 where
  pub in_row : row columns q + 1 ≡ row columns p + down
  pub in_column : column columns q + 1 ≡ column columns p + along

-- q's place among them: its number, and 256 for each turn. A row takes two turns; in an odd row, driven from its last column, each post has a turn more
-- than the one to its east. So where numbers fall from one post driven past to the next, turns rise
abbrev pub tie_place : ℕ → ℕ → ℕ → ℕ
tie_place columns p q =
    let down = row columns q + 1 - row columns p in
    256 * (2 * down + cond (is_odd (row columns q)) (column columns p + 1 - column columns q) 0) + (q + columns + 1 - p)

-- the same by where it stands, and by whether p's row is odd: the rows above and below it are where it is not
abbrev pub place_at : ℕ → Bool → ℕ → ℕ → ℕ
place_at columns odd down along = 256 * (2 * down + cond (flipped (not (eqb down 1)) odd) (2 - along) 0) + (down * columns + along)

-- Keys: the height of a post q and its place among the nine posts round p, in one number. A place is below 2,048, so comparing keys is comparing posts in
-- the height order; and a key fits 32 bits with a sign.
use Rattle.std.specs.Prelude.{ℕ, ◌+◌, ◌-◌, ◌%◌, ◌≤◌, ◌<◌, Bool, false, cond, not, ◌&&◌, ℤ, pos, negsuc, ◌+ℤ◌, ◌*ℤ◌}
use Rattle.std.specs.Int.Signed.{lt_z, shr_z}
use Rattle.surface.specs.Plot.{Plot, posts, height}
use Rattle.order.specs.Ties.{Stands, tie_place}
use Rattle.rings.specs.declared.border.Borders.{Borders}
use Rattle.rings.specs.declared.corner.Corners.{Corners}
use Rattle.keys.specs.declared.Block.{Block}

abbrev pub key_by : ℤ → ℕ → ℤ
key_by height place = height *ℤ pos 2048 +ℤ pos place

abbrev pub key_of : Plot → ℕ → ℕ → ℤ
key_of pl p q = key_by (height pl q) (tie_place pl.columns p q)

-- a key is not below that of the lowest height and place 0
abbrev pub is_key : ℤ → Bool
is_key k = not (lt_z k (negsuc 2047999999))

-- the number, among the nine, of the post that a key tells: its last eight binary digits
unfoldable pub number_in : ℤ → ℕ
number_in (pos n) = n % 256
number_in (negsuc n) = 255 - n % 256

-- the height that a key tells
abbrev pub height_in : ℤ → ℤ
height_in k = shr_z k 2048

-- there is a post so many rows and columns after the first of the nine round p
pub record There (pl : Plot) (p down along : ℕ) : Type 0 where
  pub q : ℕ
  pub post : q < posts pl
  pub stands : Stands pl.columns p q down along
  pub in_rows : down ≤ 2
  pub in_columns : along ≤ 2

-- a post on no border
abbrev pub inside : Borders
inside = record { top = false; bottom = false; left = false; right = false }

-- the corners whose cell is there
abbrev pub cells : Borders → Corners
cells at =
    record {
      ne = not at.top && not at.right;
      se = not at.right && not at.bottom;
      sw = not at.bottom && not at.left;
      nw = not at.left && not at.top;
    }

-- the keys of p and of the posts round it; where there is no post, p's own
abbrev pub block_of : (ℕ → ℤ) → ℕ → ℕ → Borders → Block
block_of key columns p at =
    record {
      post = key p;
      n = key (cond (not at.top) (p - columns) p);
      ne = key (cond (cells at).ne (p - (columns - 1)) p);
      e = key (cond (not at.right) (p + 1) p);
      se = key (cond (cells at).se (p + (columns + 1)) p);
      s = key (cond (not at.bottom) (p + columns) p);
      sw = key (cond (cells at).sw (p + (columns - 1)) p);
      w = key (cond (not at.left) (p - 1) p);
      nw = key (cond (cells at).nw (p - (columns + 1)) p);
    }

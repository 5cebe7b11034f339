-- Where a post stands: on which of the four borders, and which corners share an edge with it.
use Rattle.std.specs.Prelude.{ℕ, ◌+◌, ◌-◌, ◌*◌, ◌<◌, ◌≤◌, ◌≡◌, Bool, true, false, not, ◌&&◌}
use Rattle.surface.specs.Edges.{top, bottom, left, right}
use Rattle.rings.specs.declared.border.Borders.{Borders}
use Rattle.rings.specs.declared.corner.Corners.{Corners}

abbrev pub borders_of : ℕ → ℕ → ℕ → Borders
borders_of rows columns p = record { top = top columns p; bottom = bottom rows columns p; left = left columns p; right = right columns p }

abbrev pub corners_of : ℕ → ℕ → (ℕ → Bool) → ℕ → Corners
corners_of rows columns falls p =
    let t = top columns p in
    let b = bottom rows columns p in
    let l = left columns p in
    let r = right columns p in
    record {
      ne = not t && (not r && not (falls (p - columns)));
      se = not r && (not b && falls p);
      sw = not b && (not l && not (falls (p - 1)));
      nw = not l && (not t && falls (p - columns - 1));
    }

-- p is a post, and each neighbour that is there is one too
pub record Neighbours (rows columns p : ℕ) (at : Borders) (joined : Corners) : Type 0 where
  pub post : p < rows * columns
  pub north : not at.top ≡ true → columns ≤ p
  pub north_east : joined.ne ≡ true → columns ≤ p
  pub east : not at.right ≡ true → p + 1 < rows * columns
  pub south_east : joined.se ≡ true → p + columns + 1 < rows * columns
  pub south : not at.bottom ≡ true → p + columns < rows * columns
  pub south_west : joined.sw ≡ true → p + columns < rows * columns
  pub west : not at.left ≡ true → 1 ≤ p
  pub north_west : joined.nw ≡ true → columns + 1 ≤ p

-- the cell d numbers before p: its four posts are there, and the first two of them stand in one row
pub record Cell (rows columns p d : ℕ) : Type 0 where
  pub from : d ≤ p
  pub posts : p - d + columns + 1 < rows * columns
  pub inner : right columns (p - d) ≡ false

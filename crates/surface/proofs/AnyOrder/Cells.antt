-- Cells of a plot, their corners, and the cells round a post.
use Prim.Native.Nat.{ℕ, ◌+◌, ◌-◌, ◌*◌, ◌≤◌, ◌<◌}
use mathlib.Core.Path.{◌≡◌, refl, sym, ◌∙◌}
use mathlib.Core.Bool.{false, not, and-eq-true_iff}
use native.Mathlib.Omega.{arith}
use lib.Dec.{T}
use borrow.Author.Tests.{not-true}
use Rattle.surface.specs.Plot.{row, column, Sides}
use Rattle.surface.specs.Edges.{top, bottom, left, right, is_cell, Corner, nw, ne, sw, se, corner}
use Rattle.surface.proofs.AnyOrder.Grid.{row-south, column-south, row-east, column-east, north-south, not_left, south-post, east-post, south-right, north-bottom, north-left, north-right, west-bottom, west-right}
use Rattle.surface.proofs.General.Bools.{T_true}

-- a cell of the plot
pub record Cell (rows columns a : ℕ) : Type 0 where
  pub in_plot : a < rows * columns
  pub not_right : right columns a ≡ false
  pub not_bottom : bottom rows columns a ≡ false

-- p is corner i of the cell a
pub record CornerOf (rows columns a : ℕ) (i : Corner) (p : ℕ) : Type 0 where
  pub cell : Cell rows columns a
  pub here : p ≡ corner columns a i

pub cell-of : (rows columns a : ℕ) → a < rows * columns → T (is_cell rows columns a) → Cell rows columns a
cell-of rows columns a h t =
    let k = (and-eq-true_iff (not (right columns a)) (not (bottom rows columns a))).0 (T_true (is_cell rows columns a) t) in
    record { in_plot = h; not_right = not-true (right columns a) k.0; not_bottom = not-true (bottom rows columns a) k.1 }

-- q is at most one row below a and one column after it
pub record Within (columns a q : ℕ) : Type 0 where
  pub row_from : row columns a ≤ row columns q
  pub row_to : row columns q ≤ row columns a + 1
  pub column_from : column columns a ≤ column columns q
  pub column_to : column columns q ≤ column columns a + 1

module _ {rows columns : ℕ} (s : Sides rows columns) where
  -- the corners of a cell are posts
  pub corner-post : {a : ℕ} → Cell rows columns a → (i : Corner) → corner columns a i < rows * columns
  corner-post {a} c nw = c.in_plot
  corner-post {a} c ne = east-post s a c.in_plot c.not_right
  corner-post {a} c sw = south-post s a c.in_plot c.not_bottom
  corner-post {a} c se = east-post s (a + columns) (south-post s a c.in_plot c.not_bottom) (south-right s a ∙ c.not_right)

  pub corner-within : {a : ℕ} → Cell rows columns a → (i : Corner) → Within columns a (corner columns a i)
  corner-within c nw = omega arith
  corner-within {a} c ne = omega (arith, row-east s a c.not_right, column-east s a c.not_right)
  corner-within {a} c sw = omega (arith, row-south s a, column-south s a)
  corner-within {a} c se =
      let l = south-right s a ∙ c.not_right in
      omega (arith, row-south s a, column-south s a, row-east s (a + columns) l, column-east s (a + columns) l)

  -- the cells round a post p, where they are there
  module _ (p : ℕ) (h : p < rows * columns) where
    pub cell-ne : top columns p ≡ false → right columns p ≡ false → CornerOf rows columns (p - columns) sw p
    cell-ne t l =
        record {
          cell = record { in_plot = omega arith; not_right = north-right s p t ∙ l; not_bottom = north-bottom s p h t };
          here = sym (north-south s p t);
        }

    pub cell-se : right columns p ≡ false → bottom rows columns p ≡ false → CornerOf rows columns p nw p
    cell-se l b = record { cell = record { in_plot = h; not_right = l; not_bottom = b }; here = refl }

    pub cell-sw : bottom rows columns p ≡ false → left columns p ≡ false → CornerOf rows columns (p - 1) ne p
    cell-sw b f =
        record {
          cell = record { in_plot = omega arith; not_right = west-right s p f; not_bottom = west-bottom s p f ∙ b };
          here = omega (arith, not_left s p f);
        }

    pub cell-nw : left columns p ≡ false → top columns p ≡ false → CornerOf rows columns (p - columns - 1) se p
    cell-nw f t =
        let k : left columns (p - columns) ≡ false = north-left s p t ∙ f in
        record {
          cell =
              record {
                in_plot = omega arith;
                not_right = west-right s (p - columns) k;
                not_bottom = west-bottom s (p - columns) k ∙ north-bottom s p h t;
              };
          here = omega (arith, not_left s (p - columns) k, north-south s p t);
        }

-- The posts of a row that are on no border, and those that are on one.
use Prim.Native.Nat.{ℕ, ◌+◌, ◌*◌, ◌≤◌, ◌<◌}
use native.Mathlib.Omega.{arith}
use native.Mathlib.Nat.{mul-le-mul_right, suc-mul, add-mul, one-mul}
use mathlib.Core.Path.{◌≡◌, refl, ap, ◌∙◌}
use mathlib.Core.Bool.{true, false, or-true}
use borrow.Author.Tests.{eq-eqb}
use Rattle.surface.specs.Plot.{row, column, Sides}
use Rattle.surface.specs.Edges.{is_border}
use Rattle.surface.proofs.AnyOrder.Grid.{row_is, column-is, top-false, bottom-false, left_false, right-false}
use Rattle.rings.specs.Rows.{Between}

module _ {rows columns base : ℕ} (s : Sides rows columns) (i : Between rows columns base) (c : ℕ) (low : 1 ≤ c) (high : c + 1 < columns) where
  at : column columns (base + c) ≡ c
  at = column-is s {q = base + c} i.r c (omega arith) (omega arith)

  pub between-border : is_border rows columns (base + c) ≡ false
  between-border =
      rw (
        (top-false s (base + c)).1 (omega arith),
        (right-false s (base + c)).1 (omega (arith, at)),
        (bottom-false s (base + c) (omega arith)).1 (omega arith),
        (left_false s (base + c)).1 (omega (arith, at)),
      )

-- row r of a plot
pub row-between : {rows columns : ℕ} (r : ℕ) → 1 ≤ r → r + 1 < rows → Between rows columns (r * columns)
row-between {rows} {columns} r h k =
    record {
      r = r;
      start = refl;
      under = omega (arith, mul-le-mul_right columns h, one-mul columns);
      above = omega (arith, mul-le-mul_right columns k, suc-mul (r + 1) columns, add-mul r 1 columns, one-mul columns);
    }

-- the posts of a row that are on one: all of the top and of the bottom row, and the first and the last of any
module _ {rows columns : ℕ} (s : Sides rows columns) (q r k : ℕ) (h : k < columns) (e : q ≡ r * columns + k) where
  pub top-border : r ≡ 0 → is_border rows columns q ≡ true
  top-border i = rw (eq-eqb (row columns q) 0 (row_is s r k h e ∙ i))

  pub bottom-border : r + 1 ≡ rows → is_border rows columns q ≡ true
  bottom-border i = let b = eq-eqb (row columns q + 1) rows (ap (λ (n : ℕ). n + 1) (row_is s r k h e) ∙ i) in simp (b, or-true)

  pub left-border : k ≡ 0 → is_border rows columns q ≡ true
  left-border i = let l = eq-eqb (column columns q) 0 (column-is s r k h e ∙ i) in simp (l, or-true)

  pub right-border : k + 1 ≡ columns → is_border rows columns q ≡ true
  right-border i = let l = eq-eqb (column columns q + 1) columns (ap (λ (n : ℕ). n + 1) (column-is s r k h e) ∙ i) in simp (l, or-true)

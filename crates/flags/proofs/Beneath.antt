-- The row below a row of posts, where it is there.
use Prim.Native.Nat.{ℕ, ◌+◌, ◌*◌, ◌≤◌, ◌<◌}
use native.Mathlib.Omega.{arith}
use native.Mathlib.Nat.{mul-le-mul_right, add-mul, one-mul}
use mathlib.Core.Path.{◌≡◌, refl}
use mathlib.Core.Bool.{true, false}
use Rattle.surface.specs.Plot.{Plot, posts, Sides, Valid}
use Rattle.surface.specs.Edges.{bottom}
use Rattle.surface.proofs.AnyOrder.Grid.{row_lt, row_is, bottom-false, bottom-true}
use Rattle.flags.specs.Rows.{RowOf}

pub row_of : (rows columns r : ℕ) → r < rows → RowOf rows columns (r * columns)
row_of rows columns r h =
    record { r = r; start = refl; room = omega (arith, mul-le-mul_right columns h, add-mul r 1 columns, one-mul columns) }

module _ {pl : Plot} (valid : Valid pl) {base : ℕ} (at : RowOf pl.rows pl.columns base) where
  s : Sides pl.rows pl.columns
  s = valid.sides

  pub row_below : base + pl.columns < posts pl → base + pl.columns + pl.columns ≤ posts pl
  row_below h =
      let k = pl.columns in
      let e : base + k ≡ (at.r + 1) * k = omega (arith, at.start, add-mul at.r 1 k, one-mul k) in
      let n : at.r + 1 < pl.rows =
      omega (arith, (row_lt s pl.rows ((at.r + 1) * k)).1 (omega arith), row_is s {q = (at.r + 1) * k} (at.r + 1) 0 (omega (arith, valid.sides)) (omega arith)) in
      omega (arith, mul-le-mul_right k n, add-mul (at.r + 1) 1 k, one-mul k)

  pub bottom-off : base + pl.columns < posts pl → (c : ℕ) → c < pl.columns → bottom pl.rows pl.columns (base + c) ≡ false
  bottom-off h c k = (bottom-false s (base + c) (omega (arith, at))).1 (omega (arith, row_below h))

  pub bottom-on : posts pl ≤ base + pl.columns → (c : ℕ) → c < pl.columns → bottom pl.rows pl.columns (base + c) ≡ true
  bottom-on h c k = (bottom-true s (base + c) (omega (arith, at))).1 (omega arith)

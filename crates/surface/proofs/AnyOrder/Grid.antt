-- Rows and columns of a post and of its neighbours.
use Prim.Native.Nat.{ℕ, ◌+◌, ◌-◌, ◌*◌, ◌≤◌, ◌<◌}
use mathlib.Core.Path.{◌≡◌, refl, sym, ap, ◌∙◌}
use mathlib.Core.Bool.{Bool, true, false, ◌&&◌, and-eq-true_iff}
use mathlib.Core.Logic.{◌↔◌, ⊎_elim}
use native.Mathlib.Nat.{div-add-mod', mod-lt, div-lt_iff_lt-mul, le-div_iff_mul-le, add-div_right, add-mod_right, mul-add-div_right, mul-add-mod_self_right, div-eq_of_lt, mod-eq_of_lt, mul-le-mul, mul-le-mul_right, two-mul, suc-mul, add-mul, one-mul}
use native.Mathlib.Omega.{arith}
use lib.Dec.{leb, eqb}
use borrow.Author.Tests.{leb-true, le-leb, eqb-true, eqb-false, eq-eqb, ne_eqb}
use Rattle.surface.specs.Plot.{max_side, is_side, row, column, virtual_pit, Vertex, Sides}
use Rattle.surface.specs.Edges.{top, bottom, left, right}
use Rattle.surface.proofs.General.Bools.{and_left, and_right}

-- the test of two sides, both ways
side-range : (n : ℕ) → is_side n ≡ true → (2 ≤ n) × (n ≤ max_side)
side-range n h = let k = (and-eq-true_iff (leb 2 n) (leb n max_side)).0 h in (leb-true 2 n k.0, leb-true n max_side k.1)

pub test-sides : (rows columns : ℕ) → is_side rows && is_side columns ≡ true → Sides rows columns
test-sides rows columns h =
    let r = side-range rows (and_left (is_side rows) (is_side columns) h) in
    let c = side-range columns (and_right (is_side rows) (is_side columns) h) in
    record { tall = r.0; low = r.1; wide = c.0; narrow = c.1; few = mul-le-mul r.1 c.1 }

pub sides-test : {rows columns : ℕ} → Sides rows columns → is_side rows && is_side columns ≡ true
sides-test {rows} {columns} s = rw (le-leb 2 rows s.tall, le-leb rows max_side s.low, le-leb 2 columns s.wide, le-leb columns max_side s.narrow)

-- a row's posts are posts of the plot
pub row_in : {rows : ℕ} (columns r : ℕ) → r < rows → r * columns + columns ≤ rows * columns
row_in columns r h = omega (arith, mul-le-mul_right columns h, suc-mul r columns)

-- post number = row times columns plus column
pub post_is : (columns p : ℕ) → row columns p * columns + column columns p ≡ p
post_is columns p = div-add-mod' p columns

module _ {rows columns : ℕ} (s : Sides rows columns) where
  -- no post has the number that is written for the virtual pit, and a vertex fits 16 bits
  pub plot-fits : rows * columns ≤ virtual_pit
  unfolding virtual_pit
  plot-fits = omega arith

  pub not-pit : {p : ℕ} → p < rows * columns → p ≡ virtual_pit → ⊥
  unfolding virtual_pit
  not-pit h e = omega arith

  pub vertex-low : {p : ℕ} → Vertex (rows * columns) p → p < 65536
  unfolding virtual_pit
  vertex-low {p} v = ⊎_elim (λ (h : p < rows * columns). omega arith) (λ (h : p ≡ virtual_pit). omega arith) v

  some-column : 0 < columns
  some-column = omega arith

  pub column-lt : (p : ℕ) → column columns p < columns
  column-lt p = mod-lt p some-column

  -- no other row and column give the same post number
  pub row_is : {q : ℕ} (r k : ℕ) → k < columns → q ≡ r * columns + k → row columns q ≡ r
  row_is r k h e = rw e (mul-add-div_right some-column r k ∙ omega (arith, div-eq_of_lt h))

  pub column-is : {q : ℕ} (r k : ℕ) → k < columns → q ≡ r * columns + k → column columns q ≡ k
  column-is r k h e = rw e (mul-add-mod_self_right r columns k ∙ mod-eq_of_lt h)

  -- the posts of the first n rows; with n = rows, those of the plot
  pub row_lt : (n p : ℕ) → row columns p < n ↔ p < n * columns
  row_lt n p = div-lt_iff_lt-mul some-column

  pub row_ge : (n p : ℕ) → n ≤ row columns p ↔ n * columns ≤ p
  row_ge n p = le-div_iff_mul-le some-column

  -- south
  pub row-south : (p : ℕ) → row columns (p + columns) ≡ row columns p + 1
  row-south p = add-div_right p some-column

  pub column-south : (p : ℕ) → column columns (p + columns) ≡ column columns p
  column-south p = add-mod_right p columns

  -- the four borders as orders of numbers, both ways
  pub top-true : (p : ℕ) → top columns p ≡ true ↔ p < columns
  top-true p = (
    λ e. omega (arith, (row_lt 1 p).0 (omega (arith, eqb-true (row columns p) 0 e))),
    λ h. eq-eqb (row columns p) 0 (omega (arith, (row_lt 1 p).1 (omega arith))),
  )

  pub top-false : (p : ℕ) → top columns p ≡ false ↔ columns ≤ p
  top-false p = (
    λ e. omega (arith, (row_ge 1 p).0 (omega (arith, eqb-false (row columns p) 0 e))),
    λ h. ne_eqb (row columns p) 0 (omega (arith, (row_ge 1 p).1 (omega arith))),
  )

  pub bottom-true : (p : ℕ) → p < rows * columns → bottom rows columns p ≡ true ↔ rows * columns ≤ p + columns
  bottom-true p h = (
    λ e. (row_ge rows (p + columns)).0 (omega (arith, row-south p, eqb-true (row columns p + 1) rows e)),
    λ k. eq-eqb (row columns p + 1) rows (omega (arith, row-south p, (row_lt rows p).1 h, (row_ge rows (p + columns)).1 k)),
  )

  pub bottom-false : (p : ℕ) → p < rows * columns → bottom rows columns p ≡ false ↔ p + columns < rows * columns
  bottom-false p h = (
    λ e. (row_lt rows (p + columns)).0 (omega (arith, row-south p, (row_lt rows p).1 h, eqb-false (row columns p + 1) rows e)),
    λ k. ne_eqb (row columns p + 1) rows (omega (arith, row-south p, (row_lt rows (p + columns)).1 k)),
  )

  pub left-true : (p : ℕ) → left columns p ≡ true ↔ column columns p ≡ 0
  left-true p = (eqb-true (column columns p) 0, eq-eqb (column columns p) 0)

  pub left_false : (p : ℕ) → left columns p ≡ false ↔ 1 ≤ column columns p
  left_false p = (λ e. omega (arith, eqb-false (column columns p) 0 e), λ h. ne_eqb (column columns p) 0 (omega arith))

  pub right-true : (p : ℕ) → right columns p ≡ true ↔ column columns p + 1 ≡ columns
  right-true p = (eqb-true (column columns p + 1) columns, eq-eqb (column columns p + 1) columns)

  pub right-false : (p : ℕ) → right columns p ≡ false ↔ column columns p + 1 < columns
  right-false p = (
    λ e. omega (arith, eqb-false (column columns p + 1) columns e, column-lt p),
    λ h. ne_eqb (column columns p + 1) columns (omega arith),
  )

  -- a post that is not in the first column is not post 0
  pub not_left : (p : ℕ) → left columns p ≡ false → 1 ≤ p
  not_left p f = omega (arith, post_is columns p, (left_false p).0 f)

  -- a post is not on two borders that face each other
  pub top-bottom : (p : ℕ) → top columns p ≡ true → bottom rows columns p ≡ false
  top-bottom p t = ne_eqb (row columns p + 1) rows (omega (arith, eqb-true (row columns p) 0 t))

  pub bottom-top : (p : ℕ) → bottom rows columns p ≡ true → top columns p ≡ false
  bottom-top p b = ne_eqb (row columns p) 0 (omega (arith, eqb-true (row columns p + 1) rows b))

  pub left-right : (p : ℕ) → left columns p ≡ true → right columns p ≡ false
  left-right p f = ne_eqb (column columns p + 1) columns (omega (arith, (left-true p).0 f))

  pub right-left : (p : ℕ) → right columns p ≡ true → left columns p ≡ false
  right-left p l = ne_eqb (column columns p) 0 (omega (arith, (right-true p).0 l))

  -- east
  pub row-east : (p : ℕ) → right columns p ≡ false → row columns (p + 1) ≡ row columns p
  row-east p l = row_is (row columns p) (column columns p + 1) ((right-false p).0 l) (omega (arith, post_is columns p))

  pub column-east : (p : ℕ) → right columns p ≡ false → column columns (p + 1) ≡ column columns p + 1
  column-east p l = column-is (row columns p) (column columns p + 1) ((right-false p).0 l) (omega (arith, post_is columns p))

  -- north
  pub north-south : (p : ℕ) → top columns p ≡ false → p - columns + columns ≡ p
  north-south p t = omega (arith, (top-false p).0 t)

  pub row-north : (p : ℕ) → top columns p ≡ false → row columns (p - columns) + 1 ≡ row columns p
  row-north p t = sym (row-south (p - columns)) ∙ ap (row columns) (north-south p t)

  pub column-north : (p : ℕ) → top columns p ≡ false → column columns (p - columns) ≡ column columns p
  column-north p t = sym (column-south (p - columns)) ∙ ap (column columns) (north-south p t)

  -- west
  pub row-west : (p : ℕ) → left columns p ≡ false → row columns (p - 1) ≡ row columns p
  row-west p f =
      row_is (row columns p) (column columns p - 1) (omega (arith, column-lt p)) (omega (arith, post_is columns p, (left_false p).0 f))

  pub column-west : (p : ℕ) → left columns p ≡ false → column columns (p - 1) + 1 ≡ column columns p
  column-west p f =
      let e : column columns (p - 1) ≡ column columns p - 1 =
      column-is (row columns p) (column columns p - 1) (omega (arith, column-lt p)) (omega (arith, post_is columns p, (left_false p).0 f))
      in
      omega (arith, (left_false p).0 f)

  -- the borders of p's neighbours
  pub south-top : (p : ℕ) → top columns (p + columns) ≡ false
  south-top p = (top-false (p + columns)).1 (omega arith)

  pub south-left : (p : ℕ) → left columns (p + columns) ≡ left columns p
  south-left p = ap (λ k. eqb k 0) (column-south p)

  pub south-right : (p : ℕ) → right columns (p + columns) ≡ right columns p
  south-right p = ap (λ k. eqb (k + 1) columns) (column-south p)

  pub east-top : (p : ℕ) → right columns p ≡ false → top columns (p + 1) ≡ top columns p
  east-top p l = ap (λ r. eqb r 0) (row-east p l)

  pub east-bottom : (p : ℕ) → right columns p ≡ false → bottom rows columns (p + 1) ≡ bottom rows columns p
  east-bottom p l = ap (λ r. eqb (r + 1) rows) (row-east p l)

  pub east-left : (p : ℕ) → right columns p ≡ false → left columns (p + 1) ≡ false
  east-left p l = (left_false (p + 1)).1 (omega (arith, column-east p l))

  pub north-bottom : (p : ℕ) → p < rows * columns → top columns p ≡ false → bottom rows columns (p - columns) ≡ false
  north-bottom p h t = ne_eqb (row columns (p - columns) + 1) rows (omega (arith, row-north p t, (row_lt rows p).1 h))

  pub north-left : (p : ℕ) → top columns p ≡ false → left columns (p - columns) ≡ left columns p
  north-left p t = ap (λ k. eqb k 0) (column-north p t)

  pub north-right : (p : ℕ) → top columns p ≡ false → right columns (p - columns) ≡ right columns p
  north-right p t = ap (λ k. eqb (k + 1) columns) (column-north p t)

  pub west-bottom : (p : ℕ) → left columns p ≡ false → bottom rows columns (p - 1) ≡ bottom rows columns p
  west-bottom p f = ap (λ r. eqb (r + 1) rows) (row-west p f)

  pub west-right : (p : ℕ) → left columns p ≡ false → right columns (p - 1) ≡ false
  west-right p f = (right-false (p - 1)).1 (omega (arith, column-west p f, column-lt p))

  -- p's neighbours are posts of the plot
  pub south-post : (p : ℕ) → p < rows * columns → bottom rows columns p ≡ false → p + columns < rows * columns
  south-post p h b = (bottom-false p h).0 b

  pub east-post : (p : ℕ) → p < rows * columns → right columns p ≡ false → p + 1 < rows * columns
  east-post p h l = (row_lt rows (p + 1)).0 (omega (arith, row-east p l, (row_lt rows p).1 h))

  -- the column after the last is the first one of the next row
  pub east-left-right : (p : ℕ) → left columns (p + 1) ≡ right columns p
  east-left-right p = go (right columns p) refl
    where
      go : (b : Bool) → right columns p ≡ b → left columns (p + 1) ≡ b
      go true l =
          (left-true (p + 1)).1
          (column-is (row columns p + 1) 0 some-column (omega (arith, post_is columns p, (right-true p).0 l, add-mul (row columns p) 1 columns, one-mul columns)))
      go false l = east-left p l

  -- the first post and the last
  pub left-zero : (p : ℕ) → p < 1 → left columns p ≡ true
  left-zero p h = (left-true p).1 (rw (mod-eq_of_lt {n = p} {m = columns} (omega arith)) (omega arith))

  pub right_end : (p : ℕ) → p < rows * columns → rows * columns ≤ p + 1 → right columns p ≡ true
  right_end p h k = go (right columns p) refl
    where
      go : (b : Bool) → right columns p ≡ b → b ≡ true
      go true l = refl
      go false l = absurd (omega (arith, east-post p h l))

  pub left-south : (p : ℕ) → p ≡ columns → left columns p ≡ true
  left-south p e = (left-true p).1 (column-is 1 0 some-column (omega (arith, one-mul columns)))

  pub row_fits : columns + columns ≤ rows * columns
  row_fits = omega (arith, mul-le-mul_right columns s.tall, two-mul columns)

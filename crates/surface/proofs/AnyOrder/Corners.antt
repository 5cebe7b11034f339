-- Corner sums: τ v q r is what the triangle of v, q and r counts at its corner v. What all posts count round their rings, triangle by triangle, is what the two
-- triangles of each cell count at their three corners, and those of a border edge and the virtual pit at the edge's two ends.
use Prim.Native.Nat.{ℕ, ◌+◌, ◌-◌, ◌*◌, ◌≤◌, ◌<◌}
use native.Mathlib.Omega.{arith}
use mathlib.Core.Path.{◌≡◌, refl, sym, ◌∙◌}
use mathlib.Core.Bool.{Bool, true, false, cond, not, ◌&&◌, ◌||◌, and-true, and-false}
use Rattle.surface.specs.Plot.{virtual_pit, Sides}
use Rattle.surface.specs.Edges.{top, bottom, left, right, is_cell, ring}
use Rattle.surface.proofs.General.Bools.{either}
use Rattle.surface.proofs.General.Sum.{sum, sum-ext, sum-shift, sum-eight}
use Rattle.surface.proofs.General.Circles.{round}
use Rattle.surface.proofs.AnyOrder.Grid.{top-true, top-false, bottom-true, bottom-false, south-top, south-left, south-right, east-top, east-bottom, row_fits, left-zero, right_end, east-left-right, left-south}
use Rattle.surface.proofs.AnyOrder.RingSums.{when, quarter, to_ne, to_se, to_sw, to_nw, to_e, to_w, to_s, to_n, ring-sum}

module _ (τ : ℕ → ℕ → ℕ → ℕ) where
  -- a triangle, and one of a border edge and the virtual pit, which is no post and counts nothing
  abbrev pub triangle : ℕ → ℕ → ℕ → ℕ
  triangle a b c = τ a b c + τ b c a + τ c a b

  abbrev pub border_edge : ℕ → ℕ → ℕ
  border_edge a b = τ a b virtual_pit + τ b a virtual_pit

  -- the two triangles of the cell a, whose diagonal falls or not
  abbrev pub cell : ℕ → Bool → ℕ → ℕ
  cell columns fall a =
      cond fall (triangle a (a + 1) (a + columns + 1) + triangle a (a + columns + 1) (a + columns))
      (triangle a (a + 1) (a + columns) + triangle (a + 1) (a + columns + 1) (a + columns))

  -- the cell a, and the border edges from a to the east and to the south
  abbrev pub from_post : ℕ → ℕ → (ℕ → Bool) → ℕ → ℕ
  from_post rows columns falls a =
      when (is_cell rows columns a) (cell columns (falls a) a)
      + when (not (right columns a) && (top columns a || bottom rows columns a)) (border_edge a (a + 1))
      + when (not (bottom rows columns a) && (left columns a || right columns a)) (border_edge a (a + columns))

module _ {rows columns : ℕ} (s : Sides rows columns) (falls : ℕ → Bool) (τ : ℕ → ℕ → ℕ → ℕ) where
  abbrev n : ℕ
  n = rows * columns

  -- What a post p counts in one direction is moved to the cell or the border edge there: `at to_x p` is what p counts, `ofX a` the same at the corner of the
  -- cell a, or the end of the edge from a, that p is.
  abbrev at : (ℕ → ℕ → (ℕ → Bool) → (ℕ → ℕ → ℕ) → ℕ → ℕ) → ℕ → ℕ
  at term p = term rows columns falls (τ p) p

  abbrev of_sw : ℕ → ℕ
  of_sw a = when (is_cell rows columns a) (quarter (τ (a + columns)) (not (falls a)) a (a + 1) (a + columns + 1))

  abbrev of_ne : ℕ → ℕ
  of_ne a = when (is_cell rows columns a) (quarter (τ (a + 1)) (not (falls a)) (a + columns + 1) (a + columns) a)

  abbrev of_se : ℕ → ℕ
  of_se a = when (is_cell rows columns a) (quarter (τ (a + columns + 1)) (falls a) (a + columns) a (a + 1))

  abbrev of_w : ℕ → ℕ
  of_w a = when (not (right columns a) && (top columns a || bottom rows columns a)) (τ (a + 1) a virtual_pit)

  abbrev of_n : ℕ → ℕ
  of_n a = when (not (bottom rows columns a) && (left columns a || right columns a)) (τ (a + columns) a virtual_pit)

  south : (a : ℕ) → a + columns < n → bottom rows columns a ≡ false
  south a h = (bottom-false s a (omega arith)).1 h

  back : (a k : ℕ) → a + k - k ≡ a
  back a k = omega arith

  -- p is at the bottom left of the cell to its north east
  sum-NE : sum n (at to_ne) ≡ sum n of_sw
  sum-NE =
      sum-shift n columns (at to_ne) of_sw (omega (arith, row_fits s))
      (λ a h. rw (south-top s a, south-right s a, south a h, and-true (not (right columns a)), back a columns))
      (λ p h. rw ((top-true s p).1 h))
      (λ a h k. rw ((bottom-true s a h).1 k, and-false (not (right columns a))))

  -- p is at the top right of the cell to its south west
  sum-SW : sum n (at to_sw) ≡ sum n of_ne
  sum-SW =
      sum-shift n 1 (at to_sw) of_ne (omega (arith, row_fits s))
      (λ a h.
      let i : a + 1 + columns ≡ a + columns + 1 = omega arith in
      either (right columns a) (λ e. rw (east-left-right s a, e, and-false (not (bottom rows columns (a + 1)))))
      (λ e. rw (east-left-right s a, east-bottom s a e, e, and-true (not (bottom rows columns a)), i, back (a + columns) 1, back a 1)))
      (λ p h. rw (left-zero s p h, and-false (not (bottom rows columns p))))
      (λ a h k. rw (right_end s a h k))

  -- p is at the bottom right of the cell to its north west
  sum-NW : sum n (at to_nw) ≡ sum n of_se
  sum-NW = sum-shift n (columns + 1) (at to_nw) of_se (omega (arith, row_fits s)) moved low high
    where
      moved : (a : ℕ) → a + (columns + 1) < n → at to_nw (a + (columns + 1)) ≡ of_se a
      moved a h =
          let i : a + (columns + 1) ≡ a + columns + 1 = omega arith in
          let j : a + columns + 1 - columns ≡ a + 1 = omega arith in
          let k : top columns (a + columns + 1) ≡ false = (top-false s (a + columns + 1)).1 (omega arith) in
          rw (i, east-left-right s (a + columns), south-right s a, k, j, back (a + columns) 1, back a 1, south a (omega arith))

      low : (p : ℕ) → p < columns + 1 → at to_nw p ≡ 0
      low p h =
          either (top columns p) (λ e. rw (e, and-false (not (left columns p)))) (λ e. rw (left-south s p (omega (arith, (top-false s p).0 e))))

      high : (a : ℕ) → a < n → n ≤ a + (columns + 1) → of_se a ≡ 0
      high a h k =
          either (bottom rows columns a) (λ e. rw (e, and-false (not (right columns a))))
          (λ e. rw (← (south-right s a), right_end s (a + columns) ((bottom-false s a h).0 e) (omega arith)))

  -- p is at the right end of the border edge to its west, at the bottom end of that to its north
  sum-W : sum n (at to_w) ≡ sum n of_w
  sum-W =
      sum-shift n 1 (at to_w) of_w (omega (arith, row_fits s))
      (λ a h. either (right columns a) (λ e. rw (east-left-right s a, e)) (λ e. rw (east-left-right s a, e, east-top s a e, east-bottom s a e, back a 1)))
      (λ p h. rw (left-zero s p h))
      (λ a h k. rw (right_end s a h k))

  sum-N : sum n (at to_n) ≡ sum n of_n
  sum-N =
      sum-shift n columns (at to_n) of_n (omega (arith, row_fits s))
      (λ a h. rw (south-top s a, south-left s a, south-right s a, south a h, back a columns))
      (λ p h. rw ((top-true s p).1 h))
      (λ a h k. rw ((bottom-true s a h).1 k))

  gathered : (a : ℕ) → of_sw a + at to_se a + of_ne a + of_se a + (at to_e a + of_w a) + (at to_s a + of_n a) ≡ from_post τ rows columns falls a
  gathered a =
      omega (
        arith,
        cells (is_cell rows columns a) (falls a),
        edges (not (right columns a) && (top columns a || bottom rows columns a)) (τ a (a + 1) virtual_pit) (τ (a + 1) a virtual_pit),
        edges (not (bottom rows columns a) && (left columns a || right columns a)) (τ a (a + columns) virtual_pit) (τ (a + columns) a virtual_pit),
      )
    where
      cells : (i f : Bool)
          → when i (quarter (τ (a + columns)) (not f) a (a + 1) (a + columns + 1)) + when i (quarter (τ a) f (a + 1) (a + columns + 1) (a + columns))
          + when i (quarter (τ (a + 1)) (not f) (a + columns + 1) (a + columns) a)
          + when i (quarter (τ (a + columns + 1)) f (a + columns) a (a + 1))
          ≡ when i (cell τ columns f a)
      cells true true = omega arith
      cells true false = omega arith
      cells false f = refl

      edges : (i : Bool) (x y : ℕ) → when i x + when i y ≡ when i (x + y)
      edges true x y = refl
      edges false x y = refl

  pub corners-sum : ((v q r : ℕ) → τ v q r ≡ τ v r q) → sum n (λ p. round (τ p) (ring rows columns falls p)) ≡ sum n (from_post τ rows columns falls)
  corners-sum turned =
      sum-ext n _ _ (λ p _. ring-sum (τ p) (turned p) s falls p)
      ∙ sum-eight n (at to_ne) (at to_se) (at to_sw) (at to_nw) (at to_e) (at to_w) (at to_s) (at to_n)
      ∙ omega (arith, sum-NE, sum-SW, sum-NW, sum-W, sum-N)
      ∙ sym (sum-eight n of_sw (at to_se) of_ne of_se (at to_e) of_w (at to_s) of_n)
      ∙ sum-ext n _ _ (λ a _. gathered a)

-- Places among the nine posts round a post p: they tell the order as driven, and their numbers tell the posts.
use Prim.Native.Nat.{ℕ, zero, suc, ◌+◌, ◌-◌, ◌*◌, ◌≤◌, ◌<◌}
use native.Mathlib.Omega.{arith}
use native.Mathlib.Nat.{add-mul, one-mul, mul-le-mul_right, le_refl}
use native.Mathlib.Decide.{ℕ_discrete}
use mathlib.Core.Path.{◌≡◌, sym, ap, ◌∙◌}
use mathlib.Core.Bool.{Bool, true, false, cond, not, true≢false}
use lib.Dec.{ltb, eqb}
use borrow.Author.Tests.{ltb-true, ltb-false, lt-ltb, le-ltb}
use Rattle.surface.specs.Plot.{row, column, directed, is_odd, driven_before, Sides}
use Rattle.surface.specs.Lists.{flipped}
use Rattle.surface.proofs.General.Bools.{either, not-not}
use Rattle.surface.proofs.AnyOrder.Grid.{post_is, column-lt, row_ge}
use Rattle.surface.proofs.OfPlots.Driven.{driven-strict, odd-next, rows-turned, row-driven}
use Rattle.order.specs.Ties.{Near, Stands, tie_place, place_at}

-- a row more is as many posts more as there are columns
more : (columns r : ℕ) → (r + 1) * columns ≡ r * columns + columns
more columns r = add-mul r 1 columns ∙ rw (one-mul columns)

-- what orders places: rows, then turns, then numbers
row_first : (d e k l m n : ℕ) → d < e → k ≤ 2 → m < n → 256 * (2 * d + k) + m < 256 * (2 * e + l) + n
row_first d e k l m n h i j = omega arith

turn-first : (d k l m n : ℕ) → k < l → m < 256 → 256 * (2 * d + k) + m < 256 * (2 * d + l) + n
turn-first d k l m n h i = omega arith

last : (t m n : ℕ) → m < n → t + m < t + n
last t m n h = omega arith

pub stands-near : {columns p q down along : ℕ} → Stands columns p q down along → down ≤ 2 → along ≤ 2 → Near columns p q
stands-near t d a = record { north = omega (arith, t.in_row); south = omega (arith, t.in_row); west = omega (arith, t.in_column); east = omega (arith, t.in_column) }

-- numbers, by rows and columns
pub numbered : (columns : ℕ) (p q down along : ℕ) → Stands columns p q down along → down ≤ 2 → q + columns + 1 ≡ p + (down * columns + along)
numbered columns p q zero along t d =
    let e : row columns p ≡ row columns q + 1 = omega (arith, t.in_row) in
    omega (arith, post_is columns q, rw e at (post_is columns p), more columns (row columns q), t.in_column)
numbered columns p q (suc zero) along t d =
    let e : row columns p ≡ row columns q = omega (arith, t.in_row) in
    omega (arith, post_is columns q, rw e at (post_is columns p), t.in_column)
numbered columns p q (suc (suc zero)) along t d =
    let e : row columns q ≡ row columns p + 1 = omega (arith, t.in_row) in
    omega (arith, post_is columns p, rw e at (post_is columns q), more columns (row columns p), t.in_column)
numbered columns p q (suc (suc (suc n))) along t d = absurd (omega arith)

-- the parity of its row
parity : (r r' down : ℕ) → r' + 1 ≡ r + down → down ≤ 2 → is_odd r' ≡ flipped (not (eqb down 1)) (is_odd r)
parity r r' zero e d = let f : r ≡ r' + 1 = omega arith in rw (f, odd-next r') (sym (not-not (is_odd r')))
parity r r' (suc zero) e d = let f : r' ≡ r = omega arith in rw f
parity r r' (suc (suc zero)) e d = let f : r' ≡ r + 1 = omega arith in rw f (odd-next r)
parity r r' (suc (suc (suc n))) e d = absurd (omega arith)

pub place-stands : {columns p q down along : ℕ} → Stands columns p q down along → down ≤ 2 → along ≤ 2
    → tie_place columns p q ≡ place_at columns (is_odd (row columns p)) down along
place-stands {columns} {p} {q} {down} {along} t d a =
    let n : q + columns + 1 - p ≡ down * columns + along = omega (arith, numbered columns p q down along t d) in
    let r : row columns q + 1 - row columns p ≡ down = omega (arith, t.in_row) in
    let k : column columns p + 1 - column columns q ≡ 2 - along = omega (arith, t.in_column) in
    rw (n, r, k, parity (row columns p) (row columns q) down t.in_row d)

module _ {rows columns : ℕ} (s : Sides rows columns) (p : ℕ) where
  -- where one of the nine stands
  stands : (q : ℕ) → Near columns p q → Stands columns p q (row columns q + 1 - row columns p) (column columns q + 1 - column columns p)
  stands q n = record { in_row = omega (arith, n.north); in_column = omega (arith, n.west) }

  -- its number is below 256, and tells it
  pub record Numbered (q : ℕ) : Type 0 where
    pub placed : columns + 1 ≤ p + (q + columns + 1 - p)
    pub post : p + (q + columns + 1 - p) - (columns + 1) ≡ q
    pub small : q + columns + 1 - p < 256

  pub number-tells : (q : ℕ) → Near columns p q → Numbered q
  number-tells q n =
      let down = row columns q + 1 - row columns p in
      let d : down ≤ 2 = omega (arith, n.south) in
      let e = numbered columns p q down (column columns q + 1 - column columns p) (stands q n) d in
      record {
        placed = omega (arith, e);
        post = omega (arith, e);
        small = omega (arith, e, mul-le-mul_right columns d, n.east, s.narrow);
      }

  -- a place is below 2,048
  pub place-small : (q : ℕ) → Near columns p q → tie_place columns p q < 2048
  place-small q n = go (is_odd (row columns q))
    where
      go : (b : Bool) → 256 * (2 * (row columns q + 1 - row columns p) + cond b (column columns p + 1 - column columns q) 0) + (q + columns + 1 - p) < 2048
      go true = omega (arith, (number-tells q n).small, n)
      go false = omega (arith, (number-tells q n).small, n)

  -- turns for a column are two at most
  back : (a : Bool) (q : ℕ) → Near columns p q → cond a (column columns p + 1 - column columns q) 0 ≤ 2
  back true q n = omega (arith, n.west)
  back false q n = omega arith

  module _ (q r : ℕ) (n : Near columns p q) (m : Near columns p r) where
    number-less : q < r → q + columns + 1 - p < r + columns + 1 - p
    number-less h = omega (arith, (number-tells q n).post)

    -- in a lower row
    lower-row : row columns q < row columns r → tie_place columns p q < tie_place columns p r
    lower-row h = row_first _ _ _ _ _ _ (omega (arith, m.north, n.north)) (back (is_odd (row columns q)) q n) (number-less less)
      where
        less : q < r
        less =
            let k = (row_ge s (row columns q + 1) r).0 (omega arith) in
            omega (arith, more columns (row columns q), post_is columns q, column-lt s q)

    -- in one row, before the other as it is driven
    same_row : row columns q ≡ row columns r → directed (is_odd (row columns q)) ltb q r ≡ true → tie_place columns p q < tie_place columns p r
    same_row e h = rw (sym e) (go (is_odd (row columns q)) h)
      where
        beside : r < q → column columns p + 1 - column columns q < column columns p + 1 - column columns r
        beside k = omega (arith, post_is columns q, rw (sym e) at (post_is columns r), n.east)

        go : (b : Bool) → directed b ltb q r ≡ true
            → 256 * (2 * (row columns q + 1 - row columns p) + cond b (column columns p + 1 - column columns q) 0) + (q + columns + 1 - p)
            < 256 * (2 * (row columns q + 1 - row columns p) + cond b (column columns p + 1 - column columns r) 0) + (r + columns + 1 - p)
        go true k = turn-first (row columns q + 1 - row columns p) _ _ _ _ (beside (ltb-true r q k)) (number-tells q n).small
        go false k = last (256 * (2 * (row columns q + 1 - row columns p) + 0)) _ _ (number-less (ltb-true q r k))

    before : driven_before columns q r ≡ true → tie_place columns p q < tie_place columns p r
    before h =
        either (ltb (row columns q) (row columns r))
        (λ e. lower-row (ltb-true (row columns q) (row columns r) e))
        (λ e.
        either (ltb (row columns r) (row columns q))
        (λ f. absurd (true≢false (sym h ∙ rows-turned columns r q (ltb-true (row columns r) (row columns q) f))))
        (λ f.
        let g : row columns q ≡ row columns r = omega (arith, ltb-false (row columns q) (row columns r) e, ltb-false (row columns r) (row columns q) f) in
        same_row g (sym (row-driven columns q r g) ∙ h)))

  pub place-driven : (q r : ℕ) → Near columns p q → Near columns p r → ltb (tie_place columns p q) (tie_place columns p r) ≡ driven_before columns q r
  place-driven q r n m =
      either (driven_before columns q r)
      (λ e. lt-ltb (tie_place columns p q) (tie_place columns p r) (before q r n m e) ∙ sym e)
      (λ e. le-ltb (tie_place columns p q) (tie_place columns p r) (after e) ∙ sym e)
    where
      after : driven_before columns q r ≡ false → tie_place columns p r ≤ tie_place columns p q
      after e = go (ℕ_discrete q r)
        where
          go : Dec (q ≡ r) → tie_place columns p r ≤ tie_place columns p q
          go (yes i) = rw i (le_refl (tie_place columns p r))
          go (no i) = let h = before r q m n ((driven-strict columns).other q r i ∙ ap not e) in omega arith

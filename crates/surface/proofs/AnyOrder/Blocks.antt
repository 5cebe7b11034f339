-- An end is a post with no lower neighbour: a pit or, in the reversed order, a peak. Over any order and diagonals, no two posts beside each other are both
-- ends, so of a post and those that touch it at most five are: these are four pairs of posts beside each other, and one more.
use Prim.Native.Nat.{ℕ, ◌+◌, ◌-◌, ◌*◌, ◌/◌, ◌≤◌, ◌<◌}
use native.Mathlib.Omega.{arith}
use native.Mathlib.Nat.{add-mul, one-mul, mul-le-mul_right}
use mathlib.Core.Path.{◌≡◌, sym, ◌∙◌, ap}
use mathlib.Core.Bool.{Bool, true, false, cond, not, ◌&&◌, true≢false}
use mathlib.Core.List.{Memᴰ}
use lib.Dec.{leb}
use borrow.Author.Tests.{leb-true, leb-false, ne_eqb}
use Rattle.surface.specs.Lists.{any, one}
use Rattle.surface.specs.Plot.{row, column, Sides}
use Rattle.surface.specs.Edges.{ring}
use Rattle.surface.specs.Marks.{touches}
use Rattle.surface.proofs.General.Bools.{and_left, and_right, either}
use Rattle.surface.proofs.General.Sum.{sum}
use Rattle.surface.proofs.General.Bounds.{sum-classes}
use Rattle.surface.proofs.General.Order.{StrictTotal}
use Rattle.surface.proofs.AnyOrder.Grid.{post_is, column-lt, row_lt, right-false}
use Rattle.surface.proofs.AnyOrder.Offsets.{Close, touches-close}
use Rattle.surface.proofs.AnyOrder.RingPlaces.{at_e, at_s, ring-place}
use Rattle.surface.proofs.AnyOrder.RingEdges.{edge-sym, ring-edge, ring-other}
use Rattle.surface.proofs.AnyOrder.Walks.{member-any}

-- The five parts of the posts that touch z, numbered: of each row those up to z's column,     0 0 3
-- a pair with z in 1; of the column after it those up to z's row, a pair, and the last.       1 1 3
--                                                                                             2 2 4
abbrev part : ℕ → ℕ → ℕ → ℕ
part columns z p = let i = row columns p + 1 - row columns z in cond (leb (column columns p) (column columns z)) i (3 + i / 2)

part_low : (columns z p : ℕ) → Close columns z p → part columns z p < 5
part_low columns z p c = either (leb (column columns p) (column columns z)) (λ e. rw e (omega arith)) (λ e. rw e (omega arith))

module _ {rows columns : ℕ} (s : Sides rows columns) (falls : ℕ → Bool) where
  -- the next post of a row, and of a column, is in the ring
  row-member : (p q : ℕ) → p < q → row columns p ≡ row columns q → column columns q ≤ column columns p + 1 → Memᴰ q (ring rows columns falls p)
  row-member p q l e k =
      let m = ap (λ (r : ℕ). r * columns) e in
      let next : q ≡ p + 1 = omega (arith, post_is columns p, post_is columns q) in
      (ring-place rows columns falls p q).1 (at_e ((right-false s p).1 (omega (arith, post_is columns p, post_is columns q, column-lt s q))) next)

  column-member : (p q : ℕ) → p < q → q < rows * columns → column columns p ≡ column columns q → row columns q ≤ row columns p + 1
      → Memᴰ q (ring rows columns falls p)
  column-member p q l h e k =
      let not-above : row columns q ≤ row columns p → ⊥ = λ u. omega (arith, mul-le-mul_right columns u, post_is columns p, post_is columns q) in
      let next : row columns q ≡ row columns p + 1 = omega arith in
      let m = ap (λ (r : ℕ). r * columns) next in
      (ring-place rows columns falls p q).1
      (at_s (ne_eqb (row columns p + 1) rows (omega (arith, (row_lt s rows q).1 h)))
      (omega (arith, post_is columns p, post_is columns q, add-mul (row columns p) 1 columns, one-mul columns)))

  -- so two posts of one part are neighbours
  part-member : (z p q : ℕ) → p < q → q < rows * columns → Close columns z p → Close columns z q → part columns z p ≡ part columns z q
      → Memᴰ q (ring rows columns falls p)
  part-member z p q l h cp cq e =
      either (leb (column columns p) (column columns z))
      (λ a.
      either (leb (column columns q) (column columns z)) (λ b. row-member p q l (omega (arith, rw (a, b) at e)) (omega (arith, leb-true)))
      (λ b. absurd (omega (arith, rw (a, b) at e))))
      (λ a.
      either (leb (column columns q) (column columns z)) (λ b. absurd (omega (arith, rw (a, b) at e)))
      (λ b. column-member p q l h (omega (arith, leb-false)) (omega (arith, rw (a, b) at e))))

  -- a test that only ends pass
  module _ (lower : ℕ → ℕ → Bool) (o : StrictTotal lower) (t : ℕ → Bool)
      (ends : (p : ℕ) → p < rows * columns → t p ≡ true → any (λ q. lower q p) (ring rows columns falls p) ≡ false)
    where
      -- of two neighbours one is lower, so the other is no end
      ends-apart : (p q : ℕ) → p < rows * columns → q < rows * columns → Memᴰ q (ring rows columns falls p) → t p ≡ true → t q ≡ true → ⊥
      ends-apart p q h k m tp tq =
          let back = (ring-edge s falls q p k).1 (edge-sym ((ring-edge s falls p q h).0 m)) in
          either (lower q p) (λ e. true≢false (sym (member-any (λ x. lower x p) _ q m e) ∙ ends p h tp))
          (λ e. true≢false (sym (member-any (λ x. lower x q) _ p back (o.other q p (ring-other s falls p q h m) ∙ ap not e)) ∙ ends q k tq))

      pub block-ends : (z : ℕ) → sum (rows * columns) (λ p. one (touches columns z p && t p)) ≤ 5
      block-ends z =
          sum-classes (rows * columns) 5 (λ p. touches columns z p && t p) (part columns z) (λ p h a. part_low columns z p (close p a))
          (λ p q l h a b e.
          ends-apart p q (omega arith) h (part-member z p q l h (close p a) (close q b) e) (and_right (touches columns z p) _ a)
          (and_right (touches columns z q) _ b))
        where
          close : (p : ℕ) → touches columns z p && t p ≡ true → Close columns z p
          close p a = touches-close columns z p (and_left (touches columns z p) _ a)

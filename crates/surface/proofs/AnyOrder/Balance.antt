-- The balance: over any strict total order in which the virtual pit is lowest, and any diagonals, peaks plus pits are two more than saddles by
-- multiplicity. A post's changes of side are the triangles round it in which it is the middle corner. A triangle has one middle corner, so all posts
-- together have two changes for each cell and one for each border edge, which is two for each post, less two.
use Prim.Native.Nat.{ℕ, zero, suc, ◌+◌, ◌*◌, ◌/◌, ◌<◌}
use native.Mathlib.Omega.{arith}
use mathlib.Core.Path.{◌≡◌, refl, sym, ◌∙◌, ap}
use mathlib.Core.Bool.{Bool, true, false, cond, not, ◌&&◌, ◌||◌, true≢false}
use mathlib.Core.List.{Memᴰ}
use lib.Dec.{eqb}
use borrow.Author.Tests.{ne_eqb}
use Rattle.surface.specs.Lists.{list_of, one}
use Rattle.surface.specs.Plot.{virtual_pit, Sides}
use Rattle.surface.specs.Edges.{top, bottom, left, right, ring}
use Rattle.surface.specs.Flags.{mark_by}
use Rattle.surface.specs.Marks.{mark, multiplicity, peaks, pits, saddles}
use Rattle.surface.specs.Patterns.{changes}
use Rattle.surface.proofs.General.Order.{StrictTotal}
use Rattle.surface.proofs.General.Sum.{sum, sum-ext, sum-add, sum-const}
use Rattle.surface.proofs.General.ListOf.{count-list_of, total-list_of}
use Rattle.surface.proofs.AnyOrder.Grid.{east-post, south-post}
use Rattle.surface.proofs.AnyOrder.Changes.{turn, changes-even, changes-round}
use Rattle.surface.proofs.AnyOrder.Signs.{mark-changes}
use Rattle.surface.proofs.AnyOrder.RingSums.{when}
use Rattle.surface.proofs.AnyOrder.Corners.{triangle, border_edge, from_post, corners-sum}
use Rattle.surface.proofs.AnyOrder.Census.{counted, census}

-- a triangle has one middle corner
middle : (lower : ℕ → ℕ → Bool) → StrictTotal lower → (p q r : ℕ) → (p ≡ q → ⊥) → (q ≡ r → ⊥) → (r ≡ p → ⊥)
    → triangle (λ v a b. turn (lower a v) (lower b v)) p q r ≡ 1
middle lower o p q r h k m =
    rw (o.other q p (λ e. h (sym e)), o.other r q (λ e. k (sym e)), o.other p r (λ e. m (sym e)))
    (go (lower q p) (lower r q) (lower p r) refl refl refl)
  where
    go : (a b c : Bool) → lower q p ≡ a → lower r q ≡ b → lower p r ≡ c → turn a (not c) + turn b (not a) + turn c (not b) ≡ 1
    go true true true e f g = absurd (true≢false (sym (o.trans q p r e g) ∙ o.other r q (λ i. k (sym i)) ∙ ap not f))
    go true true false e f g = refl
    go true false true e f g = refl
    go true false false e f g = refl
    go false true true e f g = refl
    go false true false e f g = refl
    go false false true e f g = refl
    go false false false e f g =
        absurd
        (true≢false
        (sym (o.trans p q r (o.other q p (λ i. h (sym i)) ∙ ap not e) (o.other r q (λ i. k (sym i)) ∙ ap not f)) ∙ g))

module _ (lower : ℕ → ℕ → Bool) (o : StrictTotal lower) {rows columns : ℕ} (s : Sides rows columns) (falls : ℕ → Bool)
    (pit : (p : ℕ) → p < rows * columns → lower virtual_pit p ≡ true)
  where
    abbrev n : ℕ
    n = rows * columns

    -- a corner counts where its triangle has one of the others below it and one above
    abbrev τ : ℕ → ℕ → ℕ → ℕ
    τ v a b = turn (lower a v) (lower b v)

    -- so a cell counts two, a border edge one
    two : (x y z w : ℕ) → x < y → y < z → z < w → (f : Bool) → cond f (triangle τ x y w + triangle τ x w z) (triangle τ x y z + triangle τ y w z) ≡ 2
    two x y z w h k m true = omega (arith, middle lower o x y w (omega arith) (omega arith) (omega arith), middle lower o x w z (omega arith) (omega arith) (omega arith))
    two x y z w h k m false = omega (arith, middle lower o x y z (omega arith) (omega arith) (omega arith), middle lower o y w z (omega arith) (omega arith) (omega arith))

    one_end : (a b : ℕ) → a < b → b < n → border_edge τ a b ≡ 1
    one_end a b h k = rw (pit a (omega arith), pit b k, o.other a b (omega arith)) (go (lower a b))
      where
        go : (x : Bool) → turn (not x) true + turn x true ≡ 1
        go true = refl
        go false = refl

    pub changes-sum : sum n (λ p. changes (λ q. lower q p) (ring rows columns falls p)) + 2 ≡ 2 * n
    changes-sum =
        omega (
          arith,
          sum-ext n _ _ (λ p _. changes-round (λ q. lower q p) (ring rows columns falls p)),
          corners-sum s falls τ (λ v a b. omega arith),
          sum-ext n _ _ counts,
          census rows columns s.tall s.wide,
        )
      where
        each : (i b : Bool) (x k : ℕ) → (i ≡ false → x ≡ k) → when (not i && b) x ≡ when (not i && b) k
        each true b x k e = refl
        each false b x k e = ap (when b) (e refl)

        counts : (a : ℕ) → a < n → from_post τ rows columns falls a ≡ counted (top columns a) (bottom rows columns a) (left columns a) (right columns a)
        counts a h =
            omega (
              arith,
              each (right columns a) (not (bottom rows columns a)) _ 2 (λ _. two a (a + 1) (a + columns) (a + columns + 1) (omega arith) (omega (arith, s.wide)) (omega arith) (falls a)),
              each (right columns a) (top columns a || bottom rows columns a) _ 1 (λ r. one_end a (a + 1) (omega arith) (east-post s a h r)),
              each (bottom rows columns a) (left columns a || right columns a) _ 1 (λ b. one_end a (a + columns) (omega (arith, s.wide)) (south-post s a h b)),
            )

-- a mark counts as its lower runs say: one, less half the changes of side, is 1 at a peak and a pit, 0 at an ordinary post, less than 0 at a saddle
mark-index : (side : Bool) (k : ℕ) → one (eqb (mark_by side k) 1) + one (eqb (mark_by side k) 2) + k ≡ 1 + multiplicity (mark_by side k)
unfolding mark_by
mark-index true zero = refl
mark-index false zero = refl
mark-index side (suc zero) = refl
mark-index side (suc (suc k)) =
    rw (
      ne_eqb (suc (suc k)) 0 (omega arith),
      ne_eqb (suc (suc k)) 1 (omega arith),
      ne_eqb (suc (suc k) + 1) 1 (omega arith),
      ne_eqb (suc (suc k) + 1) 2 (omega arith),
    )
    (omega arith)

pub mark-turns : (lower : ℕ → ℕ → Bool) → StrictTotal lower → (rows columns : ℕ) (falls : ℕ → Bool) (p : ℕ)
    → ((q : ℕ) → Memᴰ q (ring rows columns falls p) → q ≡ p → ⊥)
    → let m = mark lower (ring rows columns falls) p in one (eqb m 1) + one (eqb m 2) + changes (λ q. lower q p) (ring rows columns falls p) / 2 ≡ 1 + multiplicity m
mark-turns lower o rows columns falls p others = rw (mark-changes lower o rows columns falls p others) (mark-index _ _)

module _ (lower : ℕ → ℕ → Bool) (o : StrictTotal lower) (rows columns : ℕ) (s : Sides rows columns) (falls : ℕ → Bool)
    (pit : (p : ℕ) → p < rows * columns → lower virtual_pit p ≡ true)
    (others : (p q : ℕ) → p < rows * columns → Memᴰ q (ring rows columns falls p) → q ≡ p → ⊥)
  where
    abbrev the_mark : ℕ → ℕ
    the_mark = mark lower (ring rows columns falls)

    pub balance : let marks = list_of the_mark (rows * columns) in peaks marks + pits marks ≡ 2 + saddles marks
    unfolding peaks pits saddles
    balance =
        let n = rows * columns in
        let c : ℕ → ℕ = λ p. changes (λ q. lower q p) (ring rows columns falls p) in
        let i : ℕ → ℕ = λ p. one (eqb (the_mark p) 1) in
        let j : ℕ → ℕ = λ p. one (eqb (the_mark p) 2) in
        let m : ℕ → ℕ = λ p. multiplicity (the_mark p) in
        let e : sum n (λ p. i p + i p + (j p + j p) + c p) ≡ sum n (λ p. 2 + (m p + m p)) = sum-ext n _ _ (λ p h. omega (arith, mark-turns lower o rows columns falls p (λ q. others p q h), changes-even (λ q. lower q p) (ring rows columns falls p))) in
        omega (
          arith,
          sum-add n (λ p. i p + i p + (j p + j p)) c,
          sum-add n (λ p. i p + i p) (λ p. j p + j p),
          sum-add n i i,
          sum-add n j j,
          sum-add n (λ _. 2) (λ p. m p + m p),
          sum-add n m m,
          sum-const n 2,
          changes-sum lower o s falls pit,
          count-list_of (λ x. eqb x 1) the_mark n,
          count-list_of (λ x. eqb x 2) the_mark n,
          total-list_of multiplicity the_mark n,
        )

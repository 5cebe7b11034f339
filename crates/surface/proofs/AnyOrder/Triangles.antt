-- Every triangle of a cell, or of a border edge and the virtual pit, is one of three edges. So what all posts count round their rings is even where each such
-- triangle's corners count an even number, and the virtual pit nothing.
use Prim.Native.Nat.{ℕ, ◌+◌, ◌*◌, ◌%◌, ◌<◌}
use native.Mathlib.Omega.{arith}
use mathlib.Core.Path.{◌≡◌, refl, ap, ◌∙◌}
use mathlib.Core.Bool.{Bool, true, false, not, ◌&&◌, ◌||◌}
use borrow.Author.Tests.{not-true}
use Rattle.surface.specs.Plot.{virtual_pit, Sides}
use Rattle.surface.specs.Edges.{top, bottom, left, right, is_cell, nw, ne, sw, se, Edge, ring}
use Rattle.surface.proofs.General.Bools.{either, true-T, and_left, and_right}
use Rattle.surface.proofs.General.Sum.{sum, sum-even}
use Rattle.surface.proofs.General.Circles.{round}
use Rattle.surface.proofs.AnyOrder.Grid.{east-top, east-bottom, east-post, south-left, south-right, south-post}
use Rattle.surface.proofs.AnyOrder.Cells.{Cell, cell-of}
use Rattle.surface.proofs.AnyOrder.RingPlaces.{at_e, at_s, ring-place}
use Rattle.surface.proofs.AnyOrder.RingEdges.{edge-sym, ring-edge}
use Rattle.surface.proofs.AnyOrder.RingTouch.{edge-cell, edge-top, edge-right, edge-bottom, edge-left}
use Rattle.surface.proofs.AnyOrder.RingSums.{when}
use Rattle.surface.proofs.AnyOrder.Corners.{triangle, border_edge, cell, from_post, corners-sum}

even-when : (i : Bool) (x : ℕ) → (i ≡ true → x % 2 ≡ 0) → when i x % 2 ≡ 0
even-when true x e = e refl
even-when false x e = refl

module _ {rows columns : ℕ} (s : Sides rows columns) (falls : ℕ → Bool) where
  abbrev n : ℕ
  n = rows * columns

  abbrev Joined : ℕ → ℕ → Type 0
  Joined = Edge rows columns falls

  -- both ends of a border edge are joined with the virtual pit
  along-row : (a : ℕ) → a < n → right columns a ≡ false → top columns a || bottom rows columns a ≡ true → Joined a virtual_pit × Joined (a + 1) virtual_pit
  along-row a h r e =
      either (top columns a)
      (λ t. (edge-top s falls h t, edge-top s falls (east-post s a h r) (east-top s a r ∙ t)))
      (λ t. let b : bottom rows columns a ≡ true = rw t at e in (edge-bottom s falls h b, edge-bottom s falls (east-post s a h r) (east-bottom s a r ∙ b)))

  along-column : (a : ℕ) → a < n → bottom rows columns a ≡ false → left columns a || right columns a ≡ true → Joined a virtual_pit × Joined (a + columns) virtual_pit
  along-column a h b e =
      either (left columns a)
      (λ l. (edge-left s falls h l, edge-left s falls (south-post s a h b) (south-left s a ∙ l)))
      (λ l. let r : right columns a ≡ true = rw l at e in (edge-right s falls h r, edge-right s falls (south-post s a h b) (south-right s a ∙ r)))

  module _ (τ : ℕ → ℕ → ℕ → ℕ) (turned : (v q r : ℕ) → τ v q r ≡ τ v r q) (none : (q r : ℕ) → τ virtual_pit q r ≡ 0)
      (even : (x y z : ℕ) → Joined x y → Joined y z → Joined z x → triangle τ x y z % 2 ≡ 0)
    where
      edge-even : (x y : ℕ) → Joined x y → Joined x virtual_pit × Joined y virtual_pit → border_edge τ x y % 2 ≡ 0
      edge-even x y e f = omega (arith, even x y virtual_pit e f.1 (edge-sym f.0), turned y virtual_pit x, none x y)

      cell-even : (a : ℕ) → Cell rows columns a → cell τ columns (falls a) a % 2 ≡ 0
      cell-even a c =
          let n-side : Joined a (a + 1) = edge-cell s falls c nw ne refl refl refl in
          let e-side : Joined (a + 1) (a + columns + 1) = edge-cell s falls c ne se refl refl refl in
          let s-side : Joined (a + columns + 1) (a + columns) = edge-cell s falls c se sw refl refl refl in
          let w-side : Joined (a + columns) a = edge-cell s falls c sw nw refl refl refl in
          either (falls a)
          (λ f.
          let d : Joined a (a + columns + 1) = edge-cell s falls c nw se f refl refl in
          rw f (omega (arith, even a (a + 1) (a + columns + 1) n-side e-side (edge-sym d), even a (a + columns + 1) (a + columns) d s-side w-side)))
          (λ f.
          let d : Joined (a + 1) (a + columns) = edge-cell s falls c ne sw (ap not f) refl refl in
          rw f (omega (arith, even a (a + 1) (a + columns) n-side d w-side, even (a + 1) (a + columns + 1) (a + columns) e-side s-side (edge-sym d))))

      post-even : (a : ℕ) → a < n → from_post τ rows columns falls a % 2 ≡ 0
      post-even a h =
          omega (
            arith,
            even-when (is_cell rows columns a) (cell τ columns (falls a) a) (λ i. cell-even a (cell-of rows columns a h (true-T i))),
            even-when (not (right columns a) && (top columns a || bottom rows columns a)) (border_edge τ a (a + 1)) row,
            even-when (not (bottom rows columns a) && (left columns a || right columns a)) (border_edge τ a (a + columns)) column,
          )
        where
          row : not (right columns a) && (top columns a || bottom rows columns a) ≡ true → border_edge τ a (a + 1) % 2 ≡ 0
          row i =
              let r = not-true _ (and_left (not (right columns a)) _ i) in
              edge-even a (a + 1) ((ring-edge s falls a (a + 1) h).0 ((ring-place rows columns falls a (a + 1)).1 (at_e r refl))) (along-row a h r (and_right (not (right columns a)) _ i))

          column : not (bottom rows columns a) && (left columns a || right columns a) ≡ true → border_edge τ a (a + columns) % 2 ≡ 0
          column i =
              let b = not-true _ (and_left (not (bottom rows columns a)) _ i) in
              edge-even a (a + columns) ((ring-edge s falls a (a + columns) h).0 ((ring-place rows columns falls a (a + columns)).1 (at_s b refl))) (along-column a h b (and_right (not (bottom rows columns a)) _ i))

      pub corners-even : sum n (λ p. round (τ p) (ring rows columns falls p)) % 2 ≡ 0
      corners-even = rw (corners-sum s falls τ turned) (sum-even n (from_post τ rows columns falls) post-even)

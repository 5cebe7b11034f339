-- The members of a post's ring are exactly the other ends of its edges, for any choice of diagonals.
use Prim.Native.Nat.{ℕ, ◌+◌, ◌-◌, ◌*◌, ◌<◌}
use mathlib.Core.Path.{◌≡◌, refl, sym, ap, ◌∙◌}
use mathlib.Core.Bool.{Bool, true, not, false≢true}
use mathlib.Core.List.{Memᴰ}
use mathlib.Core.Logic.{◌≢◌, ◌↔◌, inl, inr}
use native.Mathlib.Omega.{arith}
use borrow.Author.Tests.{not-true}
use Rattle.surface.specs.Plot.{virtual_pit, Vertex, Sides}
use Rattle.surface.specs.Edges.{bottom, right, is_border, is_cell, Corner, nw, ne, sw, se, corner, joined, Edge, of_cell, to_pit, from_pit, ring}
use Rattle.surface.proofs.AnyOrder.Grid.{plot-fits, top-false, not_left, south-top, south-right, east-top, east-bottom, east-left, bottom-top, right-left}
use Rattle.surface.proofs.General.Bools.{true-T, T_true, either}
use Rattle.surface.proofs.AnyOrder.Cells.{Cell, CornerOf, cell-of, corner-post, cell-ne, cell-se, cell-sw, cell-nw}
use Rattle.surface.proofs.AnyOrder.RingPlaces.{Stands, at_n, at_ne, at_e, at_se, at_s, at_sw, at_w, at_nw, at_pit, ring-place}

module _ {rows columns : ℕ} (s : Sides rows columns) (falls : ℕ → Bool) where
  -- an edge of a cell
  of_corner : {a p q : ℕ} {i : Corner} → CornerOf rows columns a i p → (j : Corner) → joined (falls a) i j ≡ true → q ≡ corner columns a j → Edge rows columns falls p q
  of_corner {a} {i} c j d e =
      let k : is_cell rows columns a ≡ true = cc (c.cell.not_right, c.cell.not_bottom) in
      of_cell a c.cell.in_plot (true-T k) i j (true-T d) c.here e

  place-edge : (p q : ℕ) → p < rows * columns → Stands rows columns falls p q → Edge rows columns falls p q
  place-edge p q h (at_n t e) =
      either (right columns p)
      (λ l. let c = cell-nw s p h (right-left s p l) t in of_corner c ne refl (omega (arith, c.here)))
      (λ l. of_corner (cell-ne s p h t l) nw refl e)
  place-edge p q h (at_ne t l d e) = of_corner (cell-ne s p h t l) ne (ap not d) e
  place-edge p q h (at_e l e) =
      either (bottom rows columns p)
      (λ b. let c = cell-ne s p h (bottom-top s p b) l in of_corner c se refl (omega (arith, c.here)))
      (λ b. of_corner (cell-se s p h l b) ne refl e)
  place-edge p q h (at_se l b d e) = of_corner (cell-se s p h l b) se d e
  place-edge p q h (at_s b e) =
      either (right columns p)
      (λ l. let c = cell-sw s p h b (right-left s p l) in of_corner c se refl (omega (arith, c.here)))
      (λ l. of_corner (cell-se s p h l b) sw refl e)
  place-edge p q h (at_sw b f d e) = let c = cell-sw s p h b f in of_corner c sw (ap not d) (omega (arith, c.here))
  place-edge p q h (at_w f e) =
      either (bottom rows columns p)
      (λ b. let c = cell-nw s p h f (bottom-top s p b) in of_corner c sw refl (omega (arith, c.here)))
      (λ b. of_corner (cell-sw s p h b f) nw refl e)
  place-edge p q h (at_nw f t d e) = of_corner (cell-nw s p h f t) nw d e
  place-edge p q h (at_pit b e) = to_pit h (true-T b) e

  corner-place : {a : ℕ} → Cell rows columns a → (i j : Corner) → joined (falls a) i j ≡ true → Stands rows columns falls (corner columns a i) (corner columns a j)
  corner-place {a} c nw nw d = absurd (false≢true d)
  corner-place {a} c nw ne d = at_e c.not_right refl
  corner-place {a} c nw sw d = at_s c.not_bottom refl
  corner-place {a} c nw se d = at_se c.not_right c.not_bottom d refl
  corner-place {a} c ne nw d = at_w (east-left s a c.not_right) (omega arith)
  corner-place {a} c ne ne d = absurd (false≢true d)
  corner-place {a} c ne sw d =
      let e : a + 1 - 1 ≡ a = omega arith in
      at_sw (east-bottom s a c.not_right ∙ c.not_bottom) (east-left s a c.not_right) (ap falls e ∙ not-true (falls a) d) (omega arith)
  corner-place {a} c ne se d = at_s (east-bottom s a c.not_right ∙ c.not_bottom) (omega arith)
  corner-place {a} c sw nw d = at_n (south-top s a) (omega arith)
  corner-place {a} c sw ne d =
      let e : a + columns - columns ≡ a = omega arith in
      at_ne (south-top s a) (south-right s a ∙ c.not_right) (ap falls e ∙ not-true (falls a) d) (omega arith)
  corner-place {a} c sw sw d = absurd (false≢true d)
  corner-place {a} c sw se d = at_e (south-right s a ∙ c.not_right) refl
  corner-place {a} c se nw d =
      let l = south-right s a ∙ c.not_right in
      let e : a + columns + 1 - columns - 1 ≡ a = omega arith in
      at_nw (east-left s (a + columns) l) (east-top s (a + columns) l ∙ south-top s a) (ap falls e ∙ d) (sym e)
  corner-place {a} c se ne d = at_n (east-top s (a + columns) (south-right s a ∙ c.not_right) ∙ south-top s a) (omega arith)
  corner-place {a} c se sw d = at_w (east-left s (a + columns) (south-right s a ∙ c.not_right)) (omega arith)
  corner-place {a} c se se d = absurd (false≢true d)

joined-sym : (fall : Bool) (i j : Corner) → joined fall i j ≡ joined fall j i
joined-sym fall nw nw = refl
joined-sym fall nw ne = refl
joined-sym fall nw sw = refl
joined-sym fall nw se = refl
joined-sym fall ne nw = refl
joined-sym fall ne ne = refl
joined-sym fall ne sw = refl
joined-sym fall ne se = refl
joined-sym fall sw nw = refl
joined-sym fall sw ne = refl
joined-sym fall sw sw = refl
joined-sym fall sw se = refl
joined-sym fall se nw = refl
joined-sym fall se ne = refl
joined-sym fall se sw = refl
joined-sym fall se se = refl

-- edges have no direction
pub edge-sym : {rows columns : ℕ} {falls : ℕ → Bool} {p q : ℕ} → Edge rows columns falls p q → Edge rows columns falls q p
edge-sym {falls = falls} (of_cell a h c i j d ep eq) = of_cell a h c j i (rw (joined-sym (falls a) j i) d) eq ep
edge-sym (to_pit h b e) = from_pit h b e
edge-sym (from_pit h b e) = to_pit h b e

module _ {rows columns : ℕ} (s : Sides rows columns) (falls : ℕ → Bool) where
  -- every end of an edge is a post or the virtual pit
  edge-end : {p q : ℕ} → Edge rows columns falls p q → Vertex (rows * columns) q
  edge-end (of_cell a h c i j d ep eq) = inl (rw eq (corner-post s (cell-of rows columns a h c) j))
  edge-end (to_pit h b e) = inr e
  edge-end (from_pit h b e) = inl h

  pub edge-ends : {p q : ℕ} → Edge rows columns falls p q → Vertex (rows * columns) p × Vertex (rows * columns) q
  edge-ends e = (edge-end (edge-sym e), edge-end e)

  edge-place : {p q : ℕ} → p < rows * columns → Edge rows columns falls p q → Stands rows columns falls p q
  edge-place h (of_cell a k c i j d ep eq) =
      rw (ep, eq) (corner-place s falls (cell-of rows columns a k c) i j (T_true (joined (falls a) i j) d))
  edge-place {p} h (to_pit k b e) = at_pit (T_true (is_border rows columns p) b) e
  edge-place h (from_pit k b e) = absurd (omega (arith, plot-fits s))

  -- the members of a ring are exactly the other ends of the post's edges
  pub ring-edge : (p q : ℕ) → p < rows * columns → Memᴰ q (ring rows columns falls p) ↔ Edge rows columns falls p q
  ring-edge p q h =
      (λ m. place-edge s falls p q h ((ring-place rows columns falls p q).0 m), λ e. (ring-place rows columns falls p q).1 (edge-place h e))

  -- a post is not in its own ring
  place_other : {p q : ℕ} → p < rows * columns → Stands rows columns falls p q → q ≢ p
  place_other {p} h (at_n t e) = omega (arith, (top-false s p).0 t)
  place_other {p} h (at_ne t l d e) = omega (arith, (top-false s p).0 t)
  place_other {p} h (at_e l e) = omega arith
  place_other {p} h (at_se l b d e) = omega arith
  place_other {p} h (at_s b e) = omega arith
  place_other {p} h (at_sw b f d e) = omega arith
  place_other {p} h (at_w f e) = omega (arith, not_left s p f)
  place_other {p} h (at_nw f t d e) = omega (arith, (top-false s p).0 t)
  place_other {p} h (at_pit b e) = omega (arith, plot-fits s)

  pub ring-other : (p q : ℕ) → p < rows * columns → Memᴰ q (ring rows columns falls p) → q ≢ p
  ring-other p q h m = place_other h ((ring-place rows columns falls p q).0 m)

  -- the members of a ring are posts or the virtual pit
  pub ring-member : (p q : ℕ) → p < rows * columns → Memᴰ q (ring rows columns falls p) → Vertex (rows * columns) q
  ring-member p q h m = edge-end ((ring-edge p q h).0 m)

  -- the virtual pit is in the rings of the border posts and in no other
  edge-pit : {p q : ℕ} → q ≡ virtual_pit → Edge rows columns falls p q → is_border rows columns p ≡ true
  edge-pit e (of_cell a h c i j d ep eq) = absurd (omega (arith, plot-fits s, corner-post s (cell-of rows columns a h c) j))
  edge-pit {p} e (to_pit h b eq) = T_true (is_border rows columns p) b
  edge-pit e (from_pit h b ep) = absurd (omega (arith, plot-fits s))

  pub ring-pit : (p : ℕ) → p < rows * columns → Memᴰ virtual_pit (ring rows columns falls p) ↔ is_border rows columns p ≡ true
  ring-pit p h = (λ m. edge-pit refl ((ring-edge p virtual_pit h).0 m), λ b. (ring-edge p virtual_pit h).1 (to_pit h (true-T b) refl))

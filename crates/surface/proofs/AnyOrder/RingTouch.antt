-- Members of a post's ring that follow each other, the first following the last, are joined by an edge.
use Prim.Native.Nat.{ℕ, ◌+◌, ◌-◌, ◌*◌, ◌<◌}
use native.Mathlib.Omega.{arith}
use mathlib.Core.Path.{◌≡◌, refl, sym, ap, ◌∙◌}
use mathlib.Core.Bool.{Bool, true, false, cond, not, or-true}
use mathlib.Core.List.{List, [], ◌∷◌, ◌++◌}
use lib.Dec.{eqb}
use Rattle.surface.specs.Lists.{last_or}
use Rattle.surface.specs.Plot.{virtual_pit, Sides}
use Rattle.surface.specs.Edges.{Corner, nw, ne, sw, se, corner, joined, is_cell, is_border, top, bottom, left, right, Edge, of_cell, to_pit, ring}
use Rattle.surface.proofs.General.Bools.{true-T, not-not}
use Rattle.surface.proofs.AnyOrder.Grid.{north-left, north-right, row-west, south-left, south-right, south-post, east-top, east-bottom, east-post, west-bottom}
use Rattle.surface.proofs.AnyOrder.Cells.{Cell, cell-ne, cell-se, cell-sw, cell-nw}
use Rattle.surface.proofs.AnyOrder.RingEdges.{edge-sym}
use Rattle.surface.proofs.AnyOrder.RingLegs.{leg, ring-legs}

-- each member of a list is related to the one before it, `prev` standing before the first
abbrev pub Chain : (ℕ → ℕ → Type 0) → ℕ → List ℕ → Type 0
Chain R prev [] = Unit {0}
Chain R prev (x ∷ l) = R prev x × Chain R x l

module _ (R : ℕ → ℕ → Type 0) where
  -- what leads once round from x, back to x, is a circle
  chain-last : (prev : ℕ) (l : List ℕ) (x : ℕ) → Chain R prev (l ++ x ∷ []) → R (last_or prev l) x × Chain R prev l
  unfolding last_or
  chain-last prev [] x c = c
  chain-last prev (y ∷ l) x c = let k = chain-last y l x c.1 in (k.0, (c.0, k.1))

  chain-circle : (prev x : ℕ) (l m : List ℕ) → l ++ x ∷ [] ≡ x ∷ m → Chain R x m → Chain R (last_or prev l) l
  unfolding last_or
  chain-circle prev x [] m e c = tt
  chain-circle prev x (y ∷ l) m e c =
      let i : y ≡ x = cc in
      let j : m ≡ l ++ x ∷ [] = cc in
      rw i (chain-last x l x (rw j at c))

  -- along a leg from x to z, over y where d says so
  Along : Bool → ℕ → ℕ → ℕ → Type 0
  Along d x y z = cond d (R x y × R y z) (R x z)

  chain-leg : (a b d : Bool) (x y z : ℕ) (l : List ℕ) → (a ≡ false → b ≡ false → Along d x y z) → (a ≡ true → b ≡ false → R virtual_pit z) → (a ≡ false → b ≡ true → R x virtual_pit)
      → Chain R (cond b virtual_pit z) l
      → Chain R (cond a virtual_pit x) (leg a b d y z l)
  unfolding Along
  chain-leg true true d x y z l q e f c = c
  chain-leg true false d x y z l q e f c = (e refl refl, c)
  chain-leg false true d x y z l q e f c = (f refl refl, c)
  chain-leg false false true x y z l q e f c = ((q refl refl).0, ((q refl refl).1, c))
  chain-leg false false false x y z l q e f c = (q refl refl, c)

module _ {rows columns : ℕ} (s : Sides rows columns) (falls : ℕ → Bool) where
  abbrev Joined : ℕ → ℕ → Type 0
  Joined = Edge rows columns falls

  -- from corner to corner of a cell
  pub edge-cell : {a x y : ℕ} → Cell rows columns a → (i j : Corner) → joined (falls a) i j ≡ true → x ≡ corner columns a i → y ≡ corner columns a j → Joined x y
  edge-cell {a} c i j d ex ey =
      let t : is_cell rows columns a ≡ true = cc (c.not_right, c.not_bottom) in
      of_cell a c.in_plot (true-T t) i j (true-T d) ex ey

  along-cell : {a x y z : ℕ} → Cell rows columns a → (d : Bool) (i j k : Corner) → joined (falls a) i j ≡ true → joined (falls a) j k ≡ true → joined (falls a) i k ≡ not d
      → x ≡ corner columns a i
      → y ≡ corner columns a j
      → z ≡ corner columns a k
      → Along Joined d x y z
  unfolding Along
  along-cell c true i j k e f g ex ey ez = (edge-cell c i j e ex ey, edge-cell c j k f ey ez)
  along-cell c false i j k e f g ex ey ez = edge-cell c i k g ex ez

  -- from a border post to the virtual pit
  pub edge-top : {q : ℕ} → q < rows * columns → top columns q ≡ true → Joined q virtual_pit
  edge-top {q} k e = let b : is_border rows columns q ≡ true = cc in to_pit k (true-T b) refl

  pub edge-right : {q : ℕ} → q < rows * columns → right columns q ≡ true → Joined q virtual_pit
  edge-right {q} k e = let b : is_border rows columns q ≡ true = cc (or-true (top columns q)) in to_pit k (true-T b) refl

  pub edge-bottom : {q : ℕ} → q < rows * columns → bottom rows columns q ≡ true → Joined q virtual_pit
  edge-bottom {q} k e =
      let b : is_border rows columns q ≡ true = cc (or-true (top columns q), or-true (right columns q)) in to_pit k (true-T b) refl

  pub edge-left : {q : ℕ} → q < rows * columns → left columns q ≡ true → Joined q virtual_pit
  edge-left {q} k e =
      let b : is_border rows columns q ≡ true = cc (or-true (top columns q), or-true (right columns q), or-true (bottom rows columns q)) in to_pit k (true-T b) refl

  pub ring-touch : (p : ℕ) → p < rows * columns → Chain Joined (last_or p (ring rows columns falls p)) (ring rows columns falls p)
  ring-touch p h =
      chain-circle Joined p _ (ring rows columns falls p) _ (ring-legs s falls p)
      (chain-leg Joined (top columns p) (right columns p) (not (falls (p - columns))) (p - columns) (p - columns + 1) (p + 1) _ ne_cell
      (λ t r. edge-sym (edge-top (east-post s p h r) (east-top s p r ∙ t)))
      (λ t r. edge-right (omega arith) (north-right s p t ∙ r))
      (chain-leg Joined (right columns p) (bottom rows columns p) (falls p) (p + 1) (p + columns + 1) (p + columns) _ se_cell
      (λ r b. edge-sym (edge-right (south-post s p h b) (south-right s p ∙ r)))
      (λ r b. edge-bottom (east-post s p h r) (east-bottom s p r ∙ b))
      (chain-leg Joined (bottom rows columns p) (left columns p) (not (falls (p - 1))) (p + columns) (p + columns - 1) (p - 1) _ sw_cell
      (λ b l. edge-sym (edge-bottom (omega arith) (west-bottom s p l ∙ b)))
      (λ b l. edge-left (south-post s p h b) (south-left s p ∙ l))
      (chain-leg Joined (left columns p) (top columns p) (falls (p - columns - 1)) (p - 1) (p - columns - 1) (p - columns) _ nw_cell
      (λ l t. edge-sym (edge-left (omega arith) (north-left s p t ∙ l)))
      (λ l t. edge-top (omega arith) (ap (λ r. eqb r 0) (row-west s p l) ∙ t)) tt))))
    where
      ne_cell : top columns p ≡ false → right columns p ≡ false → Along Joined (not (falls (p - columns))) (p - columns) (p - columns + 1) (p + 1)
      ne_cell t r = let c = cell-ne s p h t r in along-cell c.cell _ nw ne se refl refl (sym (not-not _)) refl refl (omega (arith, c.here))

      se_cell : right columns p ≡ false → bottom rows columns p ≡ false → Along Joined (falls p) (p + 1) (p + columns + 1) (p + columns)
      se_cell r b = along-cell (cell-se s p h r b).cell _ ne se sw refl refl refl refl refl refl

      sw_cell : bottom rows columns p ≡ false → left columns p ≡ false → Along Joined (not (falls (p - 1))) (p + columns) (p + columns - 1) (p - 1)
      sw_cell b l =
          let c = cell-sw s p h b l in
          along-cell c.cell _ se sw nw refl refl (sym (not-not _)) (omega (arith, c.here)) (omega (arith, c.here)) refl

      nw_cell : left columns p ≡ false → top columns p ≡ false → Along Joined (falls (p - columns - 1)) (p - 1) (p - columns - 1) (p - columns)
      nw_cell l t =
          let c = cell-nw s p h l t in along-cell c.cell _ sw nw ne refl refl refl (omega (arith, c.here)) refl (omega (arith, c.here))

-- Locality: the mark of a post reads only the posts that touch it by side or corner, over any two orders and choices of diagonals.
use Prim.Native.Nat.{ℕ, ◌+◌, ◌-◌, ◌*◌, ◌≤◌, ◌<◌}
use mathlib.Core.Path.{◌≡◌, refl, ap}
use mathlib.Core.Bool.{Bool, true, false, not, ◌&&◌}
use mathlib.Core.List.{[], ◌∷◌, Memᴰ}
use native.Mathlib.Omega.{arith}
use Rattle.surface.specs.Plot.{virtual_pit, directed, Sides}
use Rattle.surface.specs.Edges.{top, bottom, left, right, Corner, nw, ne, sw, se, corner, through_lowest, places, ring}
use Rattle.surface.specs.Marks.{mark, touches}
use Rattle.surface.proofs.AnyOrder.RingPlaces.{Stands, at_n, at_ne, at_e, at_se, at_s, at_sw, at_w, at_nw, at_pit, ring-place}
use Rattle.surface.proofs.AnyOrder.Cells.{CornerOf, corner-post, corner-within, cell-ne, cell-se, cell-sw, cell-nw}
use Rattle.surface.proofs.AnyOrder.Offsets.{Offset, here, to-n, to-ne, to-e, to-se, to-s, to-sw, to-w, to-nw, touches-true, offset-touches}
use Rattle.surface.proofs.AnyOrder.Agreement.{lowest-agree, mark-agree}

-- p, the posts that touch it, and the virtual pit
pub data Touching (rows columns p u : ℕ) : Type 0 where
  a_post : u < rows * columns → touches columns p u ≡ true → Touching rows columns p u
  the_pit : u ≡ virtual_pit → Touching rows columns p u

-- two orders agree there
abbrev pub AgreeRound : ℕ → ℕ → (ℕ → ℕ → Bool) → (ℕ → ℕ → Bool) → ℕ → Type 0
AgreeRound rows columns lower lower' p = (u v : ℕ) → Touching rows columns p u → Touching rows columns p v → lower u v ≡ lower' u v

pub directed-agree : {rows columns p : ℕ} {lower lower' : ℕ → ℕ → Bool} (upward : Bool) → AgreeRound rows columns lower lower' p
    → AgreeRound rows columns (directed upward lower) (directed upward lower') p
directed-agree true same u v tu tv = same v u tv tu
directed-agree false same u v tu tv = same u v tu tv

-- two choices of diagonals agree on the cells round p
abbrev pub CellsAgree : ℕ → ℕ → (ℕ → Bool) → (ℕ → Bool) → ℕ → Type 0
CellsAgree rows columns falls falls' p = (a : ℕ) (i : Corner) → CornerOf rows columns a i p → falls a ≡ falls' a

-- a diagonal place of the ring reads its cell's diagonal where the cell is there
pub read-agree : (a b : Bool) {x y : Bool} → (a ≡ false → b ≡ false → x ≡ y) → (not a && (not b && x)) ≡ (not a && (not b && y))
read-agree true b same = refl
read-agree false true same = refl
read-agree false false same = same refl refl

a-corner : (columns a u : ℕ) → Memᴰ u (a ∷ (a + 1) ∷ (a + columns) ∷ (a + columns + 1) ∷ []) → (j : Corner) × (u ≡ corner columns a j)
a-corner columns a u (Memᴰ.head e) = (nw, e)
a-corner columns a u (Memᴰ.tail (Memᴰ.head e)) = (ne, e)
a-corner columns a u (Memᴰ.tail (Memᴰ.tail (Memᴰ.head e))) = (sw, e)
a-corner columns a u (Memᴰ.tail (Memᴰ.tail (Memᴰ.tail (Memᴰ.head e)))) = (se, e)
a-corner columns a u (Memᴰ.tail (Memᴰ.tail (Memᴰ.tail (Memᴰ.tail h)))) = elim h [ ]

module _ {rows columns : ℕ} (s : Sides rows columns) where
  a_neighbour : {p r k q : ℕ} → Offset rows columns p r k q → r ≤ 2 → k ≤ 2 → Touching rows columns p q
  a_neighbour o hr hk = a_post o.in_plot (offset-touches o hr hk)

  -- the members of a ring are there
  place-touching : (falls : ℕ → Bool) {p q : ℕ} → p < rows * columns → Stands rows columns falls p q → Touching rows columns p q
  place-touching falls h (at_n t e) = rw e (a_neighbour (to-n s h t) (omega arith) (omega arith))
  place-touching falls h (at_ne t l d e) = rw e (a_neighbour (to-ne s h t l) (omega arith) (omega arith))
  place-touching falls h (at_e l e) = rw e (a_neighbour (to-e s h l) (omega arith) (omega arith))
  place-touching falls h (at_se l b d e) = rw e (a_neighbour (to-se s h l b) (omega arith) (omega arith))
  place-touching falls h (at_s b e) = rw e (a_neighbour (to-s s h b) (omega arith) (omega arith))
  place-touching falls h (at_sw b f d e) = rw e (a_neighbour (to-sw s h b f) (omega arith) (omega arith))
  place-touching falls h (at_w f e) = rw e (a_neighbour (to-w s h f) (omega arith) (omega arith))
  place-touching falls h (at_nw f t d e) = rw e (a_neighbour (to-nw s h f t) (omega arith) (omega arith))
  place-touching falls h (at_pit b e) = the_pit e

  ring-touching : (falls : ℕ → Bool) (p q : ℕ) → p < rows * columns → Memᴰ q (ring rows columns falls p) → Touching rows columns p q
  ring-touching falls p q h m = place-touching falls h ((ring-place rows columns falls p q).0 m)

  -- a ring reads the diagonals of the cells round the post
  pub ring-local : (falls falls' : ℕ → Bool) (p : ℕ) → p < rows * columns → CellsAgree rows columns falls falls' p → ring rows columns falls p ≡ ring rows columns falls' p
  unfolding ring places
  ring-local falls falls' p h same =
      let t = top columns p in
      let b = bottom rows columns p in
      let f = left columns p in
      let l = right columns p in
      let to_ne = read-agree t l (λ et el. ap not (same (p - columns) sw (cell-ne s p h et el))) in
      let to_se = read-agree l b (λ el eb. same p nw (cell-se s p h el eb)) in
      let to_sw = read-agree b f (λ eb ef. ap not (same (p - 1) ne (cell-sw s p h eb ef))) in
      let to_nw = read-agree f t (λ ef et. same (p - columns - 1) se (cell-nw s p h ef et)) in
      cc

  -- the corners of a cell of which p is a corner touch p
  corner-touching : {a p : ℕ} (i : Corner) → CornerOf rows columns a i p → (j : Corner) → Touching rows columns p (corner columns a j)
  corner-touching i c j =
      let wi = corner-within s c.cell i in
      let wj = corner-within s c.cell j in
      a_post (corner-post s c.cell j) (rw c.here (touches-true columns _ _ (omega arith) (omega arith) (omega arith) (omega arith)))

  -- the diagonal through a cell's lowest post reads the order among its corners
  pub diagonal-local : (lower lower' : ℕ → ℕ → Bool) (p : ℕ) → AgreeRound rows columns lower lower' p → CellsAgree rows columns (through_lowest lower columns) (through_lowest lower' columns) p
  unfolding through_lowest
  diagonal-local lower lower' p same a i c = rw (lowest-agree lower lower' _ (λ u v mu mv. same u v (touching u mu) (touching v mv)))
    where
      touching : (u : ℕ) → Memᴰ u (a ∷ (a + 1) ∷ (a + columns) ∷ (a + columns + 1) ∷ []) → Touching rows columns p u
      touching u m = let (j, e) = a-corner columns a u m in rw e (corner-touching i c j)

  -- the mark of a post reads no more
  pub mark-local : (lower lower' : ℕ → ℕ → Bool) (falls falls' : ℕ → Bool) (p : ℕ) → p < rows * columns → AgreeRound rows columns lower lower' p → CellsAgree rows columns falls falls' p → mark lower (ring rows columns falls) p ≡ mark lower' (ring rows columns falls') p
  mark-local lower lower' falls falls' p h same cells =
      let self : Touching rows columns p p = a_neighbour (here s h) (omega arith) (omega arith) in
      mark-agree lower lower' (ring rows columns falls) (ring rows columns falls') p (ring-local falls falls' p h cells)
      (λ q m. same p q self (ring-touching falls p q h m)) (λ q m. same q p (ring-touching falls p q h m) self)

-- Each neighbour of a post that is there is a post.
use Prim.Native.Nat.{ℕ, ◌+◌, ◌-◌, ◌*◌, ◌<◌, ◌≤◌}
use mathlib.Core.Path.{◌≡◌, refl, sym, ◌∙◌}
use mathlib.Core.Bool.{Bool, true, false, not, ◌&&◌, true≢false, and_assoc}
use native.Mathlib.Omega.{arith}
use borrow.Author.Tests.{not-true}
use Rattle.surface.specs.Plot.{Sides}
use Rattle.surface.specs.Edges.{top, bottom, left, right}
use Rattle.surface.proofs.AnyOrder.Grid.{top-false, bottom-false, not_left, south-right, north-left, north-right, west-right, east-post}
use Rattle.surface.proofs.AnyOrder.RingPlaces.{diagonal}
use Rattle.rings.specs.declared.corner.Corners.{Corners}
use Rattle.rings.specs.Corners.{borders_of, corners_of, Neighbours, Cell}

-- a corner whose cell is there stands off both borders
pub both_false : (a b : Bool) → not a && not b ≡ true → (a ≡ false) × (b ≡ false)
both_false true b h = absurd (true≢false (sym h))
both_false false true h = absurd (true≢false (sym h))
both_false false false h = (refl, refl)

-- corners are joined across a diagonal that rises, or along one that falls, where the cell is there
rises-there : (a b c : Bool) → not a && not b && not (not a && not b && c) ≡ not a && (not b && not c)
rises-there true b c = refl
rises-there false true c = refl
rises-there false false c = refl

pub joined_by : (t b l r ne se sw nw : Bool)
    → ◌≡◌ {A = Corners}
    (record {
      ne = not t && not r && not (not t && not r && ne);
      se = not r && not b && se;
      sw = not b && not l && not (not b && not l && sw);
      nw = not l && not t && nw;
    })
    (record { ne = not t && (not r && not ne); se = not r && (not b && se); sw = not b && (not l && not sw); nw = not l && (not t && nw) })
joined_by t b l r ne se sw nw = rw (rises-there t r ne, rises-there b l sw, and_assoc (not r) (not b) se, and_assoc (not l) (not t) nw)

module _ {rows columns : ℕ} (s : Sides rows columns) (p : ℕ) (post : p < rows * columns) where
  pub south-east : right columns p ≡ false → bottom rows columns p ≡ false → p + columns + 1 < rows * columns
  south-east r b = east-post s (p + columns) ((bottom-false s p post).0 b) (south-right s p ∙ r)

  pub north-west : left columns p ≡ false → top columns p ≡ false → columns + 1 ≤ p
  north-west l t = omega (arith, (top-false s p).0 t, not_left s (p - columns) (north-left s p t ∙ l))

  pub neighbours : (falls : ℕ → Bool) → Neighbours rows columns p (borders_of rows columns p) (corners_of rows columns falls p)
  neighbours falls =
      let t = top columns p in
      let b = bottom rows columns p in
      let l = left columns p in
      let r = right columns p in
      record {
        post = post;
        north = λ k. (top-false s p).0 (not-true t k);
        north_east = λ k. (top-false s p).0 (diagonal t r _ k).0;
        east = λ k. east-post s p post (not-true r k);
        south_east = λ k. let d = diagonal r b _ k in south-east d.0 d.1;
        south = λ k. (bottom-false s p post).0 (not-true b k);
        south_west = λ k. (bottom-false s p post).0 (diagonal b l _ k).0;
        west = λ k. not_left s p (not-true l k);
        north_west = λ k. let d = diagonal l t _ k in north-west d.0 d.1;
      }

  -- the cells round p that are there have their four posts in the plot
  pub cell-ne : not (top columns p) && not (right columns p) ≡ true → Cell rows columns p columns
  cell-ne k =
      let h = both_false (top columns p) (right columns p) k in
      let n = (top-false s p).0 h.0 in
      record { from = n; posts = omega (arith, east-post s p post h.1); inner = north-right s p h.0 ∙ h.1 }

  pub cell-se : not (right columns p) && not (bottom rows columns p) ≡ true → Cell rows columns p 0
  cell-se k =
      let h = both_false (right columns p) (bottom rows columns p) k in
      let e : p - 0 ≡ p = omega arith in
      record { from = omega arith; posts = omega (arith, south-east h.0 h.1); inner = rw e h.0 }

  pub cell-sw : not (bottom rows columns p) && not (left columns p) ≡ true → Cell rows columns p 1
  cell-sw k =
      let h = both_false (bottom rows columns p) (left columns p) k in
      let w = not_left s p h.1 in
      record { from = w; posts = omega (arith, (bottom-false s p post).0 h.0); inner = west-right s p h.1 }

  pub cell-nw : not (left columns p) && not (top columns p) ≡ true → Cell rows columns p (columns + 1)
  cell-nw k =
      let h = both_false (left columns p) (top columns p) k in
      let n = north-west h.0 h.1 in
      let e : p - (columns + 1) ≡ p - columns - 1 = omega arith in
      record { from = n; posts = omega arith; inner = rw e (west-right s (p - columns) (north-left s p h.1 ∙ h.0)) }

-- Where a vertex stands as seen from a post p: one row above, level or below, and one column before, level or after.
use Prim.Native.Nat.{ℕ, ◌+◌, ◌-◌, ◌*◌, ◌≤◌, ◌<◌}
use mathlib.Core.Path.{◌≡◌, refl, ap₂, ◌∙◌}
use mathlib.Core.Bool.{true, false, ◌&&◌, and-eq-true_iff, and_comm}
use native.Mathlib.Omega.{arith}
use lib.Dec.{leb}
use borrow.Author.Tests.{leb-true, le-leb}
use Rattle.surface.specs.Plot.{row, column, Sides}
use Rattle.surface.specs.Edges.{top, bottom, left, right}
use Rattle.surface.specs.Marks.{near, touches}
use Rattle.surface.proofs.AnyOrder.Grid.{row-south, column-south, row-east, column-east, row-north, column-north, row-west, column-west, south-post, east-post, south-left, south-right, north-left, north-right}

-- q is r - 1 rows below p and k - 1 columns after it
pub record Offset (rows columns p r k q : ℕ) : Type 0 where
  pub in_plot : q < rows * columns
  pub row_is : row columns q + 1 ≡ row columns p + r
  pub column_is : column columns q + 1 ≡ column columns p + k

module _ {rows columns p : ℕ} (s : Sides rows columns) where
  pub here : p < rows * columns → Offset rows columns p 1 1 p
  here h = record { in_plot = h; row_is = refl; column_is = refl }

  -- one step from q
  pub south : {r k q : ℕ} → Offset rows columns p r k q → bottom rows columns q ≡ false → Offset rows columns p (r + 1) k (q + columns)
  south {q} o b =
      record {
        in_plot = south-post s q o.in_plot b;
        row_is = omega (arith, o, row-south s q);
        column_is = omega (arith, o, column-south s q);
      }

  pub east : {r k q : ℕ} → Offset rows columns p r k q → right columns q ≡ false → Offset rows columns p r (k + 1) (q + 1)
  east {q} o l =
      record {
        in_plot = east-post s q o.in_plot l;
        row_is = omega (arith, o, row-east s q l);
        column_is = omega (arith, o, column-east s q l);
      }

  pub north : {k q : ℕ} (r : ℕ) → Offset rows columns p (r + 1) k q → top columns q ≡ false → Offset rows columns p r k (q - columns)
  north {q} r o t =
      record {
        in_plot = omega (arith, o);
        row_is = omega (arith, o, row-north s q t);
        column_is = omega (arith, o, column-north s q t);
      }

  pub west : {r q : ℕ} (k : ℕ) → Offset rows columns p r (k + 1) q → left columns q ≡ false → Offset rows columns p r k (q - 1)
  west {q} k o f =
      record {
        in_plot = omega (arith, o);
        row_is = omega (arith, o, row-west s q f);
        column_is = omega (arith, o, column-west s q f);
      }

  -- the eight neighbours of p, where they are there
  module _ (h : p < rows * columns) where
    pub to-n : top columns p ≡ false → Offset rows columns p 0 1 (p - columns)
    to-n t = north 0 (here h) t

    pub to-ne : top columns p ≡ false → right columns p ≡ false → Offset rows columns p 0 2 (p - columns + 1)
    to-ne t l = east (to-n t) (north-right s p t ∙ l)

    pub to-e : right columns p ≡ false → Offset rows columns p 1 2 (p + 1)
    to-e l = east (here h) l

    pub to-s : bottom rows columns p ≡ false → Offset rows columns p 2 1 (p + columns)
    to-s b = south (here h) b

    pub to-se : right columns p ≡ false → bottom rows columns p ≡ false → Offset rows columns p 2 2 (p + columns + 1)
    to-se l b = east (to-s b) (south-right s p ∙ l)

    pub to-sw : bottom rows columns p ≡ false → left columns p ≡ false → Offset rows columns p 2 0 (p + columns - 1)
    to-sw b f = west 0 (to-s b) (south-left s p ∙ f)

    pub to-w : left columns p ≡ false → Offset rows columns p 1 0 (p - 1)
    to-w f = west 0 (here h) f

    pub to-nw : left columns p ≡ false → top columns p ≡ false → Offset rows columns p 0 0 (p - columns - 1)
    to-nw f t = west 0 (to-n t) (north-left s p t ∙ f)

-- posts at most one row and one column apart are the same or touch by side or corner
near-true : (a b : ℕ) → a ≤ b + 1 → b ≤ a + 1 → near a b ≡ true
near-true a b h k = (and-eq-true_iff (leb a (b + 1)) (leb b (a + 1))).1 (le-leb a (b + 1) h, le-leb b (a + 1) k)

pub touches-true : (columns p q : ℕ) → row columns p ≤ row columns q + 1 → row columns q ≤ row columns p + 1 → column columns p ≤ column columns q + 1 → column columns q ≤ column columns p + 1 → touches columns p q ≡ true
unfolding touches
touches-true columns p q h₁ h₂ h₃ h₄ =
    (and-eq-true_iff (near (row columns p) (row columns q)) (near (column columns p) (column columns q))).1
    (near-true (row columns p) (row columns q) h₁ h₂, near-true (column columns p) (column columns q) h₃ h₄)

-- and those that touch are that close
pub record Close (columns p q : ℕ) : Type 0 where
  pub by_row : (row columns p ≤ row columns q + 1) × (row columns q ≤ row columns p + 1)
  pub by_column : (column columns p ≤ column columns q + 1) × (column columns q ≤ column columns p + 1)

near-close : (a b : ℕ) → near a b ≡ true → (a ≤ b + 1) × (b ≤ a + 1)
near-close a b h = let k = (and-eq-true_iff (leb a (b + 1)) (leb b (a + 1))).0 h in (leb-true a (b + 1) k.0, leb-true b (a + 1) k.1)

pub touches-close : (columns p q : ℕ) → touches columns p q ≡ true → Close columns p q
unfolding touches
touches-close columns p q h =
    let k = (and-eq-true_iff (near (row columns p) (row columns q)) (near (column columns p) (column columns q))).0 h in
    record { by_row = near-close (row columns p) (row columns q) k.0; by_column = near-close (column columns p) (column columns q) k.1 }

near-sym : (a b : ℕ) → near a b ≡ near b a
near-sym a b = and_comm (leb a (b + 1)) (leb b (a + 1))

pub touches-sym : (columns p q : ℕ) → touches columns p q ≡ touches columns q p
unfolding touches
touches-sym columns p q = ap₂ ◌&&◌ (near-sym (row columns p) (row columns q)) (near-sym (column columns p) (column columns q))

pub offset-touches : {rows columns p r k q : ℕ} → Offset rows columns p r k q → r ≤ 2 → k ≤ 2 → touches columns p q ≡ true
offset-touches {columns} {p} {q} o hr hk =
    touches-true columns p q (omega (arith, o)) (omega (arith, o)) (omega (arith, o)) (omega (arith, o))

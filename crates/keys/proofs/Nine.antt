-- The posts round a post p that are there stand among the nine; on no border all are.
use Prim.Native.Nat.{ℕ, ◌+◌, ◌-◌, ◌*◌, ◌≤◌, ◌<◌}
use native.Mathlib.Omega.{arith}
use mathlib.Core.Path.{◌≡◌, ◌∙◌}
use mathlib.Core.Bool.{false}
use Rattle.surface.specs.Plot.{Plot, posts, Sides, PostOf}
use Rattle.surface.specs.Edges.{top, bottom, left, right, is_border}
use Rattle.surface.proofs.General.Bools.{or_left, or_right}
use Rattle.surface.proofs.AnyOrder.Grid.{top-false, bottom-false, row-south, column-south, row-north, column-north, row-east, column-east, row-west, column-west, east-post, south-left, south-right, north-left, north-right}
use Rattle.order.specs.Ties.{Near, Stands}
use Rattle.order.proofs.Places.{stands-near}
use Rattle.rings.specs.Corners.{borders_of}
use Rattle.rings.proofs.Around.{south-east}
use Rattle.keys.specs.Keys.{There, inside}

-- one step aside
module _ {rows columns : ℕ} (s : Sides rows columns) {p q down : ℕ} (t : Stands columns p q down 1) where
  pub to-east : (r : ℕ) → r ≡ q + 1 → right columns q ≡ false → Stands columns p r down 2
  to-east r e h = rw e (record { in_row = rw (row-east s q h) t.in_row; in_column = omega (arith, column-east s q h, t.in_column) })

  pub to-west : (r : ℕ) → r ≡ q - 1 → left columns q ≡ false → Stands columns p r down 0
  to-west r e h = rw e (record { in_row = rw (row-west s q h) t.in_row; in_column = omega (arith, column-west s q h, t.in_column) })

pub there-near : {pl : Plot} {p down along : ℕ} (t : There pl p down along) → Near pl.columns p t.q
there-near t = stands-near t.stands t.in_rows t.in_columns

module _ {pl : Plot} {p : ℕ} (post : PostOf pl p) where
  abbrev s : Sides pl.rows pl.columns
  s = post.valid.sides

  abbrev c : ℕ
  c = pl.columns

  pub own : Stands c p p 1 1
  own = record { in_row = omega arith; in_column = omega arith }

  pub north : top c p ≡ false → Stands c p (p - c) 0 1
  north t = record { in_row = omega (arith, row-north s p t); in_column = omega (arith, column-north s p t) }

  pub south : Stands c p (p + c) 2 1
  south = record { in_row = omega (arith, row-south s p); in_column = omega (arith, column-south s p) }

  -- a post that stands so
  abbrev there : (q : ℕ) {down along : ℕ} → q < posts pl → Stands c p q down along → down ≤ 2 → along ≤ 2 → There pl p down along
  there q h t d a = record { q = q; post = h; stands = t; in_rows = d; in_columns = a }

  abbrev pub own-there : There pl p 1 1
  own-there = there p post.post own (omega arith) (omega arith)

  abbrev pub n-there : top c p ≡ false → There pl p 0 1
  n-there t = there (p - c) (omega (arith, post.post)) (north t) (omega arith) (omega arith)

  abbrev pub ne-there : top c p ≡ false → right c p ≡ false → There pl p 0 2
  ne-there t r =
      let n = (top-false s p).0 t in
      there (p - (c - 1)) (omega (arith, post.post, east-post s p post.post r, s.wide)) (to-east s (north t) (p - (c - 1)) (omega (arith, s.wide)) (north-right s p t ∙ r)) (omega arith) (omega arith)

  abbrev pub e-there : right c p ≡ false → There pl p 1 2
  e-there r = there (p + 1) (east-post s p post.post r) (to-east s own (p + 1) (omega arith) r) (omega arith) (omega arith)

  abbrev pub se-there : right c p ≡ false → bottom pl.rows c p ≡ false → There pl p 2 2
  se-there r b =
      there (p + (c + 1)) (omega (arith, south-east s p post.post r b)) (to-east s south (p + (c + 1)) (omega arith) (south-right s p ∙ r)) (omega arith) (omega arith)

  abbrev pub s-there : bottom pl.rows c p ≡ false → There pl p 2 1
  s-there b = there (p + c) ((bottom-false s p post.post).0 b) south (omega arith) (omega arith)

  abbrev pub sw-there : bottom pl.rows c p ≡ false → left c p ≡ false → There pl p 2 0
  sw-there b l =
      there (p + (c - 1)) (omega (arith, (bottom-false s p post.post).0 b)) (to-west s south (p + (c - 1)) (omega (arith, s.wide)) (south-left s p ∙ l)) (omega arith) (omega arith)

  abbrev pub w-there : left c p ≡ false → There pl p 1 0
  w-there l = there (p - 1) (omega (arith, post.post)) (to-west s own (p - 1) (omega arith) l) (omega arith) (omega arith)

  abbrev pub nw-there : left c p ≡ false → top c p ≡ false → There pl p 0 0
  nw-there l t =
      there (p - (c + 1)) (omega (arith, post.post)) (to-west s (north t) (p - (c + 1)) (omega arith) (north-left s p t ∙ l)) (omega arith) (omega arith)

  -- on no border
  pub record Off : Type 0 where
    pub top : top pl.columns p ≡ false
    pub right : right pl.columns p ≡ false
    pub bottom : bottom pl.rows pl.columns p ≡ false
    pub left : left pl.columns p ≡ false

  module _ (border : is_border pl.rows pl.columns p ≡ false) where
    pub off-borders : Off
    off-borders =
        let r = or_right (top pl.columns p) _ border in
        let b = or_right (right pl.columns p) _ r in
        record { top = or_left _ _ border; right = or_left _ _ r; bottom = or_left _ _ b; left = or_right (bottom pl.rows pl.columns p) _ b }

    pub inside-at : borders_of pl.rows pl.columns p ≡ inside
    inside-at = rw (off-borders.top, off-borders.right, off-borders.bottom, off-borders.left)

-- the nine by their numbers
pub offsets : (p columns : ℕ) → 2 ≤ columns
    → (p + (1 * columns + 1) - (columns + 1) ≡ p)
    × (p + (0 * columns + 1) - (columns + 1) ≡ p - columns)
    × (p + (0 * columns + 2) - (columns + 1) ≡ p - (columns - 1))
    × (p + (1 * columns + 2) - (columns + 1) ≡ p + 1)
    × (p + (2 * columns + 2) - (columns + 1) ≡ p + (columns + 1))
    × (p + (2 * columns + 1) - (columns + 1) ≡ p + columns)
    × (p + (2 * columns + 0) - (columns + 1) ≡ p + (columns - 1))
    × (p + (1 * columns + 0) - (columns + 1) ≡ p - 1)
    × (p + (0 * columns + 0) - (columns + 1) ≡ p - (columns + 1))
offsets p columns wide = (omega arith, omega arith, omega arith, omega arith, omega arith, omega arith, omega arith, omega arith, omega arith)

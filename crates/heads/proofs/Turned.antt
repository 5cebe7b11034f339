-- What the flags of a row tell, turned round, of the row below: the upper halves of its patterns.
use Prim.Native.Nat.{ℕ, ◌+◌, ◌-◌, ◌<◌}
use native.Mathlib.Omega.{arith}
use native.Mathlib.Nat.{add-mul, one-mul}
use mathlib.Core.Path.{◌≡◌, refl, sym, ◌∙◌, ap}
use mathlib.Core.Bool.{Bool, true, false, cond, not, ◌&&◌, ◌||◌, or-true}
use mathlib.Core.List.{List}
use lib.ListN.{get_or}
use Rattle.surface.specs.Plot.{Plot, posts, below, Valid}
use Rattle.surface.specs.Edges.{bottom, left, right}
use Rattle.surface.specs.Flags.{upper_by, north_pair, west_sign, west_pair}
use Rattle.surface.proofs.General.Bools.{not-not}
use Rattle.surface.proofs.AnyOrder.Grid.{top-false, top-true, left_false, row_fits}
use Rattle.surface.proofs.OfPlots.HeightOrder.{below-strict}
use Rattle.flags.specs.Rows.{RowOf, Side, South}
use Rattle.flags.proofs.Beneath.{row_below, bottom-off}
use Rattle.halves.specs.Halves.{upper_in}
use Rattle.heads.proofs.Told.{or-cond, and-cond, column-at, at-east, at-west}

-- a flag turned
turned : (pl : Plot) {x : Bool} (p q p' q' : ℕ) → x ≡ below pl q p → p < q → p ≡ p' → q ≡ q' → not x ≡ below pl p' q'
turned pl p q p' q' i h j m = rw (i, sym j, sym m) (sym ((below-strict pl).other q p (λ e. omega arith)))

-- the row below, by the same flags turned round
module _ {pl : Plot} (valid : Valid pl) {base : ℕ} (at : RowOf pl.rows pl.columns base) (more : base + pl.columns < posts pl) (c : ℕ) (in_row : c < pl.columns) {side south fall rise under : List Bool} (e : Side pl base side) (t : South pl base south fall rise under) where
  abbrev k : ℕ
  k = pl.columns

  abbrev q : ℕ
  q = base + k + c

  abbrev r : Bool
  r = right k q

  abbrev l : Bool
  l = left k q

  below_row : RowOf pl.rows k (base + k)
  below_row =
      record { r = at.r + 1; start = omega (arith, at.start, add-mul at.r 1 k, one-mul k); room = row_below valid at more }

  -- a flag to the south, in a column of the row
  down : (n : ℕ) → n < k → get_or south (n + 1) false ≡ below pl (base + k + n) (base + n)
  down n h = t.down n h ∙ rw (bottom-off valid at more n h)

  north : not (get_or south (c + 1) false) ≡ below pl (q - k) q
  north = turned pl (base + c) q (q - k) q (down c in_row) (omega (arith, valid.sides)) (omega arith) refl

  north-east : not (get_or rise (c + 1) false) ≡ r || below pl (q - k + 1) q
  north-east =
      at-east valid below_row c in_row true _ _ (λ i. ap (λ (n : ℕ). not (get_or rise n false)) i ∙ ap not t.ends.rise_last)
      (λ i. turned pl (base + (c + 1)) q (q - k + 1) q (t.rises more c i) (omega arith) (omega arith) refl)
      ∙ or-cond r _

  north-after : not (get_or south (c + 2) false) ≡ not r && below pl (q - k + 1) (q + 1)
  north-after =
      at-east valid below_row c in_row false _ _
      (λ i. let j : c + 2 ≡ k + 1 = omega arith in ap (λ (n : ℕ). not (get_or south n false)) j ∙ ap not t.ends.south_last)
      (λ i.
      let j : c + 2 ≡ c + 1 + 1 = omega arith in
      ap (λ (n : ℕ). not (get_or south n false)) j
      ∙ turned pl (base + (c + 1)) (base + k + (c + 1)) (q - k + 1) (q + 1) (down (c + 1) i) (omega (arith, valid.sides)) (omega arith) (omega arith))
      ∙ and-cond r _

  -- flags to the west, in the column before
  westward : (flags : List Bool) (x : Bool) → get_or flags 0 false ≡ false → ((n : ℕ) → c ≡ n + 1 → not (get_or flags (n + 1) false) ≡ x) → not (get_or flags c false) ≡ l || x
  westward flags x first inner =
      at-west valid below_row c in_row true x _ (λ i. ap (λ (n : ℕ). not (get_or flags n false)) i ∙ ap not first)
      (λ n i. ap (λ (m : ℕ). not (get_or flags m false)) i ∙ inner n i)
      ∙ or-cond l x

  west : not (get_or under c false) ≡ l || below pl (q - 1) q
  west =
      westward under _ (t.next more).ends.west
      (λ n i. turned pl (base + k + n) (base + k + (n + 1)) (q - 1) q ((t.next more).along n (omega arith)) (omega arith) (omega arith) (omega arith))

  north-west : not (get_or fall c false) ≡ l || below pl (q - k - 1) q
  north-west =
      westward fall _ t.ends.fall_first
      (λ n i. turned pl (base + n) (base + k + (n + 1)) (q - k - 1) q (t.falls more n (omega arith)) (omega arith) (omega arith) (omega arith))

  west-after : not (get_or side c false) ≡ l || below pl (q - k - 1) (q - k)
  west-after =
      westward side _ e.ends.west
      (λ n i. turned pl (base + n) (base + (n + 1)) (q - k - 1) (q - k) (e.along n (omega arith)) (omega arith) (omega arith) (omega arith))

  pub upper-told : upper_in pl.highest side south fall rise under c ≡ upper_by (north_pair pl q) (west_pair pl q)
  unfolding north_pair west_pair west_sign
  upper-told = rw ((top-false valid.sides q).1 (omega arith), north, north-east, north-after, west, north-west, west-after)

-- the flags above the top row: the virtual pit, but that the first post of all carries the sign of S at W
pub record First (pl : Plot) (side south fall rise under : List Bool) : Type 0 where
  pub side_true : (c : ℕ) → c < pl.columns → get_or side c false ≡ true
  pub south_false : (c : ℕ) → c < pl.columns → get_or south (c + 1) false ≡ false
  pub south_last : get_or south (pl.columns + 1) false ≡ true
  pub fall_false : (c : ℕ) → c < pl.columns → get_or fall c false ≡ false
  pub rise_false : (c : ℕ) → c < pl.columns → get_or rise (c + 1) false ≡ false
  pub west : get_or under 0 false ≡ not (below pl pl.columns 0)
  pub along : (c : ℕ) → c + 1 < pl.columns → get_or under (c + 1) false ≡ below pl (0 + (c + 1)) (0 + c)

pub upper_first : {pl : Plot} → Valid pl → RowOf pl.rows pl.columns 0 → {side south fall rise under : List Bool} → First pl side south fall rise under → (c : ℕ) → c < pl.columns
    → upper_in pl.highest side south fall rise under c ≡ upper_by (north_pair pl (0 + c)) (west_pair pl (0 + c))
unfolding north_pair west_pair west_sign
upper_first {pl} valid at {side} {south} {fall} {rise} {under} f c in_row =
    rw (f.south_false c in_row, f.rise_false c in_row, f.fall_false c in_row, f.side_true c in_row, (top-true valid.sides (0 + c)).1 (omega arith), north-after, west, or-true (left k (0 + c)))
  where
    k : ℕ
    k = pl.columns

    north-after : not (get_or south (c + 2) false) ≡ not (right k (0 + c)) && true
    north-after =
        at-east valid at c in_row false true _
        (λ i. let j : c + 2 ≡ pl.columns + 1 = omega arith in ap (λ (n : ℕ). not (get_or south n false)) j ∙ ap not f.south_last)
        (λ i. let j : c + 2 ≡ c + 1 + 1 = omega arith in ap (λ (n : ℕ). not (get_or south n false)) j ∙ ap not (f.south_false (c + 1) i))
        ∙ and-cond (right k (0 + c)) true

    west : not (get_or under c false) ≡ cond (left k (0 + c)) (bottom pl.rows k (0 + c) || below pl (0 + c + k) (0 + c)) (left k (0 + c) || below pl (0 + c - 1) (0 + c))
    west =
        at-west valid at c in_row _ _ _
        (λ i.
        let j : 0 + c + pl.columns ≡ pl.columns = omega arith in
        let m : 0 + c ≡ 0 = omega arith in
        ap (λ (n : ℕ). not (get_or under n false)) i
        ∙ ap not f.west
        ∙ not-not (below pl pl.columns 0)
        ∙ rw (bottom-off valid at (omega (arith, row_fits valid.sides)) c in_row, j, m))
        (λ n i.
        let off : left pl.columns (0 + c) ≡ false = (left_false valid.sides (0 + c)).1 (omega (arith, column-at valid at c in_row)) in
        ap (λ (m : ℕ). not (get_or under m false)) i
        ∙ turned pl (0 + n) (0 + (n + 1)) (0 + c - 1) (0 + c) (f.along n (omega arith)) (omega arith) (omega arith) (omega arith)
        ∙ rw off)

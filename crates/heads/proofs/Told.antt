-- What rows of flags tell of the posts of a row: the lower halves of their patterns.
use Prim.Native.Nat.{ℕ, ◌%◌, ◌+◌, ◌-◌, ◌≤◌, ◌<◌}
use native.Mathlib.Omega.{arith}
use mathlib.Core.Path.{◌≡◌, refl, sym, ◌∙◌, ap, ap₂}
use mathlib.Core.Bool.{Bool, true, false, cond, not, ◌&&◌, ◌||◌}
use mathlib.Core.List.{List}
use native.Mathlib.Decide.{ℕ_discrete}
use borrow.Author.Tests.{ltb-true, ltb-false}
use lib.Dec.{ltb}
use lib.ListN.{get_or}
use Rattle.surface.specs.Plot.{Plot, posts, below, Sides, Valid}
use Rattle.surface.specs.Edges.{bottom, left, right}
use Rattle.surface.specs.Flags.{lower_by, east_pair, south_pair}
use Rattle.surface.proofs.General.Bools.{either}
use Rattle.surface.proofs.AnyOrder.Grid.{column-is, left-true, left_false, right-true, right-false}
use Rattle.order.proofs.Level.{below-same}
use Rattle.flags.specs.Rows.{RowOf, Side, South}
use Rattle.flags.proofs.Beneath.{bottom-off, bottom-on}
use Rattle.halves.specs.Halves.{lower_in}

-- tests that stand in another order
pub or-cond : (u x : Bool) → cond u true x ≡ u || x
or-cond true x = refl
or-cond false x = refl

swapped : (u v x : Bool) → cond u true (cond v true x) ≡ v || (u || x)
swapped true true x = refl
swapped true false x = refl
swapped false true x = refl
swapped false false x = refl

pub and-cond : (u x : Bool) → cond u false x ≡ not u && x
and-cond true x = refl
and-cond false x = refl

module _ {pl : Plot} (valid : Valid pl) {base : ℕ} (at : RowOf pl.rows pl.columns base) where
  s : Sides pl.rows pl.columns
  s = valid.sides

  -- the post in column c, and what stands at its borders
  module _ (c : ℕ) (in_row : c < pl.columns) where
    pub column-at : (base + c) % pl.columns ≡ c
    column-at = column-is s {q = base + c} at.r c in_row (omega (arith, at.start))

    -- a flag to the east by its column: at the end of the row or within; and one to the west
    pub at-east : (v x y : Bool) → (c + 1 ≡ pl.columns → y ≡ v) → (c + 1 < pl.columns → y ≡ x) → y ≡ cond (right pl.columns (base + c)) v x
    at-east v x y last inner = go (ℕ_discrete (c + 1) pl.columns)
      where
        go : Dec (c + 1 ≡ pl.columns) → y ≡ cond (right pl.columns (base + c)) v x
        go (yes i) = rw ((right-true s (base + c)).1 (omega (arith, column-at))) (last i)
        go (no i) = rw ((right-false s (base + c)).1 (omega (arith, column-at, i))) (inner (omega (arith, i)))

    pub at-west : (v x y : Bool) → (c ≡ 0 → y ≡ v) → ((k : ℕ) → c ≡ k + 1 → y ≡ x) → y ≡ cond (left pl.columns (base + c)) v x
    at-west v x y first inner = go (ℕ_discrete c 0)
      where
        go : Dec (c ≡ 0) → y ≡ cond (left pl.columns (base + c)) v x
        go (yes i) = rw ((left-true s (base + c)).1 (column-at ∙ i)) (first i)
        go (no i) = rw ((left_false s (base + c)).1 (omega (arith, column-at, i))) (inner (c - 1) (omega (arith, i)))

    at-bottom : (v x y : Bool) → (posts pl ≤ base + pl.columns → y ≡ v) → (base + pl.columns < posts pl → y ≡ x) → y ≡ cond (bottom pl.rows pl.columns (base + c)) v x
    at-bottom v x y last inner =
        either (ltb (base + pl.columns) (posts pl)) (λ e. let i = ltb-true (base + pl.columns) (posts pl) e in rw (bottom-off valid at i c in_row) (inner i))
        (λ e. let i = ltb-false (base + pl.columns) (posts pl) e in rw (bottom-on valid at i c in_row) (last i))

    module _ {side south fall rise under : List Bool} (e : Side pl base side) (t : South pl base south fall rise under) where
      abbrev p : ℕ
      p = base + c

      abbrev k : ℕ
      k = pl.columns

      abbrev r : Bool
      r = right k p

      abbrev b : Bool
      b = bottom pl.rows k p

      abbrev l : Bool
      l = left k p

      east : get_or side (c + 1) false ≡ r || below pl (p + 1) p
      east =
          at-east true (below pl (p + 1) p) _ (λ i. ap (λ (n : ℕ). get_or side n false) i ∙ e.ends.east) (λ i. e.along c i ∙ below-same pl (omega arith) refl)
          ∙ or-cond r _

      south-east : get_or fall (c + 1) false ≡ r || (b || below pl (p + k + 1) p)
      south-east =
          at-east true (cond b true (below pl (p + k + 1) p)) _ (λ i. ap (λ (n : ℕ). get_or fall n false) i ∙ t.ends.fall_last)
          (λ i. at-bottom true (below pl (p + k + 1) p) _ (λ j. (t.beyond j c i).0) (λ j. t.falls j c i ∙ below-same pl (omega arith) refl))
          ∙ or-cond r _
          ∙ ap (λ (x : Bool). r || x) (or-cond b _)

      east-after : get_or under (c + 1) false ≡ not b && (r || below pl (p + k + 1) (p + k))
      east-after =
          at-bottom false (cond r true (below pl (p + k + 1) (p + k))) _ (λ j. t.none j c in_row)
          (λ j.
          at-east true (below pl (p + k + 1) (p + k)) _ (λ i. ap (λ (n : ℕ). get_or under n false) i ∙ (t.next j).ends.east)
          (λ i. (t.next j).along c i ∙ below-same pl (omega arith) (omega arith)))
          ∙ and-cond b _
          ∙ ap (λ (x : Bool). not b && x) (or-cond r _)

      south-is : get_or south (c + 1) false ≡ b || below pl (p + k) p
      south-is = t.down c in_row ∙ ap (λ (x : Bool). b || x) (below-same pl (omega arith) refl)

      south-west : get_or rise c false ≡ b || (l || below pl (p + k - 1) p)
      south-west =
          at-west true (cond b true (below pl (p + k - 1) p)) _ (λ i. ap (λ (n : ℕ). get_or rise n false) i ∙ t.ends.rise_first)
          (λ n i.
          ap (λ (m : ℕ). get_or rise m false) i
          ∙ at-bottom true (below pl (p + k - 1) p) _ (λ j. (t.beyond j n (omega arith)).1) (λ j. t.rises j n (omega arith) ∙ below-same pl (omega arith) (omega arith)))
          ∙ swapped l b _

      south-after : get_or south c false ≡ not l && (b || below pl (p + k - 1) (p - 1))
      south-after =
          at-west false (b || below pl (p + k - 1) (p - 1)) _ (λ i. ap (λ (n : ℕ). get_or south n false) i ∙ t.ends.south_first)
          (λ n i.
          ap (λ (m : ℕ). get_or south m false) i
          ∙ t.down n (omega arith)
          ∙ ap₂ ◌||◌ (bottom-same n (omega arith)) (below-same pl (omega arith) (omega arith)))
          ∙ and-cond l _
        where
          bottom-same : (n : ℕ) → n < k → bottom pl.rows k (base + n) ≡ b
          bottom-same n h =
              at-bottom true false (bottom pl.rows k (base + n)) (λ j. bottom-on valid at j n h) (λ j. bottom-off valid at j n h)
              ∙ sym (at-bottom true false b (λ j. bottom-on valid at j c in_row) (λ j. bottom-off valid at j c in_row))

      pub lower-told : lower_in pl.highest side south fall rise under c ≡ lower_by (east_pair pl p) (south_pair pl p)
      unfolding east_pair south_pair
      lower-told = rw (east, south-east, east-after, south-is, south-west, south-after)

-- What acceptance says that calls share: sides, sizes and ranges by the rows of the table, the rows where these are given, and the plot of an accepted call.
use Prim.Native.Nat.{ℕ}
use mathlib.Core.Path.{◌≡◌, sym, ◌∙◌, ap, ap₂}
use mathlib.Core.Bool.{Bool, false, not}
use mathlib.Core.List.{List, [], ◌∷◌}
use borrow.Author.Tests.{eqb-true, eq-eqb, leb-true, le-leb, not-false}
use lib.Dec.{leb, eqb}
use lib.IntN.{ℤ}
use lib.ListN.{length}
use Rattle.surface.specs.Plot.{Plot, plot_of, posts, is_height, Sides, Valid}
use Rattle.surface.specs.Spacings.{is_spacing, Spaced}
use Rattle.surface.specs.Refusals.{accepted, verdict, row1, row2, row4, row15, leading, leading_spaced}
use Rattle.surface.specs.Calls.{plot_said, grid_said}
use Rattle.surface.specs.declared.Answer.{Answer}
use Rattle.surface.specs.declared.Grid.{Grid}
use Rattle.surface.specs.declared.Sheet.{Sheet}
use Rattle.surface.specs.declared.Spacings.{Spacings}
use Rattle.surface.proofs.General.Bools.{and_left, and_right}
use Rattle.surface.proofs.AnyOrder.Grid.{test-sides, sides-test}
use Rattle.surface.proofs.OfCalls.Verdicts.{code, passed, clear-by-post}

-- tests that a row makes, as equations
pub test-equal : (m n : ℕ) → not (eqb m n) ≡ false → m ≡ n
test-equal m n e = eqb-true m n (not-false _ e)

pub equal-test : (m n : ℕ) → m ≡ n → not (eqb m n) ≡ false
equal-test m n e = ap not (eq-eqb m n e)

-- the sides and the size of an accepted plot
pub plot-sized :
    (pl : Plot) (s : Spacings)
    → (verdict (row1 pl.rows pl.columns ∷ row15 s ∷ row2 pl ∷ [])).code ≡ 0
    → Sides pl.rows pl.columns × (length pl.heights ≡ posts pl)
plot-sized pl s e = let row = passed (row1 pl.rows pl.columns ∷ row15 s ∷ row2 pl ∷ []) tt e in (test-sides _ _ (not-false _ (row 1)), test-equal _ _ (row 2))

pub led-sized : (pl : Plot) → (verdict (leading pl)).code ≡ 0 → Sides pl.rows pl.columns × (length pl.heights ≡ posts pl)
led-sized pl e = let row = passed (leading pl) tt e in (test-sides _ _ (not-false _ (row 1)), test-equal _ _ (row 2))

-- spacings in range, by row 15 and for it
pub row15-spaced : (s : Spacings) → (row15 s).holds ≡ false → Spaced s
row15-spaced s e =
    let t = not-false _ e in
    let east = and_left (is_spacing s.east) _ t in
    let south = and_right (is_spacing s.east) _ t in
    record {
      east_some = leb-true 1 s.east (and_left (leb 1 s.east) _ east);
      east_most = leb-true s.east 1000 (and_right (leb 1 s.east) _ east);
      south_some = leb-true 1 s.south (and_left (leb 1 s.south) _ south);
      south_most = leb-true s.south 1000 (and_right (leb 1 s.south) _ south);
    }

pub row15-passes : {s : Spacings} → Spaced s → (row15 s).holds ≡ false
row15-passes {s} h =
    rw (le-leb 1 s.east h.east_some, le-leb s.east 1000 h.east_most, le-leb 1 s.south h.south_some, le-leb s.south 1000 h.south_most)

pub spaced-sized : (pl : Plot) (s : Spacings) → (verdict (leading_spaced pl s)).code ≡ 0 → Sides pl.rows pl.columns × (length pl.heights ≡ posts pl) × Spaced s
spaced-sized pl s e =
    let row = passed (leading_spaced pl s) tt e in
    (test-sides _ _ (not-false _ (row 1)), test-equal _ _ (row 2), row15-spaced s (row 15))

-- a plot, by rows 1, 2 and 4, and these rows for it
module _ (pl : Plot) where
  pub rows-valid : (row1 pl.rows pl.columns).holds ≡ false → (row2 pl).holds ≡ false → (row4 is_height pl.heights).holds ≡ false → Valid pl
  rows-valid a b c =
      record { sides = test-sides _ _ (not-false _ a); size = test-equal _ _ b; in_range = (clear-by-post is_height (λ _. 4) pl.heights).0 c }

  module _ (v : Valid pl) where
    pub row1-passes : (row1 pl.rows pl.columns).holds ≡ false
    row1-passes = ap not (sides-test v.sides)

    pub row2-passes : (row2 pl).holds ≡ false
    row2-passes = equal-test _ _ v.size

    pub row4-passes : (row4 is_height pl.heights).holds ≡ false
    row4-passes = (clear-by-post is_height (λ _. 4) pl.heights).1 v.in_range

-- the settings sheet is not bad
abbrev pub SheetPasses : Plot → Type 0
SheetPasses pl = (pl.bad_sheet ≡ false) × (pl.bad_entry ≡ false)

-- A call whose verdict is acceptance goes on with a grid that has the rule of its sheet: that grid and the heights are the plot that it was asked about, and
-- the verdict on it is acceptance too.
module _ (said : Sheet) (rows columns : ℕ) (heights : List ℤ) where
  pub record Served (verdict_on : Plot → Answer) (grid : Grid) : Type 0 where
    pub same_plot : plot_said said rows columns heights ≡ plot_of grid heights
    pub passed : (verdict_on (plot_of grid heights)).code ≡ 0

  pub serve : (verdict_on : Plot → Answer) → ((verdict_on (plot_said said rows columns heights)).code ≡ 0 → SheetPasses (plot_said said rows columns heights))
      → {v : Answer} → v ≡ verdict_on (plot_said said rows columns heights) → v.code ≡ 0
      → {grid : Grid} → grid ≡ grid_said said rows columns → Served verdict_on grid
  serve verdict_on sheet e z g =
      let h = sym (code e) ∙ z in
      let s = sheet h in
      let same : plot_said said rows columns heights ≡ plot_of (grid_said said rows columns) heights =
      ap₂ (λ (a b : Bool). record { rows = rows; columns = columns; heights = heights; bad_sheet = a; bad_entry = b; highest = eqb said.rule 2 }) s.0 s.1
      in
      rw g (record { same_plot = same; passed = sym (ap (λ (pl : Plot). (verdict_on pl).code) same) ∙ h })

-- The same of a check that gave the grid.
module _ (pl : Plot) (grid : Grid) where
  pub record Gridded (verdict_on : Plot → Answer) : Type 0 where
    pub same_plot : pl ≡ plot_of grid pl.heights
    pub passed : (verdict_on (plot_of grid pl.heights)).code ≡ 0

  pub gridded : (verdict_on : Plot → Answer) → accepted ≡ verdict_on pl → plot_of grid pl.heights ≡ pl → Gridded verdict_on
  gridded verdict_on e same = record { same_plot = sym same; passed = ap (λ (x : Plot). (verdict_on x).code) same ∙ sym (code e) }

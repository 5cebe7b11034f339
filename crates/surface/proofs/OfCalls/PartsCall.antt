-- The outcome of dales and hills, by the row that refuses the call or by what it leaves, and what acceptance says of it.
use Prim.Native.Nat.{ℕ}
use mathlib.Core.Path.{◌≡◌, sym, ◌∙◌, ap}
use mathlib.Core.Bool.{Bool, true, false, ◌||◌}
use mathlib.Core.List.{List, [], ◌∷◌}
use lib.ListN.{length}
use Rattle.surface.specs.Plot.{Plot, posts, is_height, Valid}
use Rattle.surface.specs.Spacings.{Spaced}
use Rattle.surface.specs.Lines.{dales_of, hills_of}
use Rattle.surface.specs.Refusals.{accepted, verdict, row_of, is_not, row4, leading_spaced, parts_verdict}
use Rattle.surface.specs.Calls.{parts_dales, parts_hills}
use Rattle.surface.specs.declared.Spacings.{Spacings}
use Rattle.surface.proofs.General.Bools.{or_left, or_right}
use Rattle.surface.proofs.OfCalls.Verdicts.{passed, row-holds, row-passed, done, ◌⨟◌, clear-accepted, leads-refused, leads-passed, settled-refused, settled-accepted}
use Rattle.surface.proofs.OfCalls.Accepted.{SheetPasses, test-equal, equal-test, rows-valid, row1-passes, row2-passes, row4-passes, row15-spaced, row15-passes, spaced-sized}

module _ (pl : Plot) (s : Spacings) (dales hills : List ℕ) where
  -- the call is accepted exactly of a plot, spacings in range and two lists of the plot's size
  pub record ForParts : Type 0 where
    pub sheet : SheetPasses pl
    pub valid : Valid pl
    pub spaced : Spaced s
    pub dales_size : length dales ≡ posts pl
    pub hills_size : length hills ≡ posts pl

  pub parts-valid : (parts_verdict pl s dales hills).code ≡ 0 → ForParts
  unfolding parts_verdict
  parts-valid e =
      let row = passed _ tt e in
      record {
        sheet = (row 13, row 14);
        valid = rows-valid pl (row 1) (row 2) (row 4);
        spaced = row15-spaced s (row 15);
        dales_size = test-equal _ _ (or_left (is_not dales (posts pl)) _ (row 3));
        hills_size = test-equal _ _ (or_right (is_not dales (posts pl)) _ (row 3));
      }

  pub valid-parts : ForParts → parts_verdict pl s dales hills ≡ accepted
  unfolding parts_verdict
  valid-parts f =
      let v = f.valid in
      clear-accepted (
      f.sheet.0
      ⨟ f.sheet.1
      ⨟ row1-passes pl v
      ⨟ row15-passes f.spaced
      ⨟ row2-passes pl v
      ⨟ rw (equal-test _ _ f.dales_size) (equal-test _ _ f.hills_size)
      ⨟ row4-passes pl v
      ⨟ done
      )

  pub size-refused : ((verdict (leading_spaced pl s)).code ≡ 0 → ⊥) → parts_verdict pl s dales hills ≡ verdict (leading_spaced pl s)
  unfolding parts_verdict
  size-refused h = leads-refused (leading_spaced pl s) _ tt h

  -- where the rows that lead pass: row 3, by the number of heights
  module _ (z : (verdict (leading_spaced pl s)).code ≡ 0) where
    abbrev unequal : Bool
    unequal = is_not dales (length pl.heights) || is_not hills (length pl.heights)

    size-passed : parts_verdict pl s dales hills ≡ verdict (row_of 3 unequal ∷ row4 is_height pl.heights ∷ [])
    unfolding parts_verdict
    size-passed =
        leads-passed (leading_spaced pl s) _ tt z
        ∙ ap (λ (n : ℕ). verdict (row_of 3 (is_not dales n || is_not hills n) ∷ row4 is_height pl.heights ∷ [])) (sym (spaced-sized pl s z).1)

    pub lists-refused : unequal ≡ true → parts_verdict pl s dales hills ≡ record { code = 3; place = 0 }
    lists-refused h = size-passed ∙ row-holds _ _ h

    pub lists-passed : unequal ≡ false → parts_verdict pl s dales hills ≡ verdict (row4 is_height pl.heights ∷ [])
    lists-passed h = size-passed ∙ row-passed _ _ h

  -- a refused call leaves the lists, and an accepted one fills them
  pub parts-refused : ((parts_verdict pl s dales hills).code ≡ 0 → ⊥) → (parts_dales pl s dales hills ≡ dales) × (parts_hills pl s dales hills ≡ hills)
  unfolding parts_dales parts_hills
  parts-refused n = let v = parts_verdict pl s dales hills in (settled-refused v _ _ n, settled-refused v _ _ n)

  pub parts-filled : (parts_verdict pl s dales hills).code ≡ 0 → (parts_dales pl s dales hills ≡ dales_of pl s) × (parts_hills pl s dales hills ≡ hills_of pl s)
  unfolding parts_dales parts_hills
  parts-filled e = let v = parts_verdict pl s dales hills in (settled-accepted v _ _ e, settled-accepted v _ _ e)

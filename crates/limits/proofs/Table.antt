-- Rows 1, 15, 2, 4, 5 and 6 of the table, case by case.
use Prim.Native.Nat.{ℕ}
use native.Mathlib.Omega.{arith}
use mathlib.Core.Path.{◌≡◌, refl, sym, ◌∙◌, ap}
use mathlib.Core.Bool.{Bool, true, false, cond, not, ◌&&◌, true≢false}
use mathlib.Core.List.{List, [], ◌∷◌}
use borrow.Author.Tests.{le-ltb}
use lib.Dec.{ltb, eqb}
use lib.IntN.{ℤ}
use lib.ListN.{length}
use Rattle.surface.specs.Lists.{all, first_not}
use Rattle.surface.specs.Plot.{Plot, posts, is_side, is_height}
use Rattle.surface.specs.Refusals.{accepted, verdict, row_of, row1, row4, row5, row6}
use Rattle.surface.proofs.General.Bools.{either}
use Rattle.surface.proofs.General.FirstNot.{all-first_not, ranged-all}
use Rattle.std.specs.Prelude.{Ok, Err, Some, None, position}
use Rattle.std.specs.List.{position_or_len}
use Rattle.std.proofs.lemmas.Option.{none-some, cond_some}
use Rattle.surface.proofs.General.Slices.{first_not-position}
use Rattle.surface.specs.Refusals.{sheet_rows}
use Rattle.surface.specs.Refused.{refused, sheet_of}
use Rattle.surface.specs.Calls.{sheet_says}
use Rattle.surface.specs.declared.Answer.{Answer}
use Rattle.surface.specs.declared.Sheet.{Sheet}
use Rattle.surface.specs.declared.Settings.{Settings}
use Rattle.surface.specs.declared.Refusal.{Refusal}
use Rattle.surface.specs.declared.Refusal.TheVariants.{BadSides}
use Rattle.surface.proofs.OfCalls.Outcomes.{unless-passed, sheet-led}
use Rattle.surface.proofs.OfCalls.Verdicts.{row-holds, row-passed, none_left}

-- what a passed row 1 says
pub sides-passed : (rows columns : ℕ) → accepted ≡ verdict (row1 rows columns ∷ []) → is_side rows && is_side columns ≡ true
sides-passed rows columns e = unless-passed BadSides _ e

-- what a sheet that is read says of the rows that lead
module _ (s : List ℕ) where
  abbrev led : Answer
  led = verdict (sheet_rows (eqb (sheet_says s).code 13) (eqb (sheet_says s).code 14))

  pub sheet-refused : (why : Refusal) → sheet_of (Err why) ≡ sheet_says s → refused why ≡ led
  sheet-refused why e = ap (λ (x : Sheet). record { code = x.code; place = x.place }) e ∙ sym (sheet-led s)

  pub sheet-passed : (said : Settings) → sheet_of (Ok said) ≡ sheet_says s → accepted ≡ led
  sheet-passed said e = ap (λ (x : Sheet). record { code = x.code; place = x.place }) e ∙ sym (sheet-led s)

-- what `position` finds
module _ (l : List ℤ) where
  abbrev place : ℕ
  place = position_or_len (λ h. not (is_height h)) l

  pub found-first : (p : ℕ) → Some p ≡ position (λ h. not (is_height h)) l → first_not is_height l ≡ p
  found-first p e = first_not-position is_height l ∙ (cond_some (ltb place (length l)) place p (sym e)).1

  pub found-none : None ≡ position (λ h. not (is_height h)) l → ltb (first_not is_height l) (length l) ≡ false
  found-none e = rw (first_not-position is_height l) (by (ltb place (length l)) e)
    where
      by : (b : Bool) → None ≡ cond b (Some place) None → b ≡ false
      by true e = absurd (none-some place e)
      by false e = refl

pub range-passed : (hs : List ℤ) → all is_height hs ≡ true → verdict (row4 is_height hs ∷ []) ≡ accepted
range-passed hs h =
    row-passed _ _ (rw (all-first_not is_height hs h) (le-ltb (length hs) (length hs) (omega arith))) ∙ none_left

pub range-refused : (hs : List ℤ) → all is_height hs ≡ false → verdict (row4 is_height hs ∷ []) ≡ record { code = 4; place = first_not is_height hs }
range-refused hs h = row-holds _ _ (either _ (λ e. e) (λ e. absurd (true≢false (sym (ranged-all is_height hs e) ∙ h))))

-- where there is a height for each post, the last post is the last height's
pub range-posts :
    (pl : Plot) (post : ℕ)
    → length pl.heights ≡ posts pl
    → verdict (row4 is_height pl.heights ∷ row_of 5 (not (ltb post (length pl.heights))) ∷ []) ≡ verdict (row4 is_height pl.heights ∷ row5 pl post ∷ [])
range-posts pl post e = ap (λ (n : ℕ). verdict (row4 is_height pl.heights ∷ row_of 5 (not (ltb post n)) ∷ [])) e

-- and with a new height
pub shot-posts :
    (pl : Plot) (post : ℕ) (new : ℤ)
    → length pl.heights ≡ posts pl
    → verdict (row4 is_height pl.heights ∷ row_of 5 (not (ltb post (length pl.heights))) ∷ row6 new ∷ [])
    ≡ verdict (row4 is_height pl.heights ∷ row5 pl post ∷ row6 new ∷ [])
shot-posts pl post new e = ap (λ (n : ℕ). verdict (row4 is_height pl.heights ∷ row_of 5 (not (ltb post n)) ∷ row6 new ∷ [])) e

-- What a check or a call gives, held against the rows that it looked at.
use Prim.Native.Nat.{ℕ}
use native.Mathlib.Omega.{arith}
use mathlib.Core.Path.{◌≡◌, refl, sym, ◌∙◌, ap}
use mathlib.Core.Bool.{Bool, true, false, not}
use mathlib.Core.List.{List, [], ◌∷◌, ◌++◌}
use lib.Dec.{T}
use Rattle.std.specs.Prelude.{Result, Err, IsErrAnd}
use Rattle.std.proofs.lemmas.Result.{err_from_is_err_and}
use lib.Dec.{eqb}
use Rattle.surface.specs.Settings.{is_bad_sheet, has_bad_entry}
use Rattle.surface.specs.Refusals.{Row, accepted, verdict, sheet_rows, sheet_verdict}
use Rattle.surface.specs.Calls.{sheet_says}
use Rattle.surface.specs.Refused.{refused, row_for}
use Rattle.surface.specs.declared.Refusal.{Refusal}
use Rattle.surface.specs.declared.Refusal.TheVariants.{BadSides, BadHeightsLength, BadListLength, HeightOutOfRange, NoSuchPost, BadNewHeight, NotASaddle, NoSuchRun, LineTooLong, FileTooShort, BadVersion, BadCount, BadSheet, BadEntry, BadSpacing}
use Rattle.surface.proofs.OfCalls.Verdicts.{code, numbered, leads-refused, leads-passed}

-- no refusal has number 0
pub refused-numbered : (why : Refusal) → (refused why).code ≡ 0 → ⊥
refused-numbered BadSides e = omega arith
refused-numbered BadHeightsLength e = omega arith
refused-numbered BadListLength e = omega arith
refused-numbered (HeightOutOfRange post) e = omega arith
refused-numbered NoSuchPost e = omega arith
refused-numbered BadNewHeight e = omega arith
refused-numbered NotASaddle e = omega arith
refused-numbered NoSuchRun e = omega arith
refused-numbered LineTooLong e = omega arith
refused-numbered FileTooShort e = omega arith
refused-numbered BadVersion e = omega arith
refused-numbered BadCount e = omega arith
refused-numbered BadSheet e = omega arith
refused-numbered BadEntry e = omega arith
refused-numbered BadSpacing e = omega arith

-- a check of the rows that lead: what it refuses is refused, and where it passes the rows after them decide
module _ (led rest : List Row) (n : T (numbered led)) where
  pub check-refused : (why : Refusal) → refused why ≡ verdict led → refused why ≡ verdict (led ++ rest)
  check-refused why e = e ∙ sym (leads-refused led rest n (λ z. refused-numbered why (code e ∙ z)))

  pub check-passed : accepted ≡ verdict led → verdict (led ++ rest) ≡ verdict rest
  check-passed e = leads-passed led rest n (sym (code e))

-- what `unless` was asked, by what it gave
module _ (why : Refusal) (p : Bool) where
  pub unless-passed : accepted ≡ verdict (row_for why (not p) ∷ []) → p ≡ true
  unfolding verdict
  unless-passed e = by p e
    where
      by : (p : Bool) → accepted ≡ verdict (row_for why (not p) ∷ []) → p ≡ true
      by true e = refl
      by false e = absurd (refused-numbered why (sym (code e)))

  pub unless-failed : (e : Refusal) → refused e ≡ verdict (row_for why (not p) ∷ []) → (p ≡ false) × (refused e ≡ refused why)
  unfolding verdict
  unless-failed e k = by p k
    where
      by : (p : Bool) → refused e ≡ verdict (row_for why (not p) ∷ []) → (p ≡ false) × (refused e ≡ refused why)
      by true k = absurd (refused-numbered e (code k))
      by false k = (refl, k)

-- what a `?` hands on
pub handed : {A : Type 0} (r : Result A Refusal) (why : Refusal) → IsErrAnd r (λ e. e ≡ why) → r ≡ Err why
handed r why e = let p = err_from_is_err_and r e in p.1 ∙ ap Err p.2

-- a sheet that is read, by the rows that lead a call with it
pub sheet-led : (s : List ℕ)
    → verdict (sheet_rows (eqb (sheet_says s).code 13) (eqb (sheet_says s).code 14)) ≡ record { code = (sheet_says s).code; place = (sheet_says s).place }
unfolding sheet_says sheet_verdict verdict
sheet-led s = by (is_bad_sheet s) (has_bad_entry s)
  where
    by : (a b : Bool)
        → let v = verdict (sheet_rows a b) in
        verdict (sheet_rows (eqb v.code 13) (eqb v.code 14)) ≡ v
    by true b = refl
    by false true = refl
    by false false = refl

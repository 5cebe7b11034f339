-- What a sheet says as a whole, and what the call makes of it.
use Prim.Native.Nat.{ℕ, ◌+◌, ◌-◌, ◌<◌, ◌≤◌}
use native.Mathlib.Omega.{arith}
use mathlib.Core.Path.{◌≡◌, refl, sym, ◌∙◌, ap}
use mathlib.Core.Bool.{Bool, true, false, not, ◌||◌, and-true, or_assoc}
use mathlib.Core.List.{List, [], ◌∷◌}
use borrow.Author.Tests.{eqb-true, lt-ltb, le-ltb, eq-eqb, ne_eqb, not-false}
use lib.Dec.{eqb}
use lib.ListN.{length, get_or, length-drop}
use lib.Seq.{get_or-drop}
use Rattle.surface.specs.Lists.{list_of}
use Rattle.surface.specs.Plot.{default_rule}
use Rattle.surface.specs.Words.{word_at}
use Rattle.surface.specs.Settings.{entries_in, entries_of, extent, is_bad_sheet, are_entries, has_bad_entry, value_of, rule_in, name_in, name_length, name_bytes}
use Rattle.surface.specs.Refusals.{Row, accepted, verdict, row3, row13, row14, sheet_rows, sheet_verdict, settings_verdict}
use Rattle.surface.specs.Calls.{sheet_says, settings_answer, settings_name}
use Rattle.surface.specs.declared.Answer.{Answer}
use Rattle.surface.specs.declared.Sheet.{Sheet}
use Rattle.surface.proofs.General.Bools.{either, or_right}
use Rattle.surface.proofs.General.ListOf.{list_of-ext}
use Rattle.surface.proofs.OfCalls.Verdicts.{passed, row-holds, row-passed, none_left, leads-refused, leads-passed}
use Rattle.settings.specs.Walk.{entries_from, Whole, refusal, said_in}
use Rattle.settings.proofs.Says.{Ends, all_end}

-- a refused sheet, by the answer of its refusal
pub sheet_by : {a b : Answer} → a ≡ b → Path Sheet (record { code = a.code; place = a.place; rule = 0; named = 0 }) (record { code = b.code; place = b.place; rule = 0; named = 0 })
sheet_by e = ap (λ (a : Answer). record { code = a.code; place = a.place; rule = 0; named = 0 }) e

module _ (s : List ℕ) where
  -- ---- its frame

  pub bad-short : length s < 5 → is_bad_sheet s ≡ not (eqb (length s) 0)
  unfolding is_bad_sheet
  bad-short h = rw (lt-ltb (length s) 5 h) (and-true (not (eqb (length s) 0)))

  pub bad-is : 5 ≤ length s → (b : Bool) → (not (eqb (get_or s 0 0) 1) || not (eqb (word_at s 1) (length s - 5))) ≡ b
      → is_bad_sheet s ≡ (b || not (eqb (extent (entries_of s)) (length s - 5)))
  unfolding is_bad_sheet
  bad-is h b e = rw (ne_eqb (length s) 0 (λ q. omega arith), le-ltb (length s) 5 h, ← e) (sym (or_assoc (not (eqb (get_or s 0 0) 1)) _ _))

  pub sheet-whole : is_bad_sheet s ≡ false → Whole s 5
  unfolding entries_of
  sheet-whole e n =
      let head = not (eqb (get_or s 0 0) 1) || not (eqb (word_at s 1) (length s - 5)) in
      let k = or_right head _ (sym (bad-is (omega arith) head refl) ∙ e) in
      omega (arith, eqb-true (extent (entries_of s)) (length s - 5) (not-false _ k))

  -- ---- what it says

  pub says-bad : is_bad_sheet s ≡ true → sheet_says s ≡ refusal 13
  unfolding sheet_says sheet_verdict
  says-bad e = rw (row-holds (row13 (is_bad_sheet s)) (row14 (has_bad_entry s) ∷ []) e)

  pub says-entries : is_bad_sheet s ≡ false → sheet_says s ≡ said_in (entries_from s 5)
  unfolding sheet_says sheet_verdict verdict has_bad_entry rule_in name_in entries_of
  says-entries e = rw e (either (are_entries 0 (entries_from s 5)) (λ t. rw t) (λ f. rw f))

pub says-empty : (s : List ℕ) → length s ≡ 0 → sheet_says s ≡ record { code = 0; place = 0; rule = default_rule; named = 0 }
unfolding is_bad_sheet entries_in are_entries value_of
says-empty [] e = says-entries [] refl
says-empty (x ∷ s) e = absurd (omega arith)

-- ---- the call

module _ (s : List ℕ) where
  abbrev rows : List Row
  rows = sheet_rows (is_bad_sheet s) (has_bad_entry s)

  module _ (z : (sheet_says s).code ≡ 0) where
    judged : sheet_verdict s ≡ accepted
    unfolding sheet_says sheet_verdict
    judged = leads-passed rows [] tt z ∙ none_left

    named : (sheet_says s).named ≡ length (name_in s)
    unfolding sheet_says
    named = rw judged

    -- the name is what the sheet ends with
    name-ends : Ends s (name_in s)
    unfolding sheet_says sheet_verdict has_bad_entry name_in entries_of
    name-ends = let row = passed rows tt z in all_end s 5 (sheet-whole s (row 13)) (not-false _ (row 14))

    pub named_in : (sheet_says s).named ≤ length s
    named_in = omega (arith, named, simp length-drop at (ap length name-ends))

    pub name-bytes : name_bytes s ≡ list_of (λ i. get_or s (length s - (sheet_says s).named + i) 0) name_length
    unfolding name_bytes
    name-bytes =
        rw named
        (list_of-ext _ _ name_length (λ i _. ap (λ (l : List ℕ). get_or l i 0) name-ends ∙ get_or-drop (length s - length (name_in s)) s i 0))

  module _ (name : List ℕ) where
    abbrev room : Row
    room = row3 name name_length

    pub sheet-refused : ((sheet_says s).code ≡ 0 → ⊥) → (settings_answer s name ≡ sheet_says s) × (settings_name s name ≡ name)
    unfolding sheet_says sheet_verdict settings_answer settings_name settings_verdict
    sheet-refused n = rw (leads-refused rows (room ∷ []) tt n, ne_eqb (verdict rows).code 0 n) (refl, refl)

    module _ (z : (sheet_says s).code ≡ 0) where
      pub room-refused : (length name ≡ name_length → ⊥) → (settings_answer s name ≡ refusal 3) × (settings_name s name ≡ name)
      unfolding sheet_says sheet_verdict settings_answer settings_name settings_verdict
      room-refused n =
          rw (leads-passed rows (room ∷ []) tt z, row-holds room [] (ap not (ne_eqb (length name) name_length n))) (refl, refl)

      pub served : length name ≡ name_length → (settings_answer s name ≡ sheet_says s) × (settings_name s name ≡ name_bytes s)
      unfolding sheet_says sheet_verdict settings_answer settings_name settings_verdict
      served e =
          rw (leads-passed rows (room ∷ []) tt z, row-passed room [] (ap not (eq-eqb (length name) name_length e)), none_left, judged z) (refl, refl)

-- What a settings sheet says that no row refuses; sheets that mean one rule.
use Prim.Native.Nat.{ℕ}
use mathlib.Core.Path.{◌≡◌, refl, sym, ◌∙◌, ap}
use mathlib.Core.Bool.{Bool, true, false, cond, not, ◌&&◌, true≢false}
use mathlib.Core.List.{List, [], ◌∷◌}
use lib.Dec.{eqb}
use lib.IntN.{ℤ}
use lib.ListN.{length, get_or}
use Rattle.surface.specs.Lists.{all}
use Rattle.surface.specs.Plot.{Plot, default_rule, ruled, over}
use Rattle.surface.specs.Settings.{Entry, entries_in, entries_of, extent, is_bad_sheet, are_entries, has_bad_entry, value_of, rule_in, name_in}
use Rattle.surface.specs.Refusals.{verdict, sheet_rows, sheet_verdict, reshoot_verdict}
use Rattle.surface.specs.Calls.{sheet_says, plot_by, survey_answer, reshoot_answer}
use Rattle.surface.specs.Series.{Reshoot, asked, Marked, after_call, Kept}
use Rattle.surface.specs.Sheets.{Passes, Sheets, KeptBy, Demand3BySheets}
use Rattle.surface.proofs.OfCalls.Verdicts.{leads-passed, none_left}
use Rattle.surface.proofs.OfCalls.Accepted.{SheetPasses}
use Rattle.surface.proofs.OfCalls.MarkCalls.{survey-valid, reshoot-valid}
use Rattle.surface.proofs.OfCalls.Demand.{demand3}

-- what a sheet says that passes, and its plot
pub sheet-passes : (sheet : List ℕ) → Passes sheet → sheet_says sheet ≡ record { code = 0; place = 0; rule = rule_in sheet; named = length (name_in sheet) }
unfolding sheet_says sheet_verdict
sheet-passes sheet e = rw (leads-passed (_ ∷ _ ∷ []) [] tt e, none_left)

plot-passes : (sheet : List ℕ) → Passes sheet → (rows columns : ℕ) (heights : List ℤ) → plot_by sheet rows columns heights ≡ ruled (eqb (rule_in sheet) 2) rows columns heights
plot-passes sheet e rows columns heights = rw (sheet-passes sheet e)

value_none : (kind : ℕ) (l : List Entry) → all (λ e. not (eqb e.kind kind)) l ≡ true → value_of kind l ≡ []
unfolding all value_of
value_none kind [] h = refl
value_none kind (e ∷ l) h = go (eqb e.kind kind) h (value_none kind l)
  where
    go : (b : Bool) → not b && all (λ x. not (eqb x.kind kind)) l ≡ true → (all (λ x. not (eqb x.kind kind)) l ≡ true → value_of kind l ≡ [])
        → cond b e.value (value_of kind l) ≡ []
    go true h ih = absurd (true≢false (sym h))
    go false h ih = ih h

pub sheets : Sheets
unfolding sheet_says sheet_verdict verdict is_bad_sheet has_bad_entry are_entries entries_of entries_in extent rule_in name_in value_of
sheets =
    record {
      one_rule = one;
      none = (refl, λ rows columns heights. refl);
      unnamed = λ sheet e h. one sheet [] e refl (ap (λ (v : List ℕ). get_or v 0 default_rule) (value_none 1 (entries_of sheet) h));
      default = λ sheet e h. one sheet [] e refl (ap (λ (v : List ℕ). get_or v 0 default_rule) h);
    }
  where
    one : (sheet other : List ℕ) → Passes sheet → Passes other → rule_in sheet ≡ rule_in other
        → (rows columns : ℕ) (heights : List ℤ) → plot_by sheet rows columns heights ≡ plot_by other rows columns heights
    one sheet other e f r rows columns heights =
        plot-passes sheet e rows columns heights ∙ rw r (sym (plot-passes other f rows columns heights))

-- an accepted call's sheet passes
plot-sheet : (sheet : List ℕ) (rows columns : ℕ) (heights : List ℤ) → SheetPasses (plot_by sheet rows columns heights) → Passes sheet
unfolding sheet_says sheet_verdict verdict
plot-sheet sheet rows columns heights s = go (is_bad_sheet sheet) (has_bad_entry sheet) s.0 s.1
  where
    go : (a b : Bool) → let code = (verdict (sheet_rows a b)).code in eqb code 13 ≡ false → eqb code 14 ≡ false → code ≡ 0
    go true b h k = absurd (true≢false h)
    go false true h k = absurd (true≢false k)
    go false false h k = refl

-- so re-shoots whose sheets mean the survey's rule speak of its plot
kept_by : (sheet : List ℕ) (rows columns : ℕ) (heights : List ℤ) → Passes sheet → (s : Marked) (calls : List Reshoot)
    → KeptBy sheet rows columns s calls
    → Kept (plot_by sheet rows columns heights) s calls
unfolding KeptBy Kept reshoot_answer
kept_by sheet rows columns heights e s [] k = k
kept_by sheet rows columns heights e s (c ∷ cs) k = (same, kept_by sheet rows columns heights e (after_call s c) cs k.1)
  where
    same : (reshoot_verdict (asked c s.heights) s.marks c.post c.new).code ≡ 0
        → asked c s.heights ≡ over (plot_by sheet rows columns heights) s.heights
    same a =
        let r = k.0 a in
        let own = plot-sheet c.sheet c.rows c.columns s.heights (reshoot-valid (asked c s.heights) s.marks c.post c.new a).sheet in
        plot-passes c.sheet own c.rows c.columns s.heights
        ∙ rw (r.0, r.1, r.2) (sym (ap (λ (pl : Plot). over pl s.heights) (plot-passes sheet e rows columns heights)))

pub demand3-by-sheets : Demand3BySheets
unfolding survey_answer
demand3-by-sheets sheet rows columns heights marks calls accepted kept =
    let pl = plot_by sheet rows columns heights in
    demand3 pl marks calls accepted (kept_by sheet rows columns heights (plot-sheet sheet rows columns heights (survey-valid pl marks accepted).sheet) _ calls kept)

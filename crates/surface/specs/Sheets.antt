-- What is proved of settings sheets, over the outcomes of the calls.
use Rattle.std.specs.Prelude.{ℕ, ◌≡◌, true, not, List, [], ◌∷◌, eqb, ℤ}
use Rattle.surface.specs.Lists.{all}
use Rattle.surface.specs.Plot.{default_rule, plot}
use Rattle.surface.specs.Settings.{entries_of, value_of, rule_in}
use Rattle.surface.specs.Calls.{sheet_says, plot_by, survey_answer, reshoot_answer}
use Rattle.surface.specs.Series.{Reshoot, asked, Marked, after_call, after_calls}
use Rattle.surface.specs.Demand.{surveyed, Promised}

-- no row refuses the sheet
abbrev pub Passes : List ℕ → Type 0
Passes sheet = (sheet_says sheet).code ≡ 0

-- Two sheets are one to every call that takes a sheet: with the same other arguments they make the same plot, and what a call answers and leaves in its lists
-- is given by the plot.
abbrev pub SameToCalls : List ℕ → List ℕ → Type 0
SameToCalls sheet other = (rows columns : ℕ) (heights : List ℤ) → plot_by sheet rows columns heights ≡ plot_by other rows columns heights

pub record Sheets : Type 0 where
  -- sheets that mean one rule are one
  pub one_rule : (sheet other : List ℕ) → Passes sheet → Passes other → rule_in sheet ≡ rule_in other → SameToCalls sheet other
  -- no sheet passes, and is what a call without a sheet has
  pub none : Passes [] × ((rows columns : ℕ) (heights : List ℤ) → plot_by [] rows columns heights ≡ plot rows columns heights)
  -- so is a sheet that names no rule, and one that names the default rule
  pub unnamed : (sheet : List ℕ) → Passes sheet → all (λ e. not (eqb e.kind 1)) (entries_of sheet) ≡ true → SameToCalls sheet []
  pub default : (sheet : List ℕ) → Passes sheet → value_of 1 (entries_of sheet) ≡ default_rule ∷ [] → SameToCalls sheet []

-- of a series after a survey with this sheet, rows and columns: the accepted re-shoots have these rows and columns, and sheets that mean the survey's rule
unfoldable pub KeptBy : List ℕ → ℕ → ℕ → Marked → List Reshoot → Type 0
KeptBy sheet rows columns s [] = Unit {0}
KeptBy sheet rows columns s (c ∷ cs) =
    ((reshoot_answer (asked c s.heights) s.marks c.post c.new).code ≡ 0
    → (c.rows ≡ rows) × (c.columns ≡ columns) × (rule_in c.sheet ≡ rule_in sheet))
    × KeptBy sheet rows columns (after_call s c) cs

-- Demand 3 by the arguments of the calls: of a survey with this sheet, rows and columns, and re-shoots whose sheets, each its own, mean one rule with it.
abbrev pub Demand3BySheets : Type 0
Demand3BySheets =
    (sheet : List ℕ) (rows columns : ℕ) (heights : List ℤ) (marks : List ℕ) (calls : List Reshoot)
    → let pl = plot_by sheet rows columns heights in
    (survey_answer pl marks).code ≡ 0
    → KeptBy sheet rows columns (surveyed pl marks) calls
    → Promised pl calls (after_calls (surveyed pl marks) calls)

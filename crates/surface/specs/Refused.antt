-- docs/SPECIFICATION.md, "Refusals": the numbers and places of the table, as the code names them.
use Rattle.std.specs.Prelude.{◌≡◌, ℕ, Bool, false, ◌||◌, eqb, Result, Ok, Err, IfOk, MatchResult}
use Rattle.surface.specs.Refusals.{Row, accepted}
use Rattle.surface.specs.Plot.{Plot, plot_of}
use Rattle.surface.specs.declared.Answer.{Answer}
use Rattle.surface.specs.declared.Sheet.{Sheet}
use Rattle.surface.specs.declared.Grid.{Grid}
use Rattle.surface.specs.declared.Settings.{Settings}
use Rattle.surface.specs.declared.Rule.{Rule}
use Rattle.surface.specs.declared.Rule.TheVariants.{Lowest, Highest}
use Rattle.surface.specs.declared.Refusal.{Refusal}
use Rattle.surface.specs.declared.Refusal.TheVariants.{BadSides, BadHeightsLength, BadListLength, HeightOutOfRange, NoSuchPost, BadNewHeight, NotASaddle, NoSuchRun, LineTooLong, FileTooShort, BadVersion, BadCount, BadSheet, BadEntry, BadSpacing}

-- the number of a refusal's row, and its place
abbrev pub refused : Refusal → Answer
refused BadSides = record { code = 1; place = 0 }
refused BadHeightsLength = record { code = 2; place = 0 }
refused BadListLength = record { code = 3; place = 0 }
refused (HeightOutOfRange post) = record { code = 4; place = post }
refused NoSuchPost = record { code = 5; place = 0 }
refused BadNewHeight = record { code = 6; place = 0 }
refused NotASaddle = record { code = 7; place = 0 }
refused NoSuchRun = record { code = 8; place = 0 }
refused LineTooLong = record { code = 9; place = 0 }
refused FileTooShort = record { code = 10; place = 0 }
refused BadVersion = record { code = 11; place = 0 }
refused BadCount = record { code = 12; place = 0 }
refused BadSheet = record { code = 13; place = 0 }
refused BadEntry = record { code = 14; place = 0 }
refused BadSpacing = record { code = 15; place = 0 }

-- what a check or a call comes to first: 0 and 0 where it gives a value
abbrev pub outcome : {A : Type 0} → Result A Refusal → Answer
outcome (Ok _) = accepted
outcome (Err why) = refused why

-- the row of a refusal
abbrev pub row_for : Refusal → Bool → Row
row_for why holds = record { holds = holds; code = (refused why).code; place = (refused why).place }

-- the number of a rule, and what is made of a byte that names one
abbrev pub rule_number : Rule → ℕ
rule_number Lowest = 1
rule_number Highest = 2

abbrev pub Ruled : ℕ → Result Rule Refusal → Type 0
Ruled byte r = MatchResult r (λ rule. rule_number rule ≡ byte) (λ why. (why ≡ BadEntry) × ((eqb byte 1 || eqb byte 2) ≡ false))

-- what a settings sheet says, or why it is refused
abbrev pub sheet_of : Result Settings Refusal → Sheet
sheet_of (Ok said) = record { code = 0; place = 0; rule = rule_number said.rule; named = said.named }
sheet_of (Err why) = record { code = (refused why).code; place = (refused why).place; rule = 0; named = 0 }

-- the grid that a call goes on with is that of the plot that it was asked about
abbrev pub IsGridOf : Plot → Result Grid Refusal → Type 0
IsGridOf pl r = IfOk r (λ grid. plot_of grid pl.heights ≡ pl)

-- A survey's answer, by the counts that it gives or why it is refused.
use Rattle.std.specs.Prelude.{Result, Ok, Err}
use Rattle.surface.specs.Refused.{refused}
use Rattle.surface.specs.declared.Refusal.{Refusal}
use Rattle.surface.specs.declared.Counts.{Counts}
use Rattle.tally.specs.declared.Tally.{Tally}

abbrev pub counts_of : Result Tally Refusal → Counts
counts_of (Ok t) = record { code = 0; place = 0; peaks = t.peaks; pits = t.pits; saddles = t.saddles }
counts_of (Err why) = record { code = (refused why).code; place = (refused why).place; peaks = 0; pits = 0; saddles = 0 }

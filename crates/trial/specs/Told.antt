-- The answer of a trial, by the counts that it gives or why it is refused.
use Rattle.std.specs.Prelude.{Result, Ok, Err}
use Rattle.surface.specs.Refused.{refused}
use Rattle.surface.specs.declared.Refusal.{Refusal}
use Rattle.surface.specs.declared.TrialCounts.{TrialCounts}
use Rattle.retally.specs.declared.BeforeAfter.{BeforeAfter}

abbrev pub tried_of : Result BeforeAfter Refusal → TrialCounts
tried_of (Ok c) =
    record {
      code = 0;
      place = 0;
      peaks = c.before.peaks;
      pits = c.before.pits;
      saddles = c.before.saddles;
      newPeaks = c.after.peaks;
      newPits = c.after.pits;
      newSaddles = c.after.saddles;
    }
tried_of (Err why) =
    record {
      code = (refused why).code;
      place = (refused why).place;
      peaks = 0;
      pits = 0;
      saddles = 0;
      newPeaks = 0;
      newPits = 0;
      newSaddles = 0;
    }

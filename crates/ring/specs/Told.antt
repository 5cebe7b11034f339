-- The answer of the ring call, by what it gives or why it is refused.
use Rattle.std.specs.Prelude.{Result, Ok, Err}
use Rattle.surface.specs.Refused.{refused}
use Rattle.surface.specs.declared.Refusal.{Refusal}
use Rattle.surface.specs.declared.RingMark.{RingMark}
use Rattle.ring.specs.declared.Ringed.{Ringed}

abbrev pub ring_mark_of : Result Ringed Refusal → RingMark
ring_mark_of (Ok r) = record { code = 0; place = 0; k = r.k; mark = r.mark }
ring_mark_of (Err why) = record { code = (refused why).code; place = (refused why).place; k = 0; mark = 0 }

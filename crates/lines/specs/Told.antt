-- The answers of next and line calls, by what they give or why they are refused.
use Rattle.std.specs.Prelude.{ℕ, Result, Ok, Err}
use Rattle.surface.specs.Refused.{refused}
use Rattle.surface.specs.declared.Refusal.{Refusal}
use Rattle.surface.specs.declared.Next.{Next}
use Rattle.surface.specs.declared.Entries.{Entries}

-- the next post
abbrev pub next_told : Result ℕ Refusal → Next
next_told (Ok post) = record { code = 0; place = 0; post = post }
next_told (Err why) = record { code = (refused why).code; place = (refused why).place; post = 0 }

-- how many entries a line has
abbrev pub line_told : Result ℕ Refusal → Entries
line_told (Ok count) = record { code = 0; place = 0; count = count }
line_told (Err why) = record { code = (refused why).code; place = (refused why).place; count = 0 }

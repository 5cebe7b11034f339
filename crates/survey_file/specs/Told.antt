-- The answer of a read, by what it gives or why it is refused.
use Rattle.std.specs.Prelude.{Result, Ok, Err}
use Rattle.surface.specs.Refused.{refused}
use Rattle.surface.specs.declared.Refusal.{Refusal}
use Rattle.surface.specs.declared.Size.{Size}
use Rattle.survey_file.specs.declared.Read.{Read}

abbrev pub size_of : Result Read Refusal → Size
size_of (Ok r) = record { code = 0; place = 0; rows = r.rows; columns = r.columns; east = r.spacings.east; south = r.spacings.south }
size_of (Err why) = record { code = (refused why).code; place = (refused why).place; rows = 0; columns = 0; east = 0; south = 0 }

-- The rows of the table that begin both a survey's and a re-shoot's.
use Rattle.std.specs.Prelude.{ℕ, List, [], ◌∷◌, ◌++◌}
use Rattle.surface.specs.Plot.{Plot, posts}
use Rattle.surface.specs.Refusals.{Row, leading, row3}

-- those that lead every call with a settings sheet, and a mark for each post
abbrev pub leading_marked : Plot → List ℕ → List Row
leading_marked pl marks = leading pl ++ row3 marks (posts pl) ∷ []

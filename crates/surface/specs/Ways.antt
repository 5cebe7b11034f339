-- docs/SPECIFICATION.md, "Lines, dales and hills", and "Joins and splits": ways along edges, and what is in one piece.
use Rattle.std.specs.Prelude.{ℕ}
use Rattle.surface.specs.Plot.{Plot}
use Rattle.surface.specs.Edges.{Edge, falls_in}

-- A way from p to q along edges through members only. A set is in one piece when any two of its members are so joined.
pub data Way (edge : ℕ → ℕ → Type 0) (member : ℕ → Type 0) : ℕ → ℕ → Type 0 where
  here : {p : ℕ} → member p → Way edge member p p
  step : {p q r : ℕ} → member p → edge p q → Way edge member q r → Way edge member p r

abbrev pub OnePiece : (ℕ → ℕ → Type 0) → (ℕ → Type 0) → Type 0
OnePiece edge member = (p q : ℕ) → member p → member q → Way edge member p q

-- the edges of a plot
abbrev pub EdgeOf : Plot → ℕ → ℕ → Type 0
EdgeOf pl = Edge pl.rows pl.columns (falls_in pl)

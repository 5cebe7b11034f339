-- The loop's invariant: the posts of the rows met are settled.
use Prim.Native.Nat.{ℕ, ◌*◌}
use mathlib.Core.Bool.{Bool}
use Rattle.paths.specs.Paths.{InRow, Settled}
use Rattle.paths.proofs.Turns.{met, Before}
use Rattle.paths.proofs.shorten.Given as goal

-- the row of turn j
abbrev pub RowOf : ℕ → ℕ → Bool → ℕ → ℕ → Type 0
RowOf rows columns up j = InRow (met up rows j * columns) columns

abbrev pub invariant-loop-turn : goal.invariant-loop-turn
invariant-loop-turn l = Settled l.fn.list l.list (Before l.turn (RowOf l.rows l.columns l.up))

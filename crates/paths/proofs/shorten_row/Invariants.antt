-- The loop's invariant: the posts met are settled.
use Prim.Native.Nat.{ℕ, ◌+◌}
use mathlib.Core.Path.{◌≡◌}
use mathlib.Core.Bool.{Bool}
use Rattle.paths.specs.Paths.{Settled}
use Rattle.paths.proofs.Turns.{met, Before}
use Rattle.paths.proofs.shorten_row.Given as goal

-- the post of turn j
abbrev pub Post : ℕ → ℕ → Bool → ℕ → ℕ → Type 0
Post first n back j p = p ≡ first + met back n j

abbrev pub invariant-loop-turn : goal.invariant-loop-turn
invariant-loop-turn l = Settled l.fn.list l.list (Before l.turn (Post l.first l.n l.back))

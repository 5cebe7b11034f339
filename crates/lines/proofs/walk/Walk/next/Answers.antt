-- The leaf of next.
use mathlib.Core.Path.{ap}
use Prim.Native.Nat.{ℕ}
use Rattle.lines.proofs.walk.Walk.next.Goals as goal

pub returns : goal.returns
returns c = ap (λ (p : ℕ). record { post = p; up = c.args.self.up }) c.next_at.ensures

pub next_at-requires : goal.next_at-requires
next_at-requires c = c.requires

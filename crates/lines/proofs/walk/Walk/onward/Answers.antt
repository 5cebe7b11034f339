-- The virtual pit stays; from a post the leaf of next.
use mathlib.Core.Path.{◌≡◌, sym, ap}
use Prim.Native.Nat.{ℕ}
use mathlib.Core.Logic.{⊎_elim}
use Rattle.surface.specs.Plot.{virtual_pit}
use Rattle.lines.proofs.Walking.{pit-stays}
use Rattle.lines.proofs.walk.Walk.onward.Goals as goal

pub returns-then-post-eq-VIRTUAL_PIT : goal.returns-then-post-eq-VIRTUAL_PIT
unfolding virtual_pit
returns-then-post-eq-VIRTUAL_PIT c = ap (λ (p : ℕ). record { post = p; up = c.args.self.up }) (sym (pit-stays c.requires c.if-post-eq-VIRTUAL_PIT.true))

pub next_at-requires : goal.next_at-requires
unfolding virtual_pit
next_at-requires c =
    let post = ⊎_elim (λ h. h) (λ (e : c.args.self.post ≡ virtual_pit). absurd (c.if-post-eq-VIRTUAL_PIT.false e)) c.requires.vertex in
    (record { valid = c.requires.valid; post = post }, c.requires.spaced)

pub returns : goal.returns
returns c = ap (λ (p : ℕ). record { post = p; up = c.args.self.up }) c.next_at.ensures

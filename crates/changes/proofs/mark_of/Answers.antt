-- Half of the changes.
use native.Mathlib.Omega.{arith}
use mathlib.Core.Path.{◌∙◌, ap}
use Prim.Native.Nat.{ℕ, ◌/◌}
use Rattle.surface.specs.Flags.{mark_by}
use Rattle.surface.specs.Patterns.{mark_in}
use Rattle.surface.proofs.OfPlots.Patterns.{changes_in-le}
use Rattle.changes.proofs.mark_of.Goals as goal

pub mark_by-requires : goal.mark_by-requires
mark_by-requires c = omega (arith, c.requires, changes_in-le c.args.pattern)

pub returns : goal.returns
unfolding mark_in
returns c = c.mark_by.ensures ∙ ap (mark_by _) (ap (λ (n : ℕ). n / 2) c.requires)

-- The loop's invariant: the places from n up to i were stored.
use Prim.Native.Nat.{◌-◌}
use mathlib.Core.Path.{◌≡◌}
use Rattle.surface.specs.Lists.{stores}
use Rattle.settings.proofs.clear_from.Given as goal

abbrev pub invariant-loop-i : goal.invariant-loop-i
invariant-loop-i l = l.list ≡ stores (λ _. 0) l.n (l.i - l.n) l.initial.list

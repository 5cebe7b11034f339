-- Both are below half of what 64 bits hold.
use Prim.Native.Nat.{ℕ, ◌+◌, ◌-◌, ◌<◌}
use native.Mathlib.Omega.{arith}
use mathlib.Core.Path.{◌≡◌}
use lib.Dec.{leb}
use borrow.Author.Tests.{leb-true, leb-false, le-leb, lt-leb}
use Rattle.surface.proofs.General.Bools.{either}
use Rattle.steepest.proofs.at_least.Goals as goal

halved : (x y : ℕ) → y < 9223372036854775808 → leb 9223372036854775808 (x + 9223372036854775808 - y) ≡ leb y x
halved x y h =
    either (leb y x) (λ e. rw e (le-leb 9223372036854775808 (x + 9223372036854775808 - y) (omega (arith, leb-true y x e))))
    (λ e. rw e (lt-leb 9223372036854775808 (x + 9223372036854775808 - y) (omega (arith, leb-false y x e))))

pub returns : goal.returns
returns c = halved c.args.x c.args.y c.requires.1

pub overflow_add-result : goal.overflow_add-result
overflow_add-result c = record { fits = omega (arith, c.requires) }

pub overflow_sub-result : goal.overflow_sub-result
overflow_sub-result c = omega (arith, c.requires)

-- The choice that is made from a post, as one order of vertices: the virtual pit first, then the steeper, of equal slopes the lower.
use Rattle.std.specs.Prelude.{ℕ, Bool, not, ◌&&◌, ◌||◌, eqb}
use Rattle.surface.specs.Plot.{Plot, virtual_pit}
use Rattle.surface.specs.Lines.{before}
use Rattle.surface.specs.declared.Spacings.{Spacings}

unfoldable pub ahead : Plot → Spacings → (ℕ → ℕ → Bool) → ℕ → ℕ → ℕ → Bool
ahead pl s lower p q r = not (eqb r virtual_pit) && (eqb q virtual_pit || before pl s lower p q r)

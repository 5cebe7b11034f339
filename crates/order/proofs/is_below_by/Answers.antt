-- The second height is raised where the tie tells so.
use Prim.Native.Nat.{ℕ}
use mathlib.Core.Path.{◌≡◌, refl, sym}
use mathlib.Core.Bool.{true}
use lib.IntN.{ℤ, pos}
use lib.ListN.{get_or}
use mir.Syntax.{w32}
use mir.Val.{to_z, of_z}
use mir.Facts.{to_z-of_z}
use Rattle.surface.specs.Plot.{is_height}
use Rattle.surface.proofs.General.FirstNot.{all-at}
use Rattle.order.proofs.Level.{below-told, height-fits, tie-fits}
use Rattle.order.proofs.is_below_by.Goals as goal
use Rattle.order.proofs.is_below_by.Goals.{After-result-2-1}

-- a height that is read: it is in range, and its bits tell it
abbrev read : After-result-2-1 → ℕ → ℤ
read c i = get_or c.args.heights.now i (pos 0)

in-range : (c : After-result-2-1) (i : ℕ) → is_height (read c i) ≡ true
in-range c i = all-at is_height _ (pos 0) refl c.requires.0.in_range i

bits : (c : After-result-2-1) (i : ℕ) → to_z w32 (of_z w32 (read c i)) ≡ read c i
bits c i = to_z-of_z (height-fits (read c i) (in-range c i))

pub overflow_add-result : goal.overflow_add-result
overflow_add-result c = let a = c.args in rw (bits c a.q) (tie-fits (read c a.q) a.tie (in-range c a.q))

pub returns : goal.returns
returns c =
    let a = c.args in
    rw (bits c a.p, bits c a.q, to_z-of_z (tie-fits (read c a.q) a.tie (in-range c a.q)))
    (sym (below-told c.requires.0 c.requires.1 c.requires.2 a.tie c.requires.3))

pub overflow_cast-result : goal.overflow_cast-result
overflow_cast-result c = tt

-- The square of what is not far apart.
use native.Mathlib.Omega.{arith}
use native.Mathlib.Nat.{mul-le-mul}
use Prim.Native.Nat.{ℕ}
use mathlib.Core.Path.{◌≡◌, refl}
use mathlib.Core.Bool.{true}
use lib.IntN.{ℤ, pos}
use lib.ListN.{get_or}
use mir.Facts.{to_z-of_z}
use Rattle.surface.specs.Plot.{is_height}
use Rattle.surface.proofs.General.FirstNot.{all-at}
use Rattle.order.proofs.Level.{height-fits}
use Rattle.runs.proofs.slope.squared_drop.Goals as goal
use Rattle.runs.proofs.slope.squared_drop.Goals.{Start}

-- a height that is read
abbrev read : Start → ℕ → ℤ
read s i = get_or s.args.heights.now i (pos 0)

in-range : (s : Start) (i : ℕ) → is_height (read s i) ≡ true
in-range s i = all-at is_height _ (pos 0) refl s.requires.0 i

pub apart-drop-requires : goal.apart-drop-requires
apart-drop-requires c =
    let start = (goal.at.apart-drop-requires c).Start in
    let p = c.args.p in
    let q = c.args.q in
    rw (to_z-of_z (height-fits (read start p) (in-range start p)), to_z-of_z (height-fits (read start q) (in-range start q))) (in-range start p, in-range start q)

pub overflow_mul-result : goal.overflow_mul-result
overflow_mul-result c = let e = c.apart-drop.ensures.1 in omega (arith, mul-le-mul e e)

pub returns : goal.returns
returns c =
    let start = (goal.at.returns c).Start in
    let p = c.args.p in
    let q = c.args.q in
    let e = c.apart-drop.ensures in
    (rw (e.0, to_z-of_z (height-fits (read start p) (in-range start p)), to_z-of_z (height-fits (read start q) (in-range start q))), mul-le-mul e.1 e.1)

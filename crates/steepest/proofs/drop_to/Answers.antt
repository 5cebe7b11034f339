-- The heights of two keys, the one not beyond the other.
use Prim.Native.Nat.{◌<◌}
use native.Mathlib.Omega.{arith}
use mathlib.Core.Path.{◌≡◌, refl, ◌∙◌}
use mathlib.Core.Bool.{false}
use lib.Dec.{T}
use lib.IntN.{ℤ, pos, negsuc, nat_abs, ◌-ℤ◌}
use lib.Signed.{lt_z, mag, non_neg}
use mir.Syntax.{w32}
use mir.Val.{SFits, to_z, of_z}
use mir.Facts.{to_z-of_z}
use Rattle.surface.proofs.OfPlots.Counted.{difference-some}
use Rattle.keys.specs.Keys.{height_in}
use Rattle.steepest.specs.Slopes.{drop_in}
use Rattle.steepest.proofs.KeyHeights.{height-not-less, drop-small, drop-back}
use Rattle.keys.proofs.KeyNumbers.{bits_of}
use Rattle.steepest.proofs.drop_to.Goals as goal
use Rattle.steepest.proofs.drop_to.Goals.{After-height_of-to, Else-up, Then-up}

-- a small difference fits
fits : (z : ℤ) → nat_abs z < 2097152 → SFits w32 z
fits (pos n) h = record { sfits = omega arith }
fits (negsuc n) h = record { sfits = omega arith }

-- from one height down to another: a difference that fits and is not negative
record Down (a b : ℤ) : Type 0 where
  pub fits : SFits w32 (height_in a -ℤ height_in b)
  pub some : T (non_neg (height_in a -ℤ height_in b))
  pub small : drop_in a b < 2097152

down : (a b : ℤ) → mag a < 2147483648 → mag b < 2147483648 → lt_z a b ≡ false → Down a b
down a b h i e =
    let s = drop-small a b h i in
    record { fits = fits (height_in a -ℤ height_in b) s; some = difference-some (height_in a) (height_in b) (height-not-less a b h i e); small = s }

heights : (c : After-height_of-to)
    → (to_z w32 (of_z w32 c.height_of-from.result) ≡ height_in c.args.own)
    × (to_z w32 (of_z w32 c.height_of-to.result) ≡ height_in c.args.k)
heights c = (
  bits_of c.height_of-from.result c.height_of-from.type_inv ∙ rw (to_z-of_z c.ranges.own) at c.height_of-from.ensures,
  bits_of c.height_of-to.result c.height_of-to.type_inv ∙ rw (to_z-of_z c.ranges.k) at c.height_of-to.ensures,
)

upward : (c : Then-up) → let a = c.args in Down a.k a.own
upward c =
    down c.args.k c.args.own c.ranges.k.sfits c.ranges.own.sfits (rw c.if-up.true at c.requires)

downward : (c : Else-up) → let a = c.args in Down a.own a.k
downward c =
    down c.args.own c.args.k c.ranges.own.sfits c.ranges.k.sfits (rw c.if-up.false at c.requires)

pub overflow_sub-result : goal.overflow_sub-result
overflow_sub-result c =
    let after = (goal.at.overflow_sub-result c).After-height_of-to in
    rw ((heights after).0, (heights after).1) (upward c).fits

pub overflow_cast-result : goal.overflow_cast-result
overflow_cast-result c =
    let after = (goal.at.overflow_cast-result c).After-height_of-to in
    let d = upward c in
    rw ((heights after).0, (heights after).1, to_z-of_z d.fits) (d.some, record { fits = omega (arith, d.small) })

pub returns-then-up : goal.returns-then-up
returns-then-up c =
    let after = (goal.at.returns-then-up c).After-height_of-to in
    let d = upward c in
    rw ((heights after).0, (heights after).1, to_z-of_z d.fits) (drop-back c.args.own c.args.k c.ranges.own.sfits c.ranges.k.sfits, d.small)

pub overflow_sub-result-2 : goal.overflow_sub-result-2
overflow_sub-result-2 c =
    let after = (goal.at.overflow_sub-result-2 c).After-height_of-to in
    rw ((heights after).0, (heights after).1) (downward c).fits

pub overflow_cast-result-2 : goal.overflow_cast-result-2
overflow_cast-result-2 c =
    let after = (goal.at.overflow_cast-result-2 c).After-height_of-to in
    let d = downward c in
    rw ((heights after).0, (heights after).1, to_z-of_z d.fits) (d.some, record { fits = omega (arith, d.small) })

pub returns : goal.returns
returns c =
    let after = (goal.at.returns c).After-height_of-to in
    let d = downward c in rw ((heights after).0, (heights after).1, to_z-of_z d.fits) (refl, d.small)

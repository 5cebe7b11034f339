-- A key counted from the lowest is a natural number, with the same last digits.
use Prim.Native.Nat.{ℕ, suc, ◌+◌, ◌-◌, ◌%◌, ◌<◌}
use native.Mathlib.Omega.{arith}
use mathlib.Core.Path.{◌≡◌, refl, ap}
use mathlib.Core.Bool.{true}
use lib.IntN.{ℤ, pos, negsuc, ◌+ℤ◌}
use lib.Signed.{mag}
use mir.Syntax.{w32, w64}
use mir.Val.{SFits, to_z, of_z}
use mir.Facts.{to_z-of_z, sfits_widen}
use borrow.Author.Tests.{ltb-false, le-ltb, not-true}
use Rattle.keys.specs.Keys.{is_key, number_in}
use Rattle.keys.proofs.post_of.Goals as goal
use Rattle.keys.proofs.post_of.Goals.{Start}

counted : ℤ → ℕ
counted (pos n) = n + 2048000000
counted (negsuc n) = 2047999999 - n

counted_is : (k : ℤ) → is_key k ≡ true → k +ℤ pos 2048000000 ≡ pos (counted k)
unfolding counted
counted_is (pos n) h = refl
counted_is (negsuc n) h = rw (le-ltb 2048000000 (suc n) (omega (arith, ltb-false 2047999999 n (not-true _ h)))) (ap pos (omega arith))

counted-low : (k : ℤ) → mag k < 2147483648 → counted k < 4294967296
unfolding counted
counted-low (pos n) h = omega arith
counted-low (negsuc n) h = omega arith

counted-digits : (k : ℤ) → is_key k ≡ true → counted k % 256 ≡ number_in k
unfolding counted number_in
counted-digits (pos n) h = omega arith
counted-digits (negsuc n) h = omega (arith, ltb-false 2047999999 n (not-true _ h))

-- as the machine has it
wide : (c : Start) → SFits w64 c.args.k
wide c = sfits_widen tt c.ranges.k

sum_fits : (c : Start) → SFits w64 (pos (counted c.args.k))
sum_fits c = record { sfits = omega (arith, counted-low c.args.k c.ranges.k.sfits) }

bits : (c : Start) → to_z w64 (of_z w64 (to_z w64 (of_z w64 (to_z w32 (of_z w32 c.args.k))) +ℤ pos 2048000000)) ≡ pos (counted c.args.k)
bits c = rw (to_z-of_z c.ranges.k, to_z-of_z (wide c), counted_is c.args.k c.requires.2) (to_z-of_z (sum_fits c))

pub post_at-requires : goal.post_at-requires
post_at-requires c =
    let d = counted-digits c.args.k c.requires.2 in
    rw (bits c, d) (c.requires.0, c.requires.1, omega (arith, d), c.requires.3)

pub returns : goal.returns
returns c = rw (bits (goal.at.returns c).Start, counted-digits c.args.k c.requires.2) at c.post_at.ensures

pub overflow_cast-k : goal.overflow_cast-k
overflow_cast-k c = rw (to_z-of_z c.ranges.k) (wide c)

pub overflow_add-k : goal.overflow_add-k
overflow_add-k c = rw (to_z-of_z c.ranges.k, to_z-of_z (wide c), counted_is c.args.k c.requires.2) (sum_fits c)

pub overflow_cast-k-2 : goal.overflow_cast-k-2
overflow_cast-k-2 c = rw (bits c) (tt, record { fits = counted-low c.args.k c.ranges.k.sfits })

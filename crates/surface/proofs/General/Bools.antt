-- What Bool tests tell of their parts; case distinction on a test; tests as types.
use Prim.Native.Nat.{◌≤◌}
use native.Mathlib.Omega.{arith}
use mathlib.Core.Path.{◌≡◌, refl, sym}
use mathlib.Core.Bool.{Bool, true, false, not, ◌&&◌, ◌||◌, true≢false, beq}
use lib.Dec.{T}
use mir.Val.{bool_byte}
use Rattle.surface.specs.Lists.{one, flipped}

pub and_left : (a b : Bool) → a && b ≡ true → a ≡ true
and_left true b h = refl
and_left false b h = h

pub and_right : (a b : Bool) → a && b ≡ true → b ≡ true
and_right true b h = h
and_right false b h = absurd (true≢false (sym h))

pub or_left : (a b : Bool) → a || b ≡ false → a ≡ false
or_left true b h = h
or_left false b h = refl

pub or_right : (a b : Bool) → a || b ≡ false → b ≡ false
or_right true b h = absurd (true≢false h)
or_right false b h = h

pub not-not : (x : Bool) → not (not x) ≡ x
not-not true = refl
not-not false = refl

pub true-T : {b : Bool} → b ≡ true → T b
true-T e = rw e tt

pub T_true : (b : Bool) → T b → b ≡ true
T_true true t = refl
T_true false t = absurd t

pub either {ℓ} : {C : Type ℓ} (b : Bool) → (b ≡ true → C) → (b ≡ false → C) → C
either true f g = f refl
either false f g = g refl

-- two tests that hold together are equal
pub same_test : (a b : Bool) → (a ≡ true → b ≡ true) → (b ≡ true → a ≡ true) → a ≡ b
same_test true b f g = sym (f refl)
same_test false true f g = g refl
same_test false false f g = refl

-- a flag by the machine's exclusive or
pub xor-flipped : (x h : Bool) → not (beq x h) ≡ flipped h x
xor-flipped true true = refl
xor-flipped true false = refl
xor-flipped false true = refl
xor-flipped false false = refl

-- a flag as a number
pub flag : (x : Bool) → (bool_byte x ≡ one x) × (bool_byte x ≤ 1)
flag true = (refl, omega arith)
flag false = (refl, omega arith)

-- Bits of flags are flags.
use Prim.Native.Nat.{ℕ, ◌≤◌}
use mathlib.Core.Path.{◌≡◌, refl, ◌∙◌, ap}
use mathlib.Core.Bool.{Bool, true, false, ◌&&◌, ◌||◌}
use lib.Bits.{bit_and, bit_or}
use mir.Val.{bool_byte}
use Rattle.surface.specs.Lists.{one}
use Rattle.surface.specs.Flags.{sign_by}
use Rattle.surface.proofs.General.Bools.{flag}
use Rattle.post.proofs.pattern.sign.Goals as goal

and-bits : (x y : Bool) → bit_and (bool_byte x) (bool_byte y) ≡ bool_byte (x && y)
and-bits true true = refl
and-bits true false = refl
and-bits false true = refl
and-bits false false = refl

or-bits : (x y : Bool) → bit_or (bool_byte x) (bool_byte y) ≡ bool_byte (x || y)
or-bits true true = refl
or-bits true false = refl
or-bits false true = refl
or-bits false false = refl

-- a flag's bits, as the contract has them
as-flag : {n : ℕ} (x : Bool) → n ≡ bool_byte x → (n ≡ one x) × (n ≤ 1)
as-flag x e = rw e (flag x)

pub returns-then-highest : goal.returns-then-highest
unfolding sign_by
returns-then-highest c =
    let a = c.args in
    rw c.if-highest.true (as-flag (a.side && (a.corner || a.after)) (ap (bit_and (bool_byte a.side)) (or-bits a.corner a.after) ∙ and-bits a.side (a.corner || a.after)))

pub returns : goal.returns
unfolding sign_by
returns c =
    let a = c.args in
    rw c.if-highest.false (as-flag (a.side || (a.corner && a.after)) (ap (bit_or (bool_byte a.side)) (and-bits a.corner a.after) ∙ or-bits a.side (a.corner && a.after)))

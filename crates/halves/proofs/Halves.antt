-- The two halves of a pattern by pairs.
use Prim.Native.Nat.{ℕ, ◌+◌, ◌*◌, ◌≤◌, ◌<◌}
use native.Mathlib.Omega.{arith}
use mathlib.Core.Path.{◌≡◌, refl}
use mathlib.Core.Bool.{Bool, true, false, not}
use mathlib.Core.List.{List}
use lib.ListN.{length, get_or}
use Rattle.surface.specs.Lists.{one, stores}
use Rattle.surface.specs.Flags.{sign_by, pair_by, upper_by}
use Rattle.surface.proofs.General.Stores.{stores-in}
use Rattle.surface.proofs.OfPlots.Patterns.{pair-le}
use Rattle.halves.specs.Halves.{upper_in}

-- of flags turned, a sign is that by the other rule, turned
sign-turned : (h x z a : Bool) → sign_by h (not x) (not z) (not a) ≡ not (sign_by (not h) x z a)
unfolding sign_by
sign-turned true true z a = refl
sign-turned true false true a = refl
sign-turned true false false a = refl
sign-turned false true true a = refl
sign-turned false true false a = refl
sign-turned false false z a = refl

pub pair-turned : (h x z a : Bool) → pair_by h (not x) (not z) (not a) + pair_by (not h) x z a ≡ 3
unfolding pair_by
pair-turned h x z a = rw (sign-turned h x z a) (go x (sign_by (not h) x z a))
  where
    go : (x y : Bool) → one (not x) + 2 * one (not y) + (one x + 2 * one y) ≡ 3
    go true true = refl
    go true false = refl
    go false true = refl
    go false false = refl

upper-le : (h : Bool) (side south fall rise under : List Bool) (c : ℕ) → upper_in h side south fall rise under c ≤ 195
upper-le h side south fall rise under c = go _ _ (pair-le h _ _ _) (pair-le h _ _ _)
  where
    go : (x y : ℕ) → x ≤ 3 → y ≤ 3 → upper_by x y ≤ 195
    go x y i j = omega arith

pub halves-low : (h : Bool) (side south fall rise under : List Bool) (width : ℕ) (upper₀ upper : List ℕ) → width ≤ length upper₀
    → upper ≡ stores (upper_in h side south fall rise under) 0 width upper₀
    → (c : ℕ) → c < width
    → get_or upper c 0 ≤ 195
halves-low h side south fall rise under width upper₀ upper room e c i =
    rw (e, stores-in (upper_in h side south fall rise under) 0 width upper₀ c 0 (omega arith) (omega arith) (omega arith))
    (upper-le h side south fall rise under c)

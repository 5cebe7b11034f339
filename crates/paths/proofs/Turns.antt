-- Posts or rows met from the first on, or from the last.
use Prim.Native.Nat.{ℕ, ◌+◌, ◌-◌, ◌<◌}
use native.Mathlib.Omega.{arith}
use native.Mathlib.Decide.{ℕ_discrete}
use mathlib.Core.Path.{◌≡◌, refl}
use mathlib.Core.Logic.{◌⊎◌, inl, inr}
use mathlib.Core.Bool.{Bool, true, false, cond}

-- the one of turn i
abbrev pub met : Bool → ℕ → ℕ → ℕ
met back n i = cond back (n - 1 - i) i

pub met-in : (back : Bool) (n i : ℕ) → i < n → met back n i < n
met-in true n i h = omega arith
met-in false n i h = h

-- every one is met: at the turn that the same order gives it
pub met_all : (back : Bool) (n p : ℕ) → p < n → met back n (met back n p) ≡ p
met_all true n p h = omega arith
met_all false n p h = refl

-- what holds of one that was met in the first i turns
pub record Before (i : ℕ) (Of : ℕ → ℕ → Type 0) (p : ℕ) : Type 0 where
  pub turn : ℕ
  pub early : turn < i
  pub holds : Of turn p

pub before_more : {i : ℕ} {Of : ℕ → ℕ → Type 0} {p : ℕ} → Before (i + 1) Of p → Before i Of p ⊎ Of i p
before_more {i} {Of} {p} b = go (ℕ_discrete b.turn i)
  where
    go : Dec (b.turn ≡ i) → Before i Of p ⊎ Of i p
    go (yes e) = inr (rw e at b.holds)
    go (no e) = inl (record { turn = b.turn; early = omega (arith, b.early); holds = b.holds })

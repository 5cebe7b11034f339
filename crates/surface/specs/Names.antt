-- Between the definitions and the code: bodies told by names, a vertex of each standing for all of it. (The calls' promises do not speak of these.)
use Rattle.std.specs.Prelude.{ℕ, Bool, cond, List, eqb}
use Rattle.surface.specs.Lists.{any}

-- two vertices have one name
abbrev pub alike : (ℕ → ℕ) → ℕ → ℕ → Bool
alike name q x = eqb (name q) (name x)

-- names after all bodies with a member in l were given the name r
unfoldable pub merged : (ℕ → ℕ) → ℕ → List ℕ → ℕ → ℕ
merged name r l v = cond (any (λ q. eqb (name q) (name v)) l) r (name v)

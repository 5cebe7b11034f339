-- docs/SPECIFICATION.md, "Lines, dales and hills": what it means that a list of names parts the ground, into dales or into hills.
use Rattle.std.specs.Prelude.{ℕ, ◌+◌, ◌<◌, ◌≡◌, ◌⊎◌, ◌↔◌, eqb, get_or}
use mathlib.Core.List.{List, Memᴰ}
use Rattle.surface.specs.Lists.{list_of, any, count, one}
use Rattle.surface.specs.Plot.{virtual_pit}
use Rattle.surface.specs.Ways.{OnePiece}

-- how many of the posts 0 to n - 1 and the virtual pit are named in a list
unfoldable pub names_in : ℕ → List ℕ → ℕ
names_in n l = count (λ w. any (λ x. eqb x w) l) (list_of (λ w. w) n) + one (any (λ x. eqb x virtual_pit) l)

-- exactly one w has the property
pub record ExactlyOne (holds : ℕ → Type 0) : Type 0 where
  pub it : ℕ
  pub it_holds : holds it
  pub no_other : (w : ℕ) → holds w → w ≡ it

-- the dales, or the hills, of a plot of n posts: `is_name` tells which vertices name one, `member w p` that p is in the one named w
pub record Parts (n : ℕ) (edge : ℕ → ℕ → Type 0) (is_name : ℕ → Type 0) (member : ℕ → ℕ → Type 0) (list : List ℕ) (number : ℕ) : Type 0 where
  -- every post lies in exactly one
  pub one : (p : ℕ) → p < n → ExactlyOne (λ w. is_name w × member w p)
  -- the names in the list are exactly these
  pub names : (w : ℕ) → Memᴰ w list ↔ is_name w
  -- and this many
  pub numbered : names_in n list ≡ number
  -- each is in one piece along edges
  pub piece : (w : ℕ) → OnePiece edge (member w)

-- the members of a dale and of a hill, by the filled lists; the virtual pit is a member of its own dale and of no hill
abbrev pub InDale : ℕ → List ℕ → ℕ → ℕ → Type 0
InDale n dales w p = ((p < n) × (get_or dales p 0 ≡ w)) ⊎ ((p ≡ virtual_pit) × (w ≡ virtual_pit))

abbrev pub InHill : ℕ → List ℕ → ℕ → ℕ → Type 0
InHill n hills w p = (p < n) × (get_or hills p 0 ≡ w)

-- docs/SPECIFICATION.md, "Joins and splits": which bodies of the ground below a post its lower neighbours lie in, and of that above it its upper ones.
-- Everything is over any order and any neighbours; those of a plot are `joins_at` and `splits_at`.
use Rattle.std.specs.Prelude.{ℕ, zero, suc, ◌+◌, ◌-◌, ◌*◌, ◌<◌, ◌≡◌, Bool, true, cond, not, ◌&&◌, ◌||◌, eqb, length, get_or}
use mathlib.Core.List.{List, [], ◌∷◌, Memᴰ}
use Rattle.surface.specs.Lists.{list_of, filter, any, one}
use Rattle.surface.specs.Plot.{Plot, posts, virtual_pit, Vertex, below, reversed}
use Rattle.surface.specs.Edges.{is_border, ring, falls_in}
use Rattle.surface.specs.Ways.{Way, EdgeOf}

-- the vertices that ways from q through members reach in k steps or fewer, q itself among them
module _ (member : ℕ → Bool) (around : ℕ → List ℕ) (q : ℕ) where
  unfoldable pub reached : ℕ → ℕ → Bool
  reached zero v = eqb v q
  reached (suc k) v = reached k v || (member v && any (reached k) (around v))

-- q and r lie in one body of what is below p: a way through what is below p joins them. None needs more steps than there are vertices, n posts and the
-- virtual pit
unfoldable pub in_one_body : (ℕ → ℕ → Bool) → (ℕ → List ℕ) → ℕ → ℕ → ℕ → ℕ → Bool
in_one_body lower around n p q = reached (λ v. lower v p) around q (suc n)

-- what is below p
abbrev pub BelowOf : (ℕ → ℕ → Bool) → ℕ → ℕ → ℕ → Type 0
BelowOf lower n p v = Vertex n v × (lower v p ≡ true)

-- how many classes the members of a list lie in; `same` tells whether two are of one class, of which the last member in the list counts
unfoldable pub classes : (ℕ → ℕ → Bool) → List ℕ → ℕ
classes same [] = 0
classes same (x ∷ l) = one (not (any (λ q. same q x) l)) + classes same l

-- the bodies that p's lower neighbours lie in
unfoldable pub bodies_at : (ℕ → ℕ → Bool) → (ℕ → List ℕ) → ℕ → ℕ → ℕ
bodies_at lower around n p = classes (in_one_body lower around n p) (filter (λ q. lower q p) (around p))

-- the neighbours of a vertex, by any choice of diagonals: those of a post are its ring, those of the virtual pit the border posts
unfoldable pub neighbours : ℕ → ℕ → (ℕ → Bool) → ℕ → List ℕ
neighbours rows columns falls v =
    cond (eqb v virtual_pit) (filter (is_border rows columns) (list_of (λ p. p) (rows * columns))) (ring rows columns falls v)

abbrev pub neighbours_of : Plot → ℕ → List ℕ
neighbours_of pl = neighbours pl.rows pl.columns (falls_in pl)

-- joins: those bodies less one, or 0 where there is none; splits: the same of what is above, by the reversed order; the virtual pit is above no post
unfoldable pub joins_at : Plot → ℕ → ℕ
joins_at pl p = bodies_at (below pl) (neighbours_of pl) (posts pl) p - 1

unfoldable pub splits_at : Plot → ℕ → ℕ
splits_at pl p = bodies_at (reversed (below pl)) (neighbours_of pl) (posts pl) p - 1

-- of every post
unfoldable pub joins_of : Plot → List ℕ
joins_of pl = list_of (joins_at pl) (posts pl)

unfoldable pub splits_of : Plot → List ℕ
splits_of pl = list_of (splits_at pl) (posts pl)

-- What these are by ways alone, without `in_one_body` and `classes`: l has one of each body that p's lower neighbours lie in; n is the number of posts.
pub record OneOfEach (edge : ℕ → ℕ → Type 0) (lower : ℕ → ℕ → Bool) (n p : ℕ) (l : List ℕ) : Type 0 where
  -- its members are lower neighbours,
  pub neighbour : (q : ℕ) → Memᴰ q l → edge p q × BelowOf lower n p q
  -- no two of which are joined by a way through what is below p,
  pub apart : (i j : ℕ) → i < j → j < length l → Way edge (BelowOf lower n p) (get_or l i 0) (get_or l j 0) → ⊥
  -- while from every lower neighbour such a way leads to one of them
  pub every : (q : ℕ) → edge p q → BelowOf lower n p q → (r : ℕ) × (Memᴰ r l × Way edge (BelowOf lower n p) q r)

-- of a plot: k is the number of these bodies less one, or 0 where there is none
abbrev pub BodiesLessOne : Plot → (ℕ → ℕ → Bool) → ℕ → ℕ → Type 0
BodiesLessOne pl lower p k = (l : List ℕ) × (OneOfEach (EdgeOf pl) lower (posts pl) p l × (k ≡ length l - 1))

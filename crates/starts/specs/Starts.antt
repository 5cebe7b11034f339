-- The posts at which the upper runs of a post start, by its pattern.
use Rattle.std.specs.Prelude.{ℕ, ◌+◌, ◌-◌, ◌*◌, ◌≤◌, ◌<◌, ◌≡◌, List, [], ◌∷◌, Option, MatchOption, map, length, get_or}
use Rattle.surface.specs.Plot.{Plot}
use Rattle.surface.specs.Patterns.{pattern_at, upper_starts}

-- how far beyond its north west neighbour the neighbours of a post stand, N, NE, .. NW, and last the post itself
unfoldable pub strides : ℕ → List ℕ
strides columns =
    1 ∷ 2 ∷ (columns + 2) ∷ (2 * columns + 2) ∷ (2 * columns + 1) ∷ 2 * columns ∷ columns ∷ 0 ∷ (columns + 1) ∷ []

abbrev pub stride_to : ℕ → ℕ → ℕ
stride_to columns place = get_or (strides columns) place 0

-- the post at a place round p; place 8 is p
abbrev pub post_at : ℕ → ℕ → ℕ → ℕ
post_at columns p place = p + stride_to columns place - (columns + 1)

-- the posts at which p's upper runs start
abbrev pub start_posts : Plot → ℕ → List ℕ
start_posts pl p = map (post_at pl.columns p) (upper_starts (pattern_at pl p))

-- by a pattern, the place where the first upper run starts, 8 where there is none
abbrev pub first_start : ℕ → ℕ
first_start pattern = get_or (upper_starts pattern) 0 8

-- the place where upper run j of a pattern starts, if there is such a run
abbrev pub StartOf : ℕ → ℕ → Option ℕ → Type 0
StartOf pattern j r = MatchOption r (length (upper_starts pattern) ≤ j) (λ place. (j < length (upper_starts pattern)) × (place ≡ get_or (upper_starts pattern) j 8) × (place < 8))

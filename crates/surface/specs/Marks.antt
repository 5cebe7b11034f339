-- docs/SPECIFICATION.md, "Marks and counts". Over any order and any rings; those of a plot are `mark_at` and `marks_of`.
use Rattle.std.specs.Prelude.{ℕ, suc, ◌+◌, ◌-◌, ◌<◌, ◌≡◌, ◌⊎◌, Bool, false, cond, not, ◌&&◌, List, map, leb, eqb, length, get_or}
use Rattle.surface.specs.Lists.{list_of, any, count, total}
use Rattle.surface.specs.Plot.{Plot, posts, row, column, virtual_pit, below}
use Rattle.surface.specs.Edges.{ring_of, lower_runs}

-- 1 peak: no neighbour is above. 2 pit: no neighbour is below. 0 ordinary: one lower run and some neighbour above. 3, 4, 5: a saddle of 2, 3, 4 lower runs
unfoldable pub mark_for : Bool → Bool → ℕ → ℕ
mark_for some_above some_below k = cond (not some_above) 1 (cond (not some_below) 2 (cond (eqb k 1) 0 (k + 1)))

unfoldable pub mark : (ℕ → ℕ → Bool) → (ℕ → List ℕ) → ℕ → ℕ
mark lower ring p = mark_for (any (λ q. lower p q) (ring p)) (any (λ q. lower q p) (ring p)) (length (lower_runs lower ring p))

-- a mark from 3 on is a saddle's
abbrev pub is_saddle : ℕ → Bool
is_saddle m = leb 3 m

-- the multiplicity of a saddle by its mark, 0 for every other mark
abbrev pub multiplicity : ℕ → ℕ
multiplicity m = m - 2

-- the three counts of a list of marks; the virtual pit is a pit
unfoldable pub peaks : List ℕ → ℕ
peaks marks = count (λ m. eqb m 1) marks

unfoldable pub pits : List ℕ → ℕ
pits marks = suc (count (λ m. eqb m 2) marks)

unfoldable pub saddles : List ℕ → ℕ
saddles marks = total (map multiplicity marks)

-- the marks of a plot
unfoldable pub mark_at : Plot → ℕ → ℕ
mark_at pl = mark (below pl) (ring_of pl)

unfoldable pub marks_of : Plot → List ℕ
marks_of pl = list_of (mark_at pl) (posts pl)

-- pits and peaks, told by their rings; the virtual pit is a pit
abbrev pub IsPit : Plot → ℕ → Type 0
IsPit pl p = ((p < posts pl) × (any (λ q. below pl q p) (ring_of pl p) ≡ false)) ⊎ (p ≡ virtual_pit)

abbrev pub IsPeak : Plot → ℕ → Type 0
IsPeak pl p = (p < posts pl) × (any (λ q. below pl p q) (ring_of pl p) ≡ false)

-- two posts are the same or touch by side or corner
abbrev pub near : ℕ → ℕ → Bool
near a b = leb a (b + 1) && leb b (a + 1)

unfoldable pub touches : ℕ → ℕ → ℕ → Bool
touches columns p q = near (row columns p) (row columns q) && near (column columns p) (column columns q)

-- a re-shoot writes afresh the marks of post p and of those that touch it
unfoldable pub redrawn : Plot → List ℕ → ℕ → List ℕ
redrawn pl marks p = list_of (λ i. cond (touches pl.columns p i) (mark_at pl i) (get_or marks i 0)) (length marks)

-- docs/SPECIFICATION.md, "Edges". Everything is over any height order and any choice of diagonals; those of a plot are `falls_in`.
use Rattle.std.specs.Prelude.{ℕ, ◌+◌, ◌-◌, ◌*◌, ◌<◌, ◌≡◌, Bool, true, false, cond, not, ◌&&◌, ◌||◌, List, [], ◌∷◌, ◌++◌, T, eqb}
use Rattle.surface.specs.Lists.{keep, all, take_while, last_or}
use Rattle.surface.specs.Plot.{Plot, row, column, virtual_pit, below, reversed, directed}

-- the lower of two, in an order, and the lowest of x and the members of a list
abbrev pub lower_of : (ℕ → ℕ → Bool) → ℕ → ℕ → ℕ
lower_of lower x y = cond (lower y x) y x

unfoldable pub lowest_or : (ℕ → ℕ → Bool) → ℕ → List ℕ → ℕ
lowest_or lower x [] = x
lowest_or lower x (y ∷ l) = lowest_or lower (lower_of lower x y) l

-- the lowest member of a list (an empty one has none; no call asks for it)
unfoldable pub lowest : (ℕ → ℕ → Bool) → List ℕ → ℕ
lowest lower [] = virtual_pit
lowest lower (x ∷ l) = lowest_or lower x l

-- the four borders of the plot
abbrev pub top : ℕ → ℕ → Bool
top columns p = eqb (row columns p) 0

abbrev pub bottom : ℕ → ℕ → ℕ → Bool
bottom rows columns p = eqb (row columns p + 1) rows

abbrev pub left : ℕ → ℕ → Bool
left columns p = eqb (column columns p) 0

abbrev pub right : ℕ → ℕ → Bool
right columns p = eqb (column columns p + 1) columns

abbrev pub is_border : ℕ → ℕ → ℕ → Bool
is_border rows columns p = top columns p || (right columns p || (bottom rows columns p || left columns p))

-- A cell is named by its top left post a:     a ------ a + 1
-- it is there where a is in neither the       |          |
-- last column nor the bottom row.          a + columns - a + columns + 1
abbrev pub is_cell : ℕ → ℕ → ℕ → Bool
is_cell rows columns a = not (right columns a) && not (bottom rows columns a)

-- A choice of diagonals says of each cell a whether its diagonal falls, from top left to bottom right, or rises, from bottom left to top right.
-- One choice is the diagonal through the cell's lowest post in an order; through its highest is through its lowest in the reversed order.
unfoldable pub through_lowest : (ℕ → ℕ → Bool) → ℕ → ℕ → Bool
through_lowest lower columns a =
    let l = lowest lower (a ∷ (a + 1) ∷ (a + columns) ∷ (a + columns + 1) ∷ []) in
    eqb l a || eqb l (a + columns + 1)

-- the diagonals of a plot: rule 1, through the lowest posts, or rule 2, through the highest
abbrev pub falls_in : Plot → ℕ → Bool
falls_in pl = through_lowest (directed pl.highest (below pl)) pl.columns

-- Edges: the sides of cells, their diagonals, and one from each border post to the virtual pit.
pub data Corner : Type 0 where
  nw ne sw se : Corner

abbrev pub corner : ℕ → ℕ → Corner → ℕ
corner columns a nw = a
corner columns a ne = a + 1
corner columns a sw = a + columns
corner columns a se = a + columns + 1

-- two corners of a cell are joined by a side or by the cell's diagonal
abbrev pub joined : Bool → Corner → Corner → Bool
joined fall nw nw = false
joined fall nw ne = true
joined fall nw sw = true
joined fall nw se = fall
joined fall ne nw = true
joined fall ne ne = false
joined fall ne sw = not fall
joined fall ne se = true
joined fall sw nw = true
joined fall sw ne = not fall
joined fall sw sw = false
joined fall sw se = true
joined fall se nw = fall
joined fall se ne = true
joined fall se sw = true
joined fall se se = false

-- a place round a post: whether a neighbour stands there, and which
pub record Place : Type 0 where
  pub taken : Bool
  pub member : ℕ

abbrev pub place : Bool → ℕ → Place
place taken member = record { taken = taken; member = member }

unfoldable pub members : List Place → List ℕ
members [] = []
members (x ∷ l) = keep x.taken x.member ++ members l

module _ (rows columns : ℕ) (falls : ℕ → Bool) where
  pub data Edge (p q : ℕ) : Type 0 where
    of_cell : (a : ℕ) → a < rows * columns → T (is_cell rows columns a) → (i j : Corner) → T (joined (falls a) i j) → p ≡ corner columns a i → q ≡ corner columns a j → Edge p q
    to_pit : p < rows * columns → T (is_border rows columns p) → q ≡ virtual_pit → Edge p q
    from_pit : q < rows * columns → T (is_border rows columns q) → p ≡ virtual_pit → Edge p q

  -- The eight places round a post, clockwise from north.      NW  N  NE
  -- On a border post the virtual pit stands at N in the         W  p  E
  -- top row, else at E in the last column, else at S in        SW  S  SE
  -- the bottom row, else at W.
  unfoldable pub places : ℕ → List Place
  places p =
      let t = top columns p in
      let b = bottom rows columns p in
      let l = left columns p in
      let r = right columns p in
      place true (cond t virtual_pit (p - columns))
      ∷ place (not t && (not r && not (falls (p - columns)))) (p - columns + 1)
      ∷ place (not (r && t)) (cond r virtual_pit (p + 1))
      ∷ place (not r && (not b && falls p)) (p + columns + 1)
      ∷ place (not (b && (t || r))) (cond b virtual_pit (p + columns))
      ∷ place (not b && (not l && not (falls (p - 1)))) (p + columns - 1)
      ∷ place (not (l && (t || (r || b)))) (cond l virtual_pit (p - 1))
      ∷ place (not l && (not t && falls (p - columns - 1))) (p - columns - 1)
      ∷ []

  -- the ring of a post: its neighbours at those places
  unfoldable pub ring : ℕ → List ℕ
  ring p = members (places p)

-- the rings of a plot
unfoldable pub ring_of : Plot → ℕ → List ℕ
ring_of pl = ring pl.rows pl.columns (falls_in pl)

-- A run is a longest stretch of the ring, taken as a circle, whose members all pass the test. Here are those that start in l, in order: a run starts
-- where a member passes and the one before it, of which `before` tells, does not. `circle` is the ring
-- once more, so that a run may go on past its end.
unfoldable pub runs_from : (ℕ → Bool) → Bool → List ℕ → List ℕ → List (List ℕ)
runs_from s before [] circle = []
runs_from s before (x ∷ l) circle = keep (s x && not before) (take_while s (x ∷ l ++ circle)) ++ runs_from s (s x) l circle

-- the runs of a ring, numbered by the ring place of their first member; a ring all of one sort is one run
unfoldable pub runs : (ℕ → Bool) → List ℕ → List (List ℕ)
runs s [] = []
runs s (x ∷ l) = cond (all s (x ∷ l)) ((x ∷ l) ∷ []) (runs_from s (s (last_or x l)) (x ∷ l) (x ∷ l))

-- the runs of p's ring below p, and those above it, which are the lower ones in the reversed order
abbrev pub lower_runs : (ℕ → ℕ → Bool) → (ℕ → List ℕ) → ℕ → List (List ℕ)
lower_runs lower ring_of p = runs (λ q. lower q p) (ring_of p)

abbrev pub upper_runs : (ℕ → ℕ → Bool) → (ℕ → List ℕ) → ℕ → List (List ℕ)
upper_runs lower = lower_runs (reversed lower)

-- docs/SPECIFICATION.md, "Plot, posts and height order".
use Rattle.std.specs.Prelude.{ℕ, ◌*◌, ◌/◌, ◌%◌, ◌≤◌, ◌<◌, ◌≡◌, Bool, true, false, cond, not, ◌&&◌, ◌||◌, List, ◌⊎◌, leb, ltb, eqb, ℤ, pos, negsuc, length, get_or, set}
use Rattle.std.specs.Int.Signed.{lt_z}
use Rattle.surface.specs.Lists.{all}
use Rattle.surface.specs.declared.Grid.{Grid}

-- a plot has 2 to 120 rows and 2 to 120 columns, so at most 14,400 posts
abbrev pub max_side : ℕ
max_side = 120

abbrev pub max_posts : ℕ
max_posts = 14400

abbrev pub is_side : ℕ → Bool
is_side n = leb 2 n && leb n max_side

-- a height is a whole number of millimetres, from -1,000,000 to 1,000,000
abbrev pub is_height : ℤ → Bool
is_height z = not (lt_z z (negsuc 999999)) && not (lt_z (pos 1000000) z)

-- the rule by which cells are cut, 1 through the lowest post of each or 2 through the highest, where nothing is said
abbrev pub default_rule : ℕ
default_rule = 2

-- a plot as it is lent: its rows, its columns, the heights of its posts, and what its settings sheet says ("Settings sheet"): that the sheet is bad,
-- that an entry of it is, for either of which a call is refused, and whether cells are cut through their highest posts
pub record Plot : Type 0 where
  pub rows : ℕ
  pub columns : ℕ
  pub heights : List ℤ
  pub bad_sheet : Bool
  pub bad_entry : Bool
  pub highest : Bool

-- one whose sheet is not bad
abbrev pub ruled : Bool → ℕ → ℕ → List ℤ → Plot
ruled highest rows columns heights =
    record { rows = rows; columns = columns; heights = heights; bad_sheet = false; bad_entry = false; highest = highest }

-- one without a sheet
abbrev pub plot : ℕ → ℕ → List ℤ → Plot
plot = ruled (eqb default_rule 2)

abbrev pub plot_of : Grid → List ℤ → Plot
plot_of grid heights = ruled grid.highest grid.rows grid.columns heights

-- how many posts it has
abbrev pub posts : Plot → ℕ
posts pl = pl.rows * pl.columns

-- the plot with other heights, and with one other height
abbrev pub over : Plot → List ℤ → Plot
over pl heights =
    record { rows = pl.rows; columns = pl.columns; heights = heights; bad_sheet = pl.bad_sheet; bad_entry = pl.bad_entry; highest = pl.highest }

abbrev pub reshot : Plot → ℕ → ℤ → Plot
reshot pl p new = over pl (set pl.heights p new)

-- post number = row times columns plus column, both counted from 0 at the top left
abbrev pub row : ℕ → ℕ → ℕ
row columns p = p / columns

abbrev pub column : ℕ → ℕ → ℕ
column columns p = p % columns

-- the height of post p (0 past the list, where there is no post)
abbrev pub height : Plot → ℕ → ℤ
height pl p = get_or pl.heights p (pos 0)

-- the virtual pit, as it is written in lists; a vertex is one of n posts or the virtual pit
unfoldable pub virtual_pit : ℕ
virtual_pit = 65535

abbrev pub Vertex : ℕ → ℕ → Type 0
Vertex n p = (p < n) ⊎ (p ≡ virtual_pit)

-- an order the other way round: what is stated of "below" in one holds of "above" in the other
abbrev pub reversed : (ℕ → ℕ → Bool) → ℕ → ℕ → Bool
reversed lower p q = lower q p

-- an order, or the reversed one
abbrev pub directed : Bool → (ℕ → ℕ → Bool) → ℕ → ℕ → Bool
directed upward lower = cond upward (reversed lower) lower

-- rows 1, 3, 5 and so on
abbrev pub is_odd : ℕ → Bool
is_odd n = eqb (n % 2) 1

-- equal heights are ordered as driven, to and fro by row: p is driven past before q when its row is lower; within a row when its column is lower or, if
-- the row is odd, when it is higher
unfoldable pub driven_before : ℕ → ℕ → ℕ → Bool
driven_before columns p q =
    let r = row columns p in
    let s = row columns q in
    ltb r s || (not (ltb s r) && directed (is_odd r) ltb (column columns p) (column columns q))

-- the height order: p is below q when its height is less, or the heights are equal and p is driven past before q; the virtual pit is below every post
unfoldable pub below : Plot → ℕ → ℕ → Bool
below pl p q =
    not (eqb q virtual_pit)
    && (eqb p virtual_pit || (lt_z (height pl p) (height pl q) || (not (lt_z (height pl q) (height pl p)) && driven_before pl.columns p q)))

-- two posts have equal heights, so that the tie rule orders them; the virtual pit has no height
abbrev pub tied : Plot → ℕ → ℕ → Bool
tied pl p q =
    not (eqb p virtual_pit || eqb q virtual_pit) && not (lt_z (height pl p) (height pl q) || lt_z (height pl q) (height pl p))

-- the sides that a plot may have
pub record Sides (rows columns : ℕ) : Type 0 where
  pub tall : 2 ≤ rows
  pub low : rows ≤ max_side
  pub wide : 2 ≤ columns
  pub narrow : columns ≤ max_side
  pub few : rows * columns ≤ max_posts

-- sides and heights as every call takes them
pub record Valid (pl : Plot) : Type 0 where
  pub sides : Sides pl.rows pl.columns
  pub size : length pl.heights ≡ posts pl
  pub in_range : all is_height pl.heights ≡ true

-- a post of such a plot
pub record PostOf (pl : Plot) (p : ℕ) : Type 0 where
  pub valid : Valid pl
  pub post : p < posts pl

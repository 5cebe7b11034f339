-- docs/SPECIFICATION.md, "Lines, dales and hills". Stated once, over any order, rings and choice among lower neighbours: a thalweg (water line) is a
-- line downward, a ridge (crest line) a line upward, which is a line in the reversed order; dales and hills likewise.
use Rattle.std.specs.Prelude.{ℕ, zero, suc, ◌+◌, ◌*◌, ◌≤◌, ◌≡◌, Bool, true, false, cond, not, ◌&&◌, ◌||◌, ltb, eqb, ◌-ℤ◌, nat_abs, length, get_or}
use mathlib.Core.List.{List, [], ◌∷◌, Memᴰ}
use Rattle.surface.specs.Lists.{list_of, filter, any, last_or}
use Rattle.surface.specs.Plot.{Plot, posts, row, column, height, virtual_pit, below, directed}
use Rattle.surface.specs.Edges.{lowest, ring_of, lower_runs}
use Rattle.surface.specs.declared.Spacings.{Spacings}

-- A descent: an order, rings, and `pick`, which chooses one of a post's lower neighbours; it may look at the post.
pub record Descent : Type 0 where
  pub lower : ℕ → ℕ → Bool
  pub ring : ℕ → List ℕ
  pub pick : ℕ → List ℕ → ℕ

module _ (d : Descent) where
  -- a walk ends at the virtual pit, and at a post that has no lower neighbour: downward a pit, upward (where it never meets the virtual pit) a peak
  unfoldable pub is_end : ℕ → Bool
  is_end p = eqb p virtual_pit || not (any (λ q. d.lower q p) (d.ring p))

  -- next down (next up): what is picked of the lower neighbours, or the post itself at an end
  unfoldable pub next : ℕ → ℕ
  next p = cond (is_end p) p (d.pick p (filter (λ q. d.lower q p) (d.ring p)))

  -- p, then next until an end, in at most n steps. Each step is lower, so no post comes twice, and as many steps as there are posts reach the end.
  unfoldable pub walk : ℕ → ℕ → List ℕ
  walk zero p = p ∷ []
  walk (suc n) p = p ∷ cond (is_end p) [] (walk n (next p))

  -- where n steps lead
  unfoldable pub end : ℕ → ℕ → ℕ
  end zero p = p
  end (suc n) p = end n (next p)

  -- the runs that lines of p go by: the lower ones, or, upward, the upper ones
  abbrev pub runs_of : ℕ → List (List ℕ)
  runs_of p = lower_runs d.lower d.ring p

  -- where the line of a saddle and a run goes to from the saddle: what is picked of the run
  abbrev pub line_start : ℕ → ℕ → ℕ
  line_start p run = d.pick p (get_or (runs_of p) run [])

  -- the line: the saddle, where it goes to from there, then next until an end
  unfoldable pub line : ℕ → ℕ → ℕ → List ℕ
  line n p run = p ∷ walk n (line_start p run)

-- every entry after x is below the one before it
unfoldable pub falls_from : (ℕ → ℕ → Bool) → ℕ → List ℕ → Bool
falls_from lower x [] = true
falls_from lower x (y ∷ l) = lower y x && falls_from lower y l

-- a line of a plot of n posts: each entry after the first is lower (in the order given) than the one before, the last is an end, and there is at most
-- one entry more than there are posts
pub record LineFrom (n : ℕ) (lower : ℕ → ℕ → Bool) (is_end : ℕ → Type 0) (post : ℕ) (entries : List ℕ) : Type 0 where
  pub rest : List ℕ
  pub starts : entries ≡ post ∷ rest
  pub falls : falls_from lower post rest ≡ true
  pub ends : is_end (last_or post rest)
  pub fits : length entries ≤ n + 1

abbrev pub squared : ℕ → ℕ
squared n = n * n

-- the squared drop, or rise, along an edge; 0 where the heights are equal
unfoldable pub squared_drop : Plot → ℕ → ℕ → ℕ
squared_drop pl p q = squared (nat_abs (height pl p -ℤ height pl q))

module _ (pl : Plot) (s : Spacings) where
  -- its squared length: along a row, along a column, or of a diagonal, where it is the sum of the two squares
  unfoldable pub squared_length : ℕ → ℕ → ℕ
  squared_length p q =
      cond (eqb (row pl.columns p) (row pl.columns q)) (squared s.east)
      (cond (eqb (column pl.columns p) (column pl.columns q)) (squared s.south) (squared s.east + squared s.south))

  -- from p the slope to q, drop over length, is greater than the slope to r, compared by squares
  unfoldable pub steeper : ℕ → ℕ → ℕ → Bool
  steeper p q r = ltb (squared_drop pl p r * squared_length p q) (squared_drop pl p q * squared_length p r)

  -- from p, q is taken before r: it is steeper, or as steep and lower
  abbrev pub before : (ℕ → ℕ → Bool) → ℕ → ℕ → ℕ → Bool
  before lower p q r = steeper p q r || (not (steeper p r q) && lower q r)

  -- the choice that is made from p: the virtual pit where it is a member, else the first in that order
  unfoldable pub steepest : (ℕ → ℕ → Bool) → ℕ → List ℕ → ℕ
  steepest lower p members = cond (any (λ q. eqb q virtual_pit) members) virtual_pit (lowest (before lower p) members)

  module _ (lower : ℕ → ℕ → Bool) (p : ℕ) (members : List ℕ) (q : ℕ) where
    -- what that is: from p, q is the steepest of the members: none has a greater slope, and among those of equal slope none is lower
    pub record Steepest : Type 0 where
      pub member : Memᴰ q members
      pub slope : (r : ℕ) → Memᴰ r members → steeper p r q ≡ false
      pub level : (r : ℕ) → Memᴰ r members → steeper p q r ≡ false → lower r q ≡ false

    -- the virtual pit where it is a member, else the steepest
    pub record Chosen : Type 0 where
      pub pit : Memᴰ virtual_pit members → q ≡ virtual_pit
      pub other : (Memᴰ virtual_pit members → ⊥) → Steepest

  -- the two descents of a plot; upward the order is reversed, so that of equal slopes the higher is chosen
  abbrev pub toward : Bool → Descent
  toward upward =
      let lower = directed upward (below pl) in
      record { lower = lower; ring = ring_of pl; pick = steepest lower }

  abbrev pub down : Descent
  down = toward false

  abbrev pub up : Descent
  up = toward true

  -- the pit that names the dale of a post, and the peak that names its hill
  unfoldable pub dale_at : ℕ → ℕ
  dale_at = end down (posts pl)

  unfoldable pub hill_at : ℕ → ℕ
  hill_at = end up (posts pl)

  unfoldable pub dales_of : List ℕ
  dales_of = list_of dale_at (posts pl)

  unfoldable pub hills_of : List ℕ
  hills_of = list_of hill_at (posts pl)

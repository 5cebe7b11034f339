-- The first of a post and its neighbours in an order, found by a scan of the places round it: the height order, it reversed, or the order by slopes.
use Rattle.std.specs.Prelude.{ℕ, ◌+◌, ◌-◌, Bool, cond, not, ◌&&◌, List, [], ◌∷◌}
use Rattle.surface.specs.Edges.{lower_of, Place, place}
use Rattle.rings.specs.declared.border.Borders.{Borders}
use Rattle.rings.specs.declared.corner.Corners.{Corners}

module _ (lower : ℕ → ℕ → Bool) where
  -- the lower of what was found so far and the neighbour at a place
  abbrev pub step : ℕ → Place → ℕ
  step x y = cond y.taken (lower_of lower x y.member) x

  unfoldable pub scan : ℕ → List Place → ℕ
  scan x [] = x
  scan x (y ∷ l) = scan (step x y) l

-- the posts round p, clockwise from north
abbrev pub turn : ℕ → ℕ → Borders → Corners → List Place
turn columns p at joined =
    place (not at.top) (p - columns)
    ∷ place joined.ne (p - (columns - 1))
    ∷ place (not at.right) (p + 1)
    ∷ place joined.se (p + (columns + 1))
    ∷ place (not at.bottom) (p + columns)
    ∷ place joined.sw (p + (columns - 1))
    ∷ place (not at.left) (p - 1)
    ∷ place joined.nw (p - (columns + 1))
    ∷ []

-- joined to a corner where their cell is there and both its sides are lower than p
abbrev pub corners_lower : (ℕ → ℕ → Bool) → ℕ → ℕ → Borders → Corners
corners_lower lower columns p at =
    let n = lower (p - columns) p in
    let e = lower (p + 1) p in
    let s = lower (p + columns) p in
    let w = lower (p - 1) p in
    record {
      ne = not at.top && (not at.right && (n && e));
      se = not at.right && (not at.bottom && (e && s));
      sw = not at.bottom && (not at.left && (s && w));
      nw = not at.left && (not at.top && (w && n));
    }

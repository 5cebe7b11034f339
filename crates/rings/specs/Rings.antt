-- The ring of a post as an array and a length, by its borders and by the corners that share an edge with it.
use Rattle.std.specs.Prelude.{ℕ, ◌+◌, ◌-◌, ◌<◌, ◌≤◌, ◌≡◌, Bool, true, cond, not, ◌&&◌, ◌||◌, List, [], ◌∷◌, ◌++◌, length, take}
use Rattle.surface.specs.Lists.{keep}
use Rattle.surface.specs.Plot.{virtual_pit}
use Rattle.surface.specs.Edges.{Place, place}
use Rattle.rings.specs.declared.border.Borders.{Borders}
use Rattle.rings.specs.declared.corner.Corners.{Corners}
use Rattle.rings.specs.declared.ring.Ring.{Ring}

-- the members that a ring has so far
abbrev pub held : Ring → List ℕ
held r = take r.len r.members

-- there is a place for one more
pub record Open (r : Ring) : Type 0 where
  pub less : r.len < 8
  pub size : length r.members ≡ 8

-- r is the ring with one member more, where it is there
pub record Grown (ring : Ring) (there : Bool) (member : ℕ) (r : Ring) : Type 0 where
  pub members : held r ≡ held ring ++ keep there member
  pub more : r.len ≤ ring.len + 1
  pub size : length r.members ≡ 8

-- the ring holds this list
pub record Holds (r : Ring) (l : List ℕ) : Type 0 where
  pub members : held r ≡ l
  pub len : r.len ≡ length l
  pub low : r.len ≤ 8
  pub size : length r.members ≡ 8

-- the places round p, as `places` has them
unfoldable pub ring_places : ℕ → ℕ → Borders → Corners → List Place
ring_places columns p at joined =
    place true (cond (not at.top) (p + 0 - columns) virtual_pit)
    ∷ place joined.ne (cond joined.ne (p + 1 - columns) virtual_pit)
    ∷ place (not (at.right && at.top)) (cond (not at.right) (p + 1 - 0) virtual_pit)
    ∷ place joined.se (cond joined.se (p + (columns + 1) - 0) virtual_pit)
    ∷ place (not (at.bottom && (at.top || at.right))) (cond (not at.bottom) (p + columns - 0) virtual_pit)
    ∷ place joined.sw (cond joined.sw (p + columns - 1) virtual_pit)
    ∷ place (not (at.left && (at.top || (at.right || at.bottom)))) (cond (not at.left) (p + 0 - 1) virtual_pit)
    ∷ place joined.nw (cond joined.nw (p + 0 - (columns + 1)) virtual_pit)
    ∷ []

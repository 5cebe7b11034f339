-- The places round a post in three groups, along the row, along the column and across cells: a scan of all is one of what is found in each. Products that
-- compare slopes where nothing falls.
use Prim.Native.Nat.{ℕ, ◌+◌, ◌-◌, ◌*◌, ◌<◌}
use mathlib.Core.Path.{◌≡◌, refl, sym, ap, ◌∙◌}
use mathlib.Core.Bool.{Bool, true, false, not, ◌&&◌}
use mathlib.Core.Logic.{◌⊎◌, inl, inr}
use mathlib.Core.List.{List, [], ◌∷◌, ◌++◌}
use native.Mathlib.Omega.{arith}
use native.Mathlib.Nat.{mul-pos}
use lib.Dec.{ltb}
use borrow.Author.Tests.{ltb-true, ltb-false, lt-ltb, le-ltb}
use Rattle.surface.specs.Edges.{lower_of, Place, place}
use Rattle.surface.proofs.General.Bools.{either}
use Rattle.surface.proofs.General.Order.{StrictTotal}
use Rattle.rings.specs.declared.border.Borders.{Borders}
use Rattle.rings.specs.declared.corner.Corners.{Corners}
use Rattle.next.specs.Scan.{step, scan, turn, corners_lower}
use Rattle.keys.specs.Keys.{cells}
use Rattle.next.proofs.Scanned.{to_front, scan-joins}

-- corners whose cells are there
pub record Within (at : Borders) (joined : Corners) : Type 0 where
  pub ne : joined.ne ≡ true → (cells at).ne ≡ true
  pub se : joined.se ≡ true → (cells at).se ≡ true
  pub sw : joined.sw ≡ true → (cells at).sw ≡ true
  pub nw : joined.nw ≡ true → (cells at).nw ≡ true

pub cells-within : (at : Borders) → Within at (cells at)
cells-within at = record { ne = λ h. h; se = λ h. h; sw = λ h. h; nw = λ h. h }

first_two : (a b c : Bool) → a && (b && c) ≡ true → a && b ≡ true
first_two true true c h = refl
first_two true false c h = h
first_two false b c h = h

pub lower-within : (lower : ℕ → ℕ → Bool) (columns p : ℕ) (at : Borders) → Within at (corners_lower lower columns p at)
lower-within lower columns p at =
    record {
      ne = first_two (not at.top) (not at.right) _;
      se = first_two (not at.right) (not at.bottom) _;
      sw = first_two (not at.bottom) (not at.left) _;
      nw = first_two (not at.left) (not at.top) _;
    }

-- the places round p along the row, along the column and across cells
abbrev pub row_places : ℕ → Borders → List Place
row_places p at = place (not at.right) (p + 1) ∷ place (not at.left) (p - 1) ∷ []

abbrev pub column_places : ℕ → ℕ → Borders → List Place
column_places columns p at = place (not at.top) (p - columns) ∷ place (not at.bottom) (p + columns) ∷ []

abbrev pub corner_places : ℕ → ℕ → Corners → List Place
corner_places columns p joined =
    place joined.ne (p - (columns - 1))
    ∷ place joined.se (p + (columns + 1))
    ∷ place joined.sw (p + (columns - 1))
    ∷ place joined.nw (p - (columns + 1))
    ∷ []

-- a scan of all of them: the first of what is found in each
pub by-groups : (f : ℕ → ℕ → Bool) → StrictTotal f → (columns p : ℕ) (at : Borders) (joined : Corners)
    → scan f p (turn columns p at joined)
    ≡ lower_of f (lower_of f (scan f p (row_places p at)) (scan f p (column_places columns p at))) (scan f p (corner_places columns p joined))
unfolding scan
by-groups f o columns p at joined =
    let n = place (not at.top) (p - columns) in
    let e = place (not at.right) (p + 1) in
    let s = place (not at.bottom) (p + columns) in
    let w = place (not at.left) (p - 1) in
    let ne = place joined.ne (p - (columns - 1)) in
    let se = place joined.se (p + (columns + 1)) in
    let sw = place joined.sw (p + (columns - 1)) in
    let nw = place joined.nw (p - (columns + 1)) in
    to_front f o p (n ∷ ne ∷ []) e (se ∷ s ∷ sw ∷ w ∷ nw ∷ [])
    ∙ to_front f o (step f p e) (n ∷ ne ∷ se ∷ s ∷ sw ∷ []) w (nw ∷ [])
    ∙ to_front f o (step f (step f (step f p e) w) n) (ne ∷ se ∷ []) s (sw ∷ nw ∷ [])
    ∙ scan-joins f o p (row_places p at ++ column_places columns p at) (corner_places columns p joined)
    ∙ ap (λ (z : ℕ). lower_of f z (scan f p (corner_places columns p joined))) (scan-joins f o p (row_places p at) (column_places columns p at))

-- products that tell the same where an edge has another length: where nothing falls along it
unfoldable pub SameLength : ℕ → ℕ → ℕ → Type 0
SameLength f l m = (l ≡ m) ⊎ ((f ≡ 0) × (0 < l) × (0 < m))

pub weighed : (f g l m l' m' : ℕ) → SameLength f l l' → SameLength g m m' → ltb (f * m) (g * l) ≡ ltb (f * m') (g * l')
unfolding SameLength
weighed f g l m l' m' (inl a) (inl b) = rw (a, b)
weighed f g l m l' m' (inl a) (inr b) = rw (b.0, le-ltb (f * m) (0 * l) (omega arith), le-ltb (f * m') (0 * l') (omega arith))
weighed f g l m l' m' (inr a) (inl b) =
    rw a.0
    (either (ltb 0 g)
    (λ e. let h = ltb-true 0 g e in lt-ltb (0 * m) (g * l) (omega (arith, mul-pos h a.1)) ∙ sym (lt-ltb (0 * m') (g * l') (omega (arith, mul-pos h a.2))))
    (λ e. let h : g ≡ 0 = omega (arith, ltb-false 0 g e) in rw (h, le-ltb (0 * m) (0 * l) (omega arith), le-ltb (0 * m') (0 * l') (omega arith))))
weighed f g l m l' m' (inr a) (inr b) = rw (a.0, b.0, le-ltb (0 * m) (0 * l) (omega arith), le-ltb (0 * m') (0 * l') (omega arith))

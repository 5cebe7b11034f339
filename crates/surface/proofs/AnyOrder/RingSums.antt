-- A sum over the members of a post's ring that follow each other, taken as a circle, by the post's quarters and its border edges.
use Prim.Native.Nat.{ℕ, ◌+◌, ◌-◌}
use native.Mathlib.Omega.{arith}
use mathlib.Core.Path.{◌≡◌, refl, sym, ◌∙◌}
use mathlib.Core.Bool.{Bool, true, false, cond, not, ◌&&◌, ◌||◌, true≢false}
use mathlib.Core.List.{List, []}
use Rattle.surface.specs.Plot.{virtual_pit, Sides}
use Rattle.surface.specs.Edges.{top, bottom, left, right, ring}
use Rattle.surface.proofs.General.Circles.{sum_from, round, round-from}
use Rattle.surface.proofs.AnyOrder.Grid.{top-bottom, left-right}
use Rattle.surface.proofs.AnyOrder.RingLegs.{leg, ring-legs}

-- the number where the test holds, else 0
abbrev pub when : Bool → ℕ → ℕ
when b k = cond b k 0

-- from x to z, over the corner y where the diagonal runs to the post
abbrev pub quarter : (ℕ → ℕ → ℕ) → Bool → ℕ → ℕ → ℕ → ℕ
quarter t d x y z = cond d (t x y + t y z) (t x z)

-- what a post counts: its quarters with a cell, and the steps to the virtual pit from its neighbours along a border
module _ (rows columns : ℕ) (falls : ℕ → Bool) (t : ℕ → ℕ → ℕ) (p : ℕ) where
  abbrev pub to_ne : ℕ
  to_ne = when (not (top columns p) && not (right columns p)) (quarter t (not (falls (p - columns))) (p - columns) (p - columns + 1) (p + 1))

  abbrev pub to_se : ℕ
  to_se = when (not (right columns p) && not (bottom rows columns p)) (quarter t (falls p) (p + 1) (p + columns + 1) (p + columns))

  abbrev pub to_sw : ℕ
  to_sw = when (not (bottom rows columns p) && not (left columns p)) (quarter t (not (falls (p - 1))) (p + columns) (p + columns - 1) (p - 1))

  abbrev pub to_nw : ℕ
  to_nw = when (not (left columns p) && not (top columns p)) (quarter t (falls (p - columns - 1)) (p - 1) (p - columns - 1) (p - columns))

  abbrev pub to_e : ℕ
  to_e = when (not (right columns p) && (top columns p || bottom rows columns p)) (t (p + 1) virtual_pit)

  abbrev pub to_w : ℕ
  to_w = when (not (left columns p) && (top columns p || bottom rows columns p)) (t (p - 1) virtual_pit)

  abbrev pub to_s : ℕ
  to_s = when (not (bottom rows columns p) && (left columns p || right columns p)) (t (p + columns) virtual_pit)

  abbrev pub to_n : ℕ
  to_n = when (not (top columns p) && (left columns p || right columns p)) (t (p - columns) virtual_pit)

-- a neighbour along one of two borders that face each other
either-border : (c a b : Bool) (k : ℕ) → (a ≡ true → b ≡ false) → when (not c && (a || b)) k ≡ when (not c && a) k + when (not c && b) k
either-border true a b k h = refl
either-border false true true k h = absurd (true≢false (h refl))
either-border false true false k h = omega arith
either-border false false b k h = omega arith

module _ (t : ℕ → ℕ → ℕ) (turned : (q r : ℕ) → t q r ≡ t r q) where
  leg-sum : (a b d : Bool) (x y z : ℕ) (l : List ℕ) {k : ℕ} → sum_from t (cond b virtual_pit z) l ≡ k
      → sum_from t (cond a virtual_pit x) (leg a b d y z l)
      ≡ when (not a && not b) (quarter t d x y z) + when (not b && a) (t z virtual_pit) + when (not a && b) (t x virtual_pit) + k
  unfolding sum_from
  leg-sum true true d x y z l h = omega arith
  leg-sum true false d x y z l h = omega (arith, turned virtual_pit z)
  leg-sum false true d x y z l h = omega arith
  leg-sum false false true x y z l h = omega arith
  leg-sum false false false x y z l h = omega arith

  module _ {rows columns : ℕ} (s : Sides rows columns) (falls : ℕ → Bool) (p : ℕ) where
    abbrev at : (ℕ → ℕ → (ℕ → Bool) → (ℕ → ℕ → ℕ) → ℕ → ℕ) → ℕ
    at term = term rows columns falls t p

    pub ring-sum : round t (ring rows columns falls p) ≡ at to_ne + at to_se + at to_sw + at to_nw + (at to_e + at to_w) + (at to_s + at to_n)
    unfolding sum_from
    ring-sum =
        sym (round-from t _ (ring rows columns falls p) _ (ring-legs s falls p))
        ∙ leg-sum (top columns p) (right columns p) (not (falls (p - columns))) (p - columns) (p - columns + 1) (p + 1) _
        (leg-sum (right columns p) (bottom rows columns p) (falls p) (p + 1) (p + columns + 1) (p + columns) _
        (leg-sum (bottom rows columns p) (left columns p) (not (falls (p - 1))) (p + columns) (p + columns - 1) (p - 1) _
        (leg-sum (left columns p) (top columns p) (falls (p - columns - 1)) (p - 1) (p - columns - 1) (p - columns) [] refl)))
        ∙ omega (
          arith,
          either-border (right columns p) (top columns p) (bottom rows columns p) (t (p + 1) virtual_pit) (top-bottom s p),
          either-border (left columns p) (top columns p) (bottom rows columns p) (t (p - 1) virtual_pit) (top-bottom s p),
          either-border (bottom rows columns p) (left columns p) (right columns p) (t (p + columns) virtual_pit) (left-right s p),
          either-border (top columns p) (left columns p) (right columns p) (t (p - columns) virtual_pit) (left-right s p),
        )

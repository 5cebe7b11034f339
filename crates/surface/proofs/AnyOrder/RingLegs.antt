-- The way round a post, in four legs: each goes from a neighbour beside the post to the next one beside it, over the corner between them where the cell's
-- diagonal runs to the post. Beyond a border the virtual pit stands for the neighbour beside the post, and a leg between two borders leads nowhere.
use Prim.Native.Nat.{ℕ, ◌+◌, ◌-◌}
use mathlib.Core.Path.{◌≡◌, refl, sym, ◌∙◌}
use mathlib.Core.Bool.{Bool, true, false, cond, not, ◌&&◌, ◌||◌, true≢false}
use mathlib.Core.List.{List, [], ◌∷◌, ◌++◌, append_assoc}
use Rattle.surface.specs.Lists.{keep}
use Rattle.surface.specs.Plot.{virtual_pit, Sides}
use Rattle.surface.specs.Edges.{Place, place, members, top, bottom, left, right, places, ring}
use Rattle.surface.proofs.AnyOrder.Grid.{top-bottom, left-right}

-- A leg, and what comes after it. a b: whether it starts and whether it ends beyond a border; d: whether the diagonal runs to the post; y: the corner; z: the
-- neighbour where it ends.
abbrev pub leg : Bool → Bool → Bool → ℕ → ℕ → List ℕ → List ℕ
leg a b d y z l = cond (not (a && b)) (keep (not a && (not b && d)) y ++ cond b virtual_pit z ∷ l) l

members-last : (l : List Place) (x : ℕ) → members (l ++ place true x ∷ []) ≡ members l ++ x ∷ []
unfolding members
members-last [] x = refl
members-last (y ∷ l) x = rw (members-last l x) (sym (append_assoc (keep y.taken y.member) (members l) (x ∷ [])))

module _ (ne se sw nw : Bool) (N NE E SE S SW W NW : ℕ) where
  four : (t b l r : Bool) → (t ≡ true → b ≡ false) → (l ≡ true → r ≡ false)
      → members
      (place true (cond t virtual_pit N) ∷ place (not t && (not r && ne)) NE ∷ place (not (r && t)) (cond r virtual_pit E)
      ∷ place (not r && (not b && se)) SE
      ∷ place (not (b && (t || r))) (cond b virtual_pit S)
      ∷ place (not b && (not l && sw)) SW
      ∷ place (not (l && (t || (r || b)))) (cond l virtual_pit W)
      ∷ place (not l && (not t && nw)) NW
      ∷ place true (cond t virtual_pit N)
      ∷ [])
      ≡ cond t virtual_pit N ∷ leg t r ne NE E (leg r b se SE S (leg b l sw SW W (leg l t nw NW N [])))
  unfolding members
  four true true l r h k = absurd (true≢false (h refl))
  four true false true true h k = absurd (true≢false (k refl))
  four true false true false h k = refl
  four true false false true h k = refl
  four true false false false h k = refl
  four false true true true h k = absurd (true≢false (k refl))
  four false true true false h k = refl
  four false true false true h k = refl
  four false true false false h k = refl
  four false false true true h k = absurd (true≢false (k refl))
  four false false true false h k = refl
  four false false false true h k = refl
  four false false false false h k = refl

module _ {rows columns : ℕ} (s : Sides rows columns) (falls : ℕ → Bool) (p : ℕ) where
  -- once round the ring, back to its first member
  pub ring-legs : let first = cond (top columns p) virtual_pit (p - columns) in
      ring rows columns falls p ++ first ∷ []
      ≡ first
      ∷ leg (top columns p) (right columns p) (not (falls (p - columns))) (p - columns + 1) (p + 1)
      (leg (right columns p) (bottom rows columns p) (falls p) (p + columns + 1) (p + columns)
      (leg (bottom rows columns p) (left columns p) (not (falls (p - 1))) (p + columns - 1) (p - 1)
      (leg (left columns p) (top columns p) (falls (p - columns - 1)) (p - columns - 1) (p - columns) [])))
  unfolding ring places
  ring-legs =
      sym (members-last (places rows columns falls p) _)
      ∙ four _ _ _ _ _ _ _ _ _ _ _ _ (top columns p) (bottom rows columns p) (left columns p) (right columns p) (top-bottom s p) (left-right s p)

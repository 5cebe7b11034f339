-- The ring of a post, put together place by place, is the one that is defined.
use Prim.Native.Nat.{ℕ, ◌+◌, ◌-◌, ◌<◌, ◌≤◌}
use mathlib.Core.Path.{◌≡◌, refl, sym, ap, ◌∙◌}
use mathlib.Core.Bool.{Bool, true, false, cond, not, ◌&&◌, ◌||◌}
use mathlib.Core.List.{List, [], ◌∷◌, ◌++◌, append-nil, append_assoc}
use native.Mathlib.Nat.{add-zero}
use native.Mathlib.Numerals.{add-one}
use native.Mathlib.Omega.{arith}
use lib.ListN.{length, get_or, take, set, length-set}
use lib.Seq.{take-suc-set, take-set-le, length-take-le}
use mir.Val.{bool_byte}
use Rattle.surface.specs.Lists.{keep}
use Rattle.surface.specs.Plot.{Plot, posts, virtual_pit, Vertex, Sides, PostOf}
use Rattle.surface.specs.Edges.{Place, place, members, falls_in, places, ring, ring_of, top, bottom, left, right}
use Rattle.rings.specs.declared.ring.Ring.{Ring}
use Rattle.rings.specs.Corners.{borders_of, corners_of}
use Rattle.rings.specs.Rings.{held, Open, Grown, Holds, ring_places}
use Rattle.surface.proofs.General.Bools.{flag}
use Rattle.surface.proofs.AnyOrder.Grid.{top-false}
use Rattle.surface.proofs.General.ListOf.{get_or-member}
use Rattle.surface.proofs.AnyOrder.RingPlaces.{diagonal}
use Rattle.surface.proofs.AnyOrder.RingEdges.{ring-member}

-- one member more
grown-list : (l : List ℕ) (n : ℕ) (there : Bool) (m : ℕ) → n < length l → take (n + bool_byte there) (set l n m) ≡ take n l ++ keep there m
grown-list l n true m h = rw add-one (take-suc-set l n m h)
grown-list l n false m h = rw (add-zero, take-set-le n l n m (omega arith), append-nil)

pub grown : (r : Ring) (there : Bool) (m : ℕ) → Open r → Grown r there m (record { members = set r.members r.len m; len = r.len + bool_byte there })
grown r there m o =
    record {
      members = grown-list r.members r.len there m (omega (arith, o));
      more = omega (arith, (flag there).1);
      size = length-set r.members r.len m ∙ o.size;
    }

-- the members of what grew by one place and then by others
pub grows : {r s : Ring} {there : Bool} {m : ℕ} (l : List Place) (z : List ℕ) → Grown r there m s → z ≡ held s ++ members l → z ≡ held r ++ members (place there m ∷ l)
unfolding members
grows {r} {s} {there} {m} l z g e = e ∙ rw g.members (append_assoc (held r) (keep there m) (members l))

pub grows_end : (s : Ring) → held s ≡ held s ++ members []
unfolding members
grows_end s = sym (append-nil (held s))

pub holds-whole : (r : Ring) (l : List ℕ) → r.len ≤ 8 → length r.members ≡ 8 → held r ≡ l → Holds r l
holds-whole r l h k e = record { members = e; len = sym (length-take-le r.len r.members (omega arith)) ∙ ap length e; low = h; size = k }

-- places that hold the same
members-same : (x y : Place) (l m : List Place) → keep x.taken x.member ≡ keep y.taken y.member → members l ≡ members m → members (x ∷ l) ≡ members (y ∷ m)
unfolding members
members-same x y l m h k = rw (h, k)

side : (taken b : Bool) {x y : ℕ} → x ≡ y → keep taken (cond (not b) x virtual_pit) ≡ keep taken (cond b virtual_pit y)
side taken true h = refl
side taken false h = rw h

corner : (b : Bool) {x y : ℕ} → (b ≡ true → x ≡ y) → keep b (cond b x virtual_pit) ≡ keep b y
corner true h = rw (h refl)
corner false h = refl

module _ {rows columns : ℕ} (s : Sides rows columns) (p : ℕ) (falls : ℕ → Bool) where
  pub ring-is : members (ring_places columns p (borders_of rows columns p) (corners_of rows columns falls p)) ≡ ring rows columns falls p
  unfolding ring_places ring places
  ring-is =
      let t = top columns p in
      let b = bottom rows columns p in
      let l = left columns p in
      let r = right columns p in
      let joined = corners_of rows columns falls p in
      members-same _ _ _ _ (side true t (omega arith))
      (members-same _ _ _ _ (corner joined.ne (λ k. omega (arith, (top-false s p).0 (diagonal t r (not (falls (p - columns))) k).0)))
      (members-same _ _ _ _ (side (not (r && t)) r (omega arith))
      (members-same _ _ _ _ (corner joined.se (λ k. omega arith))
      (members-same _ _ _ _ (side (not (b && (t || r))) b (omega arith))
      (members-same _ _ _ _ (corner joined.sw (λ k. omega arith))
      (members-same _ _ _ _ (side (not (l && (t || (r || b)))) l (omega arith))
      (members-same _ _ _ _ (corner joined.nw (λ k. omega arith)) refl)))))))

-- the members of a ring are vertices of the plot
pub held-vertex : {pl : Plot} {p : ℕ} {r : Ring} → PostOf pl p → Holds r (ring_of pl p) → (i : ℕ) → i < r.len → Vertex (posts pl) (get_or (held r) i 0)
unfolding ring_of
held-vertex {pl} {p} post h i k =
    rw h.members (ring-member post.valid.sides (falls_in pl) p _ post.post (get_or-member (ring_of pl p) i 0 (omega (arith, h.len))))

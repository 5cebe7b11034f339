-- The starts of the upper runs of every post are such as splits by saddles ask for.
use Prim.Native.Nat.{ℕ, ◌*◌, ◌<◌}
use mathlib.Core.Path.{◌≡◌, refl, sym, ◌∙◌, ap}
use mathlib.Core.Bool.{Bool, true, false, not}
use mathlib.Core.List.{List, [], ◌∷◌, Memᴰ}
use Rattle.surface.specs.Lists.{last_or}
use Rattle.surface.specs.Plot.{Vertex, reversed}
use Rattle.surface.specs.Edges.{Edge, ring}
use Rattle.surface.specs.Ways.{Way}
use Rattle.surface.proofs.AnyOrder.Order.{rank_falls, reversed-strict}
use Rattle.surface.proofs.AnyOrder.RingEdges.{edge-sym, ring-edge, ring-member, ring-other}
use Rattle.surface.proofs.AnyOrder.RingTouch.{Chain, ring-touch}
use Rattle.surface.proofs.AnyOrder.Network.{Network}
use Rattle.surface.proofs.AnyOrder.Names.{Before}
use Rattle.surface.proofs.AnyOrder.RunStarts.{starts_of, starts-member, ring-led}
use Rattle.surface.proofs.AnyOrder.Climbs.{rise, Starting}

module _ {rows columns : ℕ} {lower : ℕ → ℕ → Bool} {falls : ℕ → Bool} {pick_down pick_up : ℕ → List ℕ → ℕ} (net : Network rows columns lower falls pick_down pick_up) where
  abbrev n : ℕ
  n = rows * columns

  abbrev pub upper_starts_at : ℕ → List ℕ
  upper_starts_at p = starts_of (λ q. lower q p) (ring rows columns falls p)

  -- a member of the ring that is not below is above
  above : (p q : ℕ) → p < n → Memᴰ q (ring rows columns falls p) → lower q p ≡ false → lower p q ≡ true
  above p q h m e = net.order.other q p (ring-other net.sides falls p q h m) ∙ ap not e

  not-above : (p q : ℕ) → p < n → Memᴰ q (ring rows columns falls p) → lower p q ≡ true → lower q p ≡ false
  not-above p q h m e = net.order.other p q (λ i. ring-other net.sides falls p q h m (sym i)) ∙ ap not e

  pub upper-starting : Starting net upper_starts_at
  unfolding last_or
  upper-starting =
      record {
        above = λ p m h i. let k = starts-member (λ q. lower q p) (ring rows columns falls p) m i in ((ring-edge net.sides falls p m h).0 k.0, above p m h k.0 k.1);
        led = λ p q h e b. let m = (ring-edge net.sides falls p q h).1 e in circle p h (ring rows columns falls p) refl (ring-touch net.sides falls p h) q m (not-above p q h m b);
      }
    where
      circle : (p : ℕ) → p < n → (l : List ℕ) → ring rows columns falls p ≡ l → Chain (Edge rows columns falls) (last_or p l) l → (q : ℕ) → Memᴰ q l → lower q p ≡ false
          → (m : ℕ) × (Memᴰ m (starts_of (λ q. lower q p) l) × Way (Edge rows columns falls) (Before (Vertex n) (rise net) (rise net p)) q m)
      circle p h [] e c q m i = absurd (mathlib.Core.List.Memᴰ.not-nil m)
      circle p h (x ∷ l) e c q m i =
          ring-led (λ q. lower q p) (Edge rows columns falls) (λ _ _. edge-sym) (Before (Vertex n) (rise net) (rise net p)) x l c
          (λ v k j.
          let r : Memᴰ v (ring rows columns falls p) = rw e k in
          let w = ring-member net.sides falls p v h r in
          (w, rank_falls (reversed lower) (reversed-strict net.order) n v p w (above p v h r j)))
          q m i

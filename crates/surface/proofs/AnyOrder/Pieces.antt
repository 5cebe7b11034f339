-- One piece: what ends at one vertex is in one piece along edges, over any descent whose steps go along edges. Downward these are dales, upward hills.
use Prim.Native.Nat.{ℕ, zero, suc, ◌≤◌, ◌<◌}
use native.Mathlib.Omega.{arith}
use mathlib.Core.Path.{◌≡◌, sym, ◌∙◌, subst}
use mathlib.Core.Bool.{true, false}
use mathlib.Core.List.{Memᴰ}
use Rattle.surface.specs.Plot.{Vertex}
use Rattle.surface.specs.Lines.{Descent, is_end, next, end}
use Rattle.surface.specs.Ways.{Way, here, step, OnePiece}
use Rattle.surface.proofs.General.Bools.{either}
use Rattle.surface.proofs.AnyOrder.Ways.{way-join, way_back}
use Rattle.surface.proofs.AnyOrder.Order.{rank}
use Rattle.surface.proofs.AnyOrder.Walks.{Falling, next-step, end-stop, end-next}

module _ {n : ℕ} {d : Descent} (law : Falling n d)
    (edge : ℕ → ℕ → Type 0)
    (back : (p q : ℕ) → edge p q → edge q p)
    (along : (p q : ℕ) → p < n → Memᴰ q (d.ring p) → edge p q)
    -- which vertices count as members: all of them downward, the posts alone upward
    (inside : ℕ → Type 0)
    (vertex : (p : ℕ) → inside p → Vertex n p)
    (inside-next : (p : ℕ) → inside p → is_end d p ≡ false → inside (next d p))
  where
    abbrev Part : ℕ → ℕ → Type 0
    Part w p = inside p × (end d n p ≡ w)

    at-end : (w p : ℕ) → Part w p → is_end d p ≡ true → Way edge (Part w) p w
    at-end w p i e = subst (λ (x : ℕ). Way edge (Part w) p x) (sym (end-stop law n p e) ∙ i.1) (here i)

    way-to-end : (m w p : ℕ) → Part w p → rank d.lower n p ≤ m → Way edge (Part w) p w
    way-to-end zero w p i h =
        either (is_end d p) (at-end w p i) (λ e. absurd (omega (arith, (next-step law p (vertex p i.0) e).sinks)))
    way-to-end (suc m) w p i h = either (is_end d p) (at-end w p i) (λ e. go e (way-to-end m w (next d p)))
      where
        go : is_end d p ≡ false
            → (Part w (next d p) → rank d.lower n (next d p) ≤ m → Way edge (Part w) (next d p) w)
            → Way edge (Part w) p w
        go e ih =
            let v = vertex p i.0 in
            let k = next-step law p v e in
            step i (along p (next d p) k.post k.member)
            (ih (inside-next p i.0 e, end-next law p v ∙ i.1) (omega (arith, k.sinks)))

    -- all that ends at w is in one piece
    pub one_piece : (w : ℕ) → OnePiece edge (Part w)
    one_piece w p q i j =
        way-join (way-to-end (rank d.lower n p) w p i (omega arith)) (way_back back (way-to-end (rank d.lower n q) w q j (omega arith)))

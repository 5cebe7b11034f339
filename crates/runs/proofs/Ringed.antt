-- A saddle and its ring: its members are vertices, not all of them below it and not all above; where its lines go to.
use Prim.Native.Nat.{ℕ, ◌+◌, ◌-◌, ◌≤◌, ◌<◌}
use native.Mathlib.Omega.{arith}
use mathlib.Core.Path.{◌≡◌, refl, sym, ◌∙◌, ap}
use mathlib.Core.Bool.{Bool, true, false, cond, true≢false}
use mathlib.Core.List.{List, [], ◌∷◌, ◌++◌, Memᴰ}
use borrow.Author.Tests.{ltb-true, ltb-false, leb-true, not-true}
use lib.Dec.{ltb}
use lib.ListN.{length, get_or, length-append}
use Rattle.surface.specs.Lists.{any, all}
use Rattle.surface.specs.Plot.{Plot, posts, Vertex, below, directed}
use Rattle.surface.specs.Edges.{falls_in, ring_of}
use Rattle.surface.specs.Marks.{mark_for, mark, mark_at}
use Rattle.surface.specs.Lines.{Descent, runs_of, line_start}
use Rattle.surface.proofs.General.Bools.{either}
use Rattle.surface.proofs.AnyOrder.Order.{directed-strict}
use Rattle.surface.proofs.AnyOrder.RingEdges.{ring-other}
use Rattle.surface.proofs.AnyOrder.RunMembers.{runs-run}
use Rattle.surface.proofs.AnyOrder.Signs.{any-above}
use Rattle.surface.proofs.AnyOrder.Walks.{Falling}
use Rattle.surface.proofs.OfPlots.HeightOrder.{below-strict}
use Rattle.rings.specs.declared.ring.Ring.{Ring}
use Rattle.rings.specs.Rings.{held}
use Rattle.rings.proofs.Rings.{held-vertex}
use Rattle.runs.specs.Runs.{Saddle}
use Rattle.runs.proofs.Running.{get_or-front, get_or-back}

-- a saddle has neighbours below and above
saddle-both : (a b : Bool) (k : ℕ) → 3 ≤ mark_for a b k → (a ≡ true) × (b ≡ true)
unfolding mark_for
saddle-both true true k h = (refl, refl)
saddle-both true false k h = absurd (omega arith)
saddle-both false b k h = absurd (omega arith)

all-some : (s : ℕ → Bool) (l : List ℕ) → all s l ≡ false → 0 < length l
unfolding all
all-some s [] h = absurd (true≢false h)
all-some s (x ∷ l) h = omega arith

pub chosen-vertex : (b : Bool) {n x y : ℕ} → Vertex n x → Vertex n y → Vertex n (cond b y x)
chosen-vertex true v w = w
chosen-vertex false v w = v

module _ {pl : Plot} {p : ℕ} {r : Ring} (z : Saddle pl p r) where
  pub long : length (held r) ≡ r.len
  long = ap length z.holds.members ∙ sym z.holds.len

  module _ (up : Bool) where
    above : any (λ q. directed up (below pl) p q) (ring_of pl p) ≡ true
    unfolding mark_at mark
    above = go up
      where
        both : (any (λ q. below pl p q) (ring_of pl p) ≡ true) × (any (λ q. below pl q p) (ring_of pl p) ≡ true)
        both = saddle-both _ _ _ (leb-true 3 _ z.saddle)

        go : (up : Bool) → any (λ q. directed up (below pl) p q) (ring_of pl p) ≡ true
        go true = both.1
        go false = both.0

    pub mixed : all (λ q. directed up (below pl) q p) (held r) ≡ false
    unfolding ring_of
    mixed =
        rw z.holds.members
        (not-true _ (sym (any-above (directed up (below pl)) (directed-strict up (below-strict pl)) p (ring_of pl p) others) ∙ above))
      where
        others : (q : ℕ) → Memᴰ q (ring_of pl p) → q ≡ p → ⊥
        others q = ring-other z.post.valid.sides (falls_in pl) p q z.post.post

  pub some : 0 < r.len
  some = omega (arith, long, all-some _ (held r) (mixed true))

  member-vertex : (i : ℕ) → i < r.len → Vertex (posts pl) (get_or (held r) i 0)
  member-vertex = held-vertex z.post z.holds

  -- the ring gone round twice
  pub twice-long : length (held r ++ held r) ≡ r.len + r.len
  twice-long = rw (length-append, long)

  pub twice-vertex : (j : ℕ) → j < r.len + r.len → Vertex (posts pl) (get_or (held r ++ held r) j 0)
  twice-vertex j h =
      either (ltb j r.len)
      (λ e. let k = ltb-true j r.len e in rw (get_or-front (held r) (held r) j (omega (arith, long))) (member-vertex j k))
      (λ e.
      let k = ltb-false j r.len e in
      rw (get_or-back (held r) (held r) j (omega (arith, long))) (member-vertex (j - length (held r)) (omega (arith, long))))

-- where the line of a run goes to is a vertex
pub start-vertex : {n : ℕ} {d : Descent} → Falling n d → {post run q : ℕ} → post < n → run < length (runs_of d post) → q ≡ line_start d post run → Vertex n q
start-vertex {d = d} law {post} {run} h has goes =
    let r = runs-run (λ q. d.lower q post) (d.ring post) run has in
    rw goes (law.ring_vertex post _ h (r.member _ (law.picks_member post r.some _ r.there)).0)

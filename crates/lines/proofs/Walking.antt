-- A walk of a plot, a step at a time.
use Prim.Native.Nat.{ℕ, zero, suc, ◌+◌, ◌≤◌, ◌<◌}
use native.Mathlib.Omega.{arith}
use mathlib.Core.Path.{◌≡◌, refl, sym, ◌∙◌, ap}
use mathlib.Core.Bool.{Bool, true, false, cond, true≢false}
use mathlib.Core.List.{List, [], ◌∷◌}
use lib.ListN.{length}
use lib.Seq.{sets, length-sets}
use Rattle.surface.specs.Plot.{Plot, posts, max_posts, virtual_pit}
use Rattle.surface.specs.Lines.{Descent, is_end, next, walk, runs_of, line_start, line, toward}
use Rattle.surface.proofs.General.Bools.{either}
use Rattle.surface.proofs.AnyOrder.Order.{rank}
use Rattle.surface.proofs.AnyOrder.Walks.{Falling, next-vertex, next-step, next-stop, pit-stop, walk-next, line-falls}
use Rattle.surface.proofs.OfPlots.Instance.{toward-falling}
use Rattle.surface.specs.declared.Spacings.{Spacings}
use Rattle.lines.specs.declared.walk.Walk.{Walk}
use Rattle.lines.specs.Walks.{WalkOf, path}

-- a walk has at most one entry more than it may take steps
walk-low : (d : Descent) (m p : ℕ) → length (walk d m p) ≤ m + 1
unfolding walk
walk-low d zero p = omega arith
walk-low d (suc m) p = go (is_end d p) (walk-low d m (next d p))
  where
    go : (b : Bool) → length (walk d m (next d p)) ≤ m + 1 → length (p ∷ cond b [] (walk d m (next d p))) ≤ suc m + 1
    go true h = omega arith
    go false h = omega arith

-- lists that are alike after stores are of one length
pub sets-length : (l m : List ℕ) (i j : ℕ) (v w : List ℕ) → sets l i v ≡ sets m j w → length l ≡ length m
sets-length l m i j v w e = sym (length-sets l i v) ∙ ap length e ∙ length-sets m j w

module _ {pl : Plot} {s : Spacings} {at : Walk} (w : WalkOf pl s at) where
  abbrev d : Descent
  d = toward pl s at.up

  abbrev onward : Walk
  onward = record { post = next d at.post; up = at.up }

  law : Falling (posts pl) d
  law = toward-falling pl w.valid.sides s at.up

  -- it stays exactly at an end, and the virtual pit is one
  stays : next d at.post ≡ at.post → is_end d at.post ≡ true
  stays h =
      either (is_end d at.post) (λ e. e)
      (λ e.
      let falls = (next-step law at.post w.vertex e).falls in
      absurd (true≢false (sym falls ∙ ap (λ (q : ℕ). d.lower q at.post) h ∙ law.order.irrefl at.post)))

  moves : (next d at.post ≡ at.post → ⊥) → is_end d at.post ≡ false
  moves h = either (is_end d at.post) (λ e. absurd (h (next-stop law at.post e))) (λ e. e)

  pub pit-stays : at.post ≡ virtual_pit → next d at.post ≡ at.post
  pit-stays e = next-stop law at.post (ap (is_end d) e ∙ pit-stop law)

  pub onward-of : WalkOf pl s onward
  onward-of = record { valid = w.valid; spaced = w.spaced; vertex = next-vertex law at.post w.vertex }

  pub path-low : length (path pl s at) ≤ max_posts + 1
  path-low = omega (arith, walk-low d (posts pl) at.post, w.valid.sides)

  pub path-some : 1 ≤ length (path pl s at)
  path-some = rw (walk-next law at.post w.vertex) (omega arith)

  pub path-end : next d at.post ≡ at.post → path pl s at ≡ at.post ∷ []
  path-end h = rw (walk-next law at.post w.vertex, stays h)

  module _ (h : next d at.post ≡ at.post → ⊥) where
    pub path-more : path pl s at ≡ at.post ∷ path pl s onward
    path-more = walk-next law at.post w.vertex ∙ rw (moves h)

    pub sinks : rank d.lower (posts pl) onward.post < rank d.lower (posts pl) at.post
    sinks = (next-step law at.post w.vertex (moves h)).sinks

-- a walk that has come from one post to another, and counted those it went by and the one at which it stands
pub record Along (pl : Plot) (s : Spacings) (from at : Walk) (entries : ℕ) : Type 0 where
  pub stands : WalkOf pl s at
  pub counted : entries + length (path pl s at) ≡ 1 + length (path pl s from)

module _ {pl : Plot} {s : Spacings} {from : Walk} where
  pub along-none : WalkOf pl s from → Along pl s from from 1
  along-none w = record { stands = w; counted = refl }

  module _ {at : Walk} {entries : ℕ} (a : Along pl s from at entries) where
    pub along-low : WalkOf pl s from → (entries ≤ length (path pl s from)) × (entries ≤ max_posts + 1)
    along-low w = omega (arith, a.counted, path-some a.stands, path-low w)

    pub along-more : (next (toward pl s at.up) at.post ≡ at.post → ⊥)
        → Along pl s from (record { post = next (toward pl s at.up) at.post; up = at.up }) (entries + 1)
    along-more h = record { stands = onward-of a.stands; counted = omega (arith, a.counted, ap length (path-more a.stands h)) }

    pub along-end : next (toward pl s at.up) at.post ≡ at.post → entries ≡ length (path pl s from)
    along-end h = omega (arith, a.counted, ap length (path-end a.stands h))

-- the walk from where the line of a run goes to has at most as many entries as there are posts
module _ {n : ℕ} {d : Descent} (law : Falling n d) {post run q : ℕ} (h : post < n) (has : run < length (runs_of d post))
    (goes : q ≡ line_start d post run) where
  pub start-short : length (walk d n q) ≤ n
  unfolding line
  start-short = let f = line-falls law post run h has in rw goes (omega (arith, f.2.bound, ap length f.1))

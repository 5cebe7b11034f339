-- One new height leaves every mark outside the posts that touch it, so redrawing those gives the marks of a fresh survey.
use Prim.Native.Nat.{ℕ, ◌<◌}
use mathlib.Core.Path.{◌≡◌, refl, sym, ap, ◌∙◌}
use mathlib.Core.Bool.{false, cond, true≢false}
use mathlib.Core.List.{List}
use mathlib.Core.Logic.{◌≢◌}
use lib.Dec.{eqb}
use lib.IntN.{ℤ, pos}
use lib.ListN.{get_or}
use lib.Seq.{get_or-set_other}
use borrow.Author.Tests.{eqb-false}
use Rattle.surface.specs.Lists.{list_of}
use Rattle.surface.specs.Plot.{Plot, posts, over, reshot, height, virtual_pit, below, directed, Sides}
use Rattle.surface.specs.Edges.{ring_of}
use Rattle.surface.specs.Marks.{mark_at, marks_of, touches, redrawn}
use Rattle.surface.proofs.General.Bools.{either}
use Rattle.surface.proofs.General.ListOf.{length-list_of, get_or-list_of, list_of-ext}
use Rattle.surface.proofs.AnyOrder.Offsets.{touches-sym}
use Rattle.surface.proofs.AnyOrder.Locality.{Touching, a_post, the_pit, AgreeRound, directed-agree, diagonal-local, mark-local}

-- the height order reads the heights of the two posts, the virtual pit having none, and their places
below-agree : (pl pl' : Plot) (u v : ℕ) → pl.columns ≡ pl'.columns → (eqb u virtual_pit ≡ false → height pl u ≡ height pl' u) → (eqb v virtual_pit ≡ false → height pl v ≡ height pl' v)
    → below pl u v ≡ below pl' u v
unfolding below
below-agree pl pl' u v c hu hv =
    either (eqb v virtual_pit) (λ ev. cc)
    (λ ev. either (eqb u virtual_pit) (λ eu. cc) (λ eu. cc (c, hu eu, hv ev)))

-- heights that agree at every post other than z
module _ (pl : Plot) (s : Sides pl.rows pl.columns) (z : ℕ) (hs' : List ℤ) (same : (q : ℕ) → q ≢ z → height pl q ≡ height (over pl hs') q) (p : ℕ) (h : p < posts pl) (apart : touches pl.columns z p ≡ false) where
  touching-height : (u : ℕ) → Touching pl.rows pl.columns p u → eqb u virtual_pit ≡ false → height pl u ≡ height (over pl hs') u
  touching-height u (a_post k t) e = same u (λ w. true≢false (sym t ∙ ap (touches pl.columns p) w ∙ touches-sym pl.columns p z ∙ apart))
  touching-height u (the_pit w) e = absurd (eqb-false u virtual_pit e w)

  below-local : AgreeRound pl.rows pl.columns (below pl) (below (over pl hs')) p
  below-local u v bu bv = below-agree pl (over pl hs') u v refl (touching-height u bu) (touching-height v bv)

  mark_at-local : mark_at pl p ≡ mark_at (over pl hs') p
  unfolding mark_at ring_of
  mark_at-local =
      mark-local s (below pl) (below (over pl hs')) _ _ p h below-local
      (diagonal-local s (directed pl.highest (below pl)) (directed pl.highest (below (over pl hs'))) p (directed-agree pl.highest below-local))

-- a new height at z
pub mark_at-set : (pl : Plot) (s : Sides pl.rows pl.columns) (z : ℕ) (new : ℤ) (p : ℕ) → p < posts pl → touches pl.columns z p ≡ false
    → mark_at (reshot pl z new) p ≡ mark_at pl p
mark_at-set pl s z new p h apart = mark_at-local (reshot pl z new) s z pl.heights (λ q w. get_or-set_other pl.heights z q new (pos 0) w) p h apart

-- redrawing the marks of a survey round a post gives those of a fresh survey with the new height
pub redrawn-fresh : (pl : Plot) → Sides pl.rows pl.columns → (post : ℕ) (new : ℤ)
    → redrawn (reshot pl post new) (marks_of pl) post ≡ marks_of (reshot pl post new)
unfolding redrawn marks_of
redrawn-fresh pl s post new =
    ap (list_of _) (length-list_of (mark_at pl) (posts pl)) ∙ list_of-ext _ (mark_at (reshot pl post new)) (posts pl) same
  where
    same : (i : ℕ) → i < posts pl
        → cond (touches pl.columns post i) (mark_at (reshot pl post new) i) (get_or (list_of (mark_at pl) (posts pl)) i 0)
        ≡ mark_at (reshot pl post new) i
    same i h =
        either (touches pl.columns post i) (λ e. rw e)
        (λ e. rw e (get_or-list_of (mark_at pl) (posts pl) i 0 h ∙ sym (mark_at-set pl s post new i h e)))

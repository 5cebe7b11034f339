-- Each pattern tells the mark of its post.
use Prim.Native.Nat.{ℕ, ◌<◌}
use native.Mathlib.Omega.{arith}
use mathlib.Core.Path.{◌≡◌, sym, ◌∙◌, ap}
use mathlib.Core.List.{List}
use lib.ListN.{length, get_or}
use Rattle.surface.specs.Lists.{list_of, stores}
use Rattle.surface.specs.Plot.{Plot, posts, Valid}
use Rattle.surface.specs.Marks.{marks_of}
use Rattle.surface.specs.Patterns.{pattern_at, mark_in}
use Rattle.surface.proofs.General.ListOf.{get_or-list_of, length-list_of, list_of-ext}
use Rattle.surface.proofs.General.Stores.{stores-all}
use Rattle.surface.proofs.OfPlots.Patterns.{mark-in}
use Rattle.marks.proofs.mark_plot.Goals as goal

module _ {pl : Plot} (valid : Valid pl) {patterns : List ℕ} (e : patterns ≡ list_of (pattern_at pl) (posts pl)) where
  long : length patterns ≡ posts pl
  long = ap (λ (l : List ℕ). length l) e ∙ length-list_of (pattern_at pl) (posts pl)

  entry : (k : ℕ) → k < posts pl → get_or patterns k 0 ≡ pattern_at pl k
  entry k h = ap (λ (l : List ℕ). get_or l k 0) e ∙ get_or-list_of (pattern_at pl) (posts pl) k 0 h

  told : stores (λ k. mark_in (get_or patterns k 0)) 0 (length patterns) patterns ≡ marks_of pl
  unfolding marks_of
  told =
      rw long (stores-all (λ k. mark_in (get_or patterns k 0)) (posts pl) patterns 0 long)
      ∙ list_of-ext _ _ (posts pl) (λ k h. ap mark_in (entry k h) ∙ sym (mark-in (record { valid = valid; post = h })))

pub mark_all-requires : goal.mark_all-requires
mark_all-requires c =
    let e = c.pattern_plot.ensures in
    omega (arith, long c.requires.0 e, c.requires.0.sides)

pub returns : goal.returns
returns c = c.mark_all.ensures ∙ told c.requires.0 c.pattern_plot.ensures

pub pattern_plot-requires : goal.pattern_plot-requires
pattern_plot-requires c = c.requires

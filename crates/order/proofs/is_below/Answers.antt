-- The virtual pit is below every post, and no vertex is below it.
use Prim.Native.Nat.{ℕ}
use mathlib.Core.Path.{◌≡◌, sym, ◌∙◌, ap}
use mathlib.Core.Bool.{not}
use lib.Dec.{eqb}
use borrow.Author.Tests.{eqb-true, eqb-false}
use Rattle.surface.specs.Plot.{Plot, plot_of, below, virtual_pit}
use Rattle.surface.proofs.General.Bools.{either}
use Rattle.surface.proofs.OfPlots.HeightOrder.{pit-below, not-below-pit}
use Rattle.order.proofs.Level.{vertex-post}
use Rattle.order.proofs.is_below.Goals as goal

-- it is not below itself
pit-first : (pl : Plot) (q : ℕ) → below pl virtual_pit q ≡ not (eqb q virtual_pit)
pit-first pl q =
    either (eqb q virtual_pit)
    (λ e. rw e (ap (below pl virtual_pit) (eqb-true q virtual_pit e) ∙ not-below-pit pl virtual_pit))
    (λ e. rw e (pit-below pl q (eqb-false q virtual_pit e)))

pub returns-then-p-eq-VIRTUAL_PIT : goal.returns-then-p-eq-VIRTUAL_PIT
unfolding virtual_pit
returns-then-p-eq-VIRTUAL_PIT c =
    let a = c.args in
    let pl = plot_of a.grid a.heights.now in
    sym (ap (λ (p : ℕ). below pl p a.q) c.if-p-eq-VIRTUAL_PIT.true ∙ pit-first pl a.q)

pub returns-then-q-eq-VIRTUAL_PIT : goal.returns-then-q-eq-VIRTUAL_PIT
unfolding virtual_pit
returns-then-q-eq-VIRTUAL_PIT c =
    let a = c.args in
    let pl = plot_of a.grid a.heights.now in
    sym (ap (below pl a.p) c.if-q-eq-VIRTUAL_PIT.true ∙ not-below-pit pl a.p)

pub is_below_post-requires : goal.is_below_post-requires
is_below_post-requires c =
    (record { valid = c.requires.0; post = vertex-post c.requires.1 c.if-p-eq-VIRTUAL_PIT.false }, record { valid = c.requires.0; post = vertex-post c.requires.2 c.if-q-eq-VIRTUAL_PIT.false })

pub returns : goal.returns
returns c = c.is_below_post.ensures

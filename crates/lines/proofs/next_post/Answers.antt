-- Refused by the rows that lead, or the step of a walk from the post.
use native.Mathlib.Omega.{arith}
use mathlib.Core.Path.{refl, ◌∙◌, ap}
use mathlib.Core.Logic.{inl}
use borrow.Author.Tests.{ne_eqb}
use Rattle.surface.specs.Plot.{plot_of}
use Rattle.surface.specs.Refusals.{next_verdict}
use Rattle.surface.specs.Calls.{plot_by}
use Rattle.surface.proofs.AnyOrder.Grid.{vertex-low}
use Rattle.surface.proofs.AnyOrder.Walks.{next-vertex}
use Rattle.surface.proofs.OfPlots.Instance.{toward-falling}
use Rattle.surface.proofs.OfCalls.Outcomes.{refused-numbered, handed}
use Rattle.surface.proofs.OfCalls.Accepted.{Gridded, gridded}
use Rattle.surface.proofs.OfCalls.LineCalls.{ForNext, next-valid, next-accepted}
use Rattle.lines.specs.Told.{next_told}
use Rattle.lines.specs.declared.walk.Walk.{Walk}
use Rattle.lines.proofs.next_post.Goals as goal
use Rattle.lines.proofs.next_post.Goals.{In_ok-grid}

module _ (c : In_ok-grid) where
  -- the plot that the call goes on with, and what acceptance says of it
  served : let a = c.args in Gridded (plot_by a.sheet.now a.rows a.columns a.heights.now) c.in_ok-grid.grid (λ pl. next_verdict pl a.spacings a.post)
  served = gridded _ _ _ c.in_ok-grid.ensures.value c.in_ok-grid.ensures.grid

  accepted : let a = c.args in ForNext (plot_of c.in_ok-grid.grid a.heights.now) a.spacings a.post
  accepted = next-valid _ _ _ served.passed

pub returns-in_err-grid : goal.returns-in_err-grid
returns-in_err-grid c =
    let e = c.in_err-grid.ensures.value in
    ap next_told (handed _ _ c.from_residual.ensures.1) ∙ rw (← e, ne_eqb _ 0 (refused-numbered c.in_err-grid.field-0.0)) refl

-- a walk from the post
pub next-requires : goal.next-requires
next-requires c = let k = accepted (goal.at.next-requires c).In_ok-grid in (k.post_of, k.spaced)

pub overflow_cast-result : goal.overflow_cast-result
overflow_cast-result c =
    let here = (goal.at.overflow_cast-result c).In_ok-grid in
    let k = (accepted here).post_of in
    let a = c.args in
    let law = toward-falling (plot_of c.in_ok-grid.grid a.heights.now) k.valid.sides a.spacings a.up in
    omega (arith, ap (λ (w : Walk). w.post) c.next.ensures, vertex-low k.valid.sides (next-vertex law a.post (inl k.post)))

pub returns : goal.returns
returns c =
    let s = served (goal.at.returns c).In_ok-grid in
    rw s.same_plot (rw (next-accepted _ _ _ s.passed, c.next.ensures) refl)

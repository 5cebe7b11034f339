-- A refusal is handed on; an accepted call has a post of a plot and eight bytes.
use mathlib.Core.Path.{sym, ◌∙◌, ap}
use Rattle.surface.specs.Plot.{plot_of}
use Rattle.surface.specs.Flags.{runs_for}
use Rattle.surface.specs.Refusals.{ring_verdict}
use Rattle.surface.specs.Calls.{plot_by}
use Rattle.surface.specs.declared.Answer.{Answer}
use Rattle.surface.proofs.OfPlots.Codes.{mark-runs}
use Rattle.surface.proofs.OfCalls.Verdicts.{code}
use Rattle.surface.proofs.OfCalls.Outcomes.{refused-numbered, handed}
use Rattle.surface.proofs.OfCalls.Accepted.{Gridded, gridded}
use Rattle.surface.proofs.OfCalls.RingCall.{ForRing, ring-valid, ring-refused, ring-served}
use Rattle.ring.specs.Told.{ring_mark_of}
use Rattle.ring.proofs.ring.Goals as goal
use Rattle.ring.proofs.ring.Goals.{In_ok-grid}

module _ (c : In_ok-grid) where
  -- the plot that the call goes on with, and what acceptance says of it
  served : let a = c.args in Gridded (plot_by a.sheet.now a.rows a.columns a.heights.now) c.in_ok-grid.grid (λ pl. ring_verdict pl a.post a.ring.now)
  served = gridded _ _ _ c.in_ok-grid.ensures.value c.in_ok-grid.ensures.grid

  accepted : let a = c.args in ForRing (plot_of c.in_ok-grid.grid a.heights.now) a.post a.ring.now
  accepted = ring-valid _ _ _ served.passed

pub returns-in_err-grid : goal.returns-in_err-grid
returns-in_err-grid c =
    let e = c.in_err-grid.ensures.value in
    let r = ring-refused _ _ _ (λ z. refused-numbered _ (code e ∙ z)) in
    record {
      value = ap ring_mark_of (handed _ _ c.from_residual.ensures.1) ∙ ap (λ (a : Answer). record { code = a.code; place = a.place; k = 0; mark = 0 }) e ∙ sym r.0;
      ring_after = sym r.1;
    }

pub put_codes-requires : goal.put_codes-requires
put_codes-requires c = let a = accepted (goal.at.put_codes-requires c).In_ok-grid in (a.post_of, a.size)

pub mark_at-mark-requires : goal.mark_at-mark-requires
mark_at-mark-requires c = (accepted (goal.at.mark_at-mark-requires c).In_ok-grid).post_of

pub returns : goal.returns
returns c =
    let here = (goal.at.returns c).In_ok-grid in
    let d = served here in
    let s = ring-served _ _ _ d.passed in
    let m = c.mark_at-mark.ensures in
    let k = c.runs_for.ensures ∙ ap runs_for m ∙ sym (mark-runs _ _ (accepted here).post_of) in
    rw d.same_plot record { value = rw (k, m) (sym s.0); ring_after = c.put_codes.ensures ∙ sym s.1 }

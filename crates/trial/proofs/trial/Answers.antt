-- A refusal is handed on, and an accepted call counts.
use Prim.Native.Nat.{◌≤◌}
use mathlib.Core.Path.{◌≡◌, sym, ◌∙◌, ap}
use native.Mathlib.Omega.{arith}
use lib.ListN.{length}
use mir.Syntax.{w32}
use mir.Val.{to_z, of_z}
use borrow.Author.Rules.{rules}
use Rattle.surface.specs.Plot.{plot_of}
use Rattle.surface.specs.Refusals.{trial_verdict}
use Rattle.surface.specs.Calls.{plot_by}
use Rattle.surface.specs.declared.Answer.{Answer}
use Rattle.surface.proofs.General.ListOf.{length-part-replicate}
use Rattle.surface.proofs.OfCalls.Verdicts.{code}
use Rattle.surface.proofs.OfCalls.Outcomes.{refused-numbered, handed}
use Rattle.surface.proofs.OfCalls.Accepted.{Gridded, gridded}
use Rattle.surface.proofs.OfCalls.TrialCall.{ForTrial, trial-valid, trial-refused, trial-served}
use Rattle.trial.specs.Told.{tried_of}
use Rattle.trial.proofs.trial.Goals as goal
use Rattle.trial.proofs.trial.Goals.{In_ok-grid, Start}

-- the new height, as the code holds it
held : (s : Start) → to_z w32 (of_z w32 s.args.height) ≡ s.args.height
held s = search rules

module _ (c : In_ok-grid) where
  -- the plot that the call goes on with, and what acceptance says of it
  served : let a = c.args in Gridded (plot_by a.sheet.now a.rows a.columns a.heights.now) c.in_ok-grid.grid (λ pl. trial_verdict pl a.post a.height)
  served = gridded _ _ _ (rw (held (goal.at.In_ok-grid c).Start) at c.in_ok-grid.ensures.value) c.in_ok-grid.ensures.grid

  accepted : let a = c.args in ForTrial (plot_of c.in_ok-grid.grid a.heights.now) a.post a.height
  accepted = trial-valid _ _ _ served.passed

  few : length c.args.heights.now ≤ 14400
  few = let v = accepted.valid in omega (arith, v.size, v.sides.few)

pub returns-in_err-grid : goal.returns-in_err-grid
returns-in_err-grid c =
    let e = rw (held (goal.at.returns-in_err-grid c).Start) at c.in_err-grid.ensures.value in
    ap tried_of (handed _ _ c.from_residual.ensures.1)
    ∙ ap (λ (a : Answer). record { code = a.code; place = a.place; peaks = 0; pits = 0; saddles = 0; newPeaks = 0; newPits = 0; newSaddles = 0 }) e
    ∙ sym (trial-refused _ _ _ (λ z. refused-numbered _ (code e ∙ z)))

pub count_now_and_then-requires : goal.count_now_and_then-requires
count_now_and_then-requires c =
    let here = (goal.at.count_now_and_then-requires c).In_ok-grid in
    let a = accepted here in
    rw (held (goal.at.count_now_and_then-requires c).Start) (record { valid = a.valid; post = a.post_in }, a.in_range, length-part-replicate 14400 _ 0 (few here) ∙ a.valid.size)

pub returns : goal.returns
returns c =
    let s = served (goal.at.returns c).In_ok-grid in
    rw s.same_plot ((rw (held (goal.at.returns c).Start) at c.count_now_and_then.ensures) ∙ sym (trial-served _ _ _ s.passed))

pub slice_bounds-patterns-end : goal.slice_bounds-patterns-end
slice_bounds-patterns-end c = few (goal.at.slice_bounds-patterns-end c).In_ok-grid

pub slice_bounds-count_now_and_then-end : goal.slice_bounds-count_now_and_then-end
slice_bounds-count_now_and_then-end c = sym (length-part-replicate 14400 _ 0 (few (goal.at.slice_bounds-count_now_and_then-end c).In_ok-grid))

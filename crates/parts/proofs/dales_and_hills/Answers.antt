-- A refusal is handed on, and the ends of the paths that the next posts make are the names asked for.
use mathlib.Core.Path.{refl, sym, ◌∙◌, ap}
use mathlib.Core.Bool.{true}
use Rattle.surface.specs.Plot.{plot_of}
use Rattle.surface.specs.Spacings.{spacings}
use Rattle.surface.specs.Refusals.{parts_verdict}
use Rattle.surface.specs.Refused.{outcome}
use Rattle.surface.specs.Calls.{plot_by, parts_answer}
use Rattle.surface.specs.declared.Spacings.{Spacings}
use Rattle.nexts.specs.Filled.{ForNexts}
use Rattle.nexts.proofs.Filled.{downs-long, ups-long}
use Rattle.parts.proofs.Descents.{dales-end, hills-end, dales-named, hills-named}
use Rattle.surface.proofs.OfCalls.Verdicts.{code}
use Rattle.surface.proofs.OfCalls.Outcomes.{refused-numbered, handed}
use Rattle.surface.proofs.OfCalls.Accepted.{Gridded, gridded}
use Rattle.surface.proofs.OfCalls.PartsCall.{parts-valid, parts-refused, parts-filled}
use Rattle.parts.proofs.dales_and_hills.Goals as goal
use Rattle.parts.proofs.dales_and_hills.Goals.{In_ok-grid}

module _ (c : In_ok-grid) where
  abbrev spaced : Spacings
  spaced = let a = c.args in spacings a.east a.south

  -- the plot that the call goes on with, and what acceptance says of it
  served : let a = c.args in
      Gridded (plot_by a.sheet.now a.rows a.columns a.heights.now) c.in_ok-grid.grid (λ pl. parts_verdict pl spaced a.dales.now a.hills.now)
  served = gridded _ _ _ c.in_ok-grid.ensures.value c.in_ok-grid.ensures.grid

  -- what the call was lent
  lent : let a = c.args in ForNexts (plot_of c.in_ok-grid.grid a.heights.now) spaced true a.dales.now a.hills.now
  lent =
      let f = parts-valid _ _ _ _ served.passed in
      record { valid = f.valid; spaced = f.spaced; downs_size = f.dales_size; ups_size = λ _. f.hills_size }

pub returns-in_err-grid : goal.returns-in_err-grid
unfolding parts_answer
returns-in_err-grid c =
    let e = c.in_err-grid.ensures.value in
    let k = parts-refused _ _ _ _ (λ z. refused-numbered _ (code e ∙ z)) in
    record { value = ap outcome (handed _ _ c.from_residual.ensures.1) ∙ e; dales_after = sym k.0; hills_after = sym k.1 }

pub fill_nexts-requires : goal.fill_nexts-requires
fill_nexts-requires c = lent (goal.at.fill_nexts-requires c).In_ok-grid

pub shorten-requires : goal.shorten-requires
shorten-requires c =
    let k = lent (goal.at.shorten-requires c).In_ok-grid in
    let w = c.fill_nexts.ensures in
    (dales-end k w, k.valid.sides, downs-long w ∙ k.downs_size)

pub shorten-requires-2 : goal.shorten-requires-2
shorten-requires-2 c =
    let k = lent (goal.at.shorten-requires-2 c).In_ok-grid in
    let w = c.fill_nexts.ensures in
    (hills-end k w, k.valid.sides, ups-long w ∙ k.ups_size refl)

pub returns : goal.returns
unfolding parts_answer
returns c =
    let after = (goal.at.returns c).In_ok-grid in
    let s = served after in
    let k = parts-filled _ _ _ _ s.passed in
    record {
      value = c.in_ok-grid.ensures.value;
      dales_after = rw s.same_plot (c.shorten.ensures ∙ dales-named (lent after) c.fill_nexts.ensures ∙ sym k.0);
      hills_after = rw s.same_plot (c.shorten-2.ensures ∙ hills-named (lent after) c.fill_nexts.ensures ∙ sym k.1);
    }

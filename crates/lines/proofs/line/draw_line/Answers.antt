-- By the rows that lead, or as the line of an accepted post.
use mathlib.Core.Path.{◌≡◌, sym, ◌∙◌, ap, subst}
use Rattle.surface.specs.Plot.{Plot}
use Rattle.surface.specs.Refusals.{next_verdict}
use Rattle.surface.specs.Lines.{toward}
use Rattle.surface.specs.Calls.{plot_by, line_answer, line_list}
use Rattle.surface.proofs.OfCalls.Outcomes.{refused-numbered, handed}
use Rattle.surface.proofs.OfCalls.Accepted.{Gridded, gridded}
use Rattle.surface.proofs.OfCalls.LineCalls.{no-post}
use Rattle.lines.specs.Told.{line_told}
use Rattle.lines.proofs.line.draw_line.Goals as goal
use Rattle.lines.proofs.line.draw_line.Goals.{In_ok-grid}

-- the plot that the call goes on with, and what acceptance says of it
served : (c : In_ok-grid) → let a = c.args in Gridded (plot_by a.sheet.now a.rows a.columns a.heights.now) c.in_ok-grid.grid (λ pl. next_verdict pl a.spacings a.post)
served c = gridded _ _ _ c.in_ok-grid.ensures.value c.in_ok-grid.ensures.grid

pub returns-in_err-grid : goal.returns-in_err-grid
returns-in_err-grid c =
    let a = c.args in
    let k = no-post _ _ _ _ a.run a.line.now _ c.in_err-grid.ensures.value (refused-numbered _) in
    record { value = ap line_told (handed _ _ c.from_residual.ensures.1) ∙ k.0; line_after = k.1 }

pub draw_from-requires : goal.draw_from-requires
draw_from-requires c = (served (goal.at.draw_from-requires c).In_ok-grid).passed

pub returns : goal.returns
returns c =
    let a = c.args in
    let same = sym (served (goal.at.returns c).In_ok-grid).same_plot in
    record {
      value = subst (λ (pl : Plot). line_told c.draw_from.result ≡ line_answer pl a.spacings (toward pl a.spacings a.up) a.post a.run a.line.now) same c.draw_from.ensures.value;
      line_after = subst (λ (pl : Plot). c.draw_from.new.line ≡ line_list pl a.spacings (toward pl a.spacings a.up) a.post a.run a.line.now) same c.draw_from.ensures.line_after;
    }

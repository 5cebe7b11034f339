use native.Mathlib.Omega.{arith}
use mathlib.Core.Path.{sym, ◌∙◌}
use Rattle.survey_file.proofs.Posts.{plot-posts, no-posts, short-posts}
use Rattle.survey_file.proofs.posts_in.Goals as goal

pub returns-then-file-lt-FIRST_HEADER : goal.returns-then-file-lt-FIRST_HEADER
returns-then-file-lt-FIRST_HEADER c = (short-posts _ c.if-file-lt-FIRST_HEADER.true, omega arith)

pub returns-then-is_plot : goal.returns-then-is_plot
returns-then-is_plot c =
    plot-posts _ _ _ c.wide-rows.ensures.0 c.wide-columns.ensures.0 (sym c.is_plot.ensures ∙ c.if-is_plot.true)

pub returns : goal.returns
returns c =
    (no-posts _ _ _ c.wide-rows.ensures.0 c.wide-columns.ensures.0 (sym c.is_plot.ensures ∙ c.if-is_plot.false), omega arith)

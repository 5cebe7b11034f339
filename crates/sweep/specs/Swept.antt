-- What the sweep over the saddles is lent.
use Rattle.std.specs.Prelude.{ℕ, ◌≡◌, List}
use Rattle.surface.specs.Lists.{list_of}
use Rattle.surface.specs.Plot.{Plot, posts, Valid}
use Rattle.surface.specs.Patterns.{pattern_at, start_table}
use Rattle.starts.specs.Starts.{post_at, first_start}
use Rattle.saddle_order.specs.Ascending.{Ascending}

-- the post where p's first upper run starts, or p where it has none
abbrev pub lead_at : Plot → ℕ → ℕ
lead_at pl p = post_at pl.columns p (first_start (pattern_at pl p))

-- a plot with its patterns, its saddles in order, the tables, and two lists: every post's lead, and zeros
pub record ForSweep (pl : Plot) (patterns sorted : List ℕ) (m : ℕ) (table leads splits : List ℕ) : Type 0 where
  pub valid : Valid pl
  pub patterned : patterns ≡ list_of (pattern_at pl) (posts pl)
  pub ascending : Ascending pl sorted m
  pub tabled : table ≡ start_table
  pub led : leads ≡ list_of (lead_at pl) (posts pl)
  pub cleared : splits ≡ list_of (λ _. 0) (posts pl)

-- The start of a listing, after which only the lines of the posts are left.
use Rattle.std.specs.Prelude.{ℕ, ◌≤◌, ◌≡◌, List, [], ◌∷◌, ◌++◌, ℤ, length, take, None, MatchOption}
use Rattle.surface.specs.Plot.{plot_of, posts}
use Rattle.survey_file.specs.Layout.{plot_posts}
use Rattle.saddle_lines.specs.Lines.{lines_from, Known}
use Rattle.listing.specs.declared.Begun.{Begun}
use Rattle.surface.specs.Lister.{decimal, text_line}
use Rattle.listing.specs.declared.Read.{Read}
use Rattle.listing.specs.declared.Surveyed.{Surveyed}

-- lists lent for a file, as long as its plot has posts
pub record Lent (file : List ℕ) (heights : List ℤ) (marks dales hills : List ℕ) : Type 0 where
  pub heights_size : length heights ≡ plot_posts file
  pub marks_size : length marks ≡ plot_posts file
  pub dales_size : length dales ≡ plot_posts file
  pub hills_size : length hills ≡ plot_posts file

-- the first bytes are this text, and there is no plot
pub record Refuses (text buffer : List ℕ) (r : Begun) : Type 0 where
  pub room : r.bytes ≤ length buffer
  pub bytes : take r.bytes buffer ≡ text
  pub refused : r.plot ≡ None

-- the lines of all posts of a plot are what is left of the listing after its first bytes, and marks, dales and hills are known
pub record Goes (whole : List ℕ) (hs : List ℤ) (marks dales hills begun : List ℕ) (plot : Read) : Type 0 where
  pub text : begun ++ lines_from (plot_of plot.grid hs) plot.spacings 0 (posts (plot_of plot.grid hs)) ≡ whole
  pub known : Known (plot_of plot.grid hs) plot.spacings marks dales hills

-- the first line of a plot
abbrev pub first_line : Surveyed → List ℕ
first_line s =
    text_line 78 (decimal s.rows ∷ decimal s.columns ∷ decimal s.counts.peaks ∷ decimal s.counts.pits ∷ decimal s.counts.saddles ∷ [])

-- where there is no plot, the first bytes are the whole listing; else it goes on from them
pub record Begins (whole : List ℕ) (hs : List ℤ) (marks dales hills buffer : List ℕ) (r : Begun) : Type 0 where
  pub room : r.bytes ≤ length buffer
  pub rest : MatchOption r.plot (take r.bytes buffer ≡ whole) (λ plot. Goes whole hs marks dales hills (take r.bytes buffer) plot)

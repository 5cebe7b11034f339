-- The lines of saddles, and the filled lists by which saddles and ends are known.
use Rattle.std.specs.Prelude.{ℕ, ◌+◌, ◌-◌, ◌≤◌, ◌<◌, ◌≡◌, Bool, cond, eqb, length, get_or, take, drop}
use mathlib.Core.List.{List, flatten}
use Rattle.surface.specs.Lists.{list_of}
use Rattle.surface.specs.Plot.{Plot, posts, virtual_pit, Valid}
use Rattle.surface.specs.Marks.{marks_of}
use Rattle.surface.specs.Lines.{Descent, end, line, toward, dales_of, hills_of}
use Rattle.surface.specs.Spacings.{Spaced}
use Rattle.surface.specs.Lister.{line_text, post_lines}
use Rattle.surface.specs.declared.Spacings.{Spacings}
use Rattle.rings.specs.declared.ring.Ring.{Ring}
use Rattle.runs.specs.Runs.{Saddle}
use Rattle.saddle_lines.specs.declared.Put.{Put}

-- the most bytes that the lines of a saddle in one direction take, and those of a post
abbrev pub runs_room : ℕ
runs_room = 480

abbrev pub post_room : ℕ
post_room = 960

-- the end from a vertex, by the list of the ends from the posts
abbrev pub end_from : List ℕ → ℕ → ℕ
end_from ends v = cond (eqb v virtual_pit) virtual_pit (get_or ends v 0)

module _ (pl : Plot) where
  -- the ends from all posts, downward or upward
  abbrev pub ends_of : Descent → List ℕ
  ends_of d = list_of (end d (posts pl)) (posts pl)

  -- the lines of a post and its first n runs
  unfoldable pub run_lines : ℕ → Descent → ℕ → ℕ → List ℕ
  run_lines letter d p n = flatten (list_of (λ run. line_text letter p run (line d (posts pl) p run)) n)

  -- the lines of the posts from one up to another
  unfoldable pub lines_from : Spacings → ℕ → ℕ → List ℕ
  lines_from s from next = flatten (list_of (λ i. post_lines pl s (from + i)) (next - from))

-- a saddle with its ring, and the ends in one direction
pub record SaddleWith (pl : Plot) (s : Spacings) (up : Bool) (p : ℕ) (ring : Ring) (ends : List ℕ) : Type 0 where
  pub saddle : Saddle pl p ring
  pub spaced : Spaced s
  pub known : ends ≡ ends_of pl (toward pl s up)

-- a plot, its marks, spacings in range, and its dales and hills by these
pub record Known (pl : Plot) (s : Spacings) (marks dales hills : List ℕ) : Type 0 where
  pub valid : Valid pl
  pub spaced : Spaced s
  pub marks_known : marks ≡ marks_of pl
  pub dales_known : dales ≡ dales_of pl s
  pub hills_known : hills ≡ hills_of pl s

-- the first bytes are the lines of the posts from `from` on, up to the post named, which is further on where there was a post left; later bytes are
-- kept
pub record Listed (pl : Plot) (s : Spacings) (from : ℕ) (old new : List ℕ) (r : Put) : Type 0 where
  pub text : take r.bytes new ≡ lines_from pl s from r.post
  pub kept : drop r.bytes new ≡ drop r.bytes old
  pub room : r.bytes ≤ length new
  pub low : from ≤ r.post
  pub further : from < posts pl → from < r.post
  pub high : r.post ≤ posts pl

-- A walk of a plot, and the posts that it goes by.
use Rattle.std.specs.Prelude.{ℕ, ◌<◌, List, length}
use Rattle.surface.specs.Plot.{Plot, posts, Vertex, Valid}
use Rattle.surface.specs.Spacings.{Spaced}
use Rattle.surface.specs.Lines.{walk, toward}
use Rattle.surface.specs.declared.Spacings.{Spacings}
use Rattle.lines.specs.declared.walk.Walk.{Walk}

-- it stands at a post or in the virtual pit, and spacings are in range
pub record WalkOf (pl : Plot) (s : Spacings) (w : Walk) : Type 0 where
  pub valid : Valid pl
  pub spaced : Spaced s
  pub vertex : Vertex (posts pl) w.post

-- where it stands, and where it goes until its end
abbrev pub path : Plot → Spacings → Walk → List ℕ
path pl s w = walk (toward pl s w.up) (posts pl) w.post

-- the line of post p and a walk, and a list that has room for it
pub record HasRoom (pl : Plot) (s : Spacings) (p : ℕ) (from : Walk) (list : List ℕ) : Type 0 where
  pub walk : WalkOf pl s from
  pub post : p < posts pl
  pub room : length (path pl s from) < length list

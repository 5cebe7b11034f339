-- docs/SPECIFICATION.md, "Series of re-shoots".
use Rattle.std.specs.Prelude.{ℕ, ◌≡◌, List, [], ◌∷◌, ℤ, length, replicate, set}
use Rattle.surface.specs.Plot.{Plot, over}
use Rattle.surface.specs.Refusals.{settled, reshoot_verdict}
use Rattle.surface.specs.Calls.{plot_by, reshoot_heights, reshoot_marks, reshoot_answer}

-- a re-shoot's arguments, the two lists left out
pub record Reshoot : Type 0 where
  pub sheet : List ℕ
  pub rows : ℕ
  pub columns : ℕ
  pub post : ℕ
  pub new : ℤ

-- the plot that it speaks of, where these heights are lent to it
abbrev pub asked : Reshoot → List ℤ → Plot
asked c heights = plot_by c.sheet c.rows c.columns heights

-- the two lists that a series is about
pub record Marked : Type 0 where
  pub heights : List ℤ
  pub marks : List ℕ

-- the two after one re-shoot, and after a series
unfoldable pub after_call : Marked → Reshoot → Marked
after_call s c =
    record {
      heights = reshoot_heights (asked c s.heights) s.marks c.post c.new;
      marks = reshoot_marks (asked c s.heights) s.marks c.post c.new;
    }

unfoldable pub after_calls : Marked → List Reshoot → Marked
after_calls s [] = s
after_calls s (c ∷ cs) = after_calls (after_call s c) cs

-- the accepted ones have the surveyed rows and columns, and their sheets mean the survey's rule: they speak of `pl`, with the heights that are lent
unfoldable pub Kept : Plot → Marked → List Reshoot → Type 0
Kept pl s [] = Unit {0}
Kept pl s (c ∷ cs) =
    ((reshoot_answer (asked c s.heights) s.marks c.post c.new).code ≡ 0 → asked c s.heights ≡ over pl s.heights)
    × Kept pl (after_call s c) cs

-- the plain list of heights kept next to it: it and as many marks stand for the two lists lent (of marks only the number is looked at)
unfoldable pub plain : List ℤ → Reshoot → List ℤ
plain hs c = settled (reshoot_verdict (asked c hs) (replicate (length hs) 0) c.post c.new) (set hs c.post c.new) hs

unfoldable pub plain_all : List ℤ → List Reshoot → List ℤ
plain_all hs [] = hs
plain_all hs (c ∷ cs) = plain_all (plain hs c) cs

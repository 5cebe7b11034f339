-- A series: after any list of re-shoots the heights are the plain list, and the marks are those of a fresh survey of it.
use Prim.Native.Nat.{ℕ}
use mathlib.Core.Path.{◌≡◌, refl, sym, ◌∙◌, ap, subst}
use mathlib.Core.Bool.{true, false}
use mathlib.Core.List.{List, [], ◌∷◌}
use lib.IntN.{ℤ}
use lib.ListN.{length, set, replicate, length-set, length-replicate}
use borrow.Author.Tests.{eqb-true}
use Rattle.surface.specs.Plot.{Plot, posts, over, is_height, Valid}
use Rattle.surface.specs.Marks.{marks_of, redrawn}
use Rattle.surface.specs.Refusals.{is_accepted, reshoot_verdict}
use Rattle.surface.specs.Calls.{reshoot_heights, reshoot_marks, reshoot_answer}
use Rattle.surface.specs.Series.{Reshoot, asked, Marked, after_call, after_calls, Kept, plain, plain_all}
use Rattle.surface.specs.declared.Answer.{Answer}
use Rattle.surface.proofs.General.Bools.{either}
use Rattle.surface.proofs.General.ListOf.{length-list_of}
use Rattle.surface.proofs.General.FirstNot.{all_set}
use Rattle.surface.proofs.OfPlots.Redrawn.{redrawn-fresh}
use Rattle.surface.proofs.OfCalls.MarkCalls.{reshoot-valid}

-- the verdict on a re-shoot looks at the number of marks alone
verdict-marks : (pl : Plot) (marks other : List ℕ) (post : ℕ) (new : ℤ) → length marks ≡ length other
    → reshoot_verdict pl marks post new ≡ reshoot_verdict pl other post new
unfolding reshoot_verdict
verdict-marks pl marks other post new h = rw h

-- a plot with one new height is a plot
pub reshot-valid : (pl : Plot) (post : ℕ) (new : ℤ) → Valid pl → is_height new ≡ true → Valid (over pl (set pl.heights post new))
reshot-valid pl post new v h =
    record {
      sides = v.sides;
      size = length-set pl.heights post new ∙ v.size;
      in_range = all_set is_height pl.heights post new v.in_range h;
    }

-- heights and marks that are a survey's, and the plain list beside them
pub record Good (pl : Plot) (s : Marked) : Type 0 where
  pub same : s.heights ≡ pl.heights
  pub valid : Valid (over pl s.heights)
  pub marked : s.marks ≡ marks_of (over pl s.heights)

module _ (pl : Plot) (s : Marked) (g : Good pl s) (c : Reshoot) where
  abbrev verdict_at : List ℕ → Answer
  verdict_at marks = reshoot_verdict (asked c s.heights) marks c.post c.new

  -- the plain list's verdict is the call's
  same-verdict : verdict_at s.marks ≡ verdict_at (replicate (length s.heights) 0)
  unfolding marks_of
  same-verdict =
      verdict-marks (asked c s.heights) s.marks (replicate (length s.heights) 0) c.post c.new
      (ap length g.marked ∙ length-list_of _ (posts pl) ∙ sym g.valid.size ∙ sym (length-replicate (length s.heights) 0))

  module _ (kept : (reshoot_answer (asked c s.heights) s.marks c.post c.new).code ≡ 0 → asked c s.heights ≡ over pl s.heights) where
    refused : is_accepted (verdict_at s.marks) ≡ false → Good (over pl (plain s.heights c)) (after_call s c)
    unfolding after_call plain reshoot_heights reshoot_marks
    refused e = rw (← same-verdict) (rw e (record { same = refl; valid = g.valid; marked = g.marked }))

    accepted : is_accepted (verdict_at s.marks) ≡ true → Good (over pl (plain s.heights c)) (after_call s c)
    unfolding after_call plain reshoot_heights reshoot_marks reshoot_answer
    accepted e =
        let z = eqb-true (verdict_at s.marks).code 0 e in
        let a = reshoot-valid (asked c s.heights) s.marks c.post c.new z in
        let redraw : redrawn (over (asked c s.heights) (set s.heights c.post c.new)) s.marks c.post ≡ redrawn (over pl (set s.heights c.post c.new)) (marks_of (over pl s.heights)) c.post =
        rw g.marked (ap (λ (x : Plot). redrawn (over x (set s.heights c.post c.new)) (marks_of (over pl s.heights)) c.post) (kept z))
        in
        rw (← same-verdict)
        (rw e
        (record {
          same = refl;
          valid = reshot-valid (over pl s.heights) c.post c.new g.valid a.in_range;
          marked = redraw ∙ redrawn-fresh (over pl s.heights) g.valid.sides c.post c.new;
        }))

    good-after : Good (over pl (plain pl.heights c)) (after_call s c)
    good-after =
        subst (λ (l : List ℤ). Good (over pl (plain l c)) (after_call s c)) g.same (either (is_accepted (verdict_at s.marks)) accepted refused)

-- what is kept is all of the plot but its heights
kept-over : (pl : Plot) (hs : List ℤ) (s : Marked) (calls : List Reshoot) → Kept pl s calls → Kept (over pl hs) s calls
unfolding Kept
kept-over pl hs s [] k = k
kept-over pl hs s (c ∷ cs) k = (k.0, kept-over pl hs (after_call s c) cs k.1)

-- the series, by induction over the list of calls
pub good-series : (pl : Plot) (s : Marked) (calls : List Reshoot) → Good pl s → Kept pl s calls → Good (over pl (plain_all pl.heights calls)) (after_calls s calls)
unfolding plain_all after_calls Kept
good-series pl s [] g k = g
good-series pl s (c ∷ cs) g k =
    good-series (over pl (plain pl.heights c)) (after_call s c) cs (good-after pl s g c k.0) (kept-over pl (plain pl.heights c) (after_call s c) cs k.1)

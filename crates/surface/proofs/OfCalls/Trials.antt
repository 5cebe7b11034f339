-- Trials of a re-shoot: they are refused as re-shoots are, and the counts of an accepted one are those of surveys before and after the re-shoot.
use Prim.Native.Nat.{ℕ}
use mathlib.Core.Path.{◌≡◌, sym, ◌∙◌, ap}
use mathlib.Core.List.{List}
use lib.IntN.{ℤ}
use lib.ListN.{length}
use Rattle.surface.specs.Plot.{Plot, posts, reshot}
use Rattle.surface.specs.Marks.{mark_at, marks_of}
use Rattle.surface.specs.Refusals.{verdict, reshoot_verdict, trial_verdict}
use Rattle.surface.specs.Calls.{reshoot_answer, trial_answer}
use Rattle.surface.specs.Trial.{AsReshoot, Tried, Trials}
use Rattle.surface.specs.declared.Answer.{Answer}
use Rattle.surface.proofs.General.ListOf.{get_or-list_of}
use Rattle.surface.proofs.OfPlots.Redrawn.{mark_at-set}
use Rattle.surface.proofs.OfPlots.Moved.{peaks-move, pits-move, saddles-together, saddles-move}
use Rattle.surface.proofs.OfCalls.Verdicts.{code}
use Rattle.surface.proofs.OfCalls.Accepted.{equal-test}
use Rattle.surface.proofs.OfCalls.MarkCalls.{reshoot-filled}
use Rattle.surface.proofs.OfCalls.TrialCall.{trial-valid, trial-served}
use Rattle.surface.proofs.OfCalls.Series.{reshot-valid}
use Rattle.surface.proofs.OfCalls.Demand.{counts, fresh-marks}

module _ (pl : Plot) (post : ℕ) (new : ℤ) (marks : List ℕ) (size : length marks ≡ posts pl) where
  -- the row of the marks does not hold, and the others are a trial's
  verdict-as-reshoot : trial_verdict pl post new ≡ reshoot_verdict pl marks post new
  unfolding trial_verdict reshoot_verdict verdict
  verdict-as-reshoot = rw (equal-test (length marks) (posts pl) size)

  as-reshoot : AsReshoot pl post new marks
  unfolding trial_answer reshoot_answer
  as-reshoot = record { same_code = code verdict-as-reshoot; same_place = ap (λ (a : Answer). a.place) verdict-as-reshoot }

  tried : (lent : List ℕ) → (trial_verdict pl post new).code ≡ 0 → length lent ≡ posts pl → Tried pl post new marks lent
  unfolding marks_of
  tried lent e h =
      let a = trial-valid pl post new e in
      let sides = a.valid.sides in
      let pl' = reshot pl post new in
      let valid' = reshot-valid pl post new a.valid a.in_range in
      let served = trial-served pl post new e in
      let put = (reshoot-filled pl marks post new (sym (code verdict-as-reshoot) ∙ e)).0 in
      record {
        now = rw served (counts pl a.valid a.sheet lent h);
        then = rw (put, served) (counts pl' valid' a.sheet lent h);
        kept =
            λ q k apart.
            rw (put, fresh-marks pl a.valid a.sheet lent h, fresh-marks pl' valid' a.sheet lent h)
            (get_or-list_of (mark_at pl') (posts pl) q 0 k ∙ mark_at-set pl sides post new q k apart ∙ sym (get_or-list_of (mark_at pl) (posts pl) q 0 k));
        peaks_move = rw served (peaks-move pl sides post new);
        pits_move = rw served (pits-move pl sides post new);
        together = rw served (saddles-together pl sides post new);
        saddles_move = rw served (saddles-move pl sides post new);
      }

pub trials : Trials
unfolding trial_answer
trials =
    record {
      as_reshoot = as-reshoot;
      tried = λ pl post new marks lent e h k. tried pl post new marks h lent e k;
    }

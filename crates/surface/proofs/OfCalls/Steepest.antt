-- Where next and lines go, over the outcomes of the calls.
use Prim.Native.Nat.{ℕ, zero, suc}
use mathlib.Core.Path.{◌≡◌, refl, sym, ◌∙◌}
use mathlib.Core.Bool.{Bool, true, false, cond, true≢false}
use mathlib.Core.List.{List, ◌++◌}
use lib.ListN.{get_or, drop, length}
use borrow.Author.Tests.{eq-eqb, ne_eqb}
use Rattle.surface.specs.Lists.{filter, any}
use Rattle.surface.specs.Plot.{Plot, posts, virtual_pit, below, reversed}
use Rattle.surface.specs.Edges.{ring_of}
use Rattle.surface.specs.Lines.{Descent, is_end, next, walk, line, line_start, steepest, down}
use Rattle.surface.specs.Refusals.{next_verdict, line_verdict}
use Rattle.surface.specs.Calls.{next_answer, next_down_answer, next_up_answer, line_answer, line_list, thalweg_answer, thalweg_list, ridge_answer, ridge_list}
use Rattle.surface.specs.Steepest.{Goes, Steeply, SteepestEdges}
use Rattle.surface.specs.declared.Spacings.{Spacings}
use Rattle.surface.proofs.AnyOrder.Grid.{not-pit}
use Rattle.surface.proofs.General.Order.{StrictTotal}
use Rattle.surface.proofs.AnyOrder.Order.{reversed-strict}
use Rattle.surface.proofs.AnyOrder.RingEdges.{ring-pit}
use Rattle.surface.proofs.AnyOrder.RunMembers.{runs-run}
use Rattle.surface.proofs.AnyOrder.Walks.{filter-some}
use Rattle.surface.proofs.OfPlots.HeightOrder.{below-strict}
use Rattle.surface.proofs.OfPlots.Steepest.{chosen}
use Rattle.surface.proofs.OfPlots.Instance.{border-drains}
use Rattle.surface.proofs.OfCalls.LineCalls.{next-valid, line-valid, line-spaced}

-- a walk begins where it stands
walk_begins : (d : Descent) (n q : ℕ) (l : List ℕ) → get_or (walk d n q ++ l) 0 0 ≡ q
unfolding walk
walk_begins d zero q l = refl
walk_begins d (suc n) q l = refl

module _ (pl : Plot) (s : Spacings) where
  -- what an accepted next answers
  answered : (d : Descent) (p : ℕ) → (next_answer pl s d p).code ≡ 0 → (next_answer pl s d p).post ≡ next d p
  answered d p e = rw (eq-eqb (next_verdict pl s p).code 0 e)

  -- of one direction
  module _ (lower : ℕ → ℕ → Bool) (o : StrictTotal lower) where
    abbrev d : Descent
    d = record { lower = lower; ring = ring_of pl; pick = steepest pl s lower }

    end_is : (p : ℕ) → (next_answer pl s d p).code ≡ 0 → (b : Bool) → any (λ q. lower q p) (ring_of pl p) ≡ b
        → next d p ≡ cond b (steepest pl s lower p (filter (λ q. lower q p) (ring_of pl p))) p
    unfolding next is_end
    end_is p e true h = let v = (next-valid pl s p e).post_of in rw (ne_eqb p virtual_pit (not-pit v.valid.sides v.post), h)
    end_is p e false h = let v = (next-valid pl s p e).post_of in rw (ne_eqb p virtual_pit (not-pit v.valid.sides v.post), h)

    goes : Goes pl s lower (next_answer pl s d) (line_answer pl s d) (line_list pl s d)
    unfolding line
    goes =
        record {
          next =
              λ p e h.
              let m = filter-some (λ q. lower q p) (ring_of pl p) h in
              rw (answered d p e, end_is p e true h) (chosen pl s lower p (next-valid pl s p e).spaced o m.0 _ m.1);
          stays = λ p e h. answered d p e ∙ end_is p e false h;
          line =
              λ p run lent e.
              let a = line-valid pl s d p run lent e in
              let r = runs-run (λ q. lower q p) (ring_of pl p) run a.run_in in
              rw (eq-eqb (line_verdict pl s d p run lent).code 0 e, walk_begins d (posts pl) (line_start d p run) (drop (length (line d (posts pl) p run)) lent))
              (chosen pl s lower p (line-spaced pl s d p run lent e) o r.some _ r.there);
        }

  steeply : Steeply pl s
  unfolding next_down_answer next_up_answer thalweg_answer thalweg_list ridge_answer ridge_list ring_of
  steeply =
      record {
        downward = goes (below pl) (below-strict pl);
        upward = goes (reversed (below pl)) (reversed-strict (below-strict pl));
        border = λ p e b. let v = (next-valid pl s p e).post_of in answered (down pl s) p e ∙ border-drains pl v.valid.sides s p v.post b;
        inner = λ p e b m. let v = (next-valid pl s p e).post_of in true≢false (sym ((ring-pit v.valid.sides _ p v.post).0 m) ∙ b);
      }

pub steepest-edges : SteepestEdges
steepest-edges = steeply

-- Demand 3, whole: one theorem about a whole series.
use Prim.Native.Nat.{ℕ, ◌≤◌, ◌<◌}
use native.Mathlib.Omega.{arith}
use mathlib.Core.Path.{◌≡◌, refl, sym, ◌∙◌, ap}
use mathlib.Core.Bool.{true}
use mathlib.Core.List.{List}
use lib.ListN.{length, get_or, take, drop}
use lib.Seq.{take-append_seam}
use borrow.Author.Tests.{eq-eqb}
use Rattle.surface.specs.Plot.{Plot, posts, Vertex, Valid}
use Rattle.surface.specs.Marks.{mark_at, marks_of, peaks, pits, saddles, IsPit, IsPeak}
use Rattle.surface.specs.Lines.{Descent, runs_of, line, down, up, end, dales_of, hills_of, LineFrom}
use Rattle.surface.specs.Spacings.{Spaced}
use Rattle.surface.specs.Refusals.{line_verdict}
use Rattle.surface.specs.Calls.{survey_answer, survey_marks, line_answer, line_list, thalweg_answer, thalweg_list, ridge_answer, ridge_list, parts_answer, parts_dales, parts_hills}
use Rattle.surface.specs.Demand.{Lines, Parted, Surveyed, surveyed, Demand3}
use Rattle.surface.specs.declared.Answer.{Answer}
use Rattle.surface.specs.declared.Counts.{Counts}
use Rattle.surface.specs.declared.Spacings.{Spacings}
use Rattle.surface.proofs.General.ListOf.{get_or-list_of}
use Rattle.surface.proofs.AnyOrder.Walks.{Falling, line-falls}
use Rattle.surface.proofs.AnyOrder.Network.{end-name, up-post}
use Rattle.surface.proofs.OfPlots.Instance.{network, down-falling, up-falling, pits-end, peaks-end, plot-balance, dales-part, hills-part}
use Rattle.surface.proofs.OfCalls.Accepted.{SheetPasses}
use Rattle.surface.proofs.OfCalls.MarkCalls.{survey-valid, valid-survey}
use Rattle.surface.proofs.OfCalls.LineCalls.{line-valid, valid-line}
use Rattle.surface.proofs.OfCalls.PartsCall.{valid-parts}
use Rattle.surface.proofs.OfCalls.Series.{good-series}

module _ (pl : Plot) (v : Valid pl) (sheet : SheetPasses pl) where
  -- an accepted survey
  pub counts : (lent : List ℕ) → length lent ≡ posts pl
      → survey_answer pl lent ≡ record { code = 0; place = 0; peaks = peaks (marks_of pl); pits = pits (marks_of pl); saddles = saddles (marks_of pl) }
  unfolding survey_answer
  counts lent h = rw (valid-survey pl lent (record { sheet = sheet; valid = v; marks_size = h }))

  pub fresh-marks : (lent : List ℕ) → length lent ≡ posts pl → survey_marks pl lent ≡ marks_of pl
  unfolding survey_marks
  fresh-marks lent h = rw (valid-survey pl lent (record { sheet = sheet; valid = v; marks_size = h }))

  module _ (s : Spacings) (spaced : Spaced s) where
    -- the lines of a descent: those of either direction, where the ends of walks from below a post are ends
    module _ (d : Descent) (law : Falling (posts pl) d) (is_an_end : ℕ → Type 0)
        (ends : (p q : ℕ) → p < posts pl → Vertex (posts pl) q → d.lower q p ≡ true → is_an_end (end d (posts pl) q))
      where
        line-from : (post run : ℕ) (list : List ℕ) → (line_answer pl s d post run list).code ≡ 0
            → LineFrom (posts pl) d.lower is_an_end post (take (line_answer pl s d post run list).count (line_list pl s d post run list))
        line-from post run list h =
            let a = line-valid pl s d post run list h in
            let f = line-falls law post run a.post_in a.run_in in
            let g = f.2 in
            let entries = line d (posts pl) post run in
            rw (eq-eqb (line_verdict pl s d post run list).code 0 h, take-append_seam entries (drop (length entries) list), f.1)
            (record {
              rest = f.0;
              starts = refl;
              falls = g.falling;
              ends = rw g.ending (ends post g.via a.post_in g.via_vertex g.via_lower);
              fits = g.bound;
            })

        lines : (marks : List ℕ) → marks ≡ marks_of pl → Lines (posts pl) d.lower is_an_end marks (runs_of d) (line_answer pl s d) (line_list pl s d)
        unfolding marks_of
        lines marks e =
            record {
              falls = line-from;
              drawn =
                  λ post run list h m k r.
                  let f = line-falls law post run h k in
                  let mark : get_or marks post 0 ≡ mark_at pl post = ap (λ (l : List ℕ). get_or l post 0) e ∙ get_or-list_of (mark_at pl) (posts pl) post 0 h in
                  let room : length (line d (posts pl) post run) ≤ length list = rw f.1 (omega (arith, f.2.bound)) in
                  ap (λ (a : Answer). a.code) (valid-line pl s d post run list sheet v spaced (record { post_in = h; saddle = rw mark at m; run_in = k; room = room }));
            }

    thalwegs : (marks : List ℕ) → marks ≡ marks_of pl → Lines (posts pl) (down pl s).lower (IsPit pl) marks (runs_of (down pl s)) (thalweg_answer pl s) (thalweg_list pl s)
    unfolding thalweg_answer thalweg_list
    thalwegs = lines (down pl s) (down-falling pl v.sides s) (IsPit pl) (λ p q h u k. end-name (pits-end pl v.sides s) q u)

    ridges : (marks : List ℕ) → marks ≡ marks_of pl → Lines (posts pl) (up pl s).lower (IsPeak pl) marks (runs_of (up pl s)) (ridge_answer pl s) (ridge_list pl s)
    unfolding ridge_answer ridge_list
    ridges =
        lines (up pl s) (up-falling pl v.sides s) (IsPeak pl)
        (λ p q h u k. end-name (peaks-end pl v.sides s) q (up-post (network pl v.sides s) p q h u k))

    -- accepted dales and hills
    parts : (dales hills : List ℕ) → length dales ≡ posts pl → length hills ≡ posts pl
        → ((parts_answer pl s dales hills).code ≡ 0) × (parts_dales pl s dales hills ≡ dales_of pl s) × (parts_hills pl s dales hills ≡ hills_of pl s)
    unfolding parts_answer parts_dales parts_hills
    parts dales hills h k = rw (valid-parts pl s dales hills (record { sheet = sheet; valid = v; spaced = spaced; dales_size = h; hills_size = k })) (refl, refl, refl)

    parted : (dales hills : List ℕ) → length dales ≡ posts pl → length hills ≡ posts pl → Parted pl s dales hills
    parted dales hills h k =
        let p = parts dales hills h k in
        record {
          accepted = p.0;
          into_dales = λ lent i. rw (p.1, counts lent i) (dales-part pl v.sides s);
          into_hills = λ lent i. rw (p.2, counts lent i) (hills-part pl v.sides s);
        }

  -- marks that are the plot's keep every promise
  holds : (marks : List ℕ) → marks ≡ marks_of pl → Surveyed pl marks
  holds marks e =
      record {
        marked = e;
        fresh = λ lent h. (ap (λ (a : Counts). a.code) (counts lent h), fresh-marks lent h ∙ sym e);
        balance = λ lent h. rw (counts lent h) (plot-balance pl v.sides);
        thalwegs = λ s h. thalwegs s h marks e;
        ridges = λ s h. ridges s h marks e;
        parted = parted;
      }

pub demand3 : Demand3
unfolding survey_answer
demand3 pl marks calls accepted kept =
    let a = survey-valid pl marks accepted in
    let g =
    good-series pl (surveyed pl marks) calls
    (record { same = refl; valid = a.valid; marked = fresh-marks pl a.valid a.sheet marks a.marks_size })
    kept
    in
    record { heights = g.same; holds = holds _ g.valid a.sheet _ g.marked }

-- The outcome of a ring call, by whether it was accepted; and what an accepted one shows.
use Prim.Native.Nat.{ℕ, ◌-◌, ◌<◌}
use mathlib.Core.Path.{◌≡◌, refl, ◌∙◌, ap}
use mathlib.Core.List.{List, ◌++◌}
use borrow.Author.Tests.{ltb-true, ne_eqb, not-false}
use lib.Dec.{ltb}
use lib.ListN.{length, get_or, replicate}
use Rattle.surface.specs.Plot.{Plot, posts, PostOf}
use Rattle.surface.specs.Marks.{mark_at, marks_of}
use Rattle.surface.specs.Flags.{runs_for}
use Rattle.surface.specs.Codes.{codes_of, ring_length, ring_bytes, runs_below}
use Rattle.surface.specs.Refusals.{ring_verdict}
use Rattle.surface.specs.Calls.{survey_answer, survey_marks, ring_answer, ring_list}
use Rattle.surface.specs.Grounds.{codes_in, Grounds, RingGrounds}
use Rattle.surface.proofs.General.ListOf.{length-list_of, get_or-list_of, list_of-padded, filter-padded}
use Rattle.surface.proofs.OfPlots.Codes.{codes-say, codes-some, codes-number, codes-short, codes-runs, codes-mark, mark-runs}
use Rattle.surface.proofs.OfCalls.Verdicts.{code, passed, code-accepted, settled-refused}
use Rattle.surface.proofs.OfCalls.Accepted.{SheetPasses, test-equal, rows-valid}
use Rattle.surface.proofs.OfCalls.MarkCalls.{valid-survey, survey-filled}

module _ (pl : Plot) (post : ℕ) (ring : List ℕ) where
  -- a ring is shown of a post of a plot, in eight bytes
  pub record ForRing : Type 0 where
    pub sheet : SheetPasses pl
    pub post_of : PostOf pl post
    pub size : length ring ≡ ring_length

  pub ring-valid : (ring_verdict pl post ring).code ≡ 0 → ForRing
  unfolding ring_verdict
  ring-valid e =
      let row = passed _ tt e in
      record {
        sheet = (row 13, row 14);
        post_of = record { valid = rows-valid pl (row 1) (row 2) (row 4); post = ltb-true post (posts pl) (not-false _ (row 5)) };
        size = test-equal _ _ (row 3);
      }

  -- a refused call returns its number and place, and 0 for each other value, and leaves the bytes
  pub ring-refused : ((ring_verdict pl post ring).code ≡ 0 → ⊥)
      → (ring_answer pl post ring ≡ record { code = (ring_verdict pl post ring).code; place = (ring_verdict pl post ring).place; k = 0; mark = 0 })
      × (ring_list pl post ring ≡ ring)
  unfolding ring_answer ring_list
  ring-refused n = (rw (ne_eqb (ring_verdict pl post ring).code 0 n), settled-refused (ring_verdict pl post ring) _ _ n)

  -- an accepted one returns 0, 0, k and the mark, and writes the codes
  pub ring-served : (ring_verdict pl post ring).code ≡ 0
      → (ring_answer pl post ring ≡ record { code = 0; place = 0; k = runs_below pl post; mark = mark_at pl post }) × (ring_list pl post ring ≡ ring_bytes pl post)
  unfolding ring_verdict ring_answer ring_list
  ring-served e = rw (code-accepted _ tt e) (refl, refl)

  answered : (ring_answer pl post ring).code ≡ 0 → (ring_verdict pl post ring).code ≡ 0
  unfolding ring_answer
  answered e = e

module _ (pl : Plot) (p : ℕ) where
  -- the eight bytes are the codes and then zeros
  bytes-are : ring_bytes pl p ≡ codes_of pl p ++ replicate (ring_length - length (codes_of pl p)) 0
  unfolding ring_bytes
  bytes-are = list_of-padded (codes_of pl p) ring_length 0 (codes-short pl p)

  bytes-size : length (ring_bytes pl p) ≡ ring_length
  unfolding ring_bytes
  bytes-size = length-list_of _ ring_length

  bytes-codes : codes_in (ring_bytes pl p) ≡ codes_of pl p
  bytes-codes = rw bytes-are (filter-padded (λ c. ltb 0 c) (codes_of pl p) (ring_length - length (codes_of pl p)) 0 (codes-some pl p) refl)

  module _ (post : PostOf pl p) (s : SheetPasses pl) where
    -- a survey writes the mark
    survey-mark : (marks : List ℕ) → length marks ≡ posts pl
        → ((survey_answer pl marks).code ≡ 0) × (p < length (survey_marks pl marks)) × (get_or (survey_marks pl marks) p 0 ≡ mark_at pl p)
    unfolding survey_answer marks_of
    survey-mark marks n =
        let e = code (valid-survey pl marks (record { sheet = s; valid = post.valid; marks_size = n })) in
        rw (survey-filled pl marks e) (e, rw (length-list_of) post.post, get_or-list_of (mark_at pl) (posts pl) p 0 post.post)

    grounds : Grounds pl p (runs_below pl p) (mark_at pl p) (ring_bytes pl p)
    unfolding runs_for
    grounds =
        record {
          surveyed = survey-mark;
          says = rw bytes-codes (codes-say pl p post);
          number = rw bytes-codes (codes-number pl p);
          front = rw bytes-codes bytes-are;
          size = bytes-size;
          runs_of_codes = rw bytes-codes (codes-runs pl p);
          at_peak = λ e. mark-runs pl p post ∙ ap runs_for e;
          at_pit = λ e. mark-runs pl p post ∙ ap runs_for e;
          marked = rw bytes-codes (codes-mark pl p post);
        }

pub ring-grounds : RingGrounds
ring-grounds pl post lent e =
    let v = answered pl post lent e in
    let s = ring-served pl post lent v in
    let a = ring-valid pl post lent v in
    rw (s.0, s.1) (grounds pl post a.post_of a.sheet)

-- The outcomes of a next call and of a line call, by the row that refuses it or by what it answers, and what acceptance says of them.
use Prim.Native.Nat.{ℕ, ◌+◌, ◌<◌, ◌≤◌}
use native.Mathlib.Omega.{arith}
use native.Mathlib.Nat.{zero-add}
use mathlib.Core.Path.{◌≡◌, sym, ◌∙◌, ap}
use mathlib.Core.Bool.{true, false, not}
use mathlib.Core.List.{List, [], ◌∷◌, ◌++◌}
use borrow.Author.Tests.{ltb-true, ltb-false, ne_eqb, lt-ltb, le-ltb, not-false}
use lib.ListN.{length}
use lib.Seq.{sets, sets-eq}
use Rattle.surface.specs.Plot.{Plot, posts, is_height, Valid, PostOf}
use Rattle.surface.specs.Marks.{is_saddle, mark_at}
use Rattle.surface.specs.Spacings.{Spaced}
use Rattle.surface.specs.Lines.{Descent, walk, runs_of, line_start, line}
use Rattle.surface.specs.Refusals.{Row, accepted, verdict, row4, row5, row7, row8, row9, leading_spaced, next_verdict, line_verdict}
use Rattle.surface.specs.Calls.{line_answer, line_list}
use Rattle.surface.specs.declared.Answer.{Answer}
use Rattle.surface.specs.declared.Entries.{Entries}
use Rattle.surface.specs.declared.Spacings.{Spacings}
use Rattle.surface.proofs.OfCalls.Verdicts.{code, passed, row-holds, row-passed, none_left, done, ◌⨟◌, clear-accepted, code-accepted, leads-refused, leads-passed}
use Rattle.surface.proofs.OfCalls.Accepted.{SheetPasses, rows-valid, row1-passes, row2-passes, row4-passes, row15-spaced, row15-passes}

module _ (pl : Plot) (s : Spacings) (post : ℕ) where
  abbrev post_rows : List Row
  post_rows = leading_spaced pl s ++ row4 is_height pl.heights ∷ row5 pl post ∷ []

  -- next is told of a post of a plot, by spacings in range
  pub record ForNext : Type 0 where
    pub sheet : SheetPasses pl
    pub post_of : PostOf pl post
    pub spaced : Spaced s

  module _ (e : (next_verdict pl s post).code ≡ 0) where
    pub next-valid : ForNext
    unfolding next_verdict
    next-valid =
        let row = passed post_rows tt e in
        record {
          sheet = (row 13, row 14);
          post_of = record { valid = rows-valid pl (row 1) (row 2) (row 4); post = ltb-true post (posts pl) (not-false _ (row 5)) };
          spaced = row15-spaced s (row 15);
        }

    pub next-accepted : next_verdict pl s post ≡ accepted
    unfolding next_verdict
    next-accepted = code-accepted post_rows tt e

module _ (pl : Plot) (s : Spacings) (d : Descent) (post run : ℕ) (list : List ℕ) where
  abbrev entries : List ℕ
  entries = line d (posts pl) post run

  -- a line is drawn of a saddle, one of its runs, and a list that has room
  pub record ForLine : Type 0 where
    pub post_in : post < posts pl
    pub saddle : is_saddle (mark_at pl post) ≡ true
    pub run_in : run < length (runs_of d post)
    pub room : length entries ≤ length list

  pub line-valid : (line_verdict pl s d post run list).code ≡ 0 → ForLine
  unfolding line_verdict
  line-valid e =
      let row = passed _ tt e in
      record {
        post_in = ltb-true post (posts pl) (not-false _ (row 5));
        saddle = not-false _ (row 7);
        run_in = ltb-true run _ (not-false _ (row 8));
        room = ltb-false (length list) _ (row 9);
      }

  pub line-spaced : (line_verdict pl s d post run list).code ≡ 0 → Spaced s
  unfolding line_verdict
  line-spaced e = row15-spaced s (passed _ tt e 15)

  pub valid-line : SheetPasses pl → Valid pl → Spaced s → ForLine → line_verdict pl s d post run list ≡ accepted
  unfolding line_verdict
  valid-line sheet v spaced f =
      clear-accepted (
      sheet.0
      ⨟ sheet.1
      ⨟ row1-passes pl v
      ⨟ row15-passes spaced
      ⨟ row2-passes pl v
      ⨟ row4-passes pl v
      ⨟ ap not (lt-ltb post (posts pl) f.post_in)
      ⨟ ap not f.saddle
      ⨟ ap not (lt-ltb run _ f.run_in)
      ⨟ le-ltb (length list) _ f.room
      ⨟ done
      )

  -- what the call answers and leaves
  abbrev pub Outcome : Entries → List ℕ → Type 0
  Outcome r after = (r ≡ line_answer pl s d post run list) × (after ≡ line_list pl s d post run list)

  refused : (code place : ℕ) → (code ≡ 0 → ⊥) → line_verdict pl s d post run list ≡ record { code = code; place = place }
      → Outcome (record { code = code; place = place; count = 0 }) list
  refused code place h e = (rw (e, ne_eqb code 0 h), rw (e, ne_eqb code 0 h))

  abbrev line_rows : List Row
  line_rows = row7 pl post ∷ row8 d post run ∷ row9 entries list ∷ []

  pub no-post : (a : Answer) → a ≡ next_verdict pl s post → (a.code ≡ 0 → ⊥)
      → Outcome (record { code = a.code; place = a.place; count = 0 }) list
  unfolding next_verdict line_verdict
  no-post a e h = refused a.code a.place h (leads-refused (post_rows pl s post) line_rows tt (λ k. h (code e ∙ k)) ∙ sym e)

  module _ (z : (next_verdict pl s post).code ≡ 0) where
    rows_left : line_verdict pl s d post run list ≡ verdict line_rows
    unfolding next_verdict line_verdict
    rows_left = leads-passed (post_rows pl s post) line_rows tt z

    pub no-saddle : is_saddle (mark_at pl post) ≡ false → Outcome (record { code = 7; place = 0; count = 0 }) list
    no-saddle h = refused 7 0 (λ e. omega arith) (rows_left ∙ row-holds _ _ (ap not h))

    module _ (saddle : is_saddle (mark_at pl post) ≡ true) where
      past-7 : line_verdict pl s d post run list ≡ verdict (row8 d post run ∷ row9 entries list ∷ [])
      past-7 = rows_left ∙ row-passed _ _ (ap not saddle)

      pub no_run : length (runs_of d post) ≤ run → Outcome (record { code = 8; place = 0; count = 0 }) list
      no_run h = refused 8 0 (λ e. omega arith) (past-7 ∙ row-holds _ _ (ap not (le-ltb run _ h)))

      -- the line goes from the saddle to q
      module _ (has : run < length (runs_of d post)) (q : ℕ) (goes : q ≡ line_start d post run) where
        abbrev way : List ℕ
        way = walk d (posts pl) q

        is-line : entries ≡ post ∷ way
        unfolding line
        is-line = rw goes

        long : length entries ≡ 1 + length way
        long = rw is-line (omega arith)

        past-8 : line_verdict pl s d post run list ≡ verdict (row9 entries list ∷ [])
        past-8 = past-7 ∙ row-passed _ _ (ap not (lt-ltb run _ has))

        pub too_long : length list ≤ length way → Outcome (record { code = 9; place = 0; count = 0 }) list
        too_long h = refused 9 0 (λ e. omega arith) (past-8 ∙ row-holds _ _ (lt-ltb (length list) (length entries) (omega (arith, long))))

        pub drawn : length way < length list → Outcome (record { code = 0; place = 0; count = length (post ∷ way) }) (sets list 0 (post ∷ way))
        drawn h =
            let e : line_verdict pl s d post run list ≡ accepted =
            past-8 ∙ row-passed _ _ (le-ltb (length list) (length entries) (omega (arith, long))) ∙ none_left in
            (rw (e, is-line), rw (e, is-line) (rw zero-add at (sets-eq (post ∷ way) list 0 (omega (arith, long)))))

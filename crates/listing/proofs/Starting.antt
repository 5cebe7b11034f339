-- The start of a listing: what reading, surveying and finding the dales and hills make of a file.
use Prim.Native.Nat.{ℕ}
use mathlib.Core.Path.{◌≡◌, refl, sym, ◌∙◌, ap}
use mathlib.Core.Bool.{Bool, ◌&&◌}
use mathlib.Core.List.{List, [], ◌∷◌, ◌++◌}
use borrow.Author.Tests.{ne_eqb}
use lib.Dec.{eqb}
use lib.IntN.{ℤ, pos}
use lib.ListN.{length, replicate, length-replicate}
use Rattle.surface.specs.Plot.{Plot, ruled, posts, is_side, Valid}
use Rattle.surface.specs.Spacings.{spacings}
use Rattle.surface.specs.Refusals.{verdict, survey_verdict, parts_verdict, read_verdict}
use Rattle.surface.specs.Calls.{sheet_says, plot_by, read_answer, read_heights, survey_answer, survey_marks, parts_answer, parts_dales, parts_hills}
use Rattle.surface.specs.Lister.{decimal, text_line, head_line, plot_text, refused_text, file_listing, listing}
use Rattle.surface.specs.declared.Answer.{Answer}
use Rattle.surface.specs.declared.Counts.{Counts}
use Rattle.surface.specs.declared.Sheet.{Sheet}
use Rattle.surface.specs.declared.Size.{Size}
use Rattle.surface.specs.declared.Spacings.{Spacings}
use Rattle.surface.proofs.General.Bools.{either}
use Rattle.surface.proofs.OfCalls.MarkCalls.{valid-survey, survey-filled, survey-served}
use Rattle.surface.proofs.OfCalls.PartsCall.{valid-parts}
use Rattle.surface.proofs.OfCalls.FileCalls.{rows_in, columns_in, posts_in, read-valid, read-code, read-served}
use Rattle.surface.proofs.OfCalls.RoundTrip.{read-fresh, read-plot, read-spaced}
use Rattle.survey_file.specs.Layout.{plot_posts}
use Rattle.saddle_lines.specs.Lines.{lines_from, Known}
use Rattle.listing.specs.First.{Lent, Goes}
use Rattle.saddle_lines.proofs.Chunks.{from_zero}

-- the list that the definition of a listing lends
abbrev fresh : List ℕ → List ℤ
fresh file = replicate (posts_in file) (pos 0)

module _ (file : List ℕ) (hs : List ℤ) (h : length hs ≡ plot_posts file) where
  -- a list of the plot's size is as good as that one: where the sides are none of a plot, no list is looked at
  same_read : read_verdict file hs ≡ read_verdict file (fresh file)
  unfolding read_verdict verdict plot_posts
  same_read =
      either (is_side (rows_in file) && is_side (columns_in file))
      (λ e. let k : length hs ≡ length (fresh file) = h ∙ rw (e, length-replicate) in rw k)
      (λ e. rw e)

  refusal : (sheet : List ℕ) → ((read_answer file hs).code ≡ 0 → ⊥) → refused_text (read_answer file hs).code (read_answer file hs).place ≡ file_listing sheet file
  unfolding file_listing read_answer
  refusal sheet n = rw (← same_read, ne_eqb (read_verdict file hs).code 0 n)

  -- the plot, by the rule that the sheet means
  module _ (sheet : List ℕ) (highest : Bool) (means : (rows columns : ℕ) (heights : List ℤ) → plot_by sheet rows columns heights ≡ ruled highest rows columns heights) (e : (read_answer file hs).code ≡ 0) where
    abbrev read : Plot
    read = ruled highest (read_answer file hs).rows (read_answer file hs).columns (read_heights file hs)

    abbrev apart : Spacings
    apart = spacings (read_answer file hs).east (read_answer file hs).south

    valid : Valid read
    valid = let v = read-plot file hs e in record { sides = v.sides; size = v.size; in_range = v.in_range }

    accepted : (read_verdict file hs).code ≡ 0
    accepted = sym (read-code file hs) ∙ e

    size : length hs ≡ posts read
    size = rw (read-served file hs accepted) (read-valid file hs accepted).room

    alike : length hs ≡ length (fresh file)
    alike = (read-valid file hs accepted).room ∙ sym (rw length-replicate)

    whole : plot_text read apart ≡ file_listing sheet file
    unfolding file_listing
    whole = let f = read-fresh file hs (fresh file) alike in rw (← f.0, e, ← f.1 e, means)

    surveyed : (marks : List ℕ) → length marks ≡ posts read → (survey_verdict read marks).code ≡ 0
    surveyed marks k = ap (λ (a : Answer). a.code) (valid-survey read marks (record { sheet = (refl, refl); valid = valid; marks_size = k }))

    parted : (dales hills : List ℕ) → length dales ≡ posts read → length hills ≡ posts read → (parts_verdict read apart dales hills).code ≡ 0
    parted dales hills k m =
        ap (λ (a : Answer). a.code)
        (valid-parts read apart dales hills (record { sheet = (refl, refl); valid = valid; spaced = read-spaced file hs e; dales_size = k; hills_size = m }))

    -- the counts are those of the marks
    head : (marks : List ℕ) → length marks ≡ posts read
        → let a = survey_answer read marks in
        text_line 78 (decimal read.rows ∷ decimal read.columns ∷ decimal a.peaks ∷ decimal a.pits ∷ decimal a.saddles ∷ []) ≡ head_line read
    unfolding head_line
    head marks k = let v = surveyed marks k in rw (survey-served read marks v, survey-filled read marks v)

    known : (marks dales hills : List ℕ) → length marks ≡ posts read → length dales ≡ posts read → length hills ≡ posts read
        → Known read apart (survey_marks read marks) (parts_dales read apart dales hills) (parts_hills read apart dales hills)
    unfolding parts_dales parts_hills
    known marks dales hills j k m =
        let spaced = read-spaced file hs e in
        let v = valid-parts read apart dales hills (record { sheet = (refl, refl); valid = valid; spaced = spaced; dales_size = k; hills_size = m }) in
        record { valid = valid; spaced = spaced; marks_known = survey-filled read marks (surveyed marks j); dales_known = rw v; hills_known = rw v }

    left : head_line read ++ lines_from read apart 0 (posts read) ≡ file_listing sheet file
    unfolding plot_text
    left = rw (from_zero read apart (posts read)) whole

-- what a sheet means that is not refused
pub said-means : (sheet : List ℕ) (said : Sheet) → said ≡ sheet_says sheet → said.code ≡ 0 → (rows columns : ℕ) (heights : List ℤ)
    → plot_by sheet rows columns heights ≡ ruled (eqb said.rule 2) rows columns heights
said-means sheet said i e rows columns heights = rw (← i) (rw e)

-- a refused sheet, and one that is not
pub sheet-refuses : (sheet file : List ℕ) (said : Sheet) → said ≡ sheet_says sheet → (said.code ≡ 0 → ⊥) → refused_text said.code said.place ≡ listing sheet file
unfolding listing
sheet-refuses sheet file said i n = rw (← i) (rw (ne_eqb said.code 0 n))

pub sheet-passes : (sheet file : List ℕ) (said : Sheet) → said ≡ sheet_says sheet → said.code ≡ 0 → file_listing sheet file ≡ listing sheet file
unfolding listing
sheet-passes sheet file said i e = rw (← i) (rw e)

-- the outcome of reading, refused and accepted
module _ (sheet file : List ℕ) (hs : List ℤ) (h : length hs ≡ plot_posts file) (a : Size) (is_answer : a ≡ read_answer file hs) where
  pub file-refuses : (a.code ≡ 0 → ⊥) → refused_text a.code a.place ≡ file_listing sheet file
  file-refuses n = let m : (read_answer file hs).code ≡ 0 → ⊥ = rw is_answer at n in rw is_answer (refusal file hs h sheet m)

  -- an accepted file has a plot, which can be surveyed and parted
  module _ (highest : Bool) (means : (rows columns : ℕ) (heights : List ℤ) → plot_by sheet rows columns heights ≡ ruled highest rows columns heights)
      (after : List ℤ) (marks dales hills : List ℕ) (e : a.code ≡ 0) (ea : after ≡ read_heights file hs) (r : Lent file hs marks dales hills) where
    c : (read_answer file hs).code ≡ 0
    c = rw is_answer at e

    plotted : plot_by sheet a.rows a.columns after ≡ ruled highest a.rows a.columns after
    plotted = means a.rows a.columns after

    room : plot_posts file ≡ posts (read file hs h sheet highest means c)
    room = sym h ∙ size file hs h sheet highest means c

    pub survey-passes : (survey_answer (plot_by sheet a.rows a.columns after) marks).code ≡ 0
    unfolding survey_answer
    survey-passes = rw (plotted, ea, is_answer) (surveyed file hs h sheet highest means c marks (r.marks_size ∙ room))

    pub parts-pass : (parts_answer (plot_by sheet a.rows a.columns after) (spacings a.east a.south) dales hills).code ≡ 0
    unfolding parts_answer
    parts-pass = rw (plotted, ea, is_answer) (parted file hs h sheet highest means c dales hills (r.dales_size ∙ room) (r.hills_size ∙ room))

    pub goes : (marks' dales' hills' : List ℕ) (counts : Counts)
        → counts ≡ survey_answer (plot_by sheet a.rows a.columns after) marks
        → marks' ≡ survey_marks (plot_by sheet a.rows a.columns after) marks
        → dales' ≡ parts_dales (plot_by sheet a.rows a.columns after) (spacings a.east a.south) dales hills
        → hills' ≡ parts_hills (plot_by sheet a.rows a.columns after) (spacings a.east a.south) dales hills
        → Goes (file_listing sheet file) after marks' dales' hills'
        (text_line 78 (decimal a.rows ∷ decimal a.columns ∷ decimal counts.peaks ∷ decimal counts.pits ∷ decimal counts.saddles ∷ []))
        (record { grid = record { rows = a.rows; columns = a.columns; highest = highest }; spacings = spacings a.east a.south })
    goes marks' dales' hills' counts ec em ed eh =
        rw (ec, em, ed, eh, plotted, ea, is_answer)
        (record {
          text = rw (head file hs h sheet highest means c marks (r.marks_size ∙ room)) (left file hs h sheet highest means c);
          known = known file hs h sheet highest means c marks dales hills (r.marks_size ∙ room) (r.dales_size ∙ room) (r.hills_size ∙ room);
        })

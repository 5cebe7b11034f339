-- docs/SPECIFICATION.md, "Lister": the text that it prints, as a list of bytes.
use Rattle.std.specs.Prelude.{ℕ, zero, suc, ◌+◌, ◌*◌, ◌/◌, ◌%◌, cond, ltb, eqb, pos, length, get_or, take, replicate}
use mathlib.Core.List.{List, [], ◌∷◌, ◌++◌, flatten}
use Rattle.surface.specs.Lists.{list_of, last_or}
use Rattle.surface.specs.Plot.{Plot, posts, virtual_pit}
use Rattle.surface.specs.Marks.{is_saddle, mark_at, marks_of, peaks, pits, saddles}
use Rattle.surface.specs.Lines.{Descent, runs_of, line, down, up}
use Rattle.surface.specs.Spacings.{spacings}
use Rattle.surface.specs.Calls.{sheet_says, plot_by, read_answer, read_heights}
use Rattle.surface.specs.declared.Spacings.{Spacings}

-- a number in decimal digits, without leading zeros; ten digits are enough for 32 bits
unfoldable pub digits : ℕ → ℕ → List ℕ
digits zero n = []
digits (suc more) n = cond (ltb n 10) ((48 + n) ∷ []) (digits more (n / 10) ++ (48 + n % 10) ∷ [])

unfoldable pub decimal : ℕ → List ℕ
decimal = digits 10

-- a letter and the fields after it, one space before each; byte 10 ends the line
unfoldable pub fields : List (List ℕ) → List ℕ
fields [] = 10 ∷ []
fields (x ∷ l) = 32 ∷ x ++ fields l

unfoldable pub text_line : ℕ → List (List ℕ) → List ℕ
text_line letter l = letter ∷ fields l

-- an end: the post's number, or V for the virtual pit
unfoldable pub end_name : ℕ → List ℕ
end_name v = cond (eqb v virtual_pit) (86 ∷ []) (decimal v)

-- a line of saddle p: letter, saddle, run, end
unfoldable pub line_text : ℕ → ℕ → ℕ → List ℕ → List ℕ
line_text letter p run entries = text_line letter (decimal p ∷ decimal run ∷ end_name (last_or virtual_pit entries) ∷ [])

module _ (pl : Plot) where
  -- N, rows, columns, peaks, pits, saddles
  unfoldable pub head_line : List ℕ
  head_line =
      let m = marks_of pl in
      text_line 78 (decimal pl.rows ∷ decimal pl.columns ∷ decimal (peaks m) ∷ decimal (pits m) ∷ decimal (saddles m) ∷ [])

  -- the lines of a saddle in one direction, a line of text for each run
  abbrev pub lines_text : ℕ → Descent → ℕ → List ℕ
  lines_text letter d p = flatten (list_of (λ run. line_text letter p run (line d (posts pl) p run)) (length (runs_of d p)))

  -- its water lines, T, then its crest lines, R, by these spacings
  unfoldable pub saddle_lines : Spacings → ℕ → List ℕ
  saddle_lines s p = lines_text 84 (down pl s) p ++ lines_text 82 (up pl s) p

  unfoldable pub post_lines : Spacings → ℕ → List ℕ
  post_lines s p = cond (is_saddle (mark_at pl p)) (saddle_lines s p) []

  -- the saddles in post order
  unfoldable pub plot_text : Spacings → List ℕ
  plot_text s = head_line ++ flatten (list_of (post_lines s) (posts pl))

-- a refusal: E, number, place
unfoldable pub refused_text : ℕ → ℕ → List ℕ
refused_text code place = text_line 69 (decimal code ∷ decimal place ∷ [])

-- what is printed for a settings sheet and a file; the list that receives the heights has the size that the file's rows and columns ask
unfoldable pub file_listing : List ℕ → List ℕ → List ℕ
file_listing sheet file =
    let lent = replicate (get_or file 5 0 * get_or file 6 0) (pos 0) in
    let a = read_answer file lent in
    cond (eqb a.code 0)
    (plot_text (plot_by sheet a.rows a.columns (read_heights file lent)) (spacings a.east a.south))
    (refused_text a.code a.place)

-- a refusal of the sheet comes first
unfoldable pub listing : List ℕ → List ℕ → List ℕ
listing sheet file =
    let said = sheet_says sheet in
    cond (eqb said.code 0) (file_listing sheet file) (refused_text said.code said.place)

-- at most 43 bytes of the sheet and 57,612 of standard input are looked at. (No contract speaks of what a program reads or prints: that the lister prints
-- this is tested.)
unfoldable pub printed : List ℕ → List ℕ → List ℕ
printed sheet input = listing (take 43 sheet) (take 57612 input)

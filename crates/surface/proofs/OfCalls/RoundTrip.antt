-- A file that is written reads back to the same heights and spacings, and a file that is read has exactly its size.
use Prim.Native.Nat.{ℕ, ◌+◌, ◌*◌, ◌<◌}
use native.Mathlib.Omega.{arith}
use mathlib.Core.Path.{◌≡◌, refl, sym, ◌∙◌, ap}
use mathlib.Core.Bool.{true}
use mathlib.Core.List.{List, [], ◌∷◌, ◌++◌, map}
use lib.IntN.{ℤ, pos, ◌*ℤ◌}
use lib.ListN.{length, get_or, length-map, get_or-map}
use lib.Seq.{ext_get_or}
use Rattle.surface.specs.Lists.{all}
use Rattle.surface.specs.Plot.{Plot, plot, posts, is_height, Valid}
use Rattle.surface.specs.Rounding.{Nearest}
use Rattle.surface.specs.Spacings.{Spaced, spacings}
use Rattle.surface.specs.Words.{word_at, signed, bytes_of, half_bytes}
use Rattle.surface.specs.SurveyFile.{version_in, header_for, stated_count, count_for, file_size, spacings_in, is_tenths, tenths_of, rounded, heights_in, filed_heights, file_of}
use Rattle.surface.specs.Refusals.{read_verdict}
use Rattle.surface.specs.declared.Spacings.{Spacings}
use Rattle.surface.specs.Calls.{read_answer, read_heights, write_answer, write_file}
use Rattle.surface.proofs.OfCalls.FileCalls.{posts_in, ForRead, ForWrite, read-valid, valid-read, write-valid, read-code, read-served, read-filled, write-filled}
use Rattle.surface.proofs.General.Rounding.{nearest-is}
use Rattle.surface.proofs.General.ListOf.{get_or-mapped}
use Rattle.surface.proofs.General.FirstNot.{all_map, all-at}
use Rattle.surface.proofs.OfPlots.SurveyFile.{length-tenths_of, get_or-tenths_of, word_at-filed, length-filed_heights, mag-tenfold, is_tenths-tenfold, rounded-tenfold, is_height-rounded}
use Rattle.surface.proofs.General.Words.{word_at-skip, word_at-bytes_of, half-joined, signed-unsigned}

map-rounded : (zs : List ℤ) → map rounded (map (λ z. z *ℤ pos 10) zs) ≡ zs
map-rounded [] = refl
map-rounded (z ∷ zs) = rw (rounded-tenfold z, map-rounded zs)

-- the file of an accepted write
module _ (pl : Plot) (s : Spacings) (file : List ℕ) (w : ForWrite pl s file) where
  abbrev written : List ℕ
  written = file_of pl s

  head : List ℕ
  head = 2 ∷ bytes_of (count_for 2 pl.rows pl.columns) ++ pl.rows ∷ pl.columns ∷ half_bytes s.east ++ half_bytes s.south

  -- a written file is its eleven first bytes and the heights
  parts : written ≡ head ++ filed_heights pl.heights
  unfolding file_of head bytes_of half_bytes
  parts = refl

  length-head : length head ≡ 11
  unfolding head bytes_of half_bytes
  length-head = refl

  version : version_in written ≡ 2
  unfolding file_of
  version = refl

  spacings-back : spacings_in written ≡ s
  unfolding spacings_in file_of bytes_of half_bytes
  spacings-back = rw (half-joined s.east (omega (arith, w.spaced)), half-joined s.south (omega (arith, w.spaced)))

  tenth : (i : ℕ) → i < length pl.heights → signed (word_at written (header_for (version_in written) + 4 * i)) ≡ get_or pl.heights i (pos 0) *ℤ pos 10
  tenth i h =
      let e : is_height (get_or pl.heights i (pos 0)) ≡ true = all-at is_height pl.heights (pos 0) refl w.valid.in_range i in
      rw
      (version, parts, word_at-skip head (filed_heights pl.heights) (11 + 4 * i) (4 * i) (omega (arith, length-head)), word_at-filed pl.heights (pos 0) i h e)
      (signed-unsigned (get_or pl.heights i (pos 0) *ℤ pos 10) (mag-tenfold (get_or pl.heights i (pos 0)) e))

  -- the filed heights are ten times the heights
  tenths : tenths_of written (length pl.heights) ≡ map (λ z. z *ℤ pos 10) pl.heights
  tenths =
      ext_get_or
      (pos 0)
      _
      _
      (length-tenths_of written (length pl.heights) ∙ sym (length-map pl.heights (λ z. z *ℤ pos 10)))
      (λ i h.
      let k : i < length pl.heights = rw (length-tenths_of written (length pl.heights)) at h in
      get_or-tenths_of written (length pl.heights) i k ∙ tenth i k ∙ sym (get_or-map (λ z. z *ℤ pos 10) pl.heights i (pos 0)))

  stated : stated_count written ≡ count_for 2 pl.rows pl.columns
  unfolding stated_count file_of bytes_of half_bytes
  stated =
      let rest = pl.rows ∷ pl.columns ∷ half_bytes s.east ++ half_bytes s.south ++ filed_heights pl.heights in
      word_at-skip (2 ∷ []) (bytes_of (count_for 2 pl.rows pl.columns) ++ rest) 1 0 refl
      ∙ word_at-bytes_of (count_for 2 pl.rows pl.columns) rest (omega (arith, w.valid.sides))

  in-range : all is_tenths (tenths_of written (posts pl)) ≡ true
  in-range = rw (← w.valid.size, tenths) (all_map is_height is_tenths (λ z. z *ℤ pos 10) is_tenths-tenfold pl.heights w.valid.in_range)

  read_back : heights_in written (posts pl) ≡ pl.heights
  unfolding heights_in
  read_back = rw (← w.valid.size, tenths) (map-rounded pl.heights)

  pub written-readable : (out : List ℤ) → length out ≡ posts pl → ForRead written out
  unfolding file_of bytes_of half_bytes
  written-readable out h =
      record {
        version = refl;
        sides = w.valid.sides;
        spaced = rw spacings-back w.spaced;
        stated = stated;
        size = omega (arith, length-filed_heights pl.heights, w.valid.size);
        room = h;
        tenths = in-range;
      }

-- Every file that reading accepts is exactly as long as its version, rows and columns say: 7, of version 2 11, + 4 times rows times columns.
pub read-size :
    (file : List ℕ) (out : List ℤ)
    → (read_answer file out).code ≡ 0
    → length file ≡ file_size (version_in file) (read_answer file out).rows (read_answer file out).columns
read-size file out e =
    let v = sym (read-code file out) ∙ e in
    rw (read-served file out v) (read-valid file out v).size

-- The spacings of an accepted read are in range.
pub read-spaced : (file : List ℕ) (out : List ℤ) → (read_answer file out).code ≡ 0 → Spaced (spacings (read_answer file out).east (read_answer file out).south)
read-spaced file out e =
    let v = sym (read-code file out) ∙ e in
    rw (read-served file out v) (read-valid file out v).spaced

same-verdict : (file : List ℕ) (out old : List ℤ) → length out ≡ length old → read_verdict file out ≡ read_verdict file old
unfolding read_verdict
same-verdict file out old e = rw e

-- What reading answers and fills in hangs on the file and the number of heights, and not on what the list held before.
pub read-fresh :
    (file : List ℕ) (out old : List ℤ)
    → length out ≡ length old
    → (read_answer file out ≡ read_answer file old) × ((read_answer file out).code ≡ 0 → read_heights file out ≡ read_heights file old)
read-fresh file out old e = (answers, heights)
  where
    answers : read_answer file out ≡ read_answer file old
    answers = unfold read_answer in rw (same-verdict file out old e)

    heights : (read_answer file out).code ≡ 0 → read_heights file out ≡ read_heights file old
    heights c =
        let v = sym (read-code file out) ∙ c in
        let u : (read_verdict file old).code ≡ 0 = rw (same-verdict file out old e) at v in
        read-filled file out v ∙ ap (heights_in file) e ∙ sym (read-filled file old u)

length-heights_in : (file : List ℕ) (n : ℕ) → length (heights_in file n) ≡ n
unfolding heights_in
length-heights_in file n = length-map (tenths_of file n) rounded ∙ length-tenths_of file n

heights_in-high : (file : List ℕ) (n : ℕ) → all is_tenths (tenths_of file n) ≡ true → all is_height (heights_in file n) ≡ true
unfolding heights_in
heights_in-high file n e = all_map is_tenths is_height rounded is_height-rounded (tenths_of file n) e

-- An accepted read leaves a plot that every other call takes.
pub read-plot : (file : List ℕ) (out : List ℤ) → (read_answer file out).code ≡ 0
    → Valid (plot (read_answer file out).rows (read_answer file out).columns (read_heights file out))
read-plot file out e =
    let v = sym (read-code file out) ∙ e in
    let r = read-valid file out v in
    rw (read-served file out v, read-filled file out v, r.room)
    (record { sides = r.sides; size = length-heights_in file (posts_in file); in_range = heights_in-high file (posts_in file) r.tenths })

-- "Reading rounds to whole millimetres, a half going to the even one": each height that an accepted read leaves is the nearest to a tenth of what is filed.
pub read-nearest :
    (file : List ℕ) (out : List ℤ)
    → (read_answer file out).code ≡ 0
    → (i : ℕ) → i < length out
    → Nearest (signed (word_at file (header_for (version_in file) + 4 * i))) 10 (get_or (read_heights file out) i (pos 0))
unfolding heights_in rounded
read-nearest file out e i h =
    let v = sym (read-code file out) ∙ e in
    let n = length-tenths_of file (length out) in
    rw (read-filled file out v, get_or-mapped rounded (tenths_of file (length out)) i (pos 0) (pos 0) (omega (arith, n)), get_or-tenths_of file (length out) i h)
    ((nearest-is (signed (word_at file (header_for (version_in file) + 4 * i))) 10 (omega arith) _).1 refl)

-- "A file we write reads back to the same millimetre heights": into any list of as many heights, with the same rows, columns and spacings.
pub round_trip :
    (pl : Plot) (s : Spacings) (file : List ℕ) (out : List ℤ)
    → (write_answer pl s file).code ≡ 0
    → length out ≡ posts pl
    → (read_answer (write_file pl s file) out ≡ record { code = 0; place = 0; rows = pl.rows; columns = pl.columns; east = s.east; south = s.south })
    × (read_heights (write_file pl s file) out ≡ pl.heights)
unfolding write_answer file_of bytes_of half_bytes
round_trip pl s file out e h =
    let w = write-valid pl s file e in
    let r = valid-read (file_of pl s) out (written-readable pl s file w out h) in
    rw (write-filled pl s file e, read-served (file_of pl s) out (ap (λ v. v.code) r), read-filled (file_of pl s) out (ap (λ v. v.code) r), spacings-back pl s file w, h)
    (refl, read_back pl s file w)

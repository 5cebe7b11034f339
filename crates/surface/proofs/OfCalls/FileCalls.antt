-- The outcomes of reading and of writing a file, by whether the call was accepted, and what acceptance says of them.
use Prim.Native.Nat.{ℕ, ◌+◌, ◌*◌, ◌-◌, ◌≤◌}
use native.Mathlib.Omega.{arith}
use mathlib.Core.Path.{◌≡◌, refl, ap}
use mathlib.Core.Bool.{Bool, true, false, cond, not, ◌||◌}
use mathlib.Core.List.{List}
use borrow.Author.Tests.{ltb-false, ne_eqb, le-ltb, not-false}
use lib.Dec.{eqb}
use lib.IntN.{ℤ}
use lib.ListN.{length, get_or}
use Rattle.surface.specs.Lists.{all}
use Rattle.surface.specs.Plot.{Plot, Sides, Valid}
use Rattle.surface.specs.Spacings.{Spaced}
use Rattle.surface.specs.SurveyFile.{version_in, header_for, stated_count, count_for, file_size, spacings_in, is_tenths, tenths_of, heights_in, file_of}
use Rattle.surface.specs.Refusals.{accepted, read_verdict, write_verdict}
use Rattle.surface.specs.Calls.{read_answer, read_heights, write_file}
use Rattle.surface.specs.declared.Spacings.{Spacings}
use Rattle.surface.proofs.General.Bools.{or_left, or_right}
use Rattle.surface.proofs.AnyOrder.Grid.{test-sides, sides-test}
use Rattle.surface.proofs.OfCalls.Verdicts.{passed, done, ◌⨟◌, clear-accepted, clear-by-post, settled-refused, settled-accepted}
use Rattle.surface.proofs.OfCalls.Accepted.{test-equal, equal-test, rows-valid, row15-spaced, row15-passes}

-- the bytes of rows and of columns, and the posts that they say
abbrev pub rows_in : List ℕ → ℕ
rows_in file = get_or file 5 0

abbrev pub columns_in : List ℕ → ℕ
columns_in file = get_or file 6 0

abbrev pub posts_in : List ℕ → ℕ
posts_in file = rows_in file * columns_in file

-- what an accepted read found
pub record ForRead (file : List ℕ) (hs : List ℤ) : Type 0 where
  pub version : (eqb (version_in file) 1 || eqb (version_in file) 2) ≡ true
  pub sides : Sides (rows_in file) (columns_in file)
  pub spaced : Spaced (spacings_in file)
  pub stated : stated_count file ≡ count_for (version_in file) (rows_in file) (columns_in file)
  pub size : length file ≡ file_size (version_in file) (rows_in file) (columns_in file)
  pub room : length hs ≡ posts_in file
  pub tenths : all is_tenths (tenths_of file (posts_in file)) ≡ true

-- seven bytes stand before the heights at least, eleven at most
pub header-bounds : (version : ℕ) → (7 ≤ header_for version) × (header_for version ≤ 11)
header-bounds version = go (eqb version 1)
  where
    go : (b : Bool) → (7 ≤ 5 + cond b 2 6) × (5 + cond b 2 6 ≤ 11)
    go true = omega arith
    go false = omega arith

module _ (file : List ℕ) (hs : List ℤ) where
  pub read-valid : (read_verdict file hs).code ≡ 0 → ForRead file hs
  unfolding read_verdict
  read-valid e =
      let row = passed _ tt e in
      let long : 7 ≤ length file = ltb-false _ _ (row 10) in
      let present : stated_count file ≡ length file - 5 = test-equal _ _ (or_left (not (eqb (stated_count file) (length file - 5))) _ (row 12)) in
      let stated : stated_count file ≡ count_for (version_in file) (rows_in file) (columns_in file) = test-equal _ _ (or_right (not (eqb (stated_count file) (length file - 5))) _ (row 12)) in
      record {
        version = not-false _ (row 11);
        sides = test-sides _ _ (not-false _ (row 1));
        spaced = row15-spaced (spacings_in file) (row 15);
        stated = stated;
        size = omega (arith, header-bounds (version_in file));
        room = test-equal _ _ (row 3);
        tenths = (clear-by-post is_tenths (λ _. 4) (tenths_of file (posts_in file))).0 (row 4);
      }

  pub valid-read : ForRead file hs → read_verdict file hs ≡ accepted
  unfolding read_verdict
  valid-read r =
      let present : stated_count file ≡ length file - 5 = omega (arith, r.stated, r.size) in
      clear-accepted (
      le-ltb (length file) 7 (omega (arith, r.size, header-bounds (version_in file)))
      ⨟ ap not r.version
      ⨟ le-ltb (length file) (header_for (version_in file)) (omega (arith, r.size))
      ⨟ ap not (sides-test r.sides)
      ⨟ row15-passes r.spaced
      ⨟ rw (equal-test (stated_count file) (length file - 5) present) (equal-test _ _ r.stated)
      ⨟ equal-test (length hs) (posts_in file) r.room
      ⨟ (clear-by-post is_tenths (λ _. 4) (tenths_of file (posts_in file))).1 r.tenths
      ⨟ done
      )

  pub read-code : (read_answer file hs).code ≡ (read_verdict file hs).code
  unfolding read_answer
  read-code = refl

  -- a refused read returns its number and place, and 0 for each other value, and leaves the heights
  pub read-refused : ((read_verdict file hs).code ≡ 0 → ⊥)
      → (read_answer file hs
      ≡ record { code = (read_verdict file hs).code; place = (read_verdict file hs).place; rows = 0; columns = 0; east = 0; south = 0 })
      × (read_heights file hs ≡ hs)
  unfolding read_answer read_heights
  read-refused n = (rw (ne_eqb (read_verdict file hs).code 0 n), settled-refused (read_verdict file hs) _ _ n)

  -- an accepted call returns 0 first
  pub read-served :
      (read_verdict file hs).code ≡ 0
      → read_answer file hs ≡ record { code = 0; place = 0; rows = rows_in file; columns = columns_in file; east = (spacings_in file).east; south = (spacings_in file).south }
  unfolding read_answer
  read-served e = rw (valid-read (read-valid e))

  pub read-filled : (read_verdict file hs).code ≡ 0 → read_heights file hs ≡ heights_in file (length hs)
  unfolding read_heights
  read-filled e = rw (valid-read (read-valid e), (read-valid e).room)

module _ (pl : Plot) (s : Spacings) (file : List ℕ) where
  -- a file is written of a plot, into a list of its size
  pub record ForWrite : Type 0 where
    pub valid : Valid pl
    pub spaced : Spaced s
    pub room : length file ≡ file_size 2 pl.rows pl.columns

  pub write-valid : (write_verdict pl s file).code ≡ 0 → ForWrite
  unfolding write_verdict
  write-valid e =
      let row = passed _ tt e in
      record { valid = rows-valid pl (row 1) (row 2) (row 4); spaced = row15-spaced s (row 15); room = test-equal _ _ (row 3) }

  -- a refused write leaves the file, and an accepted one fills it
  pub write-refused : ((write_verdict pl s file).code ≡ 0 → ⊥) → write_file pl s file ≡ file
  unfolding write_file
  write-refused n = settled-refused (write_verdict pl s file) _ _ n

  pub write-filled : (write_verdict pl s file).code ≡ 0 → write_file pl s file ≡ file_of pl s
  unfolding write_file
  write-filled e = settled-accepted (write_verdict pl s file) _ _ e

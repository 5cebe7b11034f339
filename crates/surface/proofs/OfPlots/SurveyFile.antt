-- The parts of a survey file: filed heights, and what they are rounded to.
use Prim.Native.Nat.{ℕ, zero, suc, ◌+◌, ◌*◌, ◌<◌, ◌≤◌}
use native.Mathlib.Numerals.{add-one}
use native.Mathlib.Omega.{arith}
use mathlib.Core.Path.{◌≡◌, refl, sym, ◌∙◌, ap}
use mathlib.Core.Bool.{true, not}
use mathlib.Core.List.{List, [], ◌∷◌, ◌++◌, append_assoc, append-nil}
use borrow.Author.Tests.{ltb-false, le-ltb, not-true}
use lib.IntN.{ℤ, pos, negsuc, neg_ℤ, ◌*ℤ◌}
use lib.Signed.{mag}
use lib.Ieee.Nearest.{closest, closest_mono}
use lib.ListN.{length, get_or, take, length-append}
use lib.Seq.{take-suc}
use Rattle.surface.specs.Lists.{list_of}
use Rattle.surface.specs.Plot.{is_height}
use Rattle.surface.specs.Rounding.{round_ties_to_even}
use Rattle.surface.specs.Words.{word_at, signed, unsigned, bytes_of}
use Rattle.surface.specs.SurveyFile.{version_in, header_for, is_tenths, tenths_of, rounded, filed_heights, heights_in}
use Rattle.surface.proofs.General.Bools.{and_left}
use Rattle.surface.proofs.General.Words.{length-bytes_of, word_at-skip, word_at-bytes_of, unsigned-low}
use Rattle.surface.proofs.General.Rounding.{round-times}
use Rattle.surface.proofs.General.ListOf.{length-list_of, get_or-list_of, map-list_of}

-- ---- ten times a height

tenfold-negsuc : (n : ℕ) → negsuc n *ℤ pos 10 ≡ negsuc (n * 10 + 9)
tenfold-negsuc n =
    let e : suc n * 10 ≡ suc (n * 10 + 9) = omega arith in
    rw e

pub rounded-tenfold : (z : ℤ) → rounded (z *ℤ pos 10) ≡ z
unfolding rounded
rounded-tenfold z = round-times z 10 (omega arith)

-- a height in range is in range in tenths
pub is_tenths-tenfold : (z : ℤ) → is_height z ≡ true → is_tenths (z *ℤ pos 10) ≡ true
is_tenths-tenfold (pos n) e = ap not (le-ltb 10000000 (n * 10) (omega (arith, ltb-false 1000000 n (not-true _ e))))
is_tenths-tenfold (negsuc n) e = rw (tenfold-negsuc n, le-ltb 9999999 (n * 10 + 9) (omega (arith, ltb-false 999999 n (not-true _ (and_left _ _ e)))))

pub mag-tenfold : (z : ℤ) → is_height z ≡ true → mag (z *ℤ pos 10) < 2147483648
mag-tenfold (pos n) e = omega (arith, ltb-false 1000000 n (not-true _ e))
mag-tenfold (negsuc n) e = rw (tenfold-negsuc n) (omega (arith, ltb-false 999999 n (not-true _ (and_left _ _ e))))

-- a filed height in range is rounded to a height in range
low-height : (k : ℕ) → k ≤ 1000000 → is_height (neg_ℤ (pos k)) ≡ true
low-height zero h = refl
low-height (suc k) h = rw (le-ltb 999999 k (omega arith))

tenth-height : (n : ℕ) → n ≤ 10000000 → closest n 10 ≤ 1000000
tenth-height n h = closest_mono n 10 10000000 10 (omega arith) (omega arith) (omega arith)

pub is_height-rounded : (t : ℤ) → is_tenths t ≡ true → is_height (rounded t) ≡ true
unfolding rounded round_ties_to_even
is_height-rounded (pos n) e = ap not (le-ltb 1000000 (closest n 10) (tenth-height n (ltb-false 10000000 n (not-true _ e))))
is_height-rounded (negsuc n) e = low-height (closest (suc n) 10) (tenth-height (suc n) (omega (arith, ltb-false 9999999 n (not-true _ (and_left _ _ e)))))

-- ---- what is read

module _ (file : List ℕ) (n : ℕ) where
  pub length-tenths_of : length (tenths_of file n) ≡ n
  unfolding tenths_of
  length-tenths_of = length-list_of _ n

  pub get_or-tenths_of : (i : ℕ) → i < n → get_or (tenths_of file n) i (pos 0) ≡ signed (word_at file (header_for (version_in file) + 4 * i))
  unfolding tenths_of
  get_or-tenths_of i h = get_or-list_of _ n i (pos 0) h

  pub heights_in-is : heights_in file n ≡ list_of (λ i. rounded (signed (word_at file (header_for (version_in file) + 4 * i)))) n
  unfolding heights_in tenths_of
  heights_in-is = map-list_of rounded _ n

-- ---- filed heights

pub length-filed_heights : (hs : List ℤ) → length (filed_heights hs) ≡ 4 * length hs
unfolding filed_heights
length-filed_heights [] = refl
length-filed_heights (z ∷ hs) = length-append (bytes_of (unsigned (z *ℤ pos 10))) (filed_heights hs) ∙ omega (arith, length-bytes_of (unsigned (z *ℤ pos 10)), length-filed_heights hs)

-- one height more, at the end
pub filed_heights-snoc : (hs : List ℤ) (z : ℤ) → filed_heights (hs ++ z ∷ []) ≡ filed_heights hs ++ bytes_of (unsigned (z *ℤ pos 10))
unfolding filed_heights
filed_heights-snoc [] z = append-nil (bytes_of (unsigned (z *ℤ pos 10)))
filed_heights-snoc (y ∷ hs) z = rw (filed_heights-snoc hs z) (sym (append_assoc (bytes_of (unsigned (y *ℤ pos 10))) (filed_heights hs) (bytes_of (unsigned (z *ℤ pos 10)))))

-- the word of post i is ten times its height
pub word_at-filed : (hs : List ℤ) (d : ℤ) (i : ℕ) → i < length hs → is_height (get_or hs i d) ≡ true → word_at (filed_heights hs) (4 * i) ≡ unsigned (get_or hs i d *ℤ pos 10)
unfolding filed_heights
word_at-filed [] d i h e = absurd (omega arith)
word_at-filed (z ∷ hs) d zero h e = word_at-bytes_of (unsigned (z *ℤ pos 10)) (filed_heights hs) (unsigned-low (z *ℤ pos 10) (mag-tenfold z e))
word_at-filed (z ∷ hs) d (suc i) h e =
    word_at-skip (bytes_of (unsigned (z *ℤ pos 10))) (filed_heights hs) (4 * suc i) (4 * i) (omega (arith, length-bytes_of (unsigned (z *ℤ pos 10))))
    ∙ word_at-filed hs d i (omega arith) e

pub filed_heights-take :
    (hs : List ℤ) (i : ℕ) → i < length hs
    → filed_heights (take (i + 1) hs) ≡ filed_heights (take i hs) ++ bytes_of (unsigned (get_or hs i (pos 0) *ℤ pos 10))
filed_heights-take hs i h = rw (add-one, take-suc hs i (pos 0) h) (filed_heights-snoc (take i hs) (get_or hs i (pos 0)))

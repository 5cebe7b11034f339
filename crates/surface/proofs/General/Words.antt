-- Numbers of two and of four bytes are read back as they were.
use Prim.Native.Nat.{ℕ, ◌+◌, ◌-◌, ◌*◌, ◌/◌, ◌%◌, ◌<◌}
use native.Mathlib.Nat.{div-div-eq-div-mul}
use native.Mathlib.Omega.{arith}
use mathlib.Core.Path.{◌≡◌, refl, ap}
use mathlib.Core.List.{List, ◌++◌}
use borrow.Author.Tests.{lt-ltb, le-ltb}
use lib.IntN.{ℤ, pos, negsuc}
use lib.Signed.{mag}
use lib.ListN.{length, get_or}
use lib.Seq.{get_or-append-add}
use Rattle.surface.specs.Words.{word_at, signed, unsigned, bytes_of}

pub length-bytes_of : (n : ℕ) → length (bytes_of n) ≡ 4
unfolding bytes_of
length-bytes_of n = refl

get_or-skip : (p q : List ℕ) (k j : ℕ) → k ≡ length p + j → get_or (p ++ q) k 0 ≡ get_or q j 0
get_or-skip p q k j e = rw e (get_or-append-add p q j 0)

-- a word that lies past the first part
pub word_at-skip : (p q : List ℕ) (k j : ℕ) → k ≡ length p + j → word_at (p ++ q) k ≡ word_at q j
unfolding word_at
word_at-skip p q k j e =
    rw (
      get_or-skip p q k j e,
      get_or-skip p q (k + 1) (j + 1) (omega arith),
      get_or-skip p q (k + 2) (j + 2) (omega arith),
      get_or-skip p q (k + 3) (j + 3) (omega arith),
    )

joined : (m k : ℕ) → m / 256 ≡ k → k * 256 + m % 256 ≡ m
joined m k e = omega arith

-- a number's four bytes are read back as the number
pub word_at-bytes_of : (n : ℕ) (q : List ℕ) → n < 4294967296 → word_at (bytes_of n ++ q) 0 ≡ n
unfolding word_at bytes_of
word_at-bytes_of n q h =
    let top : n / 16777216 % 256 ≡ n / 16777216 = omega arith in
    rw (
      top,
      joined (n / 65536) (n / 16777216) (div-div-eq-div-mul n 65536 256),
      joined (n / 256) (n / 65536) (div-div-eq-div-mul n 256 256),
      joined n (n / 256) refl,
    )

-- and the two bytes of one that has no more
pub half-joined : (n : ℕ) → n < 65536 → n / 256 % 256 * 256 + n % 256 ≡ n
half-joined n h = omega arith

pub unsigned-low : (z : ℤ) → mag z < 2147483648 → unsigned z < 4294967296
unfolding unsigned
unsigned-low (pos n) h = omega arith
unsigned-low (negsuc n) h = omega arith

pub signed-unsigned : (z : ℤ) → mag z < 2147483648 → signed (unsigned z) ≡ z
unfolding unsigned signed
signed-unsigned (pos n) h = rw (lt-ltb n 2147483648 h)
signed-unsigned (negsuc n) h = rw (le-ltb (4294967295 - n) 2147483648 (omega arith)) (ap negsuc (omega arith))

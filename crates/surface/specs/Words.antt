-- The numbers that survey files and settings sheets have, of two and of four bytes, big-endian.
use Rattle.std.specs.Prelude.{ℕ, ◌+◌, ◌-◌, ◌*◌, ◌/◌, ◌%◌, cond, List, [], ◌∷◌, ltb, ℤ, pos, negsuc, get_or}

-- the big-endian 32-bit number at byte i
unfoldable pub word_at : List ℕ → ℕ → ℕ
word_at file i = ((get_or file i 0 * 256 + get_or file (i + 1) 0) * 256 + get_or file (i + 2) 0) * 256 + get_or file (i + 3) 0

-- a 32-bit number read as signed, and a signed number as its 32 bits
unfoldable pub signed : ℕ → ℤ
signed n = cond (ltb n 2147483648) (pos n) (negsuc (4294967295 - n))

unfoldable pub unsigned : ℤ → ℕ
unsigned (pos n) = n
unsigned (negsuc n) = 4294967295 - n

-- the four bytes of a 32-bit number
unfoldable pub bytes_of : ℕ → List ℕ
bytes_of n = n / 16777216 % 256 ∷ n / 65536 % 256 ∷ n / 256 % 256 ∷ n % 256 ∷ []

-- the big-endian 16-bit number at byte i, and the two bytes of one
abbrev pub half_at : List ℕ → ℕ → ℕ
half_at file i = get_or file i 0 * 256 + get_or file (i + 1) 0

unfoldable pub half_bytes : ℕ → List ℕ
half_bytes n = n / 256 % 256 ∷ n % 256 ∷ []

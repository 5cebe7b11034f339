-- docs/SPECIFICATION.md, "Codes of a ring".
use Rattle.std.specs.Prelude.{ℕ, ◌≡◌, Bool, true, cond, ◌≢◌, List, map, leb, length, get_or}
use Rattle.std.specs.Int.Signed.{lt_z}
use Rattle.surface.specs.Lists.{list_of}
use Rattle.surface.specs.Plot.{Plot, height, virtual_pit, below, tied}
use Rattle.surface.specs.Edges.{ring_of, lower_runs}

-- 1 above by height, 2 above by tie, 3 below by height, 4 below by tie
abbrev pub code_for : Bool → Bool → ℕ
code_for is_below by_tie = cond is_below (cond by_tie 4 3) (cond by_tie 2 1)

-- how member q of p's ring stands to p; the virtual pit is below by height
unfoldable pub member_code : Plot → ℕ → ℕ → ℕ
member_code pl p q = code_for (below pl q p) (tied pl p q)

-- the codes of p's ring, in ring order
unfoldable pub codes_of : Plot → ℕ → List ℕ
codes_of pl p = map (member_code pl p) (ring_of pl p)

-- as eight bytes: a code for each member from the front, zeros after
abbrev pub ring_length : ℕ
ring_length = 8

unfoldable pub ring_bytes : Plot → ℕ → List ℕ
ring_bytes pl p = list_of (λ i. get_or (codes_of pl p) i 0) ring_length

-- k, the number of lower runs
abbrev pub runs_below : Plot → ℕ → ℕ
runs_below pl p = length (lower_runs (below pl) (ring_of pl) p)

-- What is proved of the codes (Grounds) speaks of them so: 3 and 4 say that a member is below, 1 and 2 that it is above;
abbrev pub says_below : ℕ → Bool
says_below c = leb 3 c

-- and each code says this of member q as seen from post p
pub data Says (pl : Plot) (p q : ℕ) : ℕ → Type 0 where
  above_by_height : q ≢ virtual_pit → lt_z (height pl p) (height pl q) ≡ true → Says pl p q 1
  above_by_tie : q ≢ virtual_pit → height pl q ≡ height pl p → below pl p q ≡ true → Says pl p q 2
  below_by_height : q ≢ virtual_pit → lt_z (height pl q) (height pl p) ≡ true → Says pl p q 3
  the_pit : q ≡ virtual_pit → Says pl p q 3
  below_by_tie : q ≢ virtual_pit → height pl q ≡ height pl p → below pl q p ≡ true → Says pl p q 4

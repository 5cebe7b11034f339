-- Between the definitions and the code: changes of side round a ring, and the pattern of eight signs that a table of changes is read by. (The calls'
-- promises do not speak of these.)
use Rattle.std.specs.Prelude.{ℕ, zero, suc, ◌+◌, ◌*◌, ◌/◌, ◌%◌, Bool, true, cond, not, ◌&&◌, List, [], ◌∷◌, ◌++◌, eqb, get_or}
use Rattle.surface.specs.Lists.{list_of, keep, any, last_or, one}
use Rattle.surface.specs.Plot.{Plot, below}
use Rattle.surface.specs.Edges.{Place, places, falls_in}
use Rattle.surface.specs.Flags.{mark_by}

-- changes of side along a list, `before` being the side of what stands before it; `s` tells the side of each element
unfoldable pub changes_from : {A : Type 0} → (A → Bool) → Bool → List A → ℕ
changes_from s before [] = 0
changes_from s before (x ∷ l) = one (s x && not before) + one (before && not (s x)) + changes_from s (s x) l

-- and round a list taken as a circle
unfoldable pub changes : {A : Type 0} → (A → Bool) → List A → ℕ
changes s [] = 0
changes s (x ∷ l) = changes_from s (s (last_or x l)) (x ∷ l)

-- the signs at the places round a post: whether the member is below the post; an absent place carries the sign of the last member before it, x where
-- none is
unfoldable pub carried : (ℕ → Bool) → Bool → List Place → List Bool
carried low x [] = []
carried low x (y ∷ l) =
    let g = cond y.taken (low y.member) x in
    g ∷ carried low g l

-- the eight signs of post p; place N is always there
unfoldable pub signs_at : Plot → ℕ → List Bool
signs_at pl p = carried (λ q. below pl q p) true (places pl.rows pl.columns (falls_in pl) p)

-- signs as a number, the first in its lowest binary digit
unfoldable pub pattern_of : List Bool → ℕ
pattern_of [] = 0
pattern_of (x ∷ l) = one x + 2 * pattern_of l

abbrev pub pattern_at : Plot → ℕ → ℕ
pattern_at pl p = pattern_of (signs_at pl p)

-- the first n signs of a pattern
unfoldable pub signs_of : ℕ → ℕ → List Bool
signs_of zero k = []
signs_of (suc n) k = eqb (k % 2) 1 ∷ signs_of n (k / 2)

-- the changes round the eight signs of a pattern
unfoldable pub changes_in : ℕ → ℕ
changes_in k = changes (λ x. x) (signs_of 8 k)

-- the table: for each pattern the number of its changes
unfoldable pub change_table : List ℕ
change_table = list_of changes_in 256

-- the mark that a pattern tells: half as many lower runs start as there are changes
unfoldable pub mark_in : ℕ → ℕ
mark_in k = mark_by (eqb (k % 2) 1) (changes_in k / 2)

-- the places, counted from i on, at which signs turn from true to false; `before` is the sign before them
unfoldable pub turns_from : ℕ → Bool → List Bool → List ℕ
turns_from i before [] = []
turns_from i before (x ∷ l) = keep (before && not x) i ++ turns_from (i + 1) x l

-- the places round a post at which its upper runs start, by its pattern; where every sign is false there is one run, which starts at the first place
unfoldable pub upper_starts : ℕ → List ℕ
upper_starts k = let l = signs_of 8 k in cond (any (λ x. x) l) (turns_from 0 (last_or true l) l) (0 ∷ [])

-- the table: for each pattern four entries, those places in order, 8 where there is no more
unfoldable pub start_table : List ℕ
start_table = list_of (λ i. get_or (upper_starts (i / 4)) (i % 4) 8) 1024

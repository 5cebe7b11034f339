-- Words for lists that the other files share. Places in a list count from 0.
use Rattle.std.specs.Prelude.{ℕ, zero, suc, ◌+◌, Bool, true, false, cond, not, ◌&&◌, ◌||◌, List, [], ◌∷◌, ◌++◌, length, drop, set}

-- f 0, f 1, .. f (n - 1)
unfoldable pub list_of : {A : Type 0} → (ℕ → A) → ℕ → List A
list_of f zero = []
list_of f (suc n) = list_of f n ++ f n ∷ []

-- the element where the test holds, else nothing
abbrev pub keep : {A : Type 0} → Bool → A → List A
keep b x = cond b (x ∷ []) []

-- the elements that pass the test, in order
unfoldable pub filter : {A : Type 0} → (A → Bool) → List A → List A
filter s [] = []
filter s (x ∷ l) = keep (s x) x ++ filter s l

-- some element passes the test
unfoldable pub any : {A : Type 0} → (A → Bool) → List A → Bool
any s [] = false
any s (x ∷ l) = s x || any s l

-- every element passes the test
unfoldable pub all : {A : Type 0} → (A → Bool) → List A → Bool
all s [] = true
all s (x ∷ l) = s x && all s l

-- the elements before the first that fails the test
unfoldable pub take_while : {A : Type 0} → (A → Bool) → List A → List A
take_while s [] = []
take_while s (x ∷ l) = cond (s x) (x ∷ take_while s l) []

-- the last element, or x where there is none
unfoldable pub last_or : {A : Type 0} → A → List A → A
last_or x [] = x
last_or x (y ∷ l) = last_or y l

-- 1 for true, 0 for false
abbrev pub one : Bool → ℕ
one b = cond b 1 0

-- how many elements pass the test
unfoldable pub count : {A : Type 0} → (A → Bool) → List A → ℕ
count s [] = 0
count s (x ∷ l) = one (s x) + count s l

-- the sum of a list of numbers
unfoldable pub total : List ℕ → ℕ
total [] = 0
total (x ∷ l) = x + total l

-- the place of the first element that fails the test, the length where none does
unfoldable pub first_not : {A : Type 0} → (A → Bool) → List A → ℕ
first_not s [] = 0
first_not s (x ∷ l) = cond (s x) (suc (first_not s l)) 0

-- a list with these elements at its front, where later ones keep their content
abbrev pub at_front : {A : Type 0} → List A → List A → List A
at_front new l = new ++ drop (length new) l

-- a list after n stores, one after the other: f (from), f (from + 1), .. at those places
unfoldable pub stores : {A : Type 0} → (ℕ → A) → ℕ → ℕ → List A → List A
stores f from zero l = l
stores f from (suc n) l = set (stores f from n l) (from + n) (f (from + n))

-- a flag, or its contrary
abbrev pub flipped : Bool → Bool → Bool
flipped h x = cond h (not x) x

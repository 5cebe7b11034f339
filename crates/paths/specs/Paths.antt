-- A list of next posts, and the paths that it makes.
use Rattle.std.specs.Prelude.{ℕ, zero, suc, ◌+◌, ◌≤◌, ◌<◌, ◌≡◌, List, length, get_or}

-- where a path goes on from p: to p's entry. What has no entry, as the virtual pit, it stays at
abbrev pub follow : List ℕ → ℕ → ℕ
follow l p = get_or l p p

-- where k steps lead
unfoldable pub along : List ℕ → ℕ → ℕ → ℕ
along l zero p = p
along l (suc k) p = along l k (follow l p)

-- the end of a path: as many steps as the list is long lead there
abbrev pub path_end : List ℕ → ℕ → ℕ
path_end l = along l (length l)

-- every path comes to an end, at which it stays
pub record PathsEnd (l : List ℕ) : Type 0 where
  pub stays : (p : ℕ) → follow l (path_end l p) ≡ path_end l p

-- the second list has shorter paths, however they were shortened: each entry is one further along the first list's path, or the same
pub record Shorter (l l' : List ℕ) : Type 0 where
  pub size : length l' ≡ length l
  pub further : (p : ℕ) → (k : ℕ) × (follow l' p ≡ along l (suc k) p)

-- the second list's paths end where those of the first do, and the ends are the entries of the posts told of, beside those that had them
pub record Settled (l l' : List ℕ) (Told : ℕ → Type 0) : Type 0 where
  pub size : length l' ≡ length l
  pub ends : PathsEnd l'
  pub same : (p : ℕ) → path_end l' p ≡ path_end l p
  pub keeps : (p : ℕ) → follow l p ≡ path_end l p → follow l' p ≡ path_end l p
  pub told : (p : ℕ) → Told p → follow l' p ≡ path_end l p

-- n posts from `first` on
abbrev pub InRow : ℕ → ℕ → ℕ → Type 0
InRow first n p = (first ≤ p) × (p < first + n)

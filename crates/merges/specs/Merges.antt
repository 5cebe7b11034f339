-- Bodies as a list has them in which the path from each post rises to an end, a post of its body, which names it. (Paths are those of paths/specs/Paths.)
use Rattle.std.specs.Prelude.{ℕ, ◌+◌, ◌<◌, ◌≡◌, ◌⊎◌, true, cond, not, ◌||◌, eqb, length}
use mathlib.Core.List.{List, Memᴰ}
use Rattle.surface.specs.Lists.{one}
use Rattle.surface.specs.Plot.{Plot, posts, below, Valid}
use Rattle.surface.specs.Bodies.{classes}
use Rattle.surface.specs.Names.{alike, merged}
use Rattle.paths.specs.Paths.{follow, path_end}

-- every entry is its post or one above it
pub record Rising (pl : Plot) (l : List ℕ) : Type 0 where
  pub valid : Valid pl
  pub size : length l ≡ posts pl
  pub rises : (p : ℕ) → p < posts pl → (follow l p ≡ p) ⊎ (below pl p (follow l p) ≡ true)
  pub inside : (p : ℕ) → p < posts pl → follow l p < posts pl

-- a list with the same ends
pub record SameEnds (pl : Plot) (l l' : List ℕ) : Type 0 where
  pub rising : Rising pl l'
  pub ends : (v : ℕ) → path_end l' v ≡ path_end l v

-- a post that is the end of its path
pub record End (pl : Plot) (l : List ℕ) (e : ℕ) : Type 0 where
  pub post : e < posts pl
  pub own : follow l e ≡ e

-- the bodies with the ends a and b became one, with the end r, which is one of them
pub record Linked (pl : Plot) (l l' : List ℕ) (a b r : ℕ) : Type 0 where
  pub rising : Rising pl l'
  pub end : End pl l' r
  pub either : (r ≡ a) ⊎ (r ≡ b)
  pub ends : (v : ℕ) → path_end l' v ≡ cond (eqb (path_end l v) a || eqb (path_end l v) b) r (path_end l v)

-- the body of post q was merged with the one with the end e, which has the end r now; n more than one became k, one more where it was another body
pub record MergedWith (pl : Plot) (l l' : List ℕ) (e q r n k : ℕ) : Type 0 where
  pub linked : Linked pl l l' e (path_end l q) r
  pub number : k ≡ n + one (not (eqb (path_end l q) e))

-- the bodies of these posts became one, with the end r, which was that of one of them; there were `splits` more than one
pub record Merged (pl : Plot) (l l' starts : List ℕ) (r splits : ℕ) : Type 0 where
  pub rising : Rising pl l'
  pub end : End pl l' r
  pub root : (m : ℕ) × (Memᴰ m starts × (r ≡ path_end l m))
  pub ends : (v : ℕ) → path_end l' v ≡ merged (path_end l) r starts v
  pub number : splits + 1 ≡ classes (alike (path_end l)) starts

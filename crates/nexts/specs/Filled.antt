-- Lists of a plot's size that are filled with next posts: one with next down and, where both are, one with next up.
use Rattle.std.specs.Prelude.{ℕ, ◌≡◌, Bool, true, cond, List, length}
use Rattle.surface.specs.Lists.{stores}
use Rattle.surface.specs.Plot.{Plot, posts, Valid}
use Rattle.surface.specs.Spacings.{Spaced}
use Rattle.surface.specs.Lines.{next, down, up}
use Rattle.surface.specs.declared.Spacings.{Spacings}

-- a plot, the spacings of its posts, and two lists, of which the first is of its size and, where both are filled, the second too
pub record ForNexts (pl : Plot) (s : Spacings) (both : Bool) (downs ups : List ℕ) : Type 0 where
  pub valid : Valid pl
  pub spaced : Spaced s
  pub downs_size : length downs ≡ posts pl
  pub ups_size : both ≡ true → length ups ≡ posts pl

-- downs₀ and ups₀ became downs and ups when the entries of n posts, from post `from` on, were filled, in the first list or in both
pub record NextsFilled (pl : Plot) (s : Spacings) (both : Bool) (from n : ℕ) (downs₀ ups₀ downs ups : List ℕ) : Type 0 where
  pub downward : downs ≡ stores (next (down pl s)) from n downs₀
  pub upward : ups ≡ cond both (stores (next (up pl s)) from n ups₀) ups₀

-- when those of every post were
abbrev pub AllFilled : Plot → Spacings → Bool → List ℕ → List ℕ → List ℕ → List ℕ → Type 0
AllFilled pl s both = NextsFilled pl s both 0 (posts pl)

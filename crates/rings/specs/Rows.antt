-- A row of posts that are worked out together.
use Rattle.std.specs.Prelude.{ℕ, ◌+◌, ◌*◌, ◌≤◌, ◌≡◌}

-- a row that is neither the top nor the bottom one, and starts at `base`
pub record Between (rows columns base : ℕ) : Type 0 where
  pub r : ℕ
  pub start : base ≡ r * columns
  pub under : columns ≤ base
  pub above : base + columns + columns ≤ rows * columns

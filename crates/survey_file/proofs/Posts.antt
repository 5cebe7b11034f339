-- How many posts a file's plot has: as many as its sides say, and 0 exactly where they are none of a plot.
use Prim.Native.Nat.{ℕ, ◌*◌, ◌≤◌, ◌<◌}
use native.Mathlib.Nat.{mul-le-mul}
use native.Mathlib.Omega.{arith}
use mathlib.Core.Path.{◌≡◌, refl, sym}
use mathlib.Core.Bool.{true, false, ◌&&◌, and-false}
use mathlib.Core.List.{List}
use lib.ListN.{length, get_or-eq_default}
use Rattle.surface.specs.Plot.{is_side, max_posts}
use Rattle.surface.proofs.General.Bools.{either}
use Rattle.surface.proofs.AnyOrder.Grid.{test-sides}
use Rattle.surface.proofs.OfCalls.FileCalls.{rows_in, columns_in}
use Rattle.survey_file.specs.Layout.{least_size, plot_posts}

module _ (file : List ℕ) where
  module _ (rows columns : ℕ) (r : rows ≡ rows_in file) (c : columns ≡ columns_in file) where
    pub plot-posts : is_side rows && is_side columns ≡ true → (rows * columns ≡ plot_posts file) × (rows * columns ≤ max_posts)
    unfolding plot_posts
    plot-posts h = (rw (← r, ← c, h), (test-sides rows columns h).few)

    pub no-posts : is_side rows && is_side columns ≡ false → 0 ≡ plot_posts file
    unfolding plot_posts
    no-posts h = rw (← r, ← c, h)

  pub short-posts : length file < least_size → 0 ≡ plot_posts file
  short-posts h = no-posts (rows_in file) 0 refl (sym (get_or-eq_default file 0 {n = 6} (omega arith))) (and-false (is_side (rows_in file)))

  -- and the other way round
  pub posts-plot : (plot_posts file ≡ 0 → ⊥) → is_side (rows_in file) && is_side (columns_in file) ≡ true
  posts-plot n = either _ (λ h. h) (λ h. absurd (n (sym (no-posts _ _ refl refl h))))

  pub posts-none : plot_posts file ≡ 0 → is_side (rows_in file) && is_side (columns_in file) ≡ false
  posts-none e =
      either _
      (λ h.
      let s = test-sides (rows_in file) (columns_in file) h in
      absurd (omega (arith, (plot-posts _ _ refl refl h).0, mul-le-mul s.tall s.wide)))
      (λ h. h)

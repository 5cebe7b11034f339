-- Rows of flags that were stored tell of the row below, or of the virtual pit.
use Prim.Native.Nat.{ℕ, ◌+◌, ◌-◌, ◌≤◌, ◌<◌}
use native.Mathlib.Omega.{arith}
use mathlib.Core.Path.{◌≡◌, refl, ◌∙◌}
use mathlib.Core.Bool.{Bool, true, false}
use mathlib.Core.List.{List}
use lib.ListN.{length, get_or}
use Rattle.surface.specs.Lists.{stores}
use Rattle.surface.specs.Plot.{Plot, posts, below, Valid}
use Rattle.surface.proofs.General.Stores.{stores-in, stores-out}
use Rattle.order.proofs.Level.{below-same}
use Rattle.flags.specs.Rows.{RowOf, PitAtSides, PitAtEnds, Side, South, Long}
use Rattle.flags.proofs.Beneath.{bottom-off, bottom-on}

-- what stores within a row leave of its ends
module _ (f : ℕ → Bool) (n : ℕ) (l₀ l : List Bool) (e : l ≡ stores f 1 n l₀) where
  pub first : {x : Bool} → get_or l₀ 0 false ≡ x → get_or l 0 false ≡ x
  first h = rw e (stores-out f 1 n l₀ 0 false (λ i j. omega arith)) ∙ h

  pub last : {x : Bool} (k : ℕ) → n < k → get_or l₀ k false ≡ x → get_or l k false ≡ x
  last k m h = rw e (stores-out f 1 n l₀ k false (λ i j. omega arith)) ∙ h

  -- and within
  pub inner : (c : ℕ) {x : Bool} → n < length l₀ → c < n → f (c + 1) ≡ x → get_or l (c + 1) false ≡ x
  inner c h i j = rw e (stores-in f 1 n l₀ (c + 1) false (omega arith) (omega arith) (omega arith)) ∙ j

pub side-stored : {pl : Plot} (base : ℕ) (side₀ side : List Bool) → Valid pl → pl.columns < length side₀ → PitAtSides pl.columns side₀
    → side ≡ stores (λ k. below pl (base + 1 + (k - 1)) (base + (k - 1))) 1 (pl.columns - 1) side₀
    → Side pl base side
side-stored {pl} base side₀ side valid h pit e =
    record {
      ends = record { west = first _ _ _ _ e pit.west; east = last _ _ _ _ e pl.columns (omega (arith, valid.sides.wide)) pit.east };
      along = λ c k. inner _ _ _ _ e c (omega arith) (omega arith) (below-same pl (omega arith) (omega arith));
    }

-- stores within the rows to the row below leave their ends
ends-left : {columns : ℕ} {south₀ fall₀ rise₀ south fall rise : List Bool} (f g h : ℕ → Bool) → 2 ≤ columns → PitAtEnds columns south₀ fall₀ rise₀
    → south ≡ stores f 1 columns south₀
    → fall ≡ stores g 1 (columns - 1) fall₀
    → rise ≡ stores h 1 (columns - 1) rise₀
    → PitAtEnds columns south fall rise
ends-left {columns} f g h wide pit s u r =
    record {
      south_first = first _ _ _ _ s pit.south_first;
      south_last = last _ _ _ _ s (columns + 1) (omega arith) pit.south_last;
      fall_first = first _ _ _ _ u pit.fall_first;
      fall_last = last _ _ _ _ u columns (omega arith) pit.fall_last;
      rise_first = first _ _ _ _ r pit.rise_first;
      rise_last = last _ _ _ _ r columns (omega arith) pit.rise_last;
    }

module _ {pl : Plot} (valid : Valid pl) {base : ℕ} (at : RowOf pl.rows pl.columns base) {south₀ fall₀ rise₀ under₀ south fall rise under : List Bool} (long : Long pl.columns south₀ fall₀ rise₀ under₀) (ends : PitAtEnds pl.columns south₀ fall₀ rise₀) (sides : PitAtSides pl.columns under₀) where
  -- by comparisons with the row below
  pub south-stored : base + pl.columns < posts pl
      → south ≡ stores (λ k. below pl (base + pl.columns + (k - 1)) (base + (k - 1))) 1 pl.columns south₀
      → fall ≡ stores (λ k. below pl (base + pl.columns + 1 + (k - 1)) (base + (k - 1))) 1 (pl.columns - 1) fall₀
      → rise ≡ stores (λ k. below pl (base + pl.columns + (k - 1)) (base + 1 + (k - 1))) 1 (pl.columns - 1) rise₀
      → under ≡ stores (λ k. below pl (base + pl.columns + 1 + (k - 1)) (base + pl.columns + (k - 1))) 1 (pl.columns - 1) under₀
      → South pl base south fall rise under
  south-stored more s f r u =
      let wide = valid.sides.wide in
      record {
        down = λ c h. rw (bottom-off valid at more c h) (inner _ _ _ _ s c long.south_long h (below-same pl (omega arith) (omega arith)));
        falls = λ _ c h. inner _ _ _ _ f c (omega (arith, long)) (omega arith) (below-same pl (omega arith) (omega arith));
        rises = λ _ c h. inner _ _ _ _ r c (omega (arith, long)) (omega arith) (below-same pl (omega arith) (omega arith));
        next = λ _. side-stored (base + pl.columns) under₀ under valid long.under_long sides u;
        beyond = λ i. absurd (omega arith);
        none = λ i. absurd (omega arith);
        ends = ends-left _ _ _ wide ends s f r;
      }

  -- by the virtual pit
  pub south-pit : posts pl ≤ base + pl.columns
      → south ≡ stores (λ _. true) 1 pl.columns south₀
      → fall ≡ stores (λ _. true) 1 (pl.columns - 1) fall₀
      → rise ≡ stores (λ _. true) 1 (pl.columns - 1) rise₀
      → under ≡ stores (λ _. false) 1 pl.columns under₀
      → South pl base south fall rise under
  south-pit over s f r u =
      let wide = valid.sides.wide in
      record {
        down = λ c h. rw (bottom-on valid at over c h) (inner _ _ _ _ s c long.south_long h refl);
        falls = λ i. absurd (omega arith);
        rises = λ i. absurd (omega arith);
        next = λ i. absurd (omega arith);
        beyond = λ _ c h. (inner _ _ _ _ f c (omega (arith, long)) (omega arith) refl, inner _ _ _ _ r c (omega (arith, long)) (omega arith) refl);
        none = λ _ c h. inner _ _ _ _ u c long.under_long h refl;
        ends = ends-left _ _ _ wide ends s f r;
      }

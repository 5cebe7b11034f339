-- A block of rows and columns stored afresh, a row at a time.
use Prim.Native.Nat.{ℕ, ◌+◌, ◌-◌, ◌*◌, ◌≤◌, ◌<◌, min}
use native.Mathlib.Omega.{arith}
use native.Mathlib.Decide.{ℕ_discrete}
use mathlib.Core.Path.{◌≡◌, refl, sym, ◌∙◌, ap, ap₂}
use mathlib.Core.Bool.{Bool, true, false, cond, ◌&&◌, and-false, true≢false}
use mathlib.Core.List.{List}
use lib.Dec.{leb, ltb}
use lib.ListN.{length, get_or}
use lib.Seq.{ext_get_or}
use borrow.Author.Tests.{leb-true, ltb-true, le-leb, lt-ltb, le-ltb}
use Rattle.surface.specs.Plot.{Plot, posts, row, column, Sides}
use Rattle.surface.specs.Marks.{near, touches, mark_at, redrawn}
use Rattle.surface.proofs.General.Bools.{either, same_test, and_left, and_right}
use Rattle.surface.proofs.General.ListOf.{length-list_of, get_or-list_of}
use Rattle.surface.proofs.AnyOrder.Grid.{post_is, row_is, column-lt, row_lt}
use Rattle.surface.specs.Lists.{stores}
use Rattle.surface.proofs.General.Stores.{length-stores, stores-in, stores-out}

-- a number in from, from + 1, .. to - 1
abbrev pub within : ℕ → ℕ → ℕ → Bool
within from to x = leb from x && ltb x to

within_none : (a x : ℕ) → within a a x ≡ false
within_none a x = either (leb a x) (λ e. rw (e, le-ltb x a (leb-true a x e))) (λ e. rw e)

within-other : (a b x : ℕ) → (x ≡ b → ⊥) → within a (b + 1) x ≡ within a b x
within-other a b x n =
    ap (λ (t : Bool). leb a x && t)
    (same_test (ltb x (b + 1)) (ltb x b) (λ e. lt-ltb x b (omega (arith, ltb-true x (b + 1) e))) (λ e. lt-ltb x (b + 1) (omega (arith, ltb-true x b e))))

within-last : (a b : ℕ) → a ≤ b → within a (b + 1) b ≡ true
within-last a b h = rw (le-leb a b h, lt-ltb b (b + 1) (omega arith))

within_end : (a b : ℕ) → within a b b ≡ false
within_end a b = rw (le-ltb b b (omega arith)) (and-false (leb a b))

-- the posts of rows r0 to r - 1 and columns c0 to c1 - 1 are stored afresh
pub record Painted (columns : ℕ) (f : ℕ → ℕ) (c0 c1 r0 r : ℕ) (l₀ l : List ℕ) : Type 0 where
  pub long : length l ≡ length l₀
  pub at : (j : ℕ) → j < length l₀ → get_or l j 0 ≡ cond (within r0 r (row columns j) && within c0 c1 (column columns j)) (f j) (get_or l₀ j 0)

module _ {rows columns : ℕ} (s : Sides rows columns) (f : ℕ → ℕ) (c0 c1 : ℕ) where
  pub painted-none : (r0 : ℕ) (l : List ℕ) → Painted columns f c0 c1 r0 r0 l l
  painted-none r0 l = record { long = refl; at = λ j h. rw (within_none r0 (row columns j)) }

  pub painted-more : (r0 r : ℕ) (l₀ l : List ℕ) → c0 ≤ c1 → c1 ≤ columns → r0 ≤ r → r * columns + columns ≤ length l₀ → Painted columns f c0 c1 r0 r l₀ l
      → Painted columns f c0 c1 r0 (r + 1) l₀ (stores f (r * columns + c0) (c1 - c0) l)
  painted-more r0 r l₀ l some fits h k p =
      record {
        long = length-stores f (r * columns + c0) (c1 - c0) l ∙ p.long;
        at = λ j m. go j m (ℕ_discrete (row columns j) r);
      }
    where
      go : (j : ℕ) → j < length l₀ → Dec (row columns j ≡ r)
          → get_or (stores f (r * columns + c0) (c1 - c0) l) j 0 ≡ cond (within r0 (r + 1) (row columns j) && within c0 c1 (column columns j)) (f j) (get_or l₀ j 0)
      go j m (yes e) =
          let k₀ = column columns j in
          let b : j ≡ r * columns + k₀ = sym (post_is columns j) ∙ ap (λ (x : ℕ). x * columns + k₀) e in
          rw (e, within-last r0 r h)
          (either (within c0 c1 k₀)
          (λ t.
          rw t
          (stores-in f (r * columns + c0) (c1 - c0) l j 0 (omega (arith, p.long)) (omega (arith, leb-true c0 k₀ (and_left (leb c0 k₀) (ltb k₀ c1) t)))
          (omega (arith, ltb-true k₀ c1 (and_right (leb c0 k₀) (ltb k₀ c1) t)))))
          (λ t. rw t (stores-out f (r * columns + c0) (c1 - c0) l j 0 (outside t) ∙ p.at j m ∙ rw (e, within_end r0 r))))
        where
          outside : within c0 c1 (column columns j) ≡ false → r * columns + c0 ≤ j → j < r * columns + c0 + (c1 - c0) → ⊥
          outside t a b =
              let k₀ = column columns j in
              let q : j ≡ r * columns + k₀ = sym (post_is columns j) ∙ ap (λ (x : ℕ). x * columns + k₀) e in
              let w : within c0 c1 k₀ ≡ true = rw (le-leb c0 k₀ (omega arith), lt-ltb k₀ c1 (omega arith)) in
              true≢false (sym w ∙ t)
      go j m (no e) =
          rw (within-other r0 r (row columns j) e)
          (stores-out f (r * columns + c0) (c1 - c0) l j 0 (λ a b. e (row_is s r (j - r * columns) (omega arith) (omega arith))) ∙ p.at j m)

-- the rows, or the columns, next to a
near_within : (a n b : ℕ) → b < n → within (a - 1) (min (a + 2) n) b ≡ near a b
near_within a n b h =
    ap₂ ◌&&◌
    (same_test (leb (a - 1) b) (leb a (b + 1)) (λ e. le-leb a (b + 1) (omega (arith, leb-true (a - 1) b e))) (λ e. le-leb (a - 1) b (omega (arith, leb-true a (b + 1) e))))
    (same_test (ltb b (min (a + 2) n)) (leb b (a + 1)) (λ e. le-leb b (a + 1) (omega (arith, ltb-true b (min (a + 2) n) e))) (λ e. lt-ltb b (min (a + 2) n) (omega (arith, leb-true b (a + 1) e))))

module _ (pl : Plot) (s : Sides pl.rows pl.columns) (post : ℕ) where
  pub painted-redrawn : (l₀ l : List ℕ) → length l₀ ≡ posts pl
      → Painted pl.columns (mark_at pl) (column pl.columns post - 1) (min (column pl.columns post + 2) pl.columns) (row pl.columns post - 1) (min (row pl.columns post + 2) pl.rows) l₀ l
      → l ≡ redrawn pl l₀ post
  unfolding redrawn touches
  painted-redrawn l₀ l e p =
      ext_get_or 0 l _ (p.long ∙ sym (length-list_of _ (length l₀)))
      (λ j h.
      let k : j < length l₀ = omega (arith, p.long) in
      let n : j < posts pl = omega arith in
      p.at j k
      ∙ ap (λ (t : Bool). cond t (mark_at pl j) (get_or l₀ j 0))
      (ap₂ ◌&&◌ (near_within (row pl.columns post) pl.rows (row pl.columns j) ((row_lt s pl.rows j).1 n)) (near_within (column pl.columns post) pl.columns (column pl.columns j) (column-lt s j)))
      ∙ sym (get_or-list_of _ (length l₀) j 0 k))

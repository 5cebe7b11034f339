-- From the head of a row to that of the next: the row's patterns are stored, and the upper halves of the next are known.
use Prim.Native.Nat.{ℕ, ◌+◌, ◌-◌, ◌*◌, ◌≤◌, ◌<◌}
use native.Mathlib.Omega.{arith}
use mathlib.Core.Path.{◌≡◌, sym, ◌∙◌, ap₂}
use mathlib.Core.Bool.{Bool}
use mathlib.Core.List.{List}
use lib.ListN.{length, get_or}
use Rattle.surface.specs.Lists.{stores}
use Rattle.surface.specs.Plot.{Plot, posts, Valid}
use Rattle.surface.specs.Flags.{upper_by, north_pair, west_pair}
use Rattle.surface.specs.Patterns.{pattern_at}
use Rattle.surface.proofs.General.Stores.{stores-in, stores_same}
use Rattle.surface.proofs.OfPlots.Patterns.{pattern-flags}
use Rattle.flags.specs.Rows.{RowOf, Side, South}
use Rattle.halves.specs.Halves.{upper_in, pattern_in}
use Rattle.halves.proofs.Halves.{halves-low}
use Rattle.heads.specs.Heads.{Head}
use Rattle.heads.proofs.Told.{lower-told}
use Rattle.heads.proofs.Turned.{upper-told}

-- where the patterns stand at the head of row r: the rows before it are done
pub record State (pl : Plot) (patterns₀ patterns : List ℕ) (side south fall rise under : List Bool) (upper pattern : List ℕ) (width r : ℕ) : Type 0 where
  pub wide : pl.columns ≤ width
  pub narrow : width ≤ 128
  pub side_long : length side ≡ 130
  pub south_long : length south ≡ 130
  pub fall_long : length fall ≡ 130
  pub rise_long : length rise ≡ 130
  pub under_long : length under ≡ 130
  pub upper_long : length upper ≡ 128
  pub pattern_long : length pattern ≡ 128
  pub head : r < pl.rows → Head pl (r * pl.columns) width side south fall rise under upper
  pub done : patterns ≡ stores (pattern_at pl) 0 (r * pl.columns) patterns₀

module _ {pl : Plot} (valid : Valid pl) {base : ℕ} (at : RowOf pl.rows pl.columns base) {width : ℕ} (wide : pl.columns ≤ width) {side south fall rise under : List Bool} (t : South pl base south fall rise under) where
  pub head-next : Side pl base side → base + pl.columns < posts pl → (upper₀ upper : List ℕ) → width ≤ length upper₀
      → upper ≡ stores (upper_in pl.highest side south fall rise under) 0 width upper₀
      → Head pl (base + pl.columns) width under south fall rise under upper
  head-next e more upper₀ upper room i =
      record {
        above =
            λ c h.
            rw i (stores-in (upper_in pl.highest side south fall rise under) 0 width upper₀ c 0 (omega arith) (omega arith) (omega arith))
            ∙ upper-told valid at more c h e t;
        low = halves-low pl.highest side south fall rise under width upper₀ upper room i;
        along = t.next more;
        ends = t.ends;
        sides = (t.next more).ends;
      }

  pub row-stored : (upper : List ℕ) → ((c : ℕ) → c < pl.columns → get_or upper c 0 ≡ upper_by (north_pair pl (base + c)) (west_pair pl (base + c))) → Side pl base side
      → (pattern₀ pattern patterns₀ patterns : List ℕ) → width ≤ length pattern₀
      → pattern ≡ stores (pattern_in pl.highest side south fall rise under upper) 0 width pattern₀
      → patterns ≡ stores (λ k. get_or pattern (k - base) 0) base pl.columns patterns₀
      → patterns ≡ stores (pattern_at pl) base pl.columns patterns₀
  row-stored upper above e pattern₀ pattern patterns₀ patterns room i j =
      rw j
      (stores_same _ _ base pl.columns patterns₀
      (λ c k.
      let x : base + c - base ≡ c = omega arith in
      rw (x, i)
      (stores-in (pattern_in pl.highest side south fall rise under upper) 0 width pattern₀ c 0 (omega arith) (omega arith) (omega arith)
      ∙ ap₂ ◌+◌ (above c k) (lower-told valid at c k e t)
      ∙ sym (pattern-flags (record { valid = valid; post = omega (arith, at) })))))

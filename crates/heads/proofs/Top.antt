-- The flags and the upper halves at the top row, as they are stored.
use Prim.Native.Nat.{ℕ, ◌+◌, ◌-◌, ◌≤◌, ◌<◌}
use native.Mathlib.Omega.{arith}
use native.Mathlib.Nat.{zero-mul}
use mathlib.Core.Path.{◌≡◌, sym, ◌∙◌, ap}
use mathlib.Core.Bool.{Bool, true, false, not}
use mathlib.Core.List.{List}
use lib.ListN.{length, get_or, set, length-set}
use lib.Seq.{get_or-set_same, get_or-set_other}
use Rattle.surface.specs.Lists.{stores}
use Rattle.surface.specs.Plot.{Plot, below, Valid}
use Rattle.surface.proofs.General.Stores.{length-stores, stores-in}
use Rattle.surface.proofs.AnyOrder.Grid.{row_fits}
use Rattle.order.proofs.Level.{below-same}
use Rattle.flags.specs.Rows.{PitAtSides}
use Rattle.flags.proofs.Stored.{first, last, inner}
use Rattle.halves.specs.Halves.{upper_in, Wide}
use Rattle.halves.proofs.Halves.{halves-low}
use Rattle.heads.specs.Heads.{Head, Blank}
use Rattle.heads.proofs.Turned.{First, upper_first}

module _ {pl : Plot} (valid : Valid pl) {width : ℕ} {side south₀ fall₀ rise₀ under₀ : List Bool} (long : Wide width side south₀ fall₀ rise₀ under₀) (wide : pl.columns ≤ width) (blank : Blank pl.columns side south₀ fall₀ rise₀) {under : List Bool} (told : under ≡ stores (λ k. below pl (0 + 1 + (k - 1)) (0 + (k - 1))) 1 (pl.columns - 1) (set (set under₀ pl.columns true) 0 (not (below pl pl.columns 0)))) where
  abbrev start : List Bool
  start = set (set under₀ pl.columns true) 0 (not (below pl pl.columns 0))

  start-long : length start ≡ length under₀
  start-long = length-set (set under₀ pl.columns true) 0 _ ∙ length-set under₀ pl.columns true

  columns : 2 ≤ pl.columns
  columns = valid.sides.wide

  under-west : get_or under 0 false ≡ not (below pl pl.columns 0)
  under-west =
      first _ _ _ _ told (get_or-set_same (set under₀ pl.columns true) 0 (not (below pl pl.columns 0)) false (omega (arith, length-set under₀ pl.columns true, long)))

  under-east : get_or under pl.columns false ≡ true
  under-east =
      last _ _ _ _ told pl.columns (omega (arith, columns))
      (get_or-set_other (set under₀ pl.columns true) 0 pl.columns (not (below pl pl.columns 0)) false (λ i. omega (arith, columns))
      ∙ get_or-set_same under₀ pl.columns true false (omega (arith, long)))

  under-along : (c : ℕ) → c + 1 < pl.columns → get_or under (c + 1) false ≡ below pl (0 + (c + 1)) (0 + c)
  under-along c h = inner _ _ _ _ told c (omega (arith, start-long, long)) (omega arith) (below-same pl (omega arith) (omega arith))

  -- above it
  above : First pl side (set south₀ (pl.columns + 1) true) fall₀ rise₀ under
  above =
      record {
        side_true = λ c h. blank.side_true c (omega arith);
        south_false = λ c h. get_or-set_other south₀ (pl.columns + 1) (c + 1) true false (λ i. omega arith) ∙ blank.south_false (c + 1) (omega arith);
        south_last = get_or-set_same south₀ (pl.columns + 1) true false (omega (arith, long));
        fall_false = λ c h. blank.fall_false c (omega arith);
        rise_false = λ c h. blank.rise_false (c + 1) (omega arith);
        west = under-west;
        along = under-along;
      }

  -- at its head
  after : (c : ℕ) → 1 ≤ c → get_or (set under 0 false) c false ≡ get_or under c false
  after c h = get_or-set_other under 0 c false false (λ i. omega arith)

  under-long : 0 < length under
  under-long = omega (arith, ap length told, length-stores (λ k. below pl (0 + 1 + (k - 1)) (0 + (k - 1))) 1 (pl.columns - 1) start, start-long, long)

  sides : PitAtSides pl.columns (set under 0 false)
  sides = record { west = get_or-set_same under 0 false false under-long; east = after pl.columns (omega (arith, columns)) ∙ under-east }

  pub top-told : (upper₀ upper : List ℕ) → width ≤ length upper₀ → upper ≡ stores (upper_in pl.highest side (set south₀ (pl.columns + 1) true) fall₀ rise₀ under) 0 width upper₀
      → Head pl 0 width (set under 0 false) (set south₀ (pl.columns + 1) true) (set fall₀ pl.columns true) (set rise₀ 0 true) (set under 0 false) upper
  top-told upper₀ upper room e =
      record {
        above =
            λ c h.
            rw e (stores-in _ 0 width upper₀ c 0 (omega arith) (omega arith) (omega arith))
            ∙ upper_first valid (record { r = 0; start = sym (zero-mul pl.columns); room = omega (arith, row_fits valid.sides) }) above c h;
        low = halves-low pl.highest side (set south₀ (pl.columns + 1) true) fall₀ rise₀ under width upper₀ upper room e;
        along =
            record {
              ends = sides;
              along = λ c h. after (c + 1) (omega arith) ∙ under-along c h;
            };
        ends =
            record {
              south_first = get_or-set_other south₀ (pl.columns + 1) 0 true false (λ i. omega arith) ∙ blank.south_false 0 (omega arith);
              south_last = get_or-set_same south₀ (pl.columns + 1) true false (omega (arith, long));
              fall_first = get_or-set_other fall₀ pl.columns 0 true false (λ i. omega (arith, columns)) ∙ blank.fall_false 0 (omega arith);
              fall_last = get_or-set_same fall₀ pl.columns true false (omega (arith, long));
              rise_first = get_or-set_same rise₀ 0 true false (omega (arith, long));
              rise_last = get_or-set_other rise₀ 0 pl.columns true false (λ i. omega (arith, columns)) ∙ blank.rise_false pl.columns (omega arith);
            };
        sides = sides;
      }

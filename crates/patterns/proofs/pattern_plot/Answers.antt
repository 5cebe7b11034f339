use Prim.Native.Nat.{ℕ, zero, suc, ◌+◌, ◌*◌, ◌<◌}
use native.Mathlib.Omega.{arith}
use native.Mathlib.Nat.{add-mul, one-mul, zero-mul, mul-le-mul_right}
use mathlib.Core.Path.{◌≡◌, refl, sym, ap, ◌∙◌}
use mathlib.Core.Bool.{Bool, true, false}
use lib.ListN.{get_or, replicate}
use Rattle.surface.specs.Lists.{stores}
use Rattle.surface.specs.Plot.{is_odd}
use Rattle.surface.proofs.General.Slices.{copy-stores}
use Rattle.surface.proofs.General.Stores.{stores-join, stores-all}
use Rattle.surface.proofs.AnyOrder.Grid.{row_is}
use Rattle.flags.specs.Rows.{RowOf}
use Rattle.flags.proofs.Beneath.{row_of}
use Rattle.patterns.proofs.Steps.{head-next, row-stored}
use Rattle.patterns.proofs.pattern_plot.Goals as goal
use Rattle.patterns.proofs.pattern_plot.Goals.{In-loop-r}

-- flags all alike
all_alike : (x : Bool) (n c : ℕ) → c < n → get_or (replicate n x) c false ≡ x
all_alike x zero c h = absurd (omega arith)
all_alike x (suc n) zero h = refl
all_alike x (suc n) (suc c) h = all_alike x n c (omega arith)

row : (i : In-loop-r) → let g = i.args.grid in RowOf g.rows g.columns (i.loop-r.r * g.columns)
row i = let g = i.args.grid in row_of g.rows g.columns i.loop-r.r i.loop-r-test.true

pub overflow_add-width : goal.overflow_add-width
overflow_add-width c = omega (arith, c.requires.0.sides)

pub overflow_mul-width : goal.overflow_mul-width
overflow_mul-width c = omega (arith, c.requires.0.sides)

pub top_row-requires : goal.top_row-requires
top_row-requires c =
    let f = c.requires.0 in
    let flags = all_alike false 130 in
    record {
      valid = f;
      flags =
          record {
            side_long = omega (arith, f.sides);
            south_long = omega (arith, f.sides);
            fall_long = omega (arith, f.sides);
            rise_long = omega (arith, f.sides);
            under_long = omega (arith, f.sides);
          };
      wide = omega arith;
      upper_long = omega (arith, f.sides);
      blank =
          record {
            side_true = λ c h. all_alike true 130 c (omega (arith, f.sides));
            south_false = λ c h. flags c (omega (arith, f.sides));
            fall_false = λ c h. flags c (omega (arith, f.sides));
            rise_false = λ c h. flags c (omega (arith, f.sides));
          };
    }

pub loop-r-init : goal.loop-r-init
unfolding stores
loop-r-init c =
    let f = c.requires.0 in
    let k = c.args.grid.columns in
    let t = c.top_row in
    record {
      wide = omega arith;
      narrow = omega (arith, f.sides);
      side_long = t.auto.under;
      south_long = t.auto.south;
      fall_long = t.auto.fall;
      rise_long = t.auto.rise;
      under_long = t.auto.under;
      upper_long = t.auto.upper;
      pattern_long = refl;
      head = λ _. rw (zero-mul k) t.ensures;
      done = rw (zero-mul k);
    }

pub south_rows-requires : goal.south_rows-requires
south_rows-requires c =
    let f = c.requires.0 in
    let v = c.loop-r.invariant in
    let h = v.head c.loop-r-test.true in
    record {
      valid = f;
      at = row (goal.at.south_rows-requires c).In-loop-r;
      parity = ap is_odd (sym (row_is f.sides c.loop-r.r 0 (omega (arith, f.sides)) (omega arith)));
      long =
          record {
            south_long = omega (arith, f.sides, v.south_long);
            fall_long = omega (arith, f.sides, v.fall_long);
            rise_long = omega (arith, f.sides, v.rise_long);
            under_long = omega (arith, f.sides, v.under_long);
          };
      ends = h.ends;
      sides = h.sides;
    }

pub pattern_row-requires : goal.pattern_row-requires
pattern_row-requires c =
    let v = c.loop-r.invariant in
    let s = c.south_rows in
    record {
      flags =
          record {
            side_long = omega (arith, v.side_long, v.narrow);
            south_long = omega (arith, s.auto.south, v.south_long, v.narrow);
            fall_long = omega (arith, s.auto.fall, v.fall_long, v.narrow);
            rise_long = omega (arith, s.auto.rise, v.rise_long, v.narrow);
            under_long = omega (arith, s.auto.under, v.under_long, v.narrow);
          };
      upper_long = omega (arith, v.upper_long, v.narrow);
      pattern_long = omega (arith, v.pattern_long, v.narrow);
      low = (v.head c.loop-r-test.true).low;
    }

pub loop-r-preserved : goal.loop-r-preserved
loop-r-preserved c =
    let turn = (goal.at.loop-r-preserved c).In-loop-r in
    let l = c.loop-r in
    let v = l.invariant in
    let a = c.args in
    let f = c.requires.0 in
    let k = a.grid.columns in
    let h = v.head c.loop-r-test.true in
    let s = c.south_rows in
    let p = c.pattern_row in
    let next : (l.r + 1) * k ≡ l.r * k + k = omega (arith, add-mul l.r 1 k, one-mul k) in
    record {
      wide = v.wide;
      narrow = v.narrow;
      side_long = s.auto.under ∙ v.under_long;
      south_long = s.auto.south ∙ v.south_long;
      fall_long = s.auto.fall ∙ v.fall_long;
      rise_long = s.auto.rise ∙ v.rise_long;
      under_long = s.auto.under ∙ v.under_long;
      upper_long = p.auto.upper ∙ v.upper_long;
      pattern_long = p.auto.pattern ∙ v.pattern_long;
      head =
          λ m.
          rw next
          (head-next f (row turn) v.wide s.ensures h.along (omega (arith, next, mul-le-mul_right k m, add-mul (l.r + 1) 1 k, one-mul k, f.sides)) l.upper _ (omega (arith, v.upper_long, v.narrow)) p.ensures.upper_after);
      done =
          stores-join _ 0 (l.r * k) (l.r * k) k ((l.r + 1) * k) a.patterns.now _ _ v.done
          (row-stored f (row turn) v.wide s.ensures l.upper h.above h.along l.pattern _ _ _ (omega (arith, v.pattern_long, v.narrow)) p.ensures.pattern_after
          (copy-stores (l.r * k) k (l.r * k + k) l.patterns _ _ 0 refl (omega (arith, row turn, l.auto.patterns, c.requires.1)) (omega (arith, p.auto.pattern, v.pattern_long, v.wide, v.narrow)) c.copy_from_slice.ensures.after))
          (omega arith)
          next;
    }

pub returns : goal.returns
returns c =
    let a = c.args in
    let e : c.loop-r.r ≡ a.grid.rows = omega (arith, c.loop-r-test.false, c.loop-r.auto.r-end) in
    c.loop-r.invariant.done ∙ rw e (stores-all _ (a.grid.rows * a.grid.columns) a.patterns.now 0 c.requires.1)

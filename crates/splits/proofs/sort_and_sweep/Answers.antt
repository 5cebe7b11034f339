-- Each step is lent what the one before it left.
use Prim.Native.Nat.{◌*◌}
use native.Mathlib.Omega.{arith}
use mathlib.Core.Path.{◌≡◌, sym, ◌∙◌, ap}
use lib.ListN.{length}
use Rattle.surface.specs.Lists.{list_of}
use Rattle.surface.proofs.General.ListOf.{length-list_of}
use Rattle.surface.proofs.General.Slices.{fill-all}
use Rattle.sweep.proofs.Sweeping.{lead-inside, leads-are, swept_none}
use Rattle.splits.proofs.sort_and_sweep.Goals as goal
use Rattle.splits.proofs.sort_and_sweep.Goals.{After-fill}

-- all splits are 0 at first
cleared : (k : After-fill) → let a = k.args in k.fill.new.self ≡ list_of (λ _. 0) (a.grid.rows * a.grid.columns)
cleared k = fill-all k.args.splits.now k.fill.new.self 0 (k.fill.ensures.after (λ y e. e)) ∙ ap (list_of (λ _. 0)) k.requires.valid.2

pub returns-then-m-eq0 : goal.returns-then-m-eq0
returns-then-m-eq0 c =
    swept_none _ c.requires.valid.0 c.if-m-eq0.true c.sort_saddles-m.ensures (cleared (goal.at.returns-then-m-eq0 c).After-fill)

pub fill_leads-requires : goal.fill_leads-requires
fill_leads-requires c =
    let v = c.requires.valid.0 in
    let e = c.requires.valid.1 in
    let n = ap length e ∙ length-list_of _ _ in
    record { columns_le_max_side = (v.sides.narrow, c.start_table-table.ensures, c.sort_saddles-m.auto.list ∙ c.requires.digits_len.1 ∙ sym n, omega (arith, n, v.sides.few)); by_index = lead-inside _ v e }

pub sweep-requires : goal.sweep-requires
sweep-requires c =
    let v = c.requires.valid.0 in
    let e = c.requires.valid.1 in
    record {
      valid = v;
      patterned = e;
      ascending = c.sort_saddles-m.ensures;
      tabled = c.start_table-table.ensures;
      led = c.fill_leads.ensures ∙ leads-are _ v e;
      cleared = cleared (goal.at.sweep-requires c).After-fill;
    }

-- Rows tell; within a row numbers do, turned in an odd one.
use native.Mathlib.Omega.{arith}
use mathlib.Core.Path.{◌≡◌, sym, ap, ◌∙◌}
use borrow.Author.Tests.{eq-eqb, ne_eqb}
use lib.Dec.{ltb}
use mathlib.Core.Bool.{Bool}
use Rattle.surface.specs.Plot.{row, directed, is_odd, driven_before}
use Rattle.surface.proofs.OfPlots.Driven.{rows_told, row-driven}
use Rattle.order.proofs.is_driven_before.Goals as goal
use Rattle.order.proofs.is_driven_before.Goals.{Else-r-s}

pub returns-then-r-s : goal.returns-then-r-s
returns-then-r-s c = let a = c.args in sym (rows_told a.grid.columns a.p a.q c.if-r-s.true)

-- in one row, odd or not
one-row : (c : Else-r-s) (odd : Bool) → let a = c.args in
    is_odd (row a.grid.columns a.p) ≡ odd
    → directed odd ltb a.p a.q ≡ driven_before a.grid.columns a.p a.q
one-row c odd e =
    let a = c.args in
    sym (row-driven a.grid.columns a.p a.q c.if-r-s.false ∙ ap (λ (b : Bool). directed b ltb a.p a.q) e)

pub returns-then-turned : goal.returns-then-turned
returns-then-turned c = one-row c.before _ (eq-eqb _ 1 c.if-turned.true)

pub returns : goal.returns
returns c = one-row c.before _ (ne_eqb _ 1 c.if-turned.false)

pub nonzero_div-r : goal.nonzero_div-r
nonzero_div-r c = omega (arith, c.requires)

pub nonzero_div-s : goal.nonzero_div-s
nonzero_div-s c = omega (arith, c.requires)

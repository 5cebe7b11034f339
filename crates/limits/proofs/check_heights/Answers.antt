-- Every height, or the first that is out of range.
use Prim.Native.Nat.{ℕ}
use mathlib.Core.Path.{◌≡◌, sym, ◌∙◌, ap}
use mathlib.Core.Bool.{true}
use Rattle.surface.specs.Lists.{all}
use Rattle.surface.specs.Plot.{is_height}
use Rattle.surface.proofs.General.Slices.{fold-all}
use Rattle.surface.proofs.OfCalls.Verdicts.{row-passed, none_left}
use Rattle.limits.proofs.Table.{range-passed, range-refused, found-first, found-none}
use Rattle.limits.proofs.check_heights.Goals as goal
use Rattle.limits.proofs.check_heights.Goals.{After-all_in}

tested : (c : After-all_in) → c.all_in.result ≡ all is_height c.args.heights.now
tested c = c.all_in.ensures ∙ fold-all is_height true c.args.heights.now

pub returns-then-all_in : goal.returns-then-all_in
returns-then-all_in c = sym (range-passed c.args.heights.now (sym (tested c.before) ∙ c.if-all_in.true))

pub returns-in-Some : goal.returns-in-Some
returns-in-Some c =
    let hs = c.args.heights.now in
    let first = found-first hs c.in-Some.post c.in-Some.ensures in
    sym (range-refused hs (sym (tested (goal.at.returns-in-Some c).After-all_in) ∙ c.if-all_in.false) ∙ ap (λ (p : ℕ). record { code = 4; place = p }) first)

pub returns-in-None : goal.returns-in-None
returns-in-None c = sym (row-passed _ _ (found-none c.args.heights.now c.in-None.ensures) ∙ none_left)

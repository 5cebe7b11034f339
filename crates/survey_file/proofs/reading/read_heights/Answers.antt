use Prim.Native.Nat.{ℕ}
use mathlib.Core.Path.{◌≡◌, sym, ◌∙◌, ap}
use mathlib.Core.List.{List}
use native.Mathlib.Omega.{arith}
use borrow.Author.Rules.{rules}
use lib.IntN.{ℤ}
use mir.Syntax.{w32}
use mir.Val.{to_z, of_z}
use Rattle.surface.specs.SurveyFile.{rounded}
use Rattle.surface.proofs.General.ListOf.{filled_none, filled_more, filled-all}
use Rattle.surface.proofs.OfPlots.SurveyFile.{heights_in-is}
use Rattle.survey_file.proofs.reading.read_heights.Goals as goal
use Rattle.survey_file.proofs.reading.read_heights.Invariants.{height}
use Rattle.survey_file.proofs.reading.read_heights.Goals.{After-tenths_at, At-loop-i}

-- the file and the list as it was lent, seen from the loop's head
module _ (l : At-loop-i) where
  abbrev F : List ℕ
  F = l.args.file.now

  abbrev H₀ : List ℤ
  H₀ = l.args.heights.now

-- a filed height's bits are read back as the height
bits : (c : After-tenths_at) → to_z w32 (of_z w32 c.tenths_at.result) ≡ c.tenths_at.result
bits c = search rules

pub loop-i-preserved : goal.loop-i-preserved
loop-i-preserved c =
    let head = (goal.at.loop-i-preserved c).At-loop-i in
    let r : to_z w32 (of_z w32 c.round.result) ≡ c.round.result = search rules in
    let v = r ∙ (rw (bits (goal.at.loop-i-preserved c).After-tenths_at) at c.round.ensures) ∙ ap rounded (rw c.header_size-header.ensures at c.tenths_at.ensures) in
    filled_more (height (F head)) (H₀ head) c.loop-i.i c.loop-i.heights _ (omega arith) c.loop-i.invariant v

pub returns : goal.returns
returns c =
    let head = (goal.at.returns c).At-loop-i in
    filled-all (height (F head)) (H₀ head) c.loop-i.i c.loop-i.heights (omega arith) c.loop-i.invariant ∙ sym (heights_in-is (F head) _)

pub loop-i-init : goal.loop-i-init
loop-i-init c = filled_none _ _

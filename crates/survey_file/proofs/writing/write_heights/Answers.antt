use Prim.Native.Nat.{ℕ}
use mathlib.Core.Path.{◌≡◌, refl}
use mathlib.Core.List.{List}
use native.Mathlib.Omega.{arith}
use borrow.Author.Rules.{rules}
use lib.IntN.{ℤ, pos}
use lib.ListN.{get_or}
use mir.Syntax.{w32}
use mir.Val.{to_z, of_z}
use Rattle.surface.specs.Plot.{is_height}
use Rattle.surface.specs.SurveyFile.{filed_heights}
use Rattle.surface.proofs.General.FirstNot.{all-at}
use Rattle.survey_file.proofs.Stores.{filed-more}
use Rattle.survey_file.proofs.writing.write_heights.Goals as goal
use Rattle.survey_file.proofs.writing.write_heights.Goals.{At-loop-i}

-- the heights, and the file as it was lent, seen from the loop's head
module _ (l : At-loop-i) where
  abbrev H : List ℤ
  H = l.args.heights.now

  abbrev F₀ : List ℕ
  F₀ = l.args.file.now

  abbrev h : ℤ
  h = get_or H l.loop-i.i (pos 0)

pub loop-i-init : goal.loop-i-init
unfolding filed_heights
loop-i-init c = refl

-- a height's bits are read back as the height
pub filed-requires : goal.filed-requires
filed-requires c =
    let head = (goal.at.filed-requires c).At-loop-i in
    let bits : to_z w32 (of_z w32 (h head)) ≡ h head = search rules in
    rw bits (all-at is_height (H head) (pos 0) refl c.requires.heights_value_2 c.loop-i.i)

pub loop-i-preserved : goal.loop-i-preserved
loop-i-preserved c =
    let head = (goal.at.loop-i-preserved c).At-loop-i in
    let bits : to_z w32 (of_z w32 (h head)) ≡ h head = search rules in
    let n = rw bits at c.filed.ensures in
    rw (c.put_word.ensures, c.loop-i.invariant) (filed-more (H head) (F₀ head) c.loop-i.i _ (omega arith) n)

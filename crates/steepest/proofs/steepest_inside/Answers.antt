-- Four cases, by the direction and the rule.
use mathlib.Core.Path.{◌≡◌, ◌∙◌}
use mathlib.Core.Bool.{Bool, true, false}
use lib.IntN.{ℤ}
use Rattle.surface.specs.declared.Spacings.{Spacings}
use Rattle.steepest.specs.Slopes.{steepest_of}
use Rattle.keys.specs.declared.Block.{Block}
use Rattle.keys.proofs.KeyNumbers.{bits_of}
use Rattle.steepest.proofs.steepest_inside.Goals as goal

in-case : (up highest u h : Bool) (s : Spacings) (b : Block) (r : ℤ) → up ≡ u → highest ≡ h → r ≡ steepest_of u h s b → r ≡ steepest_of up highest s b
in-case up highest u h s b r e f k = rw (e, f) k

pub returns-then-highest : goal.returns-then-highest
returns-then-highest c =
    in-case _ _ true true _ _ _ c.if-up.true c.if-highest.true
    (bits_of c.steepest_by.result c.steepest_by.type_inv ∙ rw c.block_inside-b.ensures at c.steepest_by.ensures)

pub returns-then-up : goal.returns-then-up
returns-then-up c =
    in-case _ _ true false _ _ _ c.if-up.true c.if-highest.false
    (bits_of c.steepest_by-then-up.result c.steepest_by-then-up.type_inv ∙ rw (c.keep_corners.ensures, c.block_inside-b.ensures) at c.steepest_by-then-up.ensures)

pub returns-then-highest-2 : goal.returns-then-highest-2
returns-then-highest-2 c =
    in-case _ _ false true _ _ _ c.if-up.false c.if-highest-2.true
    (bits_of c.steepest_by-then-highest-2.result c.steepest_by-then-highest-2.type_inv ∙ rw (c.keep_corners-then-highest-2.ensures, c.block_inside-b.ensures) at c.steepest_by-then-highest-2.ensures)

pub returns : goal.returns
returns c =
    in-case _ _ false false _ _ _ c.if-up.false c.if-highest-2.false
    (bits_of c.steepest_by-2.result c.steepest_by-2.type_inv ∙ rw c.block_inside-b.ensures at c.steepest_by-2.ensures)

pub block_inside-b-requires : goal.block_inside-b-requires
block_inside-b-requires c = (c.requires.0, c.requires.1, c.requires.2)

pub steepest_by-requires : goal.steepest_by-requires
steepest_by-requires c = c.requires.3

pub steepest_by-requires-then-up : goal.steepest_by-requires-then-up
steepest_by-requires-then-up c = c.requires.3

pub steepest_by-requires-then-highest-2 : goal.steepest_by-requires-then-highest-2
steepest_by-requires-then-highest-2 c = c.requires.3

pub steepest_by-requires-2 : goal.steepest_by-requires-2
steepest_by-requires-2 c = c.requires.3

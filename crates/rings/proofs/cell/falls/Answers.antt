-- The diagonal by five comparisons.
use Prim.Native.Nat.{◌+◌}
use mathlib.Core.Path.{◌≡◌, refl, sym, ap, ◌∙◌}
use native.Mathlib.Omega.{arith}
use mathlib.Core.Bool.{Bool, not, ◌&&◌, ◌||◌, beq}
use Rattle.surface.specs.Plot.{plot_of, below}
use Rattle.surface.specs.Lists.{flipped}
use Rattle.surface.proofs.General.Bools.{xor-flipped}
use Rattle.surface.proofs.AnyOrder.CellFlags.{falls_by, falls-by-flags}
use Rattle.surface.proofs.OfPlots.Driven.{far-told, east-told, south-told}
use Rattle.surface.proofs.OfPlots.HeightOrder.{below-strict}
use Rattle.rings.proofs.cell.falls.Goals as goal

flags : (h e s se s' e' : Bool)
    → let by : Bool → Bool = λ x. not (beq x h) in
    not (by e) && not (by s) && not (by se) || by se && by s' && by e' ≡ falls_by (flipped h e) (flipped h s) (flipped h se) (flipped h s') (flipped h e')
flags h e s se s' e' = rw (xor-flipped e h, xor-flipped s h, xor-flipped se h, xor-flipped s' h, xor-flipped e' h)

pub is_odd_row-odd-requires : goal.is_odd_row-odd-requires
is_odd_row-odd-requires c = omega (arith, c.requires.0.sides)

pub is_below_by-requires : goal.is_below_by-requires
is_below_by-requires c =
    let s = c.requires.0.sides in
    (c.requires.0, omega (arith, c.requires.1), omega (arith, c.requires.1), c.is_odd_row-odd.ensures ∙ sym (east-told s c.args.a (c.args.a + 1) c.requires.2 refl).first)

pub is_below_by-requires-2 : goal.is_below_by-requires-2
is_below_by-requires-2 c =
    let s = c.requires.0.sides in
    (c.requires.0, omega (arith, c.requires.1), omega (arith, c.requires.1), sym (far-told s c.args.a _ (omega arith)).second)

pub is_below_by-requires-3 : goal.is_below_by-requires-3
is_below_by-requires-3 c =
    let s = c.requires.0.sides in
    (c.requires.0, omega (arith, c.requires.1), omega (arith, c.requires.1), sym (far-told s c.args.a _ (omega arith)).second)

pub is_below_by-requires-4 : goal.is_below_by-requires-4
is_below_by-requires-4 c =
    let s = c.requires.0.sides in
    (c.requires.0, omega (arith, c.requires.1), omega (arith, c.requires.1), sym (far-told s (c.args.a + 1) _ (omega arith)).second)

pub is_below_by-requires-5 : goal.is_below_by-requires-5
is_below_by-requires-5 c =
    let s = c.requires.0.sides in
    (c.requires.0, omega (arith, c.requires.1), omega (arith, c.requires.1), ap not c.is_odd_row-odd.ensures ∙ sym (south-told s c.args.a c.requires.2).first)

pub returns : goal.returns
returns c =
    let pl = plot_of c.args.grid c.args.heights.now in
    let a = c.args.a in
    let k = pl.columns in
    let h = c.args.turned in
    rw (
      c.is_below_by-5.ensures,
      c.is_below_by-4.ensures,
      c.is_below_by-3.ensures,
      c.is_below_by-2.ensures,
      c.is_below_by.ensures,
    )
    (flags h (below pl (a + 1) a) (below pl (a + k) a) (below pl (a + k + 1) a) (below pl (a + k + 1) (a + 1)) (below pl (a + k + 1) (a + k))
    ∙ sym (falls-by-flags (below pl) (below-strict pl) h k a c.requires.0.sides.wide))

-- The four pairs.
use native.Mathlib.Omega.{arith}
use Rattle.surface.proofs.OfPlots.Patterns.{pattern-flags}
use Rattle.post.proofs.pattern.pattern_at.Goals as goal

pub overflow_add-result-2 : goal.overflow_add-result-2
overflow_add-result-2 c =
    omega (
      arith,
      c.west_pair-west.ensures.1,
      c.south_pair-south.ensures.1,
      c.east_pair-east.ensures.1,
      c.north_pair-north.ensures.1,
    )

pub overflow_add-result-3 : goal.overflow_add-result-3
overflow_add-result-3 c =
    omega (
      arith,
      c.west_pair-west.ensures.1,
      c.south_pair-south.ensures.1,
      c.east_pair-east.ensures.1,
      c.north_pair-north.ensures.1,
    )

pub returns : goal.returns
returns c =
    rw (
      pattern-flags c.requires,
      c.west_pair-west.ensures.0,
      c.south_pair-south.ensures.0,
      c.east_pair-east.ensures.0,
      c.north_pair-north.ensures.0,
    )
    (omega arith)

pub is_odd_row-odd-requires : goal.is_odd_row-odd-requires
is_odd_row-odd-requires c = omega (arith, c.requires.valid.sides)

pub north_pair-north-requires : goal.north_pair-north-requires
north_pair-north-requires c = (c.requires, c.borders_of-at.ensures)

pub east_pair-east-requires : goal.east_pair-east-requires
east_pair-east-requires c = (c.requires, c.borders_of-at.ensures, c.is_odd_row-odd.ensures)

pub south_pair-south-requires : goal.south_pair-south-requires
south_pair-south-requires c = (c.requires, c.borders_of-at.ensures)

pub west_pair-west-requires : goal.west_pair-west-requires
west_pair-west-requires c = (c.requires, c.borders_of-at.ensures, c.is_odd_row-odd.ensures)

pub overflow_mul-result : goal.overflow_mul-result
overflow_mul-result c = omega (arith, c.south_pair-south.ensures.1)

pub overflow_add-result : goal.overflow_add-result
overflow_add-result c = omega (arith, c.south_pair-south.ensures.1, c.east_pair-east.ensures.1)

pub overflow_mul-result-2 : goal.overflow_mul-result-2
overflow_mul-result-2 c = omega (arith, c.south_pair-south.ensures.1, c.east_pair-east.ensures.1)

pub overflow_mul-result-3 : goal.overflow_mul-result-3
overflow_mul-result-3 c = omega (arith, c.west_pair-west.ensures.1)

-- Below or not, of one height or not.
use mathlib.Core.Path.{◌∙◌}
use mathlib.Core.Logic.{inl}
use Rattle.surface.specs.Codes.{member_code}
use Rattle.ring.proofs.codes.code_of.Goals as goal

pub is_below-below-requires : goal.is_below-below-requires
is_below-below-requires c = (c.requires.0.valid, c.requires.1, inl c.requires.0.post)

pub returns : goal.returns
unfolding member_code
returns c = c.code_by.ensures ∙ rw (c.is_below-below.ensures, c.is_tied-tied.ensures)

pub is_tied-tied-requires : goal.is_tied-tied-requires
is_tied-tied-requires c = c.requires

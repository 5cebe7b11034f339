-- A pattern is a byte, and the table has an entry for each.
use Prim.Native.Nat.{ℕ, ◌<◌}
use native.Mathlib.Omega.{arith}
use mathlib.Core.Path.{◌≡◌, ◌∙◌, ap}
use mathlib.Core.List.{List}
use lib.Dec.{leb}
use lib.ListN.{length, get_or}
use Rattle.surface.specs.Lists.{one}
use Rattle.surface.specs.Patterns.{changes_in, change_table}
use Rattle.surface.proofs.General.Bools.{flag}
use Rattle.surface.proofs.General.ListOf.{length-list_of}
use Rattle.surface.proofs.OfPlots.Patterns.{table_at}
use Rattle.driven_saddles.proofs.saddle_at.Goals as goal
use Rattle.driven_saddles.proofs.saddle_at.Goals.{After-shared_slice_known-1, Start}

abbrev pattern : Start → ℕ
pattern s = get_or s.args.patterns.now s.args.p 0

small : (c : After-shared_slice_known-1) → pattern (goal.at.After-shared_slice_known-1 c).Start < 256
small c = omega (arith, c.shared_slice_known-1.given c.args.p)

pub bounds-changes-patterns : goal.bounds-changes-patterns
unfolding change_table
bounds-changes-patterns c = omega (arith, small (goal.at.bounds-changes-patterns c).After-shared_slice_known-1, ap length c.requires.0 ∙ length-list_of changes_in 256)

-- it tells how many changes there are
read : (c : After-shared_slice_known-1) → get_or c.args.changes.now (pattern (goal.at.After-shared_slice_known-1 c).Start) 0 ≡ changes_in (pattern (goal.at.After-shared_slice_known-1 c).Start)
read c = ap (λ (l : List ℕ). get_or l (pattern (goal.at.After-shared_slice_known-1 c).Start) 0) c.requires.0 ∙ table_at (pattern (goal.at.After-shared_slice_known-1 c).Start) (small c)

pub returns : goal.returns
returns c =
    let f = flag (leb 4 (get_or c.args.changes.now (pattern (goal.at.returns c).Start) 0)) in
    (f.0 ∙ ap (λ (k : ℕ). one (leb 4 k)) (read (goal.at.returns c).After-shared_slice_known-1), f.1)

pub overflow_cast-result-2 : goal.overflow_cast-result-2
overflow_cast-result-2 c = tt

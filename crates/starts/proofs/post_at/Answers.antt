-- A sum and a difference, both in range.
use Prim.Native.Nat.{◌≤◌}
use native.Mathlib.Omega.{arith}
use mathlib.Core.Path.{◌≡◌, refl, ap}
use lib.ListN.{length, get_or}
use Rattle.starts.specs.Starts.{strides}
use Rattle.starts.proofs.Entries.{strides-small}
use Rattle.starts.proofs.post_at.Goals as goal
use Rattle.starts.proofs.post_at.Goals.{After-shared_slice_known-1}

pub bounds-steps-place : goal.bounds-steps-place
unfolding strides
bounds-steps-place c = omega (arith, ap length c.requires.0)

-- the entry, which is small
stride : (c : After-shared_slice_known-1) → let a = c.args in
    (get_or a.steps.now a.place 0 ≡ get_or (strides a.columns) a.place 0) × (get_or a.steps.now a.place 0 ≤ 242)
stride c = let a = c.args in let p = c.requires in rw p.0 (refl, strides-small a.columns a.place p.1)

pub overflow_add-result : goal.overflow_add-result
overflow_add-result c = omega (arith, (stride c).1)

pub overflow_sub-result : goal.overflow_sub-result
overflow_sub-result c = omega (arith, (stride c).0)

pub returns : goal.returns
returns c = (omega (arith, (stride c).0), omega (arith, (stride c).1))

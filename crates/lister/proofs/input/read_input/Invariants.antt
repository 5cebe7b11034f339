use Rattle.std.proofs.Common.{length, ◌-◌, ◌≤◌}
use Rattle.lister.proofs.input.read_input.Given as goal

abbrev pub invariant-loop-bytes : goal.invariant-loop-bytes
invariant-loop-bytes g l = l.bytes ≤ length l.initial.file

abbrev pub decreases-loop-bytes : goal.decreases-loop-bytes
decreases-loop-bytes g l = length l.initial.file - l.bytes

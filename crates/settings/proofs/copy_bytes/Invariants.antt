-- The loop's invariant: i bytes were stored.
use Rattle.std.proofs.Common.{◌≡◌, ◌+◌, get_or}
use Rattle.surface.specs.Lists.{stores}
use Rattle.settings.proofs.copy_bytes.Given as goal

abbrev pub invariant-loop-i : goal.invariant-loop-i
invariant-loop-i l = l.list ≡ stores (λ k. get_or l.sheet (l.at + k) 0) 0 l.i l.initial.list

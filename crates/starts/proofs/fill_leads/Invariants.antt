-- The loop's invariant: the entries before this one were stored.
use mathlib.Core.Path.{◌≡◌}
use lib.ListN.{get_or}
use Rattle.surface.specs.Lists.{stores}
use Rattle.starts.specs.Starts.{post_at, first_start}
use Rattle.starts.proofs.fill_leads.Given as goal

abbrev pub invariant-loop-p : goal.invariant-loop-p
invariant-loop-p l = l.leads ≡ stores (λ p. post_at l.columns p (first_start (get_or l.patterns p 0))) 0 l.p l.fn.leads

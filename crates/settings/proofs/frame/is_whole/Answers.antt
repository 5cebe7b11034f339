use Prim.Native.Nat.{ℕ, ◌+◌, ◌-◌, ◌≤◌}
use native.Mathlib.Omega.{arith}
use mathlib.Core.Path.{◌≡◌, sym, ◌∙◌}
use borrow.Author.Tests.{eqb-true, eqb-false, eq-eqb, ne_eqb}
use lib.Dec.{eqb}
use lib.ListN.{length}
use Rattle.surface.specs.Settings.{entries_of, extent}
use Rattle.surface.proofs.General.Bools.{either}
use Rattle.settings.specs.Walk.{entries_from}
use Rattle.settings.proofs.Walk.{extent-at, extent-end}
use Rattle.settings.proofs.frame.is_whole.Goals as goal

-- a test with k taken from both sides
shifted : (k e n : ℕ) → k ≤ n → eqb (k + e) n ≡ eqb e (n - k)
shifted k e n h =
    either (eqb e (n - k))
    (λ t. eq-eqb (k + e) n (omega (arith, eqb-true e (n - k) t)) ∙ sym t)
    (λ f. ne_eqb (k + e) n (λ q. eqb-false e (n - k) f (omega arith)) ∙ sym f)

pub loop-at-preserved : goal.loop-at-preserved
loop-at-preserved c =
    rw c.byte_at.ensures (omega (arith, extent-at c.args.sheet.now c.loop-at.at c.loop-at-test.true))

pub returns : goal.returns
unfolding entries_of
returns c =
    let s = c.args.sheet.now in
    let e : c.loop-at.at ≡ 5 + extent (entries_from s 5) = omega (arith, extent-end s c.loop-at.at c.loop-at-test.false) in
    rw e (shifted 5 (extent (entries_from s 5)) (length s) (omega arith))

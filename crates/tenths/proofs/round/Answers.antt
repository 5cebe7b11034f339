-- No step of it goes beyond 32 bits, and what it gives is the nearest.
use Prim.Native.Nat.{ℕ}
use mathlib.Core.Path.{◌≡◌, ◌∙◌}
use borrow.Author.Rules.{rules}
use lib.IntN.{ℤ, pos}
use lib.Signed.{quot_z, rem_z}
use mir.Syntax.{w32}
use mir.Val.{to_z, of_z, SFits}
use mir.Facts.{to_z-of_z}
use Rattle.tenths.specs.Rounding.{step_from}
use Rattle.tenths.proofs.Numbers.{quot_fits, rem-fits, rest, rest-fits, rounded-is, rounded-fits}
use Rattle.tenths.proofs.round.Goals as goal
use Rattle.tenths.proofs.round.Goals.{After-step, Start}

-- a local holds its number's bits, which are read back as the number
module _ (c : Start) where
  abbrev t : ℤ
  t = c.args.t

  bits-t : to_z w32 (of_z w32 t) ≡ t
  bits-t = to_z-of_z c.ranges.t

  whole-fits : SFits w32 (quot_z t (pos 10))
  whole-fits = quot_fits t 10 c.ranges.t

  bits-whole : to_z w32 (of_z w32 (quot_z t (pos 10))) ≡ quot_z t (pos 10)
  bits-whole = to_z-of_z whole-fits

  bits-part : to_z w32 (of_z w32 (rem_z t (pos 10))) ≡ rem_z t (pos 10)
  bits-part = to_z-of_z (rem-fits t 10 c.ranges.t)

  bits-odd : (k : ℕ) → to_z w32 (of_z w32 (rem_z (quot_z t (pos 10)) (pos k))) ≡ rem_z (quot_z t (pos 10)) (pos k)
  bits-odd k = to_z-of_z (rem-fits (quot_z t (pos 10)) k whole-fits)

  bits-rest : (k : ℕ) → to_z w32 (of_z w32 (rest t k)) ≡ rest t k
  bits-rest k = to_z-of_z (rest-fits t k c.ranges.t)

module _ (c : After-step) where
  stepped : c.step.result ≡ step_from (rest (t (goal.at.After-step c).Start) 2)
  stepped = rw (bits-t (goal.at.After-step c).Start, bits-whole (goal.at.After-step c).Start, bits-part (goal.at.After-step c).Start, bits-odd (goal.at.After-step c).Start, bits-rest (goal.at.After-step c).Start) at c.step.ensures

  bits-step : to_z w32 (of_z w32 c.step.result) ≡ step_from (rest (t (goal.at.After-step c).Start) 2)
  bits-step = let r : to_z w32 (of_z w32 c.step.result) ≡ c.step.result = search rules in r ∙ stepped

pub returns : goal.returns
returns c =
    let start = (goal.at.returns c).Start in
    rw (bits-t start, bits-whole start, bits-step c, rounded-is (t start)) (to_z-of_z (rounded-fits (t start) c.ranges.t))

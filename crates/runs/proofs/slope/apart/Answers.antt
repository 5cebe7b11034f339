-- The greater less the other.
use mathlib.Core.Path.{◌≡◌, refl}
use mathlib.Core.Bool.{false}
use lib.IntN.{ℤ}
use lib.Signed.{lt_z}
use mir.Facts.{to_z-of_z}
use Rattle.surface.proofs.OfPlots.HeightOrder.{lt_z-asym}
use Rattle.runs.proofs.Sloping.{apart_low, apart_fits, apart-cast, apart-turned}
use Rattle.runs.proofs.slope.apart.Goals as goal
use Rattle.runs.proofs.slope.apart.Goals.{Else-a-b, Start, Then-a-b}

abbrev a : Start → ℤ
a s = s.args.a

abbrev b : Start → ℤ
b s = s.args.b

less : (c : Then-a-b) → lt_z (b (goal.at.Then-a-b c).Start) (a (goal.at.Then-a-b c).Start) ≡ false
less c = lt_z-asym (a (goal.at.Then-a-b c).Start) (b (goal.at.Then-a-b c).Start) (rw (to_z-of_z c.ranges.a, to_z-of_z c.ranges.b) at c.if-a-b.true)

not-less : (c : Else-a-b) → lt_z (a (goal.at.Else-a-b c).Start) (b (goal.at.Else-a-b c).Start) ≡ false
not-less c = let f = c.ranges in rw (to_z-of_z f.a, to_z-of_z f.b) at c.if-a-b.false

pub overflow_sub-result : goal.overflow_sub-result
overflow_sub-result c =
    let start = (goal.at.overflow_sub-result c).Start in
    rw (to_z-of_z c.ranges.a, to_z-of_z c.ranges.b) (apart_fits (b start) (a start) c.requires.1 c.requires.0)

pub overflow_cast-result : goal.overflow_cast-result
overflow_cast-result c =
    let start = (goal.at.overflow_cast-result c).Start in
    rw (to_z-of_z c.ranges.a, to_z-of_z c.ranges.b, to_z-of_z (apart_fits (b start) (a start) c.requires.1 c.requires.0))
    (apart-cast (b start) (a start) c.requires.1 c.requires.0 (less c))

pub returns-then-a-b : goal.returns-then-a-b
returns-then-a-b c =
    let start = (goal.at.returns-then-a-b c).Start in
    rw (to_z-of_z c.ranges.a, to_z-of_z c.ranges.b, to_z-of_z (apart_fits (b start) (a start) c.requires.1 c.requires.0))
    (apart-turned (a start) (b start) c.requires.0 c.requires.1, apart_low (b start) (a start) c.requires.1 c.requires.0)

pub overflow_sub-result-2 : goal.overflow_sub-result-2
overflow_sub-result-2 c =
    let start = (goal.at.overflow_sub-result-2 c).Start in
    rw (to_z-of_z c.ranges.a, to_z-of_z c.ranges.b) (apart_fits (a start) (b start) c.requires.0 c.requires.1)

pub overflow_cast-result-2 : goal.overflow_cast-result-2
overflow_cast-result-2 c =
    let start = (goal.at.overflow_cast-result-2 c).Start in
    rw (to_z-of_z c.ranges.a, to_z-of_z c.ranges.b, to_z-of_z (apart_fits (a start) (b start) c.requires.0 c.requires.1))
    (apart-cast (a start) (b start) c.requires.0 c.requires.1 (not-less c))

pub returns : goal.returns
returns c =
    let start = (goal.at.returns c).Start in
    rw (to_z-of_z c.ranges.a, to_z-of_z c.ranges.b, to_z-of_z (apart_fits (a start) (b start) c.requires.0 c.requires.1))
    (refl, apart_low (a start) (b start) c.requires.0 c.requires.1)

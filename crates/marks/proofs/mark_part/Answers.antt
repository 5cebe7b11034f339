use Prim.Native.Nat.{ℕ, ◌+◌}
use native.Mathlib.Omega.{arith}
use mathlib.Core.List.{List}
use mathlib.Core.Path.{◌≡◌, refl, ◌∙◌, ap}
use lib.ListN.{length, get_or}
use Rattle.surface.specs.Lists.{stores}
use Rattle.surface.specs.Patterns.{mark_in}
use Rattle.surface.proofs.General.Stores.{store-next, stores-out}
use Rattle.marks.proofs.mark_part.Goals as goal
use Rattle.marks.proofs.mark_part.Goals.{In-loop-c}

pub loop-c-init : goal.loop-c-init
unfolding stores
loop-c-init c = refl

-- the pattern that is read
read : (i : In-loop-c) → let l = i.loop-c in get_or l.marks l.c 0 ≡ get_or i.args.marks.now l.c 0
read i =
    let l = i.loop-c in
    let a = i.args in
    ap (λ (m : List ℕ). get_or m l.c 0) l.invariant ∙ stores-out _ 0 l.c a.marks.now l.c 0 (λ x y. omega arith)

pub mark_of-requires : goal.mark_of-requires
mark_of-requires c =
    rw (read (goal.at.mark_of-requires c).In-loop-c) (c.requires.1 c.loop-c.c (omega arith))

pub loop-c-preserved : goal.loop-c-preserved
loop-c-preserved c =
    let l = c.loop-c in
    let a = c.args in
    store-next _ 0 l.c (l.c + 1) l.marks a.marks.now l.c _ l.invariant (omega arith) refl
    (c.mark_of.ensures ∙ ap mark_in (read (goal.at.loop-c-preserved c).In-loop-c))

pub returns : goal.returns
returns c =
    let l = c.loop-c in
    let e : l.c ≡ length c.args.marks.now = omega arith in
    rw e at l.invariant

use Prim.Native.Nat.{ℕ, ◌+◌, ◌-◌}
use native.Mathlib.Omega.{arith}
use mathlib.Core.Path.{◌≡◌, refl, ◌∙◌, ap}
use mathlib.Core.List.{List}
use lib.ListN.{length, get_or}
use Rattle.surface.specs.Lists.{stores}
use Rattle.surface.specs.Marks.{multiplicity}
use Rattle.surface.specs.Patterns.{mark_in}
use Rattle.surface.proofs.General.Stores.{store-next, stores-out, stores-all}
use Rattle.joins.proofs.fill_joins.Goals as goal
use Rattle.joins.proofs.fill_joins.Goals.{In-loop-p}

pub loop-p-init : goal.loop-p-init
unfolding stores
loop-p-init c = refl

-- the pattern that is read
read : (i : In-loop-p) → let l = i.loop-p in get_or l.joins l.p 0 ≡ get_or i.args.joins.now l.p 0
read i =
    let l = i.loop-p in
    let a = i.args in
    ap (λ (m : List ℕ). get_or m l.p 0) l.invariant ∙ stores-out _ 0 l.p a.joins.now l.p 0 (λ x y. omega arith)

pub joins_from-requires : goal.joins_from-requires
joins_from-requires c =
    (c.change_table-table.ensures, rw (read (goal.at.joins_from-requires c).In-loop-p) (c.requires.1 c.loop-p.p (omega arith)))

pub loop-p-preserved : goal.loop-p-preserved
loop-p-preserved c =
    let l = c.loop-p in
    let a = c.args in
    store-next _ 0 l.p (l.p + 1) l.joins a.joins.now l.p _ l.invariant (omega arith) refl
    (c.joins_from.ensures ∙ ap (λ (b : ℕ). multiplicity (mark_in b) - get_or a.splits.now l.p 0) (read (goal.at.loop-p-preserved c).In-loop-p))

pub returns : goal.returns
returns c =
    let l = c.loop-p in
    let a = c.args in
    let e : l.p ≡ length a.joins.now = omega arith in
    (rw e at l.invariant) ∙ stores-all _ (length a.joins.now) a.joins.now 0 refl

pub bounds-splits-p : goal.bounds-splits-p
bounds-splits-p c = omega (arith, c.requires.0)

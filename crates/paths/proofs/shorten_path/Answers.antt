use Prim.Native.Nat.{◌<◌}
use native.Mathlib.Omega.{arith}
use mathlib.Core.Path.{◌≡◌, refl, sym, ◌∙◌, ap}
use mathlib.Core.Logic.{⊎_elim, inl, inr}
use lib.ListN.{length}
use Rattle.paths.specs.Paths.{follow, path_end}
use Rattle.paths.proofs.Shorter.{shorter-none, shorter-told, goes_on, has-entry, read-end, read-nearer, store-end, stored}
use Rattle.paths.proofs.shorten_path.Goals as goal
use Rattle.paths.proofs.shorten_path.Goals.{In-loop-e}

-- a turn's post is not the end of its path
not_end : (c : In-loop-e) → let e = c.loop-e.e in e ≡ path_end c.args.list.now e → ⊥
not_end c h = c.loop-e-test.true (h ∙ c.loop-e.invariant.1)

inside : (c : In-loop-e) → c.loop-e.e < length c.args.list.now
inside c = has-entry _ _ (not_end c)

pub loop-e-init : goal.loop-e-init
loop-e-init c = (shorter-none _, sym c.requires.2, inl refl)

pub offset_bounds-list-e : goal.offset_bounds-list-e
offset_bounds-list-e c = omega (arith, inside c)

pub bounds-list-e : goal.bounds-list-e
bounds-list-e c = omega (arith, inside (goal.at.bounds-list-e c).In-loop-e, c.loop-e.invariant.0.size)

pub offset_bounds-list-e-in-loop-e : goal.offset_bounds-list-e-in-loop-e
offset_bounds-list-e-in-loop-e c = omega (arith, inside (goal.at.offset_bounds-list-e-in-loop-e c).In-loop-e)

pub bounds-list-e-in-loop-e : goal.bounds-list-e-in-loop-e
bounds-list-e-in-loop-e c = omega (arith, inside (goal.at.bounds-list-e-in-loop-e c).In-loop-e, c.loop-e.invariant.0.size)

pub loop-e-smaller : goal.loop-e-smaller
loop-e-smaller c =
    let turn = (goal.at.loop-e-smaller c).In-loop-e in
    read-nearer c.loop-e.invariant.0 c.loop-e.e c.requires.0 (inside turn) (goes_on _ _ (not_end turn))

pub loop-e-preserved : goal.loop-e-preserved
loop-e-preserved c =
    let ends = c.requires.0 in
    let i = c.loop-e.invariant in
    let h = inside (goal.at.loop-e-preserved c).In-loop-e in (
      store-end i.0 c.loop-e.e ends h c.args.end i.1,
      read-end i.0 c.loop-e.e ends h ∙ i.1,
      inr (stored c.loop-e.list c.loop-e.e c.args.p c.args.end (omega (arith, i.0.size)) i.2),
    )

pub returns : goal.returns
returns c =
    let a = c.args in
    let i = c.loop-e.invariant in
    let ends = c.requires.0 in
    let was = a.list.now in (
      i.0,
      ⊎_elim
          (λ (k : c.loop-e.e ≡ a.p).
          let h : a.p ≡ path_end was a.p = sym k ∙ c.loop-e-test.false ∙ c.requires.2 in
          shorter-told ends i.0 a.p (ap (follow was) h ∙ ends.stays a.p) ∙ sym c.requires.2)
          (λ (k : follow c.loop-e.list a.p ≡ a.end). k)
          i.2,
    )

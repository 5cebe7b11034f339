use Prim.Native.Nat.{ℕ, ◌+◌, ◌-◌, ◌≤◌}
use native.Mathlib.Omega.{arith}
use mathlib.Core.Path.{◌≡◌, refl, ◌∙◌}
use mathlib.Core.Bool.{Bool, false}
use mathlib.Core.List.{List}
use borrow.Author.Rules.{rules}
use Rattle.surface.specs.Lists.{stores}
use Rattle.surface.specs.Plot.{Plot, below}
use Rattle.surface.proofs.General.Stores.{stores-join, stores-over, stores_same}
use Rattle.order.specs.Ties.{Drives}
use Rattle.order.proofs.later_row.Goals as goal

-- the flags of a block are a part of the row's
part : (pl : Plot) (p q at i : ℕ) (l : List Bool)
    → stores (λ k. below pl (q + i + (k - (at + i))) (p + i + (k - (at + i)))) (at + i) 16 l ≡ stores (λ k. below pl (q + (k - at)) (p + (k - at))) (at + i) 16 l
part pl p q at i l =
    stores_same _ _ (at + i) 16 l
    (λ k h.
    let e : q + i + (at + i + k - (at + i)) ≡ q + (at + i + k - at) = omega arith in
    let f : p + i + (at + i + k - (at + i)) ≡ p + (at + i + k - at) = omega arith in
    rw (e, f))

drives-part : {columns : ℕ} {tie : Bool} {p q n : ℕ} → Drives columns tie p q n → (i m : ℕ) → i + m ≤ n → Drives columns tie (p + i) (q + i) m
drives-part {columns} {tie} {p} {q} d i m h =
    record {
      told = λ k l.
          let e : q + i + k ≡ q + (i + k) = omega arith in
          let f : p + i + k ≡ p + (i + k) = omega arith in
          rw (e, f) (d.told (i + k) (omega arith));
    }

pub later_each-requires : goal.later_each-requires
later_each-requires c = c.requires

pub returns-then-n-lt-BLOCK : goal.returns-then-n-lt-BLOCK
returns-then-n-lt-BLOCK c = c.later_each.ensures

pub loop-i-init : goal.loop-i-init
unfolding stores
loop-i-init c = (omega arith, refl, refl)

pub later_flags-requires : goal.later_flags-requires
later_flags-requires c = let pre = c.requires in (pre.0, omega (arith, pre), omega (arith, pre), drives-part pre.3 _ 16 (omega arith), omega (arith, pre, c.loop-i.invariant.1))

pub loop-i-preserved : goal.loop-i-preserved
loop-i-preserved c =
    let l = c.loop-i in
    let a = c.args in
    let new = c.later_flags.ensures ∙ part _ a.p a.q a.at l.i l.flags in
    (omega arith, search rules, stores-join _ a.at l.i (a.at + l.i) 16 (l.i + 16) a.flags.now l.flags _ l.invariant.2 new refl refl)

pub later_flags-requires-2 : goal.later_flags-requires-2
later_flags-requires-2 c = let pre = c.requires in (pre.0, omega (arith, pre), omega (arith, pre), drives-part pre.3 _ 16 (omega arith), omega (arith, pre, c.loop-i.invariant.1))

pub returns : goal.returns
returns c =
    let l = c.loop-i in
    let a = c.args in
    let last = a.n - 16 in
    let new = c.later_flags-2.ensures ∙ part _ a.p a.q a.at last l.flags in
    stores-over _ a.at l.i (a.at + last) 16 a.n a.flags.now l.flags _ false l.invariant.2 new (omega arith) (omega arith) (omega arith) (omega arith) (omega arith)

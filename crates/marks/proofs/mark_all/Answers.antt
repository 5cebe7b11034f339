use Prim.Native.Nat.{ℕ, ◌+◌, ◌-◌, ◌≤◌, ◌<◌}
use native.Mathlib.Omega.{arith}
use mathlib.Core.Path.{◌≡◌, refl, ◌∙◌, ap}
use mathlib.Core.List.{List}
use lib.ListN.{length, get_or, take, drop}
use borrow.Author.Rules.{rules}
use borrow.Rule.Slice.PartMut.{put_mid}
use Rattle.std.proofs.lemmas.List.{places}
use Rattle.surface.specs.Lists.{stores}
use Rattle.surface.specs.Patterns.{mark_in, changes_in}
use Rattle.surface.proofs.General.Slices.{put-stores}
use Rattle.surface.proofs.General.Stores.{length-stores, stores-in, stores-out, stores-join}
use Rattle.marks.proofs.mark_all.Goals as goal
use Rattle.marks.proofs.mark_all.Invariants.{told}

pub loop-i-init : goal.loop-i-init
unfolding stores
loop-i-init c = (omega arith, refl, refl)

-- the part from i to before e
module _ (l : List ℕ) (i e : ℕ) (a : i ≤ e) (b : e ≤ length l) where
  part : List ℕ
  part = take (e - i) (drop i l)

  length-part : length part ≡ e - i
  unfolding part
  length-part = search (rules, places)

  -- its changes
  looked : (new old : List ℕ) → e ≤ i + length old → new ≡ stores (λ c. changes_in (get_or part c 0)) 0 (length part) old
      → (c : ℕ) → c < length part → get_or new c 0 ≡ changes_in (get_or part c 0)
  looked new old h n c k = rw n (stores-in _ 0 (length part) old c 0 (omega (arith, length-part)) (omega arith) (omega arith))

  -- its marks, where the first i marks are told
  marked : (l₀ new : List ℕ) → l ≡ stores (told l₀) 0 i l₀ → new ≡ stores (told part) 0 (length part) part → put_mid i (e - i) l new ≡ stores (told l₀) 0 e l₀
  unfolding part
  marked l₀ new was n =
      stores-join (told l₀) 0 i i (e - i) e l₀ l _ was
      (put-stores (told l₀) i (e - i) l new 0 (omega arith) (ap (λ (m : List ℕ). length m) n ∙ length-stores _ 0 _ part ∙ length-part)
      (λ k x y.
      rw n (stores-in (told part) 0 (length part) part (k - i) 0 (omega arith) (omega arith) (omega (arith, length-part)))
      ∙ ap mark_in (read k x y)))
      (omega arith)
      (omega arith)
    where
      read : (k : ℕ) → i ≤ k → k < i + (e - i) → get_or part (k - i) 0 ≡ get_or l₀ k 0
      read k x y =
          let at : get_or (take (e - i) (drop i l)) (k - i) 0 ≡ get_or l k 0 = search (rules, places) in
          at ∙ ap (λ (m : List ℕ). get_or m k 0) was ∙ stores-out (told l₀) 0 i l₀ k 0 (λ u v. omega arith)

pub mark_part-requires : goal.mark_part-requires
unfolding part
mark_part-requires c =
    let l = c.loop-i in
    let d = c.look_up in
    let e = c.min.result in
    let long = length-part l.marks l.i e (omega (arith, c.min.ensures)) (omega (arith, c.min.ensures)) in (
      omega (arith, c.min.ensures, long, d.auto.changes, l.invariant.1),
      looked l.marks l.i e (omega (arith, c.min.ensures)) (omega (arith, c.min.ensures)) d.new.changes l.changes (omega (arith, c.min.ensures, l.invariant.1)) d.ensures,
    )

pub loop-i-preserved : goal.loop-i-preserved
unfolding part
loop-i-preserved c =
    let l = c.loop-i in
    let m = c.min in
    let e : m.result ≡ l.i + 240 = omega (arith, m.ensures) in (
      omega arith,
      c.look_up.auto.changes ∙ l.invariant.1,
      marked l.marks l.i m.result (omega arith) (omega arith) c.args.marks.now _ l.invariant.2 c.mark_part.ensures
          ∙ ap (λ k. stores (told c.args.marks.now) 0 k c.args.marks.now) e,
    )

pub returns : goal.returns
returns c =
    let l = c.loop-i in
    let e : l.i ≡ length c.args.marks.now = omega (arith, c.loop-i-test.false, l.invariant.0) in
    rw e at l.invariant.2

pub returns-2 : goal.returns-2
unfolding part
returns-2 c =
    let l = c.loop-i in
    let m = c.min in
    let e : m.result ≡ length c.args.marks.now = omega (arith, m.ensures) in
    marked l.marks l.i m.result (omega arith) (omega arith) c.args.marks.now _ l.invariant.2 c.mark_part.ensures
    ∙ ap (λ k. stores (told c.args.marks.now) 0 k c.args.marks.now) e

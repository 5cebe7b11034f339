-- Eight places, one after the other.
use Prim.Native.Nat.{◌≤◌}
use native.Mathlib.Omega.{arith}
use Rattle.rings.specs.Rings.{ring_places}
use Rattle.rings.proofs.Rings.{grows, grows_end, holds-whole}
use borrow.Author.Rules.{rules}
use Rattle.rings.proofs.ring.ring_of.Goals as goal
use Rattle.rings.proofs.ring.ring_of.Goals.{After-with_post-e, After-with_post-sw}

-- after the first three places, and after six
three : (c : After-with_post-e) → c.with_post-e.result.len ≤ 3
three c = omega (arith, c.with_post-n.ensures.more, c.with_post-ne.ensures.more, c.with_post-e.ensures.more)

six : (c : After-with_post-sw) → c.with_post-sw.result.len ≤ 6
six c = omega (arith, three c.before.before.before.before, c.with_post-se.ensures.more, c.with_post-s.ensures.more, c.with_post-sw.ensures.more)

pub with_post-n-requires : goal.with_post-n-requires
with_post-n-requires c =
    let s = c.requires.0 in
    (record { less = omega arith; size = search rules }, omega (arith, s, c.requires.1.post), omega (arith, s), λ h. omega (arith, c.requires.1.north h))

pub with_post-ne-requires : goal.with_post-ne-requires
with_post-ne-requires c =
    let s = c.requires.0 in
    (record { less = omega (arith, c.with_post-n.ensures.more); size = c.with_post-n.ensures.size }, omega (arith, s, c.requires.1.post), omega (arith, s), λ h. omega (arith, c.requires.1.north_east h))

pub with_post-e-requires : goal.with_post-e-requires
with_post-e-requires c =
    let s = c.requires.0 in
    (record { less = omega (arith, c.with_post-n.ensures.more, c.with_post-ne.ensures.more); size = c.with_post-ne.ensures.size }, omega (arith, s, c.requires.1.post), omega (arith, s), λ h. omega arith)

pub overflow_add-columns : goal.overflow_add-columns
overflow_add-columns c = omega (arith, c.requires.0)

pub with_post-se-requires : goal.with_post-se-requires
with_post-se-requires c =
    let s = c.requires.0 in
    (record { less = omega (arith, three (c)); size = c.with_post-e.ensures.size }, omega (arith, s, c.requires.1.post), omega (arith, s), λ h. omega arith)

pub with_post-s-requires : goal.with_post-s-requires
with_post-s-requires c =
    let s = c.requires.0 in
    (record { less = omega (arith, three (goal.at.with_post-s-requires c).After-with_post-e, c.with_post-se.ensures.more); size = c.with_post-se.ensures.size }, omega (arith, s, c.requires.1.post), omega (arith, s), λ h. omega arith)

pub with_post-sw-requires : goal.with_post-sw-requires
with_post-sw-requires c =
    let s = c.requires.0 in
    (record { less = omega (arith, three (goal.at.with_post-sw-requires c).After-with_post-e, c.with_post-se.ensures.more, c.with_post-s.ensures.more); size = c.with_post-s.ensures.size }, omega (arith, s, c.requires.1.post), omega (arith, s), λ h. omega (arith, s))

pub with_post-w-requires : goal.with_post-w-requires
with_post-w-requires c =
    let s = c.requires.0 in
    (record { less = omega (arith, six (goal.at.with_post-w-requires c).After-with_post-sw); size = c.with_post-sw.ensures.size }, omega (arith, s, c.requires.1.post), omega (arith, s), λ h. omega (arith, c.requires.1.west h))

pub overflow_add-columns-2 : goal.overflow_add-columns-2
overflow_add-columns-2 c = omega (arith, c.requires.0)

pub with_post-requires : goal.with_post-requires
with_post-requires c =
    let s = c.requires.0 in
    (record { less = omega (arith, six (goal.at.with_post-requires c).After-with_post-sw, c.with_post-w.ensures.more); size = c.with_post-w.ensures.size }, omega (arith, s, c.requires.1.post), omega (arith, s), λ h. omega (arith, c.requires.1.north_west h))

pub returns : goal.returns
unfolding ring_places
returns c =
    holds-whole _ _ (omega (arith, six (goal.at.returns c).After-with_post-sw, c.with_post-w.ensures.more, c.with_post.ensures.more)) c.with_post.ensures.size
    (grows _ _ c.with_post-n.ensures
    (grows _ _ c.with_post-ne.ensures
    (grows _ _ c.with_post-e.ensures
    (grows _ _ c.with_post-se.ensures
    (grows _ _ c.with_post-s.ensures
    (grows _ _ c.with_post-sw.ensures
    (grows _ _ c.with_post-w.ensures
    (grows _ _ c.with_post.ensures (grows_end c.with_post.result)))))))))

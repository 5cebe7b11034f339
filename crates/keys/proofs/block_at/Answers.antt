-- Those of the nine that are there are posts of the plot.
use mathlib.Core.Path.{◌≡◌, ap, ◌∙◌}
use borrow.Author.Tests.{not-true}
use mir.Syntax.{w32}
use mir.Val.{to_z, of_z}
use Rattle.surface.specs.Plot.{plot_of}
use Rattle.surface.specs.Edges.{top, bottom, left, right}
use Rattle.rings.proofs.Around.{both_false}
use Rattle.keys.specs.Keys.{key_of}
use Rattle.keys.proofs.KeyNumbers.{bits_of, same_block}
use Rattle.keys.proofs.Nine.{own-there, n-there, ne-there, e-there, se-there, s-there, sw-there, w-there, nw-there, offsets}
use Rattle.keys.proofs.block_at.Goals as goal
use Rattle.keys.proofs.block_at.Goals.{After-key_at-own}

pub key_at-own-requires : goal.key_at-own-requires
key_at-own-requires c = (c.requires.0, c.requires.2, own-there c.requires.0)

-- p's own key
own : (c : After-key_at-own) → let a = c.args in to_z w32 (of_z w32 c.key_at-own.result) ≡ key_of (plot_of a.grid a.heights.now) a.p a.p
own c =
    let e = offsets c.args.p c.args.grid.columns c.requires.0.valid.sides.wide in
    bits_of c.key_at-own.result c.key_at-own.type_inv ∙ c.key_at-own.ensures ∙ ap (key_of (plot_of c.args.grid c.args.heights.now) c.args.p) e.0

pub key_round-requires : goal.key_round-requires
key_round-requires c =
    (c.requires.0, c.requires.2, own (goal.at.key_round-requires c).After-key_at-own, λ h. n-there c.requires.0 (not-true _ (rw c.requires.1 at h)))

pub key_round-requires-2 : goal.key_round-requires-2
key_round-requires-2 c =
    let p = c.args.p in
    let k = c.args.grid.columns in
    (c.requires.0, c.requires.2, own (goal.at.key_round-requires-2 c).After-key_at-own, λ h. let o = both_false (top k p) (right k p) (rw c.requires.1 at h) in ne-there c.requires.0 o.0 o.1)

pub key_round-requires-3 : goal.key_round-requires-3
key_round-requires-3 c =
    (c.requires.0, c.requires.2, own (goal.at.key_round-requires-3 c).After-key_at-own, λ h. e-there c.requires.0 (not-true _ (rw c.requires.1 at h)))

pub key_round-requires-4 : goal.key_round-requires-4
key_round-requires-4 c =
    let p = c.args.p in
    let k = c.args.grid.columns in
    let rows = c.args.grid.rows in
    (c.requires.0, c.requires.2, own (goal.at.key_round-requires-4 c).After-key_at-own, λ h. let o = both_false (right k p) (bottom rows k p) (rw c.requires.1 at h) in se-there c.requires.0 o.0 o.1)

pub key_round-requires-5 : goal.key_round-requires-5
key_round-requires-5 c =
    (c.requires.0, c.requires.2, own (goal.at.key_round-requires-5 c).After-key_at-own, λ h. s-there c.requires.0 (not-true _ (rw c.requires.1 at h)))

pub key_round-requires-6 : goal.key_round-requires-6
key_round-requires-6 c =
    let p = c.args.p in
    let k = c.args.grid.columns in
    let rows = c.args.grid.rows in
    (c.requires.0, c.requires.2, own (goal.at.key_round-requires-6 c).After-key_at-own, λ h. let o = both_false (bottom rows k p) (left k p) (rw c.requires.1 at h) in sw-there c.requires.0 o.0 o.1)

pub key_round-requires-7 : goal.key_round-requires-7
key_round-requires-7 c =
    (c.requires.0, c.requires.2, own (goal.at.key_round-requires-7 c).After-key_at-own, λ h. w-there c.requires.0 (not-true _ (rw c.requires.1 at h)))

pub key_round-requires-8 : goal.key_round-requires-8
key_round-requires-8 c =
    let p = c.args.p in
    let k = c.args.grid.columns in
    (c.requires.0, c.requires.2, own (goal.at.key_round-requires-8 c).After-key_at-own, λ h. let o = both_false (left k p) (top k p) (rw c.requires.1 at h) in nw-there c.requires.0 o.0 o.1)

pub returns : goal.returns
returns c =
    let columns = c.args.grid.columns in
    let e = offsets c.args.p columns c.requires.0.valid.sides.wide in
    same_block _ _ _ _ _ _ _ _ _ _ _ _ _ _ _ _ _ _
    (own (goal.at.returns c).After-key_at-own)
    (bits_of c.key_round.result c.key_round.type_inv ∙ rw e.1 at c.key_round.ensures)
    (bits_of c.key_round-2.result c.key_round-2.type_inv ∙ rw e.2 at c.key_round-2.ensures)
    (bits_of c.key_round-3.result c.key_round-3.type_inv ∙ rw e.3 at c.key_round-3.ensures)
    (bits_of c.key_round-4.result c.key_round-4.type_inv ∙ rw e.4 at c.key_round-4.ensures)
    (bits_of c.key_round-5.result c.key_round-5.type_inv ∙ rw e.5 at c.key_round-5.ensures)
    (bits_of c.key_round-6.result c.key_round-6.type_inv ∙ rw e.6 at c.key_round-6.ensures)
    (bits_of c.key_round-7.result c.key_round-7.type_inv ∙ rw e.7 at c.key_round-7.ensures)
    (bits_of c.key_round-8.result c.key_round-8.type_inv ∙ rw e.8 at c.key_round-8.ensures)

-- All nine are posts of the plot.
use mathlib.Core.Path.{ap, ◌∙◌}
use Rattle.surface.specs.Plot.{plot_of}
use Rattle.keys.proofs.Nine.{off-borders}
use Rattle.keys.specs.Keys.{key_of}
use Rattle.keys.proofs.KeyNumbers.{bits_of, same_block}
use Rattle.keys.proofs.Nine.{own-there, n-there, ne-there, e-there, se-there, s-there, sw-there, w-there, nw-there, offsets}
use Rattle.keys.proofs.block_inside.Goals as goal

pub key_at-requires : goal.key_at-requires
key_at-requires c = (c.requires.0, c.requires.2, own-there c.requires.0)

pub key_at-requires-2 : goal.key_at-requires-2
key_at-requires-2 c = let o = off-borders c.requires.0 c.requires.1 in (c.requires.0, c.requires.2, n-there c.requires.0 o.top)

pub key_at-requires-3 : goal.key_at-requires-3
key_at-requires-3 c = let o = off-borders c.requires.0 c.requires.1 in (c.requires.0, c.requires.2, ne-there c.requires.0 o.top o.right)

pub key_at-requires-4 : goal.key_at-requires-4
key_at-requires-4 c = let o = off-borders c.requires.0 c.requires.1 in (c.requires.0, c.requires.2, e-there c.requires.0 o.right)

pub key_at-requires-5 : goal.key_at-requires-5
key_at-requires-5 c = let o = off-borders c.requires.0 c.requires.1 in (c.requires.0, c.requires.2, se-there c.requires.0 o.right o.bottom)

pub key_at-requires-6 : goal.key_at-requires-6
key_at-requires-6 c = let o = off-borders c.requires.0 c.requires.1 in (c.requires.0, c.requires.2, s-there c.requires.0 o.bottom)

pub key_at-requires-7 : goal.key_at-requires-7
key_at-requires-7 c = let o = off-borders c.requires.0 c.requires.1 in (c.requires.0, c.requires.2, sw-there c.requires.0 o.bottom o.left)

pub key_at-requires-8 : goal.key_at-requires-8
key_at-requires-8 c = let o = off-borders c.requires.0 c.requires.1 in (c.requires.0, c.requires.2, w-there c.requires.0 o.left)

pub key_at-requires-9 : goal.key_at-requires-9
key_at-requires-9 c = let o = off-borders c.requires.0 c.requires.1 in (c.requires.0, c.requires.2, nw-there c.requires.0 o.left o.top)

pub returns : goal.returns
returns c =
    let key = key_of (plot_of c.args.grid c.args.heights.now) c.args.p in
    let e = offsets c.args.p c.args.grid.columns c.requires.0.valid.sides.wide in
    same_block _ _ _ _ _ _ _ _ _ _ _ _ _ _ _ _ _ _
    (bits_of c.key_at.result c.key_at.type_inv ∙ c.key_at.ensures ∙ ap key e.0)
    (bits_of c.key_at-2.result c.key_at-2.type_inv ∙ c.key_at-2.ensures ∙ ap key e.1)
    (bits_of c.key_at-3.result c.key_at-3.type_inv ∙ c.key_at-3.ensures ∙ ap key e.2)
    (bits_of c.key_at-4.result c.key_at-4.type_inv ∙ c.key_at-4.ensures ∙ ap key e.3)
    (bits_of c.key_at-5.result c.key_at-5.type_inv ∙ c.key_at-5.ensures ∙ ap key e.4)
    (bits_of c.key_at-6.result c.key_at-6.type_inv ∙ c.key_at-6.ensures ∙ ap key e.5)
    (bits_of c.key_at-7.result c.key_at-7.type_inv ∙ c.key_at-7.ensures ∙ ap key e.6)
    (bits_of c.key_at-8.result c.key_at-8.type_inv ∙ c.key_at-8.ensures ∙ ap key e.7)
    (bits_of c.key_at-9.result c.key_at-9.type_inv ∙ c.key_at-9.ensures ∙ ap key e.8)

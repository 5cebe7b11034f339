-- Two steps and a third that does not move, or the whole path.
use mathlib.Core.Path.{◌≡◌, refl, sym, ◌∙◌, ap}
use mathlib.Core.Logic.{inl}
use lib.ListN.{get_or}
use Rattle.paths.specs.Paths.{follow, along, path_end}
use Rattle.paths.proofs.Shorter.{entry, end-along, shorter-none, store-end, stored}
use Rattle.paths.proofs.settle.Goals as goal
use Rattle.paths.proofs.settle.Goals.{Then-list-r}

-- the quick branch stores the end: two steps lead to what is stored, and the test tells that a third does not move
ended : (c : Then-list-r)
    → let a = c.args in
    path_end a.list.now a.p ≡ get_or a.list.now c.ahead-q.result 0
unfolding along
ended c =
    let list = c.args.list.now in
    let first = c.ahead-q.ensures in
    let second = c.ahead-r.ensures in
    let two : get_or list c.ahead-q.result 0 ≡ along list 2 c.args.p = entry list _ 0 _ first.0 ∙ first.1 in
    let third : get_or list c.ahead-r.result 0 ≡ follow list (along list 2 c.args.p) =
    entry list _ 0 _ second.0 ∙ second.1 ∙ ap (follow list) first.1 in
    end-along c.requires.0 2 c.args.p (sym third ∙ c.if-list-r.true ∙ two) ∙ sym two

pub returns-then-list-r : goal.returns-then-list-r
returns-then-list-r c =
    let list = c.args.list.now in
    let p = c.args.p in
    (store-end (shorter-none list) p c.requires.0 c.requires.1 _ (ended c), stored list p p _ c.requires.1 (inl refl) ∙ sym (ended c))

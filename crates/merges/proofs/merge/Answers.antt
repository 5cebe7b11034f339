-- Either the body is the same, or the two are linked.
use mathlib.Core.Path.{sym}
use Rattle.merges.proofs.Merging.{same-own, with-same, with-other}
use Rattle.merges.proofs.merge.Goals as goal

pub end_of-other-requires : goal.end_of-other-requires
end_of-other-requires c = let h = c.requires in (h.0, h.2)

pub returns-then-other-body : goal.returns-then-other-body
returns-then-other-body c =
    let h = c.requires in
    with-same _ _ h.0 c.end_of-other.ensures.2 h.1 c.end_of-other.ensures.0 c.if-other-body.true

pub link-end-requires : goal.link-end-requires
link-end-requires c =
    let h = c.requires in
    (c.end_of-other.ensures.2.rising, same-own _ h.0 c.end_of-other.ensures.2 h.1, c.end_of-other.ensures.1, λ e. c.if-other-body.false (sym e))

pub returns : goal.returns
returns c =
    with-other _ _ c.end_of-other.ensures.2 c.link-end.ensures c.end_of-other.ensures.0 c.if-other-body.false

-- Four comparisons, and four choices by them.
use mathlib.Core.Path.{◌≡◌, ◌∙◌}
use mathlib.Core.Bool.{Bool, cond, ◌&&◌}
use lib.IntN.{ℤ}
use mir.Syntax.{w32}
use mir.Val.{to_z, of_z}
use borrow.Author.Rules.{rules}
use Rattle.keys.proofs.KeyNumbers.{bits_of, same_block}
use Rattle.steepest.proofs.keep_corners.Goals as goal

-- a corner is chosen by both its sides
corner : {a b a' b' : Bool} {r : ℤ} (x y : ℤ) → a ≡ a' → b ≡ b' → r ≡ cond (a && b) x y → r ≡ cond (a' && b') x y
corner x y e f h = rw (← e, ← f) h

pub returns : goal.returns
returns c =
    let k = c.args.b in
    let bpost : to_z w32 (of_z w32 k.post) ≡ k.post = search rules in
    let bn : to_z w32 (of_z w32 k.n) ≡ k.n = search rules in
    let bne : to_z w32 (of_z w32 k.ne) ≡ k.ne = search rules in
    let be : to_z w32 (of_z w32 k.e) ≡ k.e = search rules in
    let bse : to_z w32 (of_z w32 k.se) ≡ k.se = search rules in
    let bs : to_z w32 (of_z w32 k.s) ≡ k.s = search rules in
    let bsw : to_z w32 (of_z w32 k.sw) ≡ k.sw = search rules in
    let bw : to_z w32 (of_z w32 k.w) ≡ k.w = search rules in
    let bnw : to_z w32 (of_z w32 k.nw) ≡ k.nw = search rules in
    let f1 = rw (bn, bpost) at c.is_farther-n.ensures in
    let f2 = rw (be, bpost) at c.is_farther-e.ensures in
    let f3 = rw (bs, bpost) at c.is_farther-s.ensures in
    let f4 = rw (bw, bpost) at c.is_farther-w.ensures in
    let c1 = bits_of c.choose.result c.choose.type_inv ∙ corner k.ne k.post f1 f2 (rw (bne, bpost) at c.choose.ensures) in
    let c2 = bits_of c.choose-2.result c.choose-2.type_inv ∙ corner k.se k.post f2 f3 (rw (bse, bpost) at c.choose-2.ensures) in
    let c3 = bits_of c.choose-3.result c.choose-3.type_inv ∙ corner k.sw k.post f3 f4 (rw (bsw, bpost) at c.choose-3.ensures) in
    let c4 = bits_of c.choose-4.result c.choose-4.type_inv ∙ corner k.nw k.post f4 f1 (rw (bnw, bpost) at c.choose-4.ensures) in
    same_block _ _ _ _ _ _ _ _ _ _ _ _ _ _ _ _ _ _ bpost bn c1 be c2 bs c3 bw c4

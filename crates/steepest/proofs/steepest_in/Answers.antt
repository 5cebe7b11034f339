-- The farthest at each distance, and the comparisons between these.
use Prim.Native.Nat.{ℕ}
use mathlib.Core.Path.{◌≡◌, refl, ◌∙◌}
use mathlib.Core.Logic.{◌⊎◌, inl, inr}
use mathlib.Core.Bool.{Bool, true, false, cond}
use mathlib.Core.List.{[], ◌∷◌}
use lib.IntN.{ℤ}
use mir.Syntax.{w32}
use mir.Val.{to_z, of_z}
use borrow.Author.Rules.{rules}
use Rattle.surface.specs.Lines.{squared}
use Rattle.steepest.specs.Slopes.{farther, farthest, overtakes}
use Rattle.steepest.proofs.KeyHeights.{own-not-behind}
use Rattle.keys.proofs.KeyNumbers.{bits_of}
use Rattle.steepest.proofs.steepest_in.Goals as goal
use Rattle.steepest.proofs.steepest_in.Goals.{After-choose-side, After-farthest_beside-column, After-farthest_beside-row, After-farthest_corner-corner, After-takes_column-turns}

row : (c : After-farthest_beside-row) → let a = c.args in
    to_z w32 (of_z w32 c.farthest_beside-row.result) ≡ farthest a.up a.b.post (a.b.e ∷ a.b.w ∷ [])
row c =
    let b = c.args.b in
    let bpost : to_z w32 (of_z w32 b.post) ≡ b.post = search rules in
    let be : to_z w32 (of_z w32 b.e) ≡ b.e = search rules in
    let bw : to_z w32 (of_z w32 b.w) ≡ b.w = search rules in
    bits_of c.farthest_beside-row.result c.farthest_beside-row.type_inv ∙ rw (bpost, be, bw) at c.farthest_beside-row.ensures

column : (c : After-farthest_beside-column) → let a = c.args in
    to_z w32 (of_z w32 c.farthest_beside-column.result) ≡ farthest a.up a.b.post (a.b.n ∷ a.b.s ∷ [])
column c =
    let b = c.args.b in
    let bpost : to_z w32 (of_z w32 b.post) ≡ b.post = search rules in
    let bn : to_z w32 (of_z w32 b.n) ≡ b.n = search rules in
    let bs : to_z w32 (of_z w32 b.s) ≡ b.s = search rules in
    bits_of c.farthest_beside-column.result c.farthest_beside-column.type_inv ∙ rw (bpost, bn, bs) at c.farthest_beside-column.ensures

own : (c : After-farthest_beside-column) → let b = c.args.b in to_z w32 (of_z w32 b.post) ≡ b.post
own c = search rules

pub takes_column-turns-requires : goal.takes_column-turns-requires
takes_column-turns-requires c =
    let a = c.args in
    rw (own c, row (goal.at.takes_column-turns-requires c).After-farthest_beside-row, column c)
    (c.requires, own-not-behind a.up a.b.post (a.b.e ∷ a.b.w ∷ []), own-not-behind a.up a.b.post (a.b.n ∷ a.b.s ∷ []))

-- which way the side is, and its key
turned : (c : After-takes_column-turns) → let a = c.args in let k = a.b in
    c.takes_column-turns.result ≡ overtakes a.up k.post (farthest a.up k.post (k.e ∷ k.w ∷ [])) (squared a.spacings.east) (farthest a.up k.post (k.n ∷ k.s ∷ [])) (squared a.spacings.south)
turned c =
    let after = (goal.at.After-takes_column-turns c).After-farthest_beside-column in
    rw (own after, row (goal.at.After-takes_column-turns c).After-farthest_beside-row, column after) at c.takes_column-turns.ensures

side : (c : After-choose-side) → let a = c.args in let k = a.b in
    to_z w32 (of_z w32 c.choose-side.result) ≡ cond c.takes_column-turns.result (farthest a.up k.post (k.n ∷ k.s ∷ [])) (farthest a.up k.post (k.e ∷ k.w ∷ []))
side c =
    bits_of c.choose-side.result c.choose-side.type_inv
    ∙ rw (row (goal.at.After-choose-side c).After-farthest_beside-row, column (goal.at.After-choose-side c).After-farthest_beside-column) at c.choose-side.ensures

corner : (c : After-farthest_corner-corner) → let a = c.args in let k = a.b in
    to_z w32 (of_z w32 c.farthest_corner-corner.result) ≡ farthest a.up k.post (k.ne ∷ k.se ∷ k.sw ∷ k.nw ∷ [])
corner c = bits_of c.farthest_corner-corner.result c.farthest_corner-corner.type_inv ∙ c.farthest_corner-corner.ensures

pub takes_corner-requires : goal.takes_corner-requires
takes_corner-requires c =
    let a = c.args in
    let k = a.b in
    let r = own-not-behind a.up k.post (k.e ∷ k.w ∷ []) in
    let m = own-not-behind a.up k.post (k.n ∷ k.s ∷ []) in
    rw (own (goal.at.takes_corner-requires c).After-farthest_beside-column, side (goal.at.takes_corner-requires c).After-choose-side, corner c, c.side_length-length.ensures)
    (c.requires, one_side a.up k.post _ _ c.takes_column-turns.result m r, own-not-behind a.up k.post (k.ne ∷ k.se ∷ k.sw ∷ k.nw ∷ []), one-length _ _ c.takes_column-turns.result)
  where
    one_side : (up : Bool) (own x y : ℤ) (b : Bool) → farther up own x ≡ false → farther up own y ≡ false → farther up own (cond b x y) ≡ false
    one_side up own x y true h i = h
    one_side up own x y false h i = i

    one-length : (x y : ℕ) (b : Bool) → (cond b y x ≡ x) ⊎ (cond b y x ≡ y)
    one-length x y true = inr refl
    one-length x y false = inl refl

pub returns : goal.returns
returns c =
    let after = (goal.at.returns c).After-choose-side in
    let after' = (goal.at.returns c).After-farthest_corner-corner in
    let last = rw (own (goal.at.returns c).After-farthest_beside-column, side after, corner after', c.side_length-length.ensures) at c.takes_corner.ensures in
    bits_of c.choose.result c.choose.type_inv
    ∙ (rw (corner after', side after, last, turned (goal.at.returns c).After-takes_column-turns) at c.choose.ensures)

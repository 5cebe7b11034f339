-- Keys compared by height and by slope: the farthest, those of a block's corners that are kept, and the steepest.
use Rattle.std.specs.Prelude.{ℕ, ◌+◌, ◌*◌, Bool, cond, not, ◌&&◌, ◌||◌, List, [], ◌∷◌, ltb, ℤ, nat_abs, ◌-ℤ◌}
use Rattle.std.specs.Int.Signed.{lt_z}
use Rattle.surface.specs.Lines.{squared}
use Rattle.surface.specs.Spacings.{spacings}
use Rattle.surface.specs.Lists.{flipped}
use Rattle.surface.specs.declared.Spacings.{Spacings}
use Rattle.keys.specs.declared.Block.{Block}
use Rattle.keys.specs.Keys.{height_in}

-- the first is lower, or where `up` higher
abbrev pub farther : Bool → ℤ → ℤ → Bool
farther up a b = cond up (lt_z b a) (lt_z a b)

-- the farther of two keys, the first where neither is; and the farthest of a key and of others
abbrev pub farther_of : Bool → ℤ → ℤ → ℤ
farther_of up x y = cond (farther up y x) y x

unfoldable pub farthest : Bool → ℤ → List ℤ → ℤ
farthest up x [] = x
farthest up x (y ∷ l) = farthest up (farther_of up x y) l

-- a block with those corners only that have both sides of their cell below the post, or where `up` above it
abbrev pub corners_kept : Bool → Block → Block
corners_kept up b =
    let n = farther up b.n b.post in
    let e = farther up b.e b.post in
    let s = farther up b.s b.post in
    let w = farther up b.w b.post in
    record {
      post = b.post;
      n = b.n;
      ne = cond (n && e) b.ne b.post;
      e = b.e;
      se = cond (e && s) b.se b.post;
      s = b.s;
      sw = cond (s && w) b.sw b.post;
      w = b.w;
      nw = cond (w && n) b.nw b.post;
    }

-- how far the heights of two keys are apart
abbrev pub drop_in : ℤ → ℤ → ℕ
drop_in own k = nat_abs (height_in own -ℤ height_in k)

-- from the post with key `own`, key y goes before key x, each with the squared length of its edge: it is steeper, or as steep and farther
abbrev pub overtakes : Bool → ℤ → ℤ → ℕ → ℤ → ℕ → Bool
overtakes up own x lx y ly =
    let dx = squared (drop_in own x) in
    let dy = squared (drop_in own y) in
    ltb (dx * ly) (dy * lx) || (not (ltb (dy * lx) (dx * ly)) && farther up y x)

-- the steepest of three keys: along the row, along the column and across a cell
abbrev pub steepest_among : Bool → Spacings → ℤ → ℤ → ℤ → ℤ → ℤ
steepest_among up s own in_row in_column at_corner =
    let turns = overtakes up own in_row (squared s.east) in_column (squared s.south) in
    let side = cond turns in_column in_row in
    let length = cond turns s.south s.east in
    cond (overtakes up own side (squared length) at_corner (squared s.east + squared s.south)) at_corner side

-- of a block: among keys at one distance the farthest is the steepest
abbrev pub steepest_in : Bool → Spacings → Block → ℤ
steepest_in up s b =
    steepest_among up s b.post
    (farthest up b.post (b.e ∷ b.w ∷ []))
    (farthest up b.post (b.n ∷ b.s ∷ []))
    (farthest up b.post (b.ne ∷ b.se ∷ b.sw ∷ b.nw ∷ []))

-- spacings that are equal are as good as 1 and 1
abbrev pub reduced : Bool → Spacings → Spacings
reduced even s = cond even (spacings 1 1) s

-- the steepest key of a post and its neighbours; `highest` tells by which posts cells are cut. Toward these all corners may be looked at
abbrev pub steepest_of : Bool → Bool → Spacings → Block → ℤ
steepest_of up highest s b = steepest_in up s (cond (flipped highest up) (corners_kept up b) b)

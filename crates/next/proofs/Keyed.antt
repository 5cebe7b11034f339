-- Comparing keys is comparing posts, so the steepest key round a post is that of its next post.
use Prim.Native.Nat.{ℕ, ◌+◌, ◌-◌, ◌*◌, ◌%◌, ◌<◌, ◌≤◌}
use mathlib.Core.Path.{◌≡◌, refl, sym, ap, ◌∙◌}
use mathlib.Core.Bool.{Bool, true, false, cond, not, ◌&&◌, true≢false}
use mathlib.Core.Logic.{inl, inr}
use mathlib.Core.List.{List, [], ◌∷◌}
use native.Mathlib.Omega.{arith}
use native.Mathlib.Nat.{mul-pos}
use native.Mathlib.Decide.{ℕ_discrete}
use lib.IntN.{ℤ, pos, nat_abs, ◌-ℤ◌, +ℤ_invr}
use lib.Signed.{lt_z}
use borrow.Author.Tests.{not-true}
use Rattle.surface.specs.Plot.{Plot, below, directed, is_height, height, virtual_pit, Sides, PostOf}
use Rattle.surface.specs.Edges.{lower_of, Place, is_border, top, bottom, left, right}
use Rattle.surface.specs.Spacings.{Spaced}
use Rattle.surface.specs.Lines.{squared, squared_length, squared_drop, next, toward}
use Rattle.surface.specs.declared.Spacings.{Spacings}
use Rattle.surface.specs.Lists.{flipped}
use Rattle.surface.proofs.General.Bools.{either}
use Rattle.surface.proofs.General.FirstNot.{all-at}
use Rattle.surface.proofs.OfPlots.HeightOrder.{below-lex}
use Rattle.surface.proofs.OfPlots.Steepest.{length_some}
use Rattle.order.specs.Ties.{Near, tie_place}
use Rattle.order.proofs.Places.{number-tells, place-small, place-driven}
use Rattle.rings.specs.declared.border.Borders.{Borders}
use Rattle.rings.specs.declared.corner.Corners.{Corners}
use Rattle.rings.specs.Corners.{borders_of}
use Rattle.rings.proofs.Around.{both_false}
use Rattle.keys.specs.declared.Block.{Block}
use Rattle.next.specs.Scan.{scan, turn, corners_lower}
use Rattle.keys.specs.Keys.{There, inside, cells, key_of, is_key, number_in, block_of}
use Rattle.steepest.specs.Slopes.{corners_kept, farther, farthest, drop_in, overtakes, steepest_among, steepest_in, steepest_of}
use Rattle.next.proofs.Onward.{fall_to, onward, onward-strict}
use Rattle.next.proofs.Scanned.{scan-low, AllIn, all_in, scan-holds, scan-agree, toward-strict}
use Rattle.next.proofs.Distances.{length_at, length-stands, Group, group-agree}
use Rattle.next.proofs.Corners.{next-block}
use Rattle.next.proofs.Groups.{Within, cells-within, lower-within, row_places, column_places, corner_places, by-groups, SameLength, weighed}
use Rattle.keys.proofs.KeyNumbers.{key-order, key-digits, key-low, key-height}
use Rattle.keys.proofs.Nine.{inside-at, there-near, own-there, n-there, ne-there, e-there, se-there, s-there, sw-there, w-there, nw-there}

level : (g : Bool) (k : ℤ) → cond g k k ≡ k
level true k = refl
level false k = refl

-- the posts round p that are there are of the nine
abbrev AllNear : ℕ → ℕ → List Place → Type 0
AllNear columns p = AllIn (Near columns p)

module _ (pl : Plot) (p : ℕ) where
  abbrev key : ℕ → ℤ
  key = key_of pl p

  -- the keys of places, p's own where there is no neighbour
  unfoldable keys : List Place → List ℤ
  keys [] = []
  keys (y ∷ l) = key (cond y.taken y.member p) ∷ keys l

  -- a key tells its post
  pub record Tells (k : ℤ) (q : ℕ) : Type 0 where
    pub low : is_key k ≡ true
    pub placed : pl.columns + 1 ≤ p + number_in k
    pub post : p + number_in k - (pl.columns + 1) ≡ q

  module _ (post : PostOf pl p) where
    abbrev sides : Sides pl.rows pl.columns
    sides = post.valid.sides

    abbrev at : Borders
    at = borders_of pl.rows pl.columns p

    own : Near pl.columns p p
    own = there-near (own-there post)

    key_below : (q r : ℕ) → Near pl.columns p q → Near pl.columns p r → lt_z (key q) (key r) ≡ below pl q r
    unfolding virtual_pit
    key_below q r m n =
        key-order (height pl q) (height pl r) (tie_place pl.columns p q) (tie_place pl.columns p r) (place-small sides p q m) (place-small sides p r n)
        ∙ rw (place-driven sides p q r m n) (sym (below-lex pl q r (no-pit q m) (no-pit r n)))
      where
        no-pit : (q : ℕ) → Near pl.columns p q → q ≡ virtual_pit → ⊥
        no-pit q m e = omega (arith, (number-tells sides p q m).post, (number-tells sides p q m).small, post.post, sides)

    farther-key : (up : Bool) (q r : ℕ) → Near pl.columns p q → Near pl.columns p r → farther up (key q) (key r) ≡ directed up (below pl) q r
    farther-key true q r m n = key_below r q n m
    farther-key false q r m n = key_below q r m n

    -- the lowest key is that of what the scan finds
    found : (up : Bool) (x : ℕ) (l : List Place) → Near pl.columns p x → directed up (below pl) p x ≡ false → AllNear pl.columns p l
        → (farthest up (key x) (keys l) ≡ key (scan (directed up (below pl)) x l)) × Near pl.columns p (scan (directed up (below pl)) x l)
    unfolding scan farthest keys AllIn
    found up x [] n h a = (refl, n)
    found up x (y ∷ l) n h a = go y.taken a.0 (λ m f. found up y.member l m f a.1) (found up x l n h a.1)
      where
        Told : ℤ → ℕ → Type 0
        Told k z = (farthest up k (keys l) ≡ key (scan (directed up (below pl)) z l)) × Near pl.columns p (scan (directed up (below pl)) z l)

        above : directed up (below pl) y.member x ≡ true → directed up (below pl) p y.member ≡ false
        above e = either (directed up (below pl) p y.member) (λ f. absurd (true≢false (sym ((toward-strict up pl).trans p y.member x f e) ∙ h))) (λ f. f)

        go : (t : Bool) → (t ≡ true → Near pl.columns p y.member)
            → (Near pl.columns p y.member → directed up (below pl) p y.member ≡ false → Told (key y.member) y.member) → Told (key x) x
            → let m = key (cond t y.member p) in
            Told (cond (farther up m (key x)) m (key x)) (cond t (cond (directed up (below pl) y.member x) y.member x) x)
        go true m i j =
            rw (farther-key up y.member x (m refl) n)
            (either (directed up (below pl) y.member x) (λ e. rw e (i (m refl) (above e))) (λ e. rw e j))
        go false m i j = rw (farther-key up p x own n, h) j

    tells : (k : ℤ) (q : ℕ) → k ≡ key q → Near pl.columns p q → Tells k q
    tells k q e n =
        let t = number-tells sides p q n in
        let i = place-small sides p q n in
        let d : number_in (key q) ≡ q + pl.columns + 1 - p = key-digits (height pl q) (tie_place pl.columns p q) i ∙ last_digits _ _ t.small in
        rw e
        (record {
          low = key-low (height pl q) _ i (all-at is_height pl.heights (pos 0) refl post.valid.in_range q);
          placed = rw d t.placed;
          post = rw d t.post;
        })
      where
        last_digits : (t n : ℕ) → n < 256 → (256 * t + n) % 256 ≡ n
        last_digits t n h = omega arith

    -- a corner that is kept where both sides x and y are that way from p; a and b: a border on which x, or y, is not there
    kept : (up a b : Bool) (x y q : ℕ) → (not a ≡ true → Near pl.columns p x) → (not b ≡ true → Near pl.columns p y)
        → cond (farther up (key (cond (not a) x p)) (key p) && farther up (key (cond (not b) y p)) (key p)) (key (cond (not a && not b) q p)) (key p)
        ≡ key (cond (not a && (not b && (directed up (below pl) x p && directed up (below pl) y p))) q p)
    kept up true b x y q n m = level (farther up (key p) (key p) && farther up (key (cond (not b) y p)) (key p)) (key p)
    kept up false true x y q n m = level (farther up (key x) (key p) && farther up (key p) (key p)) (key p)
    kept up false false x y q n m =
        rw (farther-key up x p (n refl) own, farther-key up y p (m refl) own)
        (pull (directed up (below pl) x p && directed up (below pl) y p))
      where
        pull : (g : Bool) → cond g (key q) (key p) ≡ key (cond g q p)
        pull true = refl
        pull false = refl

    -- the block with its corners kept is that of the corners that way
    kept-keys : (up : Bool) → let b = corners_kept up (block_of key pl.columns p at) in
        b.ne ∷ b.se ∷ b.sw ∷ b.nw ∷ [] ≡ keys (corner_places pl.columns p (corners_lower (directed up (below pl)) pl.columns p at))
    unfolding keys
    kept-keys up =
        let n : not at.top ≡ true → Near pl.columns p (p - pl.columns) = λ h. there-near (n-there post (not-true _ h)) in
        let e : not at.right ≡ true → Near pl.columns p (p + 1) = λ h. there-near (e-there post (not-true _ h)) in
        let s : not at.bottom ≡ true → Near pl.columns p (p + pl.columns) = λ h. there-near (s-there post (not-true _ h)) in
        let w : not at.left ≡ true → Near pl.columns p (p - 1) = λ h. there-near (w-there post (not-true _ h)) in
        rw (
          kept up at.top at.right (p - pl.columns) (p + 1) (p - (pl.columns - 1)) n e,
          kept up at.right at.bottom (p + 1) (p + pl.columns) (p + (pl.columns + 1)) e s,
          kept up at.bottom at.left (p + pl.columns) (p - 1) (p + (pl.columns - 1)) s w,
          kept up at.left at.top (p - 1) (p - pl.columns) (p - (pl.columns + 1)) w n,
        )

    -- one of three posts that a step may go to: the lowest at one distance, or p where none there is lower
    module _ (spacings : Spacings) (spaced : Spaced spacings) (up : Bool) where
      abbrev lower : ℕ → ℕ → Bool
      lower = directed up (below pl)

      abbrev ahead : ℕ → ℕ → Bool
      ahead = onward pl spacings lower p

      record Candidate (l q : ℕ) : Type 0 where
        pub near : Near pl.columns p q
        pub low : lower p q ≡ false
        pub group : Group post spacings spaced up l q

      -- what a scan of places at one distance finds
      group-near : (l q : ℕ) → Group post spacings spaced up l q → Near pl.columns p q
      group-near l q (inl e) = rw e own
      group-near l q (inr t) = rw (← t.is) (there-near t.there)

      candidate : (l : ℕ) (ps : List Place) → AllIn (Group post spacings spaced up l) ps → Candidate l (scan lower p ps)
      candidate l ps a =
          let g = scan-holds lower (Group post spacings spaced up l) p ps (inl refl) a in
          record { near = group-near l _ g; low = scan-low lower (toward-strict up pl) p ps; group = g }

      keyed : (l : ℕ) (ps : List Place) → AllIn (Group post spacings spaced up l) ps → farthest up (key p) (keys ps) ≡ key (scan lower p ps)
      keyed l ps a = (found up p ps own ((toward-strict up pl).irrefl p) (all_in _ _ (group-near l) ps a)).0

      ahead-same : (l : ℕ) (ps : List Place) → AllIn (Group post spacings spaced up l) ps → scan ahead p ps ≡ scan lower p ps
      ahead-same l ps a = scan-agree ahead lower (Group post spacings spaced up l) (group-agree post spacings spaced up l) p ps (inl refl) a

      -- its squared drop, and its distance
      falls : (l q : ℕ) → Candidate l q → squared (drop_in (key p) (key q)) ≡ fall_to pl spacings lower p q
      unfolding fall_to squared_drop
      falls l q c =
          rw (key-height (height pl p) _ (place-small sides p p own), key-height (height pl q) _ (place-small sides p q c.near))
          (either (lower q p) (λ e. rw e) (λ e. rw e (level-none e)))
        where
          level-none : lower q p ≡ false → squared (nat_abs (height pl p -ℤ height pl q)) ≡ 0
          level-none e = go (ℕ_discrete q p)
            where
              go : Dec (q ≡ p) → squared (nat_abs (height pl p -ℤ height pl q)) ≡ 0
              go (yes i) = rw (i, +ℤ_invr (height pl p))
              go (no i) = absurd (true≢false (sym ((toward-strict up pl).other q p i ∙ ap not e) ∙ c.low))

      far : (l q : ℕ) → 0 < l → Candidate l q → SameLength (fall_to pl spacings lower p q) l (squared_length pl spacings p q)
      unfolding SameLength fall_to
      far l q h c = go c.group
        where
          go : Group post spacings spaced up l q → SameLength (fall_to pl spacings lower p q) l (squared_length pl spacings p q)
          go (inl e) = inr (rw (e, (toward-strict up pl).irrefl p), h, length_some pl spacings spaced p q)
          go (inr t) = inl (rw (← t.is) (sym (length-stands pl spacings p t.there.q t.down t.along t.there.stands ∙ t.far)))

      -- so keys tell which of two goes first
      overtakes-ahead : (l m x y : ℕ) → 0 < l → 0 < m → Candidate l x → Candidate m y → overtakes up (key p) (key x) l (key y) m ≡ ahead y x
      unfolding onward
      overtakes-ahead l m x y h i c d =
          let f = fall_to pl spacings lower p in
          rw (
            falls l x c,
            falls m y d,
            farther-key up y x d.near c.near,
            weighed (f x) (f y) l m _ _ (far l x h c) (far m y i d),
            weighed (f y) (f x) m l _ _ (far m y i d) (far l x h c),
          )

      -- the steepest of three
      among : (r c d : ℕ) → let e = squared spacings.east in let s = squared spacings.south in
          0 < e → 0 < s → Candidate e r → Candidate s c → Candidate (e + s) d
          → (steepest_among up spacings (key p) (key r) (key c) (key d) ≡ key (lower_of ahead (lower_of ahead r c) d)) × Near pl.columns p (lower_of ahead (lower_of ahead r c) d)
      among r c d he hs cr cc cd =
          rw (overtakes-ahead _ _ r c he hs cr cc)
          (either (ahead c r)
          (λ t. rw (t, overtakes-ahead _ _ c d hs (omega (arith, he)) cc cd) (last (ahead d c) c cc.near))
          (λ t. rw (t, overtakes-ahead _ _ r d he (omega (arith, he)) cr cd) (last (ahead d r) r cr.near)))
        where
          last : (b : Bool) (x : ℕ) → Near pl.columns p x → (cond b (key d) (key x) ≡ key (cond b d x)) × Near pl.columns p (cond b d x)
          last true x n = (refl, cd.near)
          last false x n = (refl, n)

-- next down and next up, by the steepest key
module _ {pl : Plot} {p : ℕ} (post : PostOf pl p) (spacings : Spacings) (spaced : Spaced spacings) where
  abbrev block : Borders → Block
  block = block_of (key_of pl p) pl.columns p

  abbrev here : Borders
  here = borders_of pl.rows pl.columns p

  module _ (upward : Bool) where
    abbrev InGroup : ℕ → List Place → Type 0
    InGroup l = AllIn (Group post spacings spaced upward l)

    at-group : (l q down along : ℕ) (t : There pl p down along) → t.q ≡ q → length_at spacings down along ≡ l → Group post spacings spaced upward l q
    at-group l q down along t e f = inr (record { down = down; along = along; there = t; is = e; far = f })

    in_row : InGroup (squared spacings.east) (row_places p here)
    unfolding AllIn
    in_row = (
      λ h. at-group _ _ 1 2 (e-there post (not-true _ h)) refl refl,
      (λ h. at-group _ _ 1 0 (w-there post (not-true _ h)) refl refl, tt),
    )

    in-column : InGroup (squared spacings.south) (column_places pl.columns p here)
    unfolding AllIn
    in-column = (
      λ h. at-group _ _ 0 1 (n-there post (not-true _ h)) refl refl,
      (λ h. at-group _ _ 2 1 (s-there post (not-true _ h)) refl refl, tt),
    )

    across : (joined : Corners) → Within here joined → InGroup (squared spacings.east + squared spacings.south) (corner_places pl.columns p joined)
    unfolding AllIn
    across joined w =
        let t = top pl.columns p in
        let r = right pl.columns p in
        let b = bottom pl.rows pl.columns p in
        let l = left pl.columns p in (
          λ h. let k = both_false t r (w.ne h) in at-group _ _ 0 2 (ne-there post k.0 k.1) refl refl,
          (
            λ h. let k = both_false r b (w.se h) in at-group _ _ 2 2 (se-there post k.0 k.1) refl refl,
            (
              λ h. let k = both_false b l (w.sw h) in at-group _ _ 2 0 (sw-there post k.0 k.1) refl refl,
              (λ h. let k = both_false l t (w.nw h) in at-group _ _ 0 0 (nw-there post k.0 k.1) refl refl, tt),
            ),
          ),
        )

    -- of the block, or of that with its corners kept
    told : (joined : Corners) → Within here joined → (k corner : ℤ) → corner ≡ farthest upward (key_of pl p p) (keys pl p (corner_places pl.columns p joined))
        → k ≡ steepest_among upward spacings (key_of pl p p) (farthest upward (key_of pl p p) (keys pl p (row_places p here))) (farthest upward (key_of pl p p) (keys pl p (column_places pl.columns p here))) corner
        → next (toward pl spacings upward) p ≡ scan (onward pl spacings (directed upward (below pl)) p) p (turn pl.columns p here joined)
        → Tells pl p k (next (toward pl spacings upward) p)
    told joined w k corner c e f =
        let lower = directed upward (below pl) in
        let ahead = onward pl spacings lower p in
        let a = across joined w in
        let m =
        among pl p post spacings spaced upward _ _ _ (mul-pos spaced.east_some spaced.east_some) (mul-pos spaced.south_some spaced.south_some)
        (candidate pl p post spacings spaced upward _ (row_places p here) in_row)
        (candidate pl p post spacings spaced upward _ (column_places pl.columns p here) in-column)
        (candidate pl p post spacings spaced upward _ (corner_places pl.columns p joined) a)
        in
        let n : next (toward pl spacings upward) p ≡ lower_of ahead (lower_of ahead (scan lower p (row_places p here)) (scan lower p (column_places pl.columns p here))) (scan lower p (corner_places pl.columns p joined)) =
        f
        ∙ by-groups ahead (onward-strict pl spacings lower p (toward-strict upward pl) spaced) pl.columns p here joined
        ∙ rw (ahead-same pl p post spacings spaced upward _ (row_places p here) in_row, ahead-same pl p post spacings spaced upward _ (column_places pl.columns p here) in-column, ahead-same pl p post spacings spaced upward _ (corner_places pl.columns p joined) a)
        in
        tells pl p post k _
        (e
        ∙ rw (c, keyed pl p post spacings spaced upward _ (row_places p here) in_row, keyed pl p post spacings spaced upward _ (column_places pl.columns p here) in-column, keyed pl p post spacings spaced upward _ (corner_places pl.columns p joined) a) m.0
        ∙ ap (key_of pl p) (sym n))
        (rw n m.1)

    pub next-told : (upward ≡ false → is_border pl.rows pl.columns p ≡ false) → (k : ℤ)
        → k ≡ steepest_of upward pl.highest spacings (block here)
        → Tells pl p k (next (toward pl spacings upward) p)
    unfolding keys
    next-told off k e = go (flipped pl.highest upward) e (next-block post spacings spaced upward off)
      where
        go : (s : Bool) → k ≡ steepest_in upward spacings (cond s (corners_kept upward (block here)) (block here))
            → next (toward pl spacings upward) p
            ≡ scan (onward pl spacings (directed upward (below pl)) p) p (turn pl.columns p here (cond s (corners_lower (directed upward (below pl)) pl.columns p here) (cells here)))
            → Tells pl p k (next (toward pl spacings upward) p)
        go true e f = told (corners_lower (directed upward (below pl)) pl.columns p here) (lower-within (directed upward (below pl)) pl.columns p here) k _ (ap (farthest upward (key_of pl p p)) (kept-keys pl p post upward)) e f
        go false e f = told (cells here) (cells-within here) k _ refl e f

    pub inside-told : is_border pl.rows pl.columns p ≡ false → (k : ℤ) → k ≡ steepest_of upward pl.highest spacings (block inside)
        → Tells pl p k (next (toward pl spacings upward) p)
    inside-told border k e =
        next-told (λ _. border) k (e ∙ ap (λ (at : Borders). steepest_of upward pl.highest spacings (block at)) (sym (inside-at post border)))

-- Round a post the diagonals need not be known. Where these go through the lowest posts of cells in an order, downward in that order every corner may be
-- scanned: where a diagonal does not join p to the post across a cell, the cell's lowest post stands beside p and is lower than the one across. Upward a
-- corner above p is joined to it exactly where p is the cell's lowest post, so where both sides of the cell are above p too. Over any strict total order;
-- in the reversed one the diagonals go through the highest posts, and down and up change places.
use Prim.Native.Nat.{ℕ, ◌+◌, ◌-◌, ◌≤◌}
use mathlib.Core.Path.{◌≡◌, refl, sym, ap, ◌∙◌}
use mathlib.Core.Bool.{Bool, true, false, cond, not, ◌&&◌}
use mathlib.Core.List.Memᴰ
use mathlib.Core.List.{List, [], ◌∷◌, ◌++◌}
use native.Mathlib.Omega.{arith}
use borrow.Author.Tests.{not-false}
use Rattle.surface.specs.Plot.{Plot, below, reversed, directed, PostOf}
use Rattle.surface.specs.Edges.{lower_of, through_lowest, Place, place, top, left, is_border, falls_in}
use Rattle.surface.specs.Spacings.{Spaced}
use Rattle.surface.specs.Lines.{next, toward}
use Rattle.surface.specs.declared.Spacings.{Spacings}
use Rattle.surface.specs.Lists.{flipped}
use Rattle.surface.proofs.General.Bools.{either}
use Rattle.surface.proofs.AnyOrder.Grid.{top-false, not_left}
use Rattle.surface.proofs.AnyOrder.Locality.{read-agree}
use Rattle.surface.proofs.General.Order.{StrictTotal}
use Rattle.rings.specs.Corners.{borders_of, corners_of}
use Rattle.rings.specs.declared.border.Borders.{Borders}
use Rattle.rings.specs.declared.corner.Corners.{Corners}
use Rattle.rings.proofs.Around.{north-west}
use Rattle.keys.specs.Keys.{cells}
use Rattle.next.specs.Scan.{step, scan, turn, corners_lower}
use Rattle.next.proofs.Onward.{onward, onward-strict, onward-own}
use Rattle.next.proofs.Scanned.{to_front, next-is, toward-strict}
use Rattle.keys.proofs.Nine.{n-there, ne-there, e-there, se-there, s-there, sw-there, w-there, nw-there}
use Rattle.next.proofs.Distances.{nearer-ahead}
use Rattle.next.proofs.Cells.{rising, falling, from-nw, from-ne, from-sw, from-se}

-- a scan, in any order
module _ (lower : ℕ → ℕ → Bool) (o : StrictTotal lower) where
  -- beside a, which goes before it, q is never found
  hidden : (x a q : ℕ) → lower a q ≡ true → lower_of lower (lower_of lower x q) a ≡ lower_of lower x a
  hidden x a q h = either (lower q x) (λ e. rw (e, h, o.trans a q x h e)) (λ e. rw e)

  unseen : (x a q : ℕ) (k m : List Place) → lower a q ≡ true → scan lower (lower_of lower x q) (k ++ place true a ∷ m) ≡ scan lower x (k ++ place true a ∷ m)
  unseen x a q k m h =
      to_front lower o (lower_of lower x q) k (place true a) m
      ∙ ap (λ (w : ℕ). scan lower w (k ++ m)) (hidden x a q h)
      ∙ sym (to_front lower o x k (place true a) m)

  -- so it may be scanned where it is not there
  free : (x q : ℕ) (t : Bool) (k m : List Place) → (t ≡ false → scan lower (lower_of lower x q) (k ++ m) ≡ scan lower x (k ++ m))
      → scan lower x (k ++ place t q ∷ m) ≡ scan lower x (k ++ place true q ∷ m)
  free x q true k m h = refl
  free x q false k m h = to_front lower o x k (place false q) m ∙ sym (h refl) ∙ sym (to_front lower o x k (place true q) m)

  -- the same for a corner whose cell is there off two borders
  free_off : (a b : Bool) (x q : ℕ) (u : Bool) (k m : List Place)
      → (a ≡ false → b ≡ false → u ≡ false → scan lower (lower_of lower x q) (k ++ m) ≡ scan lower x (k ++ m))
      → scan lower x (k ++ place (not a && (not b && u)) q ∷ m) ≡ scan lower x (k ++ place (not a && not b) q ∷ m)
  free_off true b x q u k m h = refl
  free_off false true x q u k m h = refl
  free_off false false x q u k m h = free x q u k m (h refl refl)

-- round a post, with the diagonals through the lowest posts of cells
module _ (lower : ℕ → ℕ → Bool) (o : StrictTotal lower) where
  -- round p, in an order of scanning
  module _ (columns p : ℕ) (wide : 2 ≤ columns) (ahead : ℕ → ℕ → Bool) (oa : StrictTotal ahead) where
    -- upward a place's flag matters only where its post is above p
    first_step : (q : ℕ) (t u : Bool) → ahead q p ≡ lower p q → (lower p q ≡ true → t ≡ u) → step ahead p (place t q) ≡ step ahead p (place u q)
    first_step q t u own h = rw own (either (lower p q) (λ e. rw (h e)) (λ e. rw e (level t ∙ sym (level u))))
      where
        level : (b : Bool) → cond b p p ≡ p
        level true = refl
        level false = refl

    same_flag : (q : ℕ) (t u : Bool) (k m : List Place) → ahead q p ≡ lower p q → (lower p q ≡ true → t ≡ u) → scan ahead p (k ++ place t q ∷ m) ≡ scan ahead p (k ++ place u q ∷ m)
    same_flag q t u k m own h =
        to_front ahead oa p k (place t q) m
        ∙ ap (λ (w : ℕ). scan ahead w (k ++ m)) (first_step q t u own h)
        ∙ sym (to_front ahead oa p k (place u q) m)

    -- and there it is whether both sides of the cell are above p
    ne-above : columns ≤ p → lower p (p - (columns - 1)) ≡ true → not (through_lowest lower columns (p - columns)) ≡ lower p (p - columns) && lower p (p + 1)
    ne-above far h =
        let e : p - columns + columns ≡ p = omega arith in
        let q : p - columns + 1 ≡ p - (columns - 1) = omega arith in
        rw e at (from-sw lower o columns (p - columns) wide (rw (e, q) h))

    se-above : lower p (p + (columns + 1)) ≡ true → through_lowest lower columns p ≡ lower p (p + 1) && lower p (p + columns)
    se-above h =
        let q : p + columns + 1 ≡ p + (columns + 1) = omega arith in
        from-nw lower o columns p wide (rw q h)

    sw-above : 1 ≤ p → lower p (p + (columns - 1)) ≡ true → not (through_lowest lower columns (p - 1)) ≡ lower p (p + columns) && lower p (p - 1)
    sw-above far h =
        let e : p - 1 + 1 ≡ p = omega arith in
        let q : p - 1 + columns ≡ p + (columns - 1) = omega arith in
        let s : p + (columns - 1) + 1 ≡ p + columns = omega arith in
        rw (e, q, s) at (from-ne lower o columns (p - 1) wide (rw (e, q) h))

    nw-above : columns + 1 ≤ p → lower p (p - (columns + 1)) ≡ true → through_lowest lower columns (p - columns - 1) ≡ lower p (p - 1) && lower p (p - columns)
    nw-above far h =
        let e : p - columns - 1 + columns + 1 ≡ p = omega arith in
        let q : p - columns - 1 ≡ p - (columns + 1) = omega arith in
        let n : p - columns - 1 + 1 ≡ p - columns = omega arith in
        let w : p - columns - 1 + columns ≡ p - 1 = omega arith in
        rw (e, n, w) at (from-se lower o columns (p - columns - 1) wide (rw (e, q) h))

    -- round a post at these borders
    module _ (at : Borders) (north : at.top ≡ false → columns ≤ p) (west : at.left ≡ false → 1 ≤ p) (north_west : at.left ≡ false → at.top ≡ false → columns + 1 ≤ p) where
      abbrev n : Place
      n = place (not at.top) (p - columns)

      abbrev e : Place
      e = place (not at.right) (p + 1)

      abbrev s : Place
      s = place (not at.bottom) (p + columns)

      abbrev w : Place
      w = place (not at.left) (p - 1)

      -- a lower post beside p goes before one across a cell
      pub record Hides : Type 0 where
        pub n-ne : at.top ≡ false → at.right ≡ false → lower (p - columns) (p - (columns - 1)) ≡ true → ahead (p - columns) (p - (columns - 1)) ≡ true
        pub e-ne : at.top ≡ false → at.right ≡ false → lower (p + 1) (p - (columns - 1)) ≡ true → ahead (p + 1) (p - (columns - 1)) ≡ true
        pub e-se : at.right ≡ false → at.bottom ≡ false → lower (p + 1) (p + (columns + 1)) ≡ true → ahead (p + 1) (p + (columns + 1)) ≡ true
        pub s-se : at.right ≡ false → at.bottom ≡ false → lower (p + columns) (p + (columns + 1)) ≡ true → ahead (p + columns) (p + (columns + 1)) ≡ true
        pub s-sw : at.bottom ≡ false → at.left ≡ false → lower (p + columns) (p + (columns - 1)) ≡ true → ahead (p + columns) (p + (columns - 1)) ≡ true
        pub w-sw : at.bottom ≡ false → at.left ≡ false → lower (p - 1) (p + (columns - 1)) ≡ true → ahead (p - 1) (p + (columns - 1)) ≡ true
        pub w-nw : at.left ≡ false → at.top ≡ false → lower (p - 1) (p - (columns + 1)) ≡ true → ahead (p - 1) (p - (columns + 1)) ≡ true
        pub n-nw : at.left ≡ false → at.top ≡ false → lower (p - columns) (p - (columns + 1)) ≡ true → ahead (p - columns) (p - (columns + 1)) ≡ true

      -- a post under another name
      named : (x y q : ℕ) → x ≡ y → lower x q ≡ true → lower y q ≡ true
      named x y q e h = ap (λ (z : ℕ). lower z q) (sym e) ∙ h

      module _ (falls : ℕ → Bool) (f : falls ≡ through_lowest lower columns) where
        -- p's corners by the diagonals round it
        abbrev joined : Corners
        joined =
            record {
              ne = not at.top && (not at.right && not (falls (p - columns)));
              se = not at.right && (not at.bottom && falls p);
              sw = not at.bottom && (not at.left && not (falls (p - 1)));
              nw = not at.left && (not at.top && falls (p - columns - 1));
            }

        told : (a : ℕ) (b : Bool) → falls a ≡ b → through_lowest lower columns a ≡ b
        told a b h = ap (λ (g : ℕ → Bool). g a) (sym f) ∙ h

        pub every-corner : Hides → scan ahead p (turn columns p at joined) ≡ scan ahead p (turn columns p at (cells at))
        every-corner hides =
            free_off ahead oa at.top at.right p (p - (columns - 1)) _ (n ∷ []) _
            (λ i j t.
            let far : columns ≤ p = north i in
            rw (i, j)
            (falling lower o columns (p - columns) wide (p - (columns - 1)) (told _ true (not-false _ t)) (Memᴰ.tail (Memᴰ.head (omega arith))) (λ x. omega arith) (λ x. omega arith)
            (λ h. unseen ahead oa p (p - columns) (p - (columns - 1)) [] _ (hides.n-ne i j h))
            (λ h. unseen ahead oa p (p + 1) (p - (columns - 1)) (place true (p - columns) ∷ []) _ (hides.e-ne i j (named _ (p + 1) _ (omega arith) h)))))
            ∙ free_off ahead oa at.right at.bottom p (p + (columns + 1)) _ (n ∷ place _ (p - (columns - 1)) ∷ e ∷ []) _
            (λ i j t.
            rw (i, j)
            (rising lower o columns p wide (p + (columns + 1)) (told _ false t) (Memᴰ.tail (Memᴰ.tail (Memᴰ.tail (Memᴰ.head (omega arith))))) (λ x. omega arith) (λ x. omega arith)
            (λ h. unseen ahead oa p (p + 1) (p + (columns + 1)) (n ∷ place _ (p - (columns - 1)) ∷ []) _ (hides.e-se i j h))
            (λ h. unseen ahead oa p (p + columns) (p + (columns + 1)) (n ∷ place _ (p - (columns - 1)) ∷ place true (p + 1) ∷ []) _ (hides.s-se i j h))))
            ∙ free_off ahead oa at.bottom at.left p (p + (columns - 1)) _ (n ∷ place _ (p - (columns - 1)) ∷ e ∷ place _ (p + (columns + 1)) ∷ s ∷ []) _
            (λ i j t.
            let far : 1 ≤ p = west j in
            rw (i, j)
            (falling lower o columns (p - 1) wide (p + (columns - 1)) (told _ true (not-false _ t)) (Memᴰ.tail (Memᴰ.tail (Memᴰ.head (omega arith)))) (λ x. omega arith) (λ x. omega arith)
            (λ h. unseen ahead oa p (p - 1) (p + (columns - 1)) (n ∷ place _ (p - (columns - 1)) ∷ e ∷ place _ (p + (columns + 1)) ∷ place true (p + columns) ∷ []) _ (hides.w-sw i j h))
            (λ h. unseen ahead oa p (p + columns) (p + (columns - 1)) (n ∷ place _ (p - (columns - 1)) ∷ e ∷ place _ (p + (columns + 1)) ∷ []) _ (hides.s-sw i j (named _ (p + columns) _ (omega arith) h)))))
            ∙ free_off ahead oa at.left at.top p (p - (columns + 1)) _ (n ∷ place _ (p - (columns - 1)) ∷ e ∷ place _ (p + (columns + 1)) ∷ s ∷ place _ (p + (columns - 1)) ∷ w ∷ []) _
            (λ i j t.
            let far : columns + 1 ≤ p = north_west i j in
            rw (i, j)
            (rising lower o columns (p - columns - 1) wide (p - (columns + 1)) (told _ false t) (Memᴰ.head (omega arith)) (λ x. omega arith) (λ x. omega arith)
            (λ h. unseen ahead oa p (p - columns) (p - (columns + 1)) [] _ (hides.n-nw i j (named _ (p - columns) _ (omega arith) h)))
            (λ h. unseen ahead oa p (p - 1) (p - (columns + 1)) (place true (p - columns) ∷ place _ (p - (columns - 1)) ∷ e ∷ place _ (p + (columns + 1)) ∷ s ∷ place _ (p + (columns - 1)) ∷ []) _ (hides.w-nw i j (named _ (p - 1) _ (omega arith) h)))))

        pub corners-above : ((q : ℕ) → ahead q p ≡ lower p q)
            → scan ahead p (turn columns p at joined) ≡ scan ahead p (turn columns p at (corners_lower (reversed lower) columns p at))
        corners-above own =
            rw f
            (same_flag (p - (columns - 1)) _ _ (n ∷ []) _ (own _) (λ h. read-agree at.top at.right (λ i _. ne-above (north i) h))
            ∙ same_flag (p + (columns + 1)) _ _ (n ∷ place _ (p - (columns - 1)) ∷ e ∷ []) _ (own _) (λ h. read-agree at.right at.bottom (λ _ _. se-above h))
            ∙ same_flag (p + (columns - 1)) _ _ (n ∷ place _ (p - (columns - 1)) ∷ e ∷ place _ (p + (columns + 1)) ∷ s ∷ []) _ (own _)
            (λ h. read-agree at.bottom at.left (λ _ j. sw-above (west j) h))
            ∙ same_flag (p - (columns + 1)) _ _ (n ∷ place _ (p - (columns - 1)) ∷ e ∷ place _ (p + (columns + 1)) ∷ s ∷ place _ (p + (columns - 1)) ∷ w ∷ []) _ (own _)
            (λ h. read-agree at.left at.top (λ i j. nw-above (north_west i j) h)))

module _ {pl : Plot} {p : ℕ} (post : PostOf pl p) where
  abbrev at : Borders
  at = borders_of pl.rows pl.columns p

  wide : 2 ≤ pl.columns
  wide = post.valid.sides.wide

  north : top pl.columns p ≡ false → pl.columns ≤ p
  north = (top-false post.valid.sides p).0

  west : left pl.columns p ≡ false → 1 ≤ p
  west = not_left post.valid.sides p

  corner : left pl.columns p ≡ false → top pl.columns p ≡ false → pl.columns + 1 ≤ p
  corner = north-west post.valid.sides p post.post

  -- the corners that matter: toward the posts that cells are cut by all that are there, the other way those with both sides of their cell that way
  abbrev pub seen : Bool → Corners
  seen upward = cond (flipped pl.highest upward) (corners_lower (directed upward (below pl)) pl.columns p at) (cells at)

  module _ (s : Spacings) (spaced : Spaced s) where
    abbrev ahead : Bool → ℕ → ℕ → Bool
    ahead upward = onward pl s (directed upward (below pl)) p

    ahead-strict : (upward : Bool) → StrictTotal (ahead upward)
    ahead-strict upward = onward-strict pl s (directed upward (below pl)) p (toward-strict upward pl) spaced

    hides : (upward : Bool) → Hides (directed upward (below pl)) (toward-strict upward pl) pl.columns p wide (ahead upward) (ahead-strict upward) at north west corner
    hides upward =
        record {
          n-ne = λ t r. nearer-ahead post s spaced upward (n-there post t) (ne-there post t r) (omega arith);
          e-ne = λ t r. nearer-ahead post s spaced upward (e-there post r) (ne-there post t r) (omega arith);
          e-se = λ r b. nearer-ahead post s spaced upward (e-there post r) (se-there post r b) (omega arith);
          s-se = λ r b. nearer-ahead post s spaced upward (s-there post b) (se-there post r b) (omega arith);
          s-sw = λ b l. nearer-ahead post s spaced upward (s-there post b) (sw-there post b l) (omega arith);
          w-sw = λ b l. nearer-ahead post s spaced upward (w-there post l) (sw-there post b l) (omega arith);
          w-nw = λ l t. nearer-ahead post s spaced upward (w-there post l) (nw-there post l t) (omega arith);
          n-nw = λ l t. nearer-ahead post s spaced upward (n-there post t) (nw-there post l t) (omega arith);
        }

    -- next, by a scan of the corners that matter
    pub next-block : (upward : Bool) → (upward ≡ false → is_border pl.rows pl.columns p ≡ false)
        → next (toward pl s upward) p ≡ scan (ahead upward) p (turn pl.columns p at (seen upward))
    next-block upward off = next-is post s spaced upward off ∙ go upward pl.highest refl
      where
        cut : (h : Bool) → pl.highest ≡ h → falls_in pl ≡ through_lowest (directed h (below pl)) pl.columns
        cut h e = ap (λ (b : Bool). through_lowest (directed b (below pl)) pl.columns) e

        own : (upward : Bool) (q : ℕ) → ahead upward q p ≡ directed upward (below pl) q p
        own upward = onward-own pl s (directed upward (below pl)) p (toward-strict upward pl) spaced

        go : (upward h : Bool) → pl.highest ≡ h
            → scan (ahead upward) p (turn pl.columns p at (corners_of pl.rows pl.columns (falls_in pl) p))
            ≡ scan (ahead upward) p (turn pl.columns p at (cond (flipped h upward) (corners_lower (directed upward (below pl)) pl.columns p at) (cells at)))
        go true true e = every-corner (reversed (below pl)) (toward-strict true pl) pl.columns p wide (ahead true) (ahead-strict true) at north west corner (falls_in pl) (cut true e) (hides true)
        go true false e = corners-above (below pl) (toward-strict false pl) pl.columns p wide (ahead true) (ahead-strict true) at north west corner (falls_in pl) (cut false e) (own true)
        go false true e = corners-above (reversed (below pl)) (toward-strict true pl) pl.columns p wide (ahead false) (ahead-strict false) at north west corner (falls_in pl) (cut true e) (own false)
        go false false e = every-corner (below pl) (toward-strict false pl) pl.columns p wide (ahead false) (ahead-strict false) at north west corner (falls_in pl) (cut false e) (hides false)

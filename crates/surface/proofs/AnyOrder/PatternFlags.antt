-- A post's pattern by comparisons alone of it and the eight posts round it, over any strict total order with the diagonals through the lowest posts, or the
-- highest: the diagonals need not be known. Which of a cell's four posts is the lowest settles what the corner across from the post adds to the sign of
-- the side before it: through the lowest, a corner that is below both the post and the side after it makes the sign true; through the highest, one that
-- is above both makes it false.
use Prim.Native.Nat.{ℕ, ◌+◌, ◌-◌, ◌*◌, ◌<◌}
use native.Mathlib.Omega.{arith}
use mathlib.Core.Path.{◌≡◌, refl, sym, ◌∙◌, ap}
use mathlib.Core.Bool.{Bool, true, false, cond, not, ◌&&◌, ◌||◌, true≢false}
use Rattle.surface.specs.Plot.{virtual_pit, directed, Sides}
use Rattle.surface.specs.Lists.{one, flipped}
use Rattle.surface.specs.Edges.{through_lowest, places, top, bottom, left, right}
use Rattle.surface.specs.Flags.{sign_by, pair_by, lower_by, upper_by}
use Rattle.surface.specs.Patterns.{carried, pattern_of}
use Rattle.surface.proofs.General.Bools.{either}
use Rattle.surface.proofs.General.Order.{StrictTotal}
use Rattle.surface.proofs.AnyOrder.Order.{directed-strict, directed-flipped}
use Rattle.surface.proofs.AnyOrder.Signs.{Signs, signs, signs_from, signs-from}
use Rattle.surface.proofs.AnyOrder.Grid.{top-false, not_left, north-left, top-bottom, left-right}
use Rattle.surface.proofs.AnyOrder.CellFlags.{Corner, corners, falls-is}

-- a corner by its sign
abbrev Signed : (h x low after joined : Bool) → Type 0
Signed h x low after joined = cond joined low x ≡ sign_by h x low after

-- what holds of all flags turned over holds of the flags by rule 2
signed : (h x low after joined : Bool) → Corner (flipped h x) (flipped h low) (flipped h after) joined → Signed h x low after joined
unfolding sign_by
signed false x low after joined c = c.told
signed true x low after joined c = sym (turned joined low x) ∙ ap not c.told ∙ back x low after
  where
    turned : (j z x : Bool) → not (cond j (not z) (not x)) ≡ cond j z x
    turned true true x = refl
    turned true false x = refl
    turned false z true = refl
    turned false z false = refl

    back : (x z a : Bool) → not (not x || (not z && not a)) ≡ x && (z || a)
    back true true a = refl
    back true false true = refl
    back true false false = refl
    back false z a = refl

-- the virtual pit at a corner and at the side after it leaves the sign before it, and at the side before it and the corner it is below
pit-after : (h x : Bool) → sign_by h x true false ≡ x
unfolding sign_by
pit-after true true = refl
pit-after true false = refl
pit-after false true = refl
pit-after false false = refl

pit-before : (h a : Bool) → sign_by h true true a ≡ true
unfolding sign_by
pit-before true a = refl
pit-before false a = refl

-- a corner beyond a border or within: u, the border of the side before it, v, that of the side after it
corner-sign : (h u v joined x low after : Bool) → (u ≡ true → v ≡ false → x ≡ true) → (u ≡ false → v ≡ false → Signed h x low after joined)
    → cond (not u && (not v && joined)) low x ≡ sign_by h x (u || (v || low)) (not v && (u || after))
corner-sign h true true j x low a f g = sym (pit-after h x)
corner-sign h true false j x low a f g = rw (f refl refl) (sym (pit-before h true))
corner-sign h false true j x low a f g = sym (pit-after h x)
corner-sign h false false j x low a f g = g refl refl

-- a side: beyond a border the virtual pit stands there or at a side before it, whose sign is carried
side-sign : (u v x y : Bool) → (u ≡ true → v ≡ true → y ≡ true) → cond (not (u && v)) (cond u true x) y ≡ u || x
side-sign true true x y f = f refl refl
side-sign true false x y f = refl
side-sign false v x y f = refl

-- at W no border is left to stand at, but where S carried it
west-sign : (h t b f l low after x s : Bool) → (f ≡ true → l ≡ false) → (b ≡ true → s ≡ true)
    → cond (not (f && (t || (l || b)))) (cond f true x) (sign_by h s (b || (f || low)) (not f && (b || after))) ≡ cond (t && f) s (f || x)
west-sign h true b false l low a x s i k = refl
west-sign h false b false l low a x s i k = refl
west-sign h true true true l low a x s i k = pit-after h s
west-sign h true false true l low a x s i k = pit-after h s
west-sign h false true true true low a x s i k = absurd (true≢false (i refl))
west-sign h false true true false low a x s i k = pit-after h s ∙ k refl
west-sign h false false true true low a x s i k = absurd (true≢false (i refl))
west-sign h false false true false low a x s i k = refl

or-cond : (t x : Bool) → cond t true x ≡ t || x
or-cond true x = refl
or-cond false x = refl

pub number : Signs → ℕ
number g =
    one g.n + 2 * (one g.ne + 2 * (one g.e + 2 * (one g.se + 2 * (one g.s + 2 * (one g.sw + 2 * (one g.w + 2 * one g.nw))))))

-- of a post at these borders: t top, b bottom, f first column, l last column
module _ (h t b f l ne se sw nw N NE E SE S SW W NW NE' SE' SW' NW' : Bool) (tb : t ≡ true → b ≡ false) (fl : f ≡ true → l ≡ false) where
  abbrev n : Bool
  n = t || N

  abbrev e : Bool
  e = l || E

  abbrev s : Bool
  s = b || S

  abbrev w : Bool
  w = cond (t && f) s (f || W)

  pub pattern-from : (t ≡ false → l ≡ false → Signed h N NE NE' ne) → (l ≡ false → b ≡ false → Signed h E SE SE' se) → (b ≡ false → f ≡ false → Signed h S SW SW' sw)
      → (f ≡ false → t ≡ false → Signed h W NW NW' nw)
      → number (signs_from t b f l ne se sw nw N NE E SE S SW W NW)
      ≡ upper_by (pair_by h n (t || (l || NE)) (not l && (t || NE'))) (pair_by h w (f || (t || NW)) (not t && (f || NW')))
      + lower_by (pair_by h e (l || (b || SE)) (not b && (l || SE'))) (pair_by h s (b || (f || SW)) (not f && (b || SW')))
  unfolding signs_from number pair_by
  pattern-from c1 c2 c3 c4 =
      rw (
        or-cond t N,
        corner-sign h t l ne n NE NE' (λ i j. rw i refl) (λ i j. rw i (c1 i j)),
        side-sign l t E (sign_by h n (t || (l || NE)) (not l && (t || NE'))) (λ i j. rw j (pit-before h _)),
        corner-sign h l b se e SE SE' (λ i j. rw i refl) (λ i j. rw i (c2 i j)),
        side-sign b (t || l) S (sign_by h e (l || (b || SE)) (not b && (l || SE'))) (λ i j. rw (or-second t l (not_top i) j) (pit-before h _)),
        corner-sign h b f sw s SW SW' (λ i j. rw i refl) (λ i j. rw i (c3 i j)),
        west-sign h t b f l SW SW' W s fl (λ i. rw i refl),
        corner-sign h f t nw w NW NW' (λ i j. rw (i, j) refl) (λ i j. rw (i, j) (c4 i j)),
      )
      (omega arith)
    where
      not_top : b ≡ true → t ≡ false
      not_top i = either t (λ j. absurd (true≢false (sym i ∙ tb j))) (λ j. j)

      or-second : (x y : Bool) → x ≡ false → x || y ≡ true → y ≡ true
      or-second x y i j = rw i at j

-- any post of a plot, whose diagonals go through the lowest posts or through the highest: beyond a border is the virtual pit, which is below it
module _ (lower : ℕ → ℕ → Bool) (o : StrictTotal lower) (highest : Bool) {rows columns : ℕ} (sides : Sides rows columns) (p : ℕ) where
  abbrev t : Bool
  t = top columns p

  abbrev b : Bool
  b = bottom rows columns p

  abbrev f : Bool
  f = left columns p

  abbrev l : Bool
  l = right columns p

  abbrev cut : ℕ → ℕ → Bool
  cut = directed highest lower

  cut-strict : StrictTotal cut
  cut-strict = directed-strict highest o

  abbrev falls_at : ℕ → Bool
  falls_at = through_lowest cut columns

  -- a corner as the diagonals see it
  seen : {x z y : ℕ} (joined : Bool) → (x ≡ p → ⊥) → (z ≡ p → ⊥) → (z ≡ y → ⊥) → Corner (cut x p) (cut z p) (cut z y) joined → Signed highest (lower x p) (lower z p) (lower z y) joined
  seen {x} {z} {y} joined i j k c =
      signed highest _ _ _ _ (rw (directed-flipped highest o x p i, directed-flipped highest o z p j, directed-flipped highest o z y k) at c)

  corner-ne : t ≡ false → l ≡ false → Signed highest (lower (p - columns) p) (lower (p - columns + 1) p) (lower (p - columns + 1) (p + 1)) (not (falls_at (p - columns)))
  corner-ne i _ =
      let h = (top-false sides p).0 i in
      let x : p - columns < p - columns + 1 = omega arith in
      let y : p - columns + 1 < p = omega arith in
      let z : p < p + 1 = omega arith in
      seen (not (falls_at (p - columns))) (λ e. omega arith) (λ e. omega arith) (λ e. omega arith)
      (rw (falls-is cut cut-strict (p - columns) (p - columns + 1) p (p + 1) x y z columns refl (omega arith) (omega arith))
      (corners cut cut-strict (p - columns) (p - columns + 1) p (p + 1) x y z).sw)

  corner-se : l ≡ false → b ≡ false → Signed highest (lower (p + 1) p) (lower (p + columns + 1) p) (lower (p + columns + 1) (p + columns)) (falls_at p)
  corner-se _ _ =
      let x : p < p + 1 = omega arith in
      let y : p + 1 < p + columns = omega arith in
      let z : p + columns < p + columns + 1 = omega arith in
      seen (falls_at p) (λ e. omega arith) (λ e. omega arith) (λ e. omega arith)
      (rw (falls-is cut cut-strict p (p + 1) (p + columns) (p + columns + 1) x y z columns refl refl refl)
      (corners cut cut-strict p (p + 1) (p + columns) (p + columns + 1) x y z).nw)

  corner-sw : b ≡ false → f ≡ false → Signed highest (lower (p + columns) p) (lower (p + columns - 1) p) (lower (p + columns - 1) (p - 1)) (not (falls_at (p - 1)))
  corner-sw _ i =
      let h = not_left sides p i in
      let x : p - 1 < p = omega arith in
      let y : p < p + columns - 1 = omega arith in
      let z : p + columns - 1 < p + columns = omega arith in
      seen (not (falls_at (p - 1))) (λ e. omega arith) (λ e. omega arith) (λ e. omega arith)
      (rw (falls-is cut cut-strict (p - 1) p (p + columns - 1) (p + columns) x y z columns (omega arith) (omega arith) (omega arith))
      (corners cut cut-strict (p - 1) p (p + columns - 1) (p + columns) x y z).ne)

  corner-nw : f ≡ false → t ≡ false → Signed highest (lower (p - 1) p) (lower (p - columns - 1) p) (lower (p - columns - 1) (p - columns)) (falls_at (p - columns - 1))
  corner-nw i j =
      let h = (top-false sides p).0 j in
      let k = not_left sides (p - columns) (north-left sides p j ∙ i) in
      let x : p - columns - 1 < p - columns = omega arith in
      let y : p - columns < p - 1 = omega arith in
      let z : p - 1 < p = omega arith in
      seen (falls_at (p - columns - 1)) (λ e. omega arith) (λ e. omega arith) (λ e. omega arith)
      (rw (falls-is cut cut-strict (p - columns - 1) (p - columns) (p - 1) p x y z columns (omega arith) (omega arith) (omega arith))
      (corners cut cut-strict (p - columns - 1) (p - columns) (p - 1) p x y z).se)

  as_number : pattern_of (carried (λ q. lower q p) true (places rows columns falls_at p)) ≡ number (signs rows columns falls_at (λ q. lower q p) p)
  unfolding pattern_of carried places signs number
  as_number = omega arith

  pub pattern-by-flags : lower virtual_pit p ≡ true
      → pattern_of (carried (λ q. lower q p) true (places rows columns falls_at p))
      ≡ upper_by (pair_by highest (t || lower (p - columns) p) (t || (l || lower (p - columns + 1) p)) (not l && (t || lower (p - columns + 1) (p + 1))))
      (pair_by highest (cond (t && f) (b || lower (p + columns) p) (f || lower (p - 1) p)) (f || (t || lower (p - columns - 1) p)) (not t && (f || lower (p - columns - 1) (p - columns))))
      + lower_by (pair_by highest (l || lower (p + 1) p) (l || (b || lower (p + columns + 1) p)) (not b && (l || lower (p + columns + 1) (p + columns))))
      (pair_by highest (b || lower (p + columns) p) (b || (f || lower (p + columns - 1) p)) (not f && (b || lower (p + columns - 1) (p - 1))))
  pattern-by-flags pit =
      as_number
      ∙ ap number (signs-from rows columns falls_at (λ q. lower q p) p pit)
      ∙ pattern-from highest t b f l _ _ _ _ _ _ _ _ _ _ _ _ _ _ _ _ (top-bottom sides p) (left-right sides p) corner-ne corner-se corner-sw corner-nw

-- Rows cut out of a plot, from an even row on, are a plot in which each post has the mark that it has there, but for posts beside a cut: a mark reads its
-- own row and the two beside it.
use Prim.Native.Nat.{ℕ, ◌+◌, ◌-◌, ◌*◌, ◌%◌, ◌≤◌, ◌<◌}
use native.Mathlib.Omega.{arith}
use native.Mathlib.Nat.{mul-add-div_right, mul-add-mod_self_right, mul-le-mul_right, add-mul}
use mathlib.Core.Path.{◌≡◌, refl, sym, ◌∙◌, ap}
use mathlib.Core.Logic.{◌⊎◌, ⊎_elim}
use mathlib.Core.Bool.{Bool, false, not, ◌&&◌, ◌||◌}
use lib.Dec.{leb, ltb, eqb}
use lib.IntN.{pos}
use lib.ListN.{drop, length-drop}
use lib.Seq.{get_or-take, get_or-drop, length-take-le}
use borrow.Author.Tests.{eqb-true, eq-eqb, leb-true, le-leb, ltb-true, lt-ltb}
use Rattle.surface.specs.Plot.{Plot, posts, row, column, height, is_height, is_odd, driven_before, below, Sides, Valid, PostOf}
use Rattle.surface.specs.Edges.{top, bottom, left, right}
use Rattle.surface.specs.Marks.{mark_at, touches}
use Rattle.surface.specs.Flags.{north_pair, east_pair, south_pair, west_sign, west_pair}
use Rattle.surface.specs.Patterns.{mark_in}
use Rattle.surface.proofs.General.Bools.{either, same_test}
use Rattle.surface.proofs.General.FirstNot.{all_drop, all_take}
use Rattle.surface.proofs.AnyOrder.Grid.{not-pit, top-false, not_left, north-left}
use Rattle.surface.proofs.AnyOrder.Offsets.{to-n, to-ne, to-e, to-se, to-s, to-sw, to-w, to-nw}
use Rattle.surface.proofs.OfPlots.HeightOrder.{below-lex}
use Rattle.surface.proofs.OfPlots.Patterns.{mark-in, pattern-flags}
use Rattle.bands.specs.Bands.{band_of}

-- tests that are the same, where it matters
or_same : {a a' x y : Bool} → a ≡ a' → (a' ≡ false → x ≡ y) → a || x ≡ a' || y
or_same {a'} e f = rw e (either a' (λ t. rw t) (λ t. rw t (f t)))

not-and-same : {a a' x y : Bool} → a ≡ a' → (a' ≡ false → x ≡ y) → not a && x ≡ not a' && y
not-and-same {a'} e f = rw e (either a' (λ t. rw t) (λ t. rw t (f t)))

same-eqb : (a b x y : ℕ) → (a ≡ b → x ≡ y) → (x ≡ y → a ≡ b) → eqb a b ≡ eqb x y
same-eqb a b x y f g = same_test _ _ (λ e. eq-eqb x y (f (eqb-true a b e))) (λ e. eq-eqb a b (g (eqb-true x y e)))

-- a post of the band that is not beside a cut: the band begins or ends with the plot, or there is a row more
pub record Inner (rows columns first end u : ℕ) : Type 0 where
  pub post : u < (end - first) * columns
  pub above : (first ≡ 0) ⊎ (1 ≤ row columns u)
  pub under : (end ≡ rows) ⊎ (row columns u + 2 ≤ end - first)

-- rows that may be cut out: from an even one on, two at least, all of the plot
pub record Cut (rows first end : ℕ) : Type 0 where
  pub even : first % 2 ≡ 0
  pub some : first + 2 ≤ end
  pub fits : end ≤ rows

module _ (pl : Plot) (v : Valid pl) (first end : ℕ) (cut : Cut pl.rows first end) where
  abbrev c : ℕ
  c = pl.columns

  -- how many rows and posts the band has, and how many posts are before it
  abbrev k : ℕ
  k = end - first

  abbrev n : ℕ
  n = k * c

  abbrev s : ℕ
  s = first * c

  abbrev band : Plot
  band = band_of pl first end

  pub band-size : n ≡ end * c - s
  band-size = let e : end ≡ first + k = omega arith in omega (arith, ap (λ (r : ℕ). r * c) e, add-mul first k c)

  inside : s + n ≤ posts pl
  inside = omega (arith, mul-le-mul_right c cut.fits, mul-le-mul_right c cut.some, add-mul first 2 c, band-size)

  band-sides : Sides k c
  band-sides =
      record {
        tall = omega arith;
        low = omega (arith, v.sides);
        wide = v.sides.wide;
        narrow = v.sides.narrow;
        few = omega (arith, inside, v.sides);
      }

  pub band-valid : Valid band
  band-valid =
      record {
        sides = band-sides;
        size = length-take-le (end * c - s) (drop s pl.heights) (simp length-drop (omega (arith, inside, band-size, v.size))) ∙ sym band-size;
        in_range = all_take is_height (end * c - s) _ (all_drop is_height s pl.heights v.in_range);
      }

  -- heights, rows and columns
  height-in : (u : ℕ) → u < n → height pl (s + u) ≡ height band u
  height-in u h = sym (get_or-take (end * c - s) (drop s pl.heights) u (pos 0) (omega (arith, band-size)) ∙ get_or-drop s pl.heights u (pos 0))

  pub row_in : (u : ℕ) → row c (s + u) ≡ first + row c u
  row_in u = mul-add-div_right (omega (arith, v.sides)) first u

  pub column-in : (u : ℕ) → column c (s + u) ≡ column c u
  column-in u = mul-add-mod_self_right first c u

  pub touches-in : (u w : ℕ) → touches c (s + u) (s + w) ≡ touches c u w
  unfolding touches
  touches-in u w = rw (row_in u, row_in w, column-in u, column-in w, close (row c u) (row c w), close (row c w) (row c u))
    where
      close : (a b : ℕ) → leb (first + a) (first + b + 1) ≡ leb a (b + 1)
      close a b =
          same_test _ _ (λ e. le-leb a (b + 1) (omega (arith, leb-true (first + a) (first + b + 1) e)))
          (λ e. le-leb (first + a) (first + b + 1) (omega (arith, leb-true a (b + 1) e)))

  -- the order: an even number of rows more turns no tie
  driven-in : (u w : ℕ) → driven_before c (s + u) (s + w) ≡ driven_before c u w
  unfolding driven_before
  driven-in u w = rw (row_in u, row_in w, column-in u, column-in w, less (row c u) (row c w), less (row c w) (row c u), odd (row c u))
    where
      less : (a b : ℕ) → ltb (first + a) (first + b) ≡ ltb a b
      less a b =
          same_test _ _ (λ e. lt-ltb a b (omega (arith, ltb-true (first + a) (first + b) e)))
          (λ e. lt-ltb (first + a) (first + b) (omega (arith, ltb-true a b e)))

      odd : (a : ℕ) → is_odd (first + a) ≡ is_odd a
      odd a = let e : (first + a) % 2 ≡ a % 2 = omega (arith, cut.even) in rw e

  below_in : (x y u w : ℕ) → x ≡ s + u → y ≡ s + w → u < n → w < n → below pl x y ≡ below band u w
  below_in x y u w e f h g =
      rw (e, f)
      (below-lex pl (s + u) (s + w) (not-pit v.sides (omega (arith, inside))) (not-pit v.sides (omega (arith, inside)))
      ∙ rw (height-in u h, height-in w g, driven-in u w) (sym (below-lex band u w (not-pit band-sides h) (not-pit band-sides g))))

  module _ (u : ℕ) (i : Inner pl.rows c first end u) where
    abbrev p : ℕ
    p = s + u

    -- the borders
    top_in : top c p ≡ top c u
    top_in =
        ap (λ (r : ℕ). eqb r 0) (row_in u)
        ∙ same-eqb (first + row c u) 0 (row c u) 0 (λ e. omega arith) (λ e. ⊎_elim (λ (z : first ≡ 0). omega arith) (λ (z : 1 ≤ row c u). omega arith) i.above)

    bottom-in : bottom pl.rows c p ≡ bottom k c u
    bottom-in =
        ap (λ (r : ℕ). eqb (r + 1) pl.rows) (row_in u)
        ∙ same-eqb (first + row c u + 1) pl.rows (row c u + 1) k
        (λ e. ⊎_elim (λ (z : end ≡ pl.rows). omega arith) (λ (z : row c u + 2 ≤ k). omega arith) i.under)
        (λ e. ⊎_elim (λ (z : end ≡ pl.rows). omega arith) (λ (z : row c u + 2 ≤ k). omega arith) i.under)

    left_in : left c p ≡ left c u
    left_in = ap (λ (x : ℕ). eqb x 0) (column-in u)

    right-in : right c p ≡ right c u
    right-in = ap (λ (x : ℕ). eqb (x + 1) c) (column-in u)

    -- the four pairs of a side and a corner, each by the comparisons that it reads
    east-in : east_pair pl p ≡ east_pair band u
    unfolding east_pair
    east-in =
        let h = i.post in
        let x = or_same right-in (λ r. below_in (p + 1) p (u + 1) u (omega arith) refl (to-e band-sides h r).in_plot h) in
        let y = or_same right-in (λ r. or_same bottom-in (λ b. below_in (p + c + 1) p (u + c + 1) u (omega arith) refl (to-se band-sides h r b).in_plot h)) in
        let z = not-and-same bottom-in (λ b. or_same right-in (λ r. below_in (p + c + 1) (p + c) (u + c + 1) (u + c) (omega arith) (omega arith) (to-se band-sides h r b).in_plot (to-s band-sides h b).in_plot)) in
        rw (x, y, z)

    south-in : south_pair pl p ≡ south_pair band u
    unfolding south_pair
    south-in =
        let h = i.post in
        let x = or_same bottom-in (λ b. below_in (p + c) p (u + c) u (omega arith) refl (to-s band-sides h b).in_plot h) in
        let y = or_same bottom-in (λ b. or_same left_in (λ l. below_in (p + c - 1) p (u + c - 1) u (omega (arith, v.sides)) refl (to-sw band-sides h b l).in_plot h)) in
        let z = not-and-same left_in (λ l. or_same bottom-in (λ b. below_in (p + c - 1) (p - 1) (u + c - 1) (u - 1) (omega (arith, v.sides)) (omega (arith, not_left band-sides u l)) (to-sw band-sides h b l).in_plot (to-w band-sides h l).in_plot)) in
        rw (x, y, z)

    north-in : north_pair pl p ≡ north_pair band u
    unfolding north_pair
    north-in =
        let h = i.post in
        let x = or_same top_in (λ t. below_in (p - c) p (u - c) u (omega (arith, (top-false band-sides u).0 t)) refl (to-n band-sides h t).in_plot h) in
        let y = or_same top_in (λ t. or_same right-in (λ r. below_in (p - c + 1) p (u - c + 1) u (omega (arith, (top-false band-sides u).0 t)) refl (to-ne band-sides h t r).in_plot h)) in
        let z = not-and-same right-in (λ r. or_same top_in (λ t. below_in (p - c + 1) (p + 1) (u - c + 1) (u + 1) (omega (arith, (top-false band-sides u).0 t)) (omega arith) (to-ne band-sides h t r).in_plot (to-e band-sides h r).in_plot)) in
        rw (x, y, z)

    west-sign-in : west_sign pl p ≡ west_sign band u
    unfolding west_sign
    west-sign-in =
        let h = i.post in
        let x = or_same bottom-in (λ b. below_in (p + c) p (u + c) u (omega arith) refl (to-s band-sides h b).in_plot h) in
        let y = or_same left_in (λ l. below_in (p - 1) p (u - 1) u (omega (arith, not_left band-sides u l)) refl (to-w band-sides h l).in_plot h) in
        rw (x, y, top_in, left_in)

    west-in : west_pair pl p ≡ west_pair band u
    unfolding west_pair
    west-in =
        let h = i.post in
        let far : top c u ≡ false → left c u ≡ false → 1 ≤ u - c = λ t l. not_left band-sides (u - c) (north-left band-sides u t ∙ l) in
        let x = or_same left_in (λ l. or_same top_in (λ t. below_in (p - c - 1) p (u - c - 1) u (omega (arith, far t l)) refl (to-nw band-sides h l t).in_plot h)) in
        let y = not-and-same top_in (λ t. or_same left_in (λ l. below_in (p - c - 1) (p - c) (u - c - 1) (u - c) (omega (arith, far t l)) (omega (arith, far t l)) (to-nw band-sides h l t).in_plot (to-n band-sides h t).in_plot)) in
        rw (west-sign-in, x, y)

    pub mark-band : mark_at pl p ≡ mark_at band u
    mark-band =
        let a : PostOf pl p = record { valid = v; post = omega (arith, inside, i.post) } in
        let b : PostOf band u = record { valid = band-valid; post = i.post } in
        mark-in a ∙ ap mark_in (pattern-flags a ∙ rw (north-in, east-in, south-in, west-in) (sym (pattern-flags b))) ∙ sym (mark-in b)

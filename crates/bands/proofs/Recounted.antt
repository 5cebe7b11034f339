-- What counting in the rows round a post, before and after a new height, says of the counts of the plot with that height.
use Prim.Native.Nat.{ℕ, ◌+◌, ◌-◌, ◌*◌, ◌≤◌, ◌<◌}
use native.Mathlib.Omega.{arith}
use native.Mathlib.Nat.{mul-le-mul_right, add-mul, one-mul, mul-one}
use mathlib.Core.Path.{◌≡◌, sym, ◌∙◌, ap}
use mathlib.Core.Logic.{◌⊎◌, inl, inr, ⊎_elim}
use mathlib.Core.Bool.{Bool, true, false, cond}
use mathlib.Core.List.{List, map}
use lib.Dec.{ltb, eqb}
use lib.IntN.{ℤ}
use lib.ListN.{get_or, set, take, drop}
use lib.Seq.{drop-set-add, take-set-lt}
use borrow.Author.Tests.{ltb-true, ltb-false}
use Rattle.surface.specs.Lists.{list_of, one, count, total}
use Rattle.surface.specs.Plot.{Plot, posts, row, reshot, is_height, Sides, Valid, PostOf}
use Rattle.surface.specs.Marks.{mark_at, marks_of, touches, redrawn, peaks, pits, saddles, multiplicity}
use Rattle.surface.specs.Patterns.{pattern_at, mark_in}
use Rattle.surface.proofs.General.Bools.{either}
use Rattle.surface.proofs.General.Sum.{sum, sum-ext, sum-le, sum-const, sum-split}
use Rattle.surface.proofs.General.ListOf.{length-list_of, get_or-list_of, list_of-ext, count-list_of, total-list_of, map-list_of, part-list_of}
use Rattle.surface.proofs.AnyOrder.Grid.{post_is, column-lt, row_lt, row_ge}
use Rattle.surface.proofs.AnyOrder.Offsets.{touches-close}
use Rattle.surface.proofs.OfPlots.Instance.{plot-balance}
use Rattle.surface.proofs.OfPlots.Patterns.{mark-in}
use Rattle.surface.proofs.OfPlots.Redrawn.{mark_at-set}
use Rattle.surface.proofs.OfCalls.Series.{reshot-valid}
use Rattle.tally.specs.Tally.{Counted}
use Rattle.tally.specs.declared.Tally.{Tally}
use Rattle.retally.specs.Room.{max_copy}
use Rattle.bands.specs.Bands.{band_of, band_first, band_end}
use Rattle.bands.proofs.Bands.{Inner, Cut, band-size, row_in, touches-in, mark-band}

one-most : (b : Bool) → one b ≤ 1
one-most true = omega arith
one-most false = omega arith

-- the counts of a plot are small: no more posts than there are have one mark, and the balance tells the saddles
few-counts : (pl : Plot) → Valid pl → peaks (marks_of pl) + pits (marks_of pl) + saddles (marks_of pl) < 65536
few-counts pl v = omega (arith, plot-balance pl v.sides, of-mark, v.sides)
  where
    most : (x : ℕ) → count (λ m. eqb m x) (marks_of pl) ≤ posts pl
    most x =
        unfold marks_of in
        let marked = count-list_of (λ m. eqb m x) (mark_at pl) (posts pl) in
        let each = sum-le (posts pl) (λ p. one (eqb (mark_at pl p) x)) (λ _. 1) (λ p _. one-most (eqb (mark_at pl p) x)) in
        omega (arith, marked, each, sum-const (posts pl) 1, mul-one (posts pl))

    of-mark : (peaks (marks_of pl) ≤ posts pl) × (pits (marks_of pl) ≤ posts pl + 1)
    of-mark = unfold peaks pits in (most 1, omega (arith, most 2))

-- a count of a plot and that with the new height, by those of some rows before and after
pub record Moves (all before after new : ℕ) : Type 0 where
  pub low : before ≤ all
  pub sum : all + after ≡ new + before

-- the three counts of lists of marks: of some rows before and after, and of the plot before and after
pub record Recounted (before after all new : List ℕ) : Type 0 where
  pub of_peaks : Moves (peaks all) (peaks before) (peaks after) (peaks new)
  pub of_pits : Moves (pits all) (pits before) (pits after) (pits new)
  pub of_saddles : Moves (saddles all) (saddles before) (saddles after) (saddles new)
  pub few : peaks new + pits new + saddles new < 65536

-- so where the counts are at hand
pub record Tallied (all before after : Tally) (new : List ℕ) : Type 0 where
  pub of_peaks : Moves all.peaks before.peaks after.peaks (peaks new)
  pub of_pits : Moves all.pits before.pits after.pits (pits new)
  pub of_saddles : Moves all.saddles before.saddles after.saddles (saddles new)
  pub few : peaks new + pits new + saddles new < 65536

pub tallied : {before after all new : List ℕ} (t b a : Tally) → Recounted before after all new → Counted all t.peaks t.pits t.saddles
    → Counted before b.peaks b.pits b.saddles → Counted after a.peaks a.pits a.saddles → Tallied t b a new
tallied t b a r c d e =
    record {
      of_peaks = record { low = omega (arith, r.of_peaks); sum = omega (arith, r.of_peaks) };
      of_pits = record { low = omega (arith, r.of_pits); sum = omega (arith, r.of_pits) };
      of_saddles = record { low = omega (arith, r.of_saddles); sum = omega (arith, r.of_saddles) };
      few = r.few;
    }

-- where the rows round a post stand
pub record Banded (rows columns z first end : ℕ) : Type 0 where
  pub cut : Cut rows first end
  pub above : (first ≡ 0) ⊎ (first + 2 ≤ row columns z)
  pub under : (end ≡ rows) ⊎ (end ≡ row columns z + 3)
  pub from : first * columns ≤ z
  pub to : z < end * columns
  pub last : end * columns ≤ rows * columns
  pub few : end * columns - first * columns ≤ max_copy

pub band-rows : {pl : Plot} {z : ℕ} (first end : ℕ) → PostOf pl z → first ≡ band_first (row pl.columns z) → end ≡ band_end pl.rows (row pl.columns z)
    → Banded pl.rows pl.columns z first end
band-rows {pl} {z} first end post is_first is_end =
    let s = post.valid.sides in
    let c = pl.columns in
    let r = row c z in
    let in_rows : r < pl.rows = (row_lt s pl.rows z).1 post.post in
    let before : first ≤ r = omega arith in
    let after : r + 1 ≤ end = omega arith in
    let six : end ≤ first + 6 = omega arith in
    record {
      cut = record { even = omega arith; some = omega (arith, s); fits = omega arith };
      above = either (ltb r 2) (λ e. inl (omega (arith, ltb-true r 2 e))) (λ e. inr (omega (arith, ltb-false r 2 e)));
      under = either (ltb (r + 3) pl.rows) (λ e. inr (omega (arith, ltb-true (r + 3) pl.rows e))) (λ e. inl (omega (arith, ltb-false (r + 3) pl.rows e)));
      from = omega (arith, mul-le-mul_right c before, post_is c z);
      to = omega (arith, mul-le-mul_right c after, add-mul r 1 c, one-mul c, post_is c z, column-lt s z);
      last = mul-le-mul_right c (omega arith);
      few = omega (arith, mul-le-mul_right c six, add-mul first 6 c, s);
    }

module _ (pl : Plot) (z : ℕ) (post : PostOf pl z) (new : ℤ) (range : is_height new ≡ true) (first end : ℕ) (stands : Banded pl.rows pl.columns z first end) where
  abbrev c : ℕ
  c = pl.columns

  -- how many posts are before these rows, and in them
  abbrev s : ℕ
  s = first * c

  abbrev m : ℕ
  m = end * c - s

  abbrev pl' : Plot
  pl' = reshot pl z new

  valid' : Valid pl'
  valid' = reshot-valid pl z new post.valid range

  size : m ≡ (end - first) * c
  size = sym (band-size pl post.valid first end stands.cut)

  -- these rows with the new height are those of the plot with it
  band-reshot : reshot (band_of pl first end) (z - s) new ≡ band_of pl' first end
  band-reshot =
      let e : s + (z - s) ≡ z = omega (arith, stands.from) in
      let h : set (take m (drop s pl.heights)) (z - s) new ≡ take m (drop s (set pl.heights z new)) =
      sym (take-set-lt m (drop s pl.heights) (z - s) new (omega (arith, stands.to))) ∙ ap (take m) (sym (drop-set-add s pl.heights (z - s) new) ∙ ap (λ (x : ℕ). drop s (set pl.heights x new)) e)
      in
      ap (λ (hs : List ℤ). record { rows = end - first; columns = c; heights = hs; bad_sheet = pl.bad_sheet; bad_entry = pl.bad_entry; highest = pl.highest }) h

  -- a mark beyond these rows stays: its post does not touch z
  outside : (j : ℕ) → j < posts pl → (j < s) ⊎ (end * c ≤ j) → mark_at pl' j ≡ mark_at pl j
  outside j h o = mark_at-set pl sides z new j h (either (touches c z j) (λ t. absurd (far (touches-close c z j t).by_row o)) (λ t. t))
    where
      sides : Sides pl.rows c
      sides = post.valid.sides

      far : (row c z ≤ row c j + 1) × (row c j ≤ row c z + 1) → (j < s) ⊎ (end * c ≤ j) → ⊥
      far k (inl l) = ⊎_elim (λ (e : first ≡ 0). omega (arith, (row_lt sides first j).1 l)) (λ (e : first + 2 ≤ row c z). omega (arith, (row_lt sides first j).1 l)) stands.above
      far k (inr l) =
          ⊎_elim (λ (e : end ≡ pl.rows). omega (arith, (row_ge sides end j).1 l, (row_lt sides pl.rows j).1 h))
          (λ (e : end ≡ row c z + 3). omega (arith, (row_ge sides end j).1 l)) stands.under

  -- in these rows, a post that touches z has the mark that it has in the plot, and another keeps its own
  redrawn-band : redrawn (reshot (band_of pl first end) (z - s) new) (list_of (λ i. mark_at pl (s + i)) m) (z - s) ≡ list_of (λ i. mark_at pl' (s + i)) m
  unfolding redrawn
  redrawn-band = ap (list_of _) (length-list_of _ m) ∙ list_of-ext _ _ m same
    where
      here : s + (z - s) ≡ z
      here = omega (arith, stands.from)

      inner : (i : ℕ) → i < m → touches c (z - s) i ≡ true → Inner pl.rows c first end i
      inner i h t =
          let k = (touches-close c (z - s) i t).by_row in
          let r : row c z ≡ first + row c (z - s) = ap (row c) (sym here) ∙ row_in pl post.valid first end stands.cut (z - s) in
          record {
            post = omega (arith, size);
            above = ⊎_elim (λ (e : first ≡ 0). inl e) (λ (e : first + 2 ≤ row c z). inr (omega arith)) stands.above;
            under = ⊎_elim (λ (e : end ≡ pl.rows). inl e) (λ (e : end ≡ row c z + 3). inr (omega arith)) stands.under;
          }

      same : (i : ℕ) → i < m
          → cond (touches c (z - s) i) (mark_at (reshot (band_of pl first end) (z - s) new) i) (get_or (list_of (λ i. mark_at pl (s + i)) m) i 0)
          ≡ mark_at pl' (s + i)
      same i h =
          either (touches c (z - s) i)
          (λ t. rw (t, band-reshot) (sym (mark-band pl' valid' first end stands.cut i (inner i h t))))
          (λ t.
          rw t
          (get_or-list_of (λ i. mark_at pl (s + i)) m i 0 h
          ∙ sym (mark_at-set pl post.valid.sides z new (s + i) (omega (arith, stands.last))
          (ap (λ (x : ℕ). touches c x (s + i)) (sym here) ∙ touches-in pl post.valid first end stands.cut (z - s) i ∙ t))))

  -- So whatever each mark counts, the plot's count moves as that of these rows does.
  module _ (w : ℕ → ℕ) where
    abbrev at : Plot → ℕ → ℕ
    at q p = w (mark_at q p)

    abbrev rest : ℕ
    rest = posts pl - end * c

    split : (f : ℕ → ℕ) → sum (posts pl) f ≡ sum s f + (sum m (λ i. f (s + i)) + sum rest (λ i. f (s + (m + i))))
    split f =
        let e : posts pl ≡ s + (m + rest) = omega (arith, stands) in
        ap (λ (x : ℕ). sum x f) e ∙ sum-split s (m + rest) f ∙ ap (λ (x : ℕ). sum s f + x) (sum-split m rest (λ i. f (s + i)))

    sum_moved : Moves (sum (posts pl) (at pl)) (sum m (λ i. at pl (s + i))) (sum m (λ i. at pl' (s + i))) (sum (posts pl) (at pl'))
    sum_moved =
        let before = sum-ext s (at pl) (at pl') (λ j h. ap w (sym (outside j (omega (arith, stands)) (inl h)))) in
        let after = sum-ext rest (λ i. at pl (s + (m + i))) (λ i. at pl' (s + (m + i)))
        (λ i h. ap w (sym (outside (s + (m + i)) (omega (arith, stands)) (inr (omega (arith, stands))))))
        in
        record { low = omega (arith, split (at pl)); sum = omega (arith, split (at pl), split (at pl'), before, after) }

  -- the marks of these rows, by the patterns of the plot, before and after
  module _ (patterns : List ℕ) (are : patterns ≡ list_of (pattern_at pl) (posts pl)) where
    abbrev before : List ℕ
    before = map mark_in (take m (drop s patterns))

    abbrev after : List ℕ
    after = redrawn (reshot (band_of pl first end) (z - s) new) before (z - s)

    before-is : before ≡ list_of (λ i. mark_at pl (s + i)) m
    before-is =
        ap (λ (l : List ℕ). map mark_in (take m (drop s l))) are
        ∙ ap (map mark_in) (part-list_of (pattern_at pl) (posts pl) s m 0 (omega (arith, stands)))
        ∙ map-list_of mark_in (λ i. pattern_at pl (s + i)) m
        ∙ list_of-ext _ _ m (λ i h. sym (mark-in (record { valid = post.valid; post = omega (arith, stands) })))

    -- a count that is a sum of what each mark counts
    count-moved : (g : List ℕ → ℕ) (w : ℕ → ℕ) → ((f : ℕ → ℕ) (n : ℕ) → g (list_of f n) ≡ sum n (λ i. w (f i)))
        → Moves (g (marks_of pl)) (g before) (g after) (g (marks_of pl'))
    unfolding marks_of
    count-moved g w e =
        rw (before-is, redrawn-band, e (mark_at pl) (posts pl), e (λ i. mark_at pl (s + i)) m, e (λ i. mark_at pl' (s + i)) m, e (mark_at pl') (posts pl)) (sum_moved w)

    mark-moved : (x : ℕ) → let g = count (λ m. eqb m x) in Moves (g (marks_of pl)) (g before) (g after) (g (marks_of pl'))
    mark-moved x = count-moved (count (λ m. eqb m x)) (λ m. one (eqb m x)) (count-list_of (λ m. eqb m x))

    pub recounted : Recounted before after (marks_of pl) (marks_of pl')
    unfolding peaks pits saddles
    recounted =
        record {
          of_peaks = mark-moved 1;
          of_pits = record { low = omega (arith, mark-moved 2); sum = omega (arith, mark-moved 2) };
          of_saddles = count-moved (λ l. total (map multiplicity l)) multiplicity (total-list_of multiplicity);
          few = few-counts pl' valid';
        }

-- A cell's diagonal by comparisons of its posts, over any strict total order:     a -- b
-- a flag tells of two posts whether the one with the higher number is below the    |    |
-- other. What the diagonal tells a post of the one across the cell from it.        c -- d
use Prim.Native.Nat.{ℕ, ◌+◌, ◌≤◌, ◌<◌}
use native.Mathlib.Omega.{arith}
use mathlib.Core.Path.{◌≡◌, refl, sym, ◌∙◌, ap}
use mathlib.Core.Bool.{Bool, true, false, cond, not, ◌&&◌, ◌||◌, or-true, and-false}
use mathlib.Core.Logic.{⊎_elim}
use mathlib.Core.List.Memᴰ
use mathlib.Core.List.{[], ◌∷◌, Memᴰ}
use lib.Dec.{eqb}
use borrow.Author.Tests.{eq-eqb, ne_eqb}
use Rattle.surface.specs.Plot.{directed}
use Rattle.surface.specs.Edges.{through_lowest, lowest, lowest_or}
use Rattle.surface.specs.Lists.{flipped}
use Rattle.surface.proofs.General.Bools.{either}
use Rattle.surface.proofs.General.Order.{StrictTotal}
use Rattle.surface.proofs.AnyOrder.Order.{directed-strict, directed-flipped}
use Rattle.surface.proofs.AnyOrder.Lowest.{lowest-member, lowest-least}

-- the diagonal of a cell falls, by its flags: of the north-western post to the east, south and south-east, of the north-eastern one to the south, and
-- of the south-western one to the east
abbrev pub falls_by : (e s se s' e' : Bool) → Bool
falls_by e s se s' e' = not e && not s && not se || se && s' && e'

-- What is known of the post across a cell from p, of which `low` tells whether it is below p, and `after` whether it is below the side after it: x, the
-- side before it, tells whether that is below p, `joined` whether the diagonal joins p to the post across. Which of the four is the lowest settles it.
pub record Corner (x low after joined : Bool) : Type 0 where
  pub told : cond joined low x ≡ x || (low && after)

by-self : {x low after joined : Bool} → joined ≡ true → low ≡ false → x ≡ false → Corner x low after joined
by-self j l x = record { told = rw (j, l, x) }

by-across : {x low after joined : Bool} → joined ≡ true → low ≡ true → after ≡ true → Corner x low after joined
by-across {x} j l a = record { told = rw (j, l, a) (sym (or-true x)) }

by_before : {x low after joined : Bool} → joined ≡ false → x ≡ true → Corner x low after joined
by_before j x = record { told = rw (j, x) }

by_after : {x low after joined : Bool} → joined ≡ false → after ≡ false → Corner x low after joined
by_after {x} {low} j a = record { told = rw (j, a) (sym (go x low)) }
  where
    go : (x low : Bool) → x || (low && false) ≡ x
    go true low = refl
    go false true = refl
    go false false = refl

-- the four posts of a cell, in the order of their numbers
module _ (lower : ℕ → ℕ → Bool) (o : StrictTotal lower) (a b c d : ℕ) (a<b : a < b) (b<c : b < c) (c<d : c < d) where
  -- the lowest is the first or the last of them
  outer : ℕ → Bool
  outer l = eqb l a || eqb l d

  at-outer : (t : Bool) → outer (cond t d a) ≡ true
  unfolding outer
  at-outer true = rw (eq-eqb d d refl, or-true)
  at-outer false = rw (eq-eqb a a refl)

  at_b : (t : Bool) → outer (cond t d b) ≡ t
  unfolding outer
  at_b true = rw (eq-eqb d d refl, or-true)
  at_b false = rw (ne_eqb b a (λ e. omega arith), ne_eqb b d (λ e. omega arith))

  at_c : (t : Bool) → outer (cond t d c) ≡ t
  unfolding outer
  at_c true = rw (eq-eqb d d refl, or-true)
  at_c false = rw (ne_eqb c a (λ e. omega arith), ne_eqb c d (λ e. omega arith))

  -- of two that are not the same, one is below the other
  above : (x y : ℕ) → (x ≡ y → ⊥) → lower y x ≡ false → lower x y ≡ true
  above x y h k = o.other y x (λ e. h (sym e)) ∙ ap not k

  outer-by : outer (lowest lower (a ∷ b ∷ c ∷ d ∷ [])) ≡ falls_by (lower b a) (lower c a) (lower d a) (lower d b) (lower d c)
  unfolding lowest lowest_or
  outer-by =
      either (lower b a)
      (λ ba.
      either (lower c b)
      (λ cb.
      either (lower d c)
      (λ dc.
      let db = o.trans d c b dc cb in
      let da = o.trans d b a db ba in
      rw (ba, cb, dc, db, da) (at_c true))
      (λ dc. rw (ba, cb, dc, and-false) (at_c false)))
      (λ cb.
      either (lower d b)
      (λ db.
      let da = o.trans d b a db ba in
      let dc = o.trans d b c db (above b c (λ e. omega arith) cb) in
      rw (ba, cb, dc, db, da) (at_b true))
      (λ db. rw (ba, cb, db, and-false) (at_b false))))
      (λ ba.
      either (lower c a)
      (λ ca.
      either (lower d c)
      (λ dc.
      let da = o.trans d c a dc ca in
      let db = o.trans d a b da (above a b (λ e. omega arith) ba) in
      rw (ba, ca, dc, db, da) (at_c true))
      (λ dc. rw (ba, ca, dc, and-false) (at_c false)))
      (λ ca.
      either (lower d a)
      (λ da.
      let db = o.trans d a b da (above a b (λ e. omega arith) ba) in
      let dc = o.trans d a c da (above a c (λ e. omega arith) ca) in
      rw (ba, ca, da, db, dc) (at-outer true))
      (λ da. rw (ba, ca, da) (at-outer false))))

  abbrev pub falls : Bool
  falls = falls_by (lower b a) (lower c a) (lower d a) (lower d b) (lower d c)

  -- the four corners as each post of the cell sees the one across
  pub record Corners : Type 0 where
    pub nw : Corner (lower b a) (lower d a) (lower d c) falls
    pub ne : Corner (lower d b) (lower c b) (lower c a) (not falls)
    pub se : Corner (lower c d) (lower a d) (lower a b) falls
    pub sw : Corner (lower a c) (lower b c) (lower b d) (not falls)

  -- m is the lowest
  Least : ℕ → Type 0
  Least m = (falls ≡ outer m) × (lower a m ≡ false) × (lower b m ≡ false) × (lower c m ≡ false) × (lower d m ≡ false)

  corners-at : (m : ℕ) → Memᴰ m (a ∷ b ∷ c ∷ d ∷ []) → Least m → Corners
  unfolding Least
  corners-at m i least =
      ⊎_elim (λ (e : m ≡ a). at_a (rw e at least))
      (λ i.
      ⊎_elim (λ (e : m ≡ b). at-b' (rw e at least))
      (λ i.
      ⊎_elim (λ (e : m ≡ c). at-c' (rw e at least))
      (λ i. ⊎_elim (λ (e : m ≡ d). at-d (rw e at least)) (λ i. absurd (Memᴰ.not-nil i)) (Memᴰ.cases_cons i))
      (Memᴰ.cases_cons i))
      (Memᴰ.cases_cons i))
      (Memᴰ.cases_cons i)
    where
      at_a : Least a → Corners
      at_a (f, _, ba, ca, da) =
          let j = f ∙ at-outer false in
          record {
            nw = by-self j da ba;
            ne = by_after (ap not j) ca;
            se = by-across j (above a d (λ e. omega arith) da) (above a b (λ e. omega arith) ba);
            sw = by_before (ap not j) (above a c (λ e. omega arith) ca);
          }

      at-b' : Least b → Corners
      at-b' (f, ab, _, cb, db) =
          let j = f ∙ at_b false in
          record {
            nw = by_before j (above b a (λ e. omega arith) ab);
            ne = by-self (ap not j) cb db;
            se = by_after j ab;
            sw = by-across (ap not j) (above b c (λ e. omega arith) cb) (above b d (λ e. omega arith) db);
          }

      at-c' : Least c → Corners
      at-c' (f, ac, bc, _, dc) =
          let j = f ∙ at_c false in
          record {
            nw = by_after j dc;
            ne = by-across (ap not j) (above c b (λ e. omega arith) bc) (above c a (λ e. omega arith) ac);
            se = by_before j (above c d (λ e. omega arith) dc);
            sw = by-self (ap not j) bc ac;
          }

      at-d : Least d → Corners
      at-d (f, ad, bd, cd, _) =
          let j = f ∙ at-outer true in
          record {
            nw = by-across j (above d a (λ e. omega arith) ad) (above d c (λ e. omega arith) cd);
            ne = by_before (ap not j) (above d b (λ e. omega arith) bd);
            se = by-self j ad cd;
            sw = by_after (ap not j) bd;
          }

  pub corners : Corners
  unfolding Least
  corners =
      let l = a ∷ b ∷ c ∷ d ∷ [] in
      let least = lowest-least lower o l in
      corners-at (lowest lower l) (lowest-member lower a l (Memᴰ.head refl)) (
        sym outer-by,
        least a (Memᴰ.head refl),
        least b (Memᴰ.tail (Memᴰ.head refl)),
        least c (Memᴰ.tail (Memᴰ.tail (Memᴰ.head refl))),
        least d (Memᴰ.tail (Memᴰ.tail (Memᴰ.tail (Memᴰ.head refl)))),
      )

  pub falls-is : (columns : ℕ) → b ≡ a + 1 → c ≡ a + columns → d ≡ a + columns + 1 → through_lowest lower columns a ≡ falls
  unfolding through_lowest outer
  falls-is columns ib ic id = rw (sym id, sym ic, sym ib) outer-by

-- the diagonal through the lowest post, or the highest, by five flags
pub falls-by-flags : (lower : ℕ → ℕ → Bool) → StrictTotal lower → (highest : Bool) (columns a : ℕ) → 2 ≤ columns
    → through_lowest (directed highest lower) columns a
    ≡ falls_by (flipped highest (lower (a + 1) a)) (flipped highest (lower (a + columns) a)) (flipped highest (lower (a + columns + 1) a))
    (flipped highest (lower (a + columns + 1) (a + 1)))
    (flipped highest (lower (a + columns + 1) (a + columns)))
falls-by-flags lower o highest columns a wide =
    falls-is (directed highest lower) (directed-strict highest o) a (a + 1) (a + columns) (a + columns + 1) (omega arith) (omega arith) (omega arith) columns refl refl refl
    ∙ rw (
      directed-flipped highest o (a + 1) a (λ e. omega arith),
      directed-flipped highest o (a + columns) a (λ e. omega arith),
      directed-flipped highest o (a + columns + 1) a (λ e. omega arith),
      directed-flipped highest o (a + columns + 1) (a + 1) (λ e. omega arith),
      directed-flipped highest o (a + columns + 1) (a + columns) (λ e. omega arith),
    )

-- The order in which posts are driven past is strict and total, and what rows tell of it.
use Prim.Native.Nat.{ℕ, ◌+◌, ◌-◌, ◌*◌, ◌%◌, ◌≤◌, ◌<◌}
use native.Mathlib.Nat.{add-mul, one-mul, mul-le-mul_right}
use native.Mathlib.Omega.{arith}
use mathlib.Core.Path.{◌≡◌, refl, sym, ◌∙◌}
use mathlib.Core.Bool.{Bool, true, false, cond, not}
use lib.Dec.{ltb, eqb}
use borrow.Author.Tests.{ltb-true, ltb-false, lt-ltb, le-ltb, eqb-true, eqb-false, eq-eqb, ne_eqb}
use Rattle.surface.specs.Plot.{row, column, directed, is_odd, driven_before, Sides}
use Rattle.surface.specs.Edges.{top, left, right}
use Rattle.surface.proofs.General.Bools.{either, same_test, not-not}
use Rattle.surface.proofs.AnyOrder.Grid.{post_is, column-lt, row_ge, row-south, row-east, row-west, row-north, not_left, south-right, west-right, north-left}
use Rattle.surface.proofs.General.Order.{StrictTotal}
use Rattle.surface.proofs.AnyOrder.Order.{directed-strict}
use Rattle.surface.proofs.General.Lex.{ltb-weak, Level, Ties, lex-strict}

ltb-irrefl : (a : ℕ) → ltb a a ≡ false
ltb-irrefl a = le-ltb a a (omega arith)

ltb-strict : StrictTotal ltb
ltb-strict = record { irrefl = ltb-irrefl; other = oth; trans = λ a b c h k. lt-ltb a c (omega (arith, ltb-true a b h, ltb-true b c k)) }
  where
    oth : (p q : ℕ) → (p ≡ q → ⊥) → ltb q p ≡ not (ltb p q)
    oth p q h = either (ltb p q) (λ k. rw k (le-ltb q p (omega (arith, ltb-true p q k)))) (λ k. rw k (lt-ltb q p (omega (arith, ltb-false p q k, h))))

-- as driven: by row, then by column, turned in odd rows
module _ (columns : ℕ) where
  turned : ℕ → ℕ → Bool
  turned p q = directed (is_odd (row columns p)) ltb (column columns p) (column columns q)

  turned-ties : Ties ltb (row columns) turned
  unfolding turned
  turned-ties =
      record {
        irrefl = λ p. (o (row columns p)).irrefl _;
        other = λ p q l h. let e = one-row p q l in rw (sym e) ((o (row columns p)).other _ _ (λ f. h (sym (post_is columns p) ∙ rw (e, f) (post_is columns q))));
        trans = λ p q r l _ h k. (o (row columns p)).trans _ _ _ h (rw (sym (one-row p q l)) at k);
      }
    where
      o : (r : ℕ) → StrictTotal (directed (is_odd r) ltb)
      o r = directed-strict (is_odd r) ltb-strict

      one-row : (p q : ℕ) → Level ltb (row columns p) (row columns q) → row columns p ≡ row columns q
      one-row p q l = omega (arith, ltb-false (row columns p) (row columns q) l.0, ltb-false (row columns q) (row columns p) l.1)

  pub driven-strict : StrictTotal (driven_before columns)
  unfolding driven_before turned
  driven-strict = lex-strict ltb (row columns) turned ltb-weak turned-ties

  -- between rows the lower row comes first
  rows-driven : (p q : ℕ) → row columns p < row columns q → driven_before columns p q ≡ true
  unfolding driven_before
  rows-driven p q h = rw (lt-ltb (row columns p) (row columns q) h)

  pub rows-turned : (p q : ℕ) → row columns p < row columns q → driven_before columns q p ≡ false
  rows-turned p q h = driven-strict.other p q (λ e. omega (arith, same e)) ∙ rw (rows-driven p q h)
    where
      same : p ≡ q → row columns p ≡ row columns q
      same e = rw e

  pub rows_told : (p q : ℕ) → (row columns p ≡ row columns q → ⊥) → driven_before columns p q ≡ ltb (row columns p) (row columns q)
  rows_told p q h =
      either (ltb (row columns p) (row columns q))
      (λ e. rw e (rows-driven p q (ltb-true (row columns p) (row columns q) e)))
      (λ e. rw e (rows-turned q p (omega (arith, ltb-false (row columns p) (row columns q) e, h))))

  -- within a row numbers tell
  pub row-driven : (p q : ℕ) → row columns p ≡ row columns q → driven_before columns p q ≡ directed (is_odd (row columns p)) ltb p q
  unfolding driven_before
  row-driven p q e = rw (e, ltb-irrefl (row columns q)) (go (is_odd (row columns q)))
    where
      by-column : (p q : ℕ) → row columns p ≡ row columns q → ltb (column columns p) (column columns q) ≡ ltb p q
      by-column p q e =
          let f = rw e at (post_is columns p) in
          let g = post_is columns q in
          same_test _ _
          (λ h. lt-ltb p q (omega (arith, f, g, ltb-true (column columns p) (column columns q) h)))
          (λ h. lt-ltb (column columns p) (column columns q) (omega (arith, f, g, ltb-true p q h)))

      go : (b : Bool) → directed b ltb (column columns p) (column columns q) ≡ directed b ltb p q
      go true = by-column q p (sym e)
      go false = by-column p q e

-- a post's place along the drive: rows one after the other, odd ones from their last column
abbrev pub along_drive : ℕ → ℕ → ℕ
along_drive columns p = let c = column columns p in row columns p * columns + cond (is_odd (row columns p)) (columns - 1 - c) c

-- to be driven past before is to have the lower place
module _ {rows columns : ℕ} (s : Sides rows columns) where
  place_in : (b : Bool) (p : ℕ) → cond b (columns - 1 - column columns p) (column columns p) < columns
  place_in true p = omega (arith, s.wide)
  place_in false p = column-lt s p

  rows-along : (p q : ℕ) → row columns p < row columns q → along_drive columns p < along_drive columns q
  rows-along p q h =
      let e : (row columns p + 1) * columns ≡ row columns p * columns + columns = add-mul (row columns p) 1 columns ∙ rw (one-mul columns) in
      omega (arith, mul-le-mul_right columns h, place_in (is_odd (row columns p)) p)

  pub driven-along : (p q : ℕ) → driven_before columns p q ≡ ltb (along_drive columns p) (along_drive columns q)
  driven-along p q =
      either (eqb (row columns p) (row columns q)) (λ e. level (eqb-true _ _ e))
      (λ e.
      let h = eqb-false (row columns p) (row columns q) e in
      rows_told columns p q h
      ∙ same_test _ _
      (λ k. lt-ltb _ _ (rows-along p q (ltb-true (row columns p) (row columns q) k)))
      (λ k.
      either (ltb (row columns p) (row columns q)) (λ f. f)
      (λ f. absurd (omega (arith, ltb-true (along_drive columns p) (along_drive columns q) k, rows-along q p (omega (arith, ltb-false (row columns p) (row columns q) f, h)))))))
    where
      go : (b : Bool) (m : ℕ) → row columns p * columns ≡ m → row columns q * columns ≡ m
          → directed b ltb p q
          ≡ ltb (m + cond b (columns - 1 - column columns p) (column columns p)) (m + cond b (columns - 1 - column columns q) (column columns q))
      go true m e f =
          let a = m + (columns - 1 - column columns p) in
          let b = m + (columns - 1 - column columns q) in
          same_test _ _ (λ k. lt-ltb a b (omega (arith, ltb-true q p k, post_is columns p, post_is columns q, column-lt s p, column-lt s q)))
          (λ k. lt-ltb q p (omega (arith, ltb-true a b k, post_is columns p, post_is columns q, column-lt s p, column-lt s q)))
      go false m e f =
          let a = m + column columns p in
          let b = m + column columns q in
          same_test _ _ (λ k. lt-ltb a b (omega (arith, ltb-true p q k, post_is columns p, post_is columns q)))
          (λ k. lt-ltb p q (omega (arith, ltb-true a b k, post_is columns p, post_is columns q)))

      level : row columns p ≡ row columns q → driven_before columns p q ≡ ltb (along_drive columns p) (along_drive columns q)
      level e = row-driven columns p q e ∙ rw (sym e) (go (is_odd (row columns p)) _ refl (rw (sym e) refl))

-- parities of rows that follow each other
other-rest : (n k : ℕ) → k ≤ 1 → eqb ((n + 1) % 2) k ≡ not (eqb (n % 2) k)
other-rest n k h =
    either (eqb (n % 2) k)
    (λ e. rw e (ne_eqb ((n + 1) % 2) k (omega (arith, eqb-true (n % 2) k e))))
    (λ e. rw e (eq-eqb ((n + 1) % 2) k (omega (arith, eqb-false (n % 2) k e))))

pub odd-next : (n : ℕ) → is_odd (n + 1) ≡ not (is_odd n)
odd-next n = other-rest n _ (omega arith)

-- of two posts, which is driven past before the other
pub record Told (columns p q : ℕ) (before : Bool) : Type 0 where
  pub first : driven_before columns p q ≡ before
  pub second : driven_before columns q p ≡ not before

ne-told : {columns p q : ℕ} {before : Bool} → (p ≡ q → ⊥) → driven_before columns p q ≡ before → Told columns p q before
ne-told {columns} {p} {q} h e = record { first = e; second = (driven-strict columns).other p q h ∙ rw e }

module _ {rows columns : ℕ} (s : Sides rows columns) where
  rows_apart : (p q : ℕ) → row columns p < row columns q → Told columns p q true
  rows_apart p q h = record { first = rows-driven columns p q h; second = rows-turned columns p q h }

  -- a row's length apart, and a corner's
  far : (p q : ℕ) → p + columns ≤ q → row columns p < row columns q
  far p q h =
      let e : (row columns p + 1) * columns ≡ row columns p * columns + columns = add-mul (row columns p) 1 columns ∙ rw (one-mul columns) in
      omega (arith, (row_ge s (row columns p + 1) q).1 (omega (arith, post_is columns p)))

  pub far-told : (p q : ℕ) → p + columns ≤ q → Told columns p q true
  far-told p q h = rows_apart p q (far p q h)

  pub corner-told : (p q : ℕ) → left columns p ≡ false → p + columns ≡ q + 1 → Told columns p q true
  corner-told p q l e =
      let h = far (p - 1) q (omega (arith, not_left s p l)) in
      rows_apart p q (omega (arith, row-west s p l))

  -- beside each other in a row
  pub east-told : (p q : ℕ) → right columns p ≡ false → q ≡ p + 1 → Told columns q p (is_odd (row columns p))
  east-told p q r e =
      rw e
      (ne-told (λ f. omega arith) (row-driven columns (p + 1) p (row-east s p r) ∙ rw (row-east s p r) (go (is_odd (row columns p)))))
    where
      go : (b : Bool) → directed b ltb (p + 1) p ≡ b
      go true = lt-ltb p (p + 1) (omega arith)
      go false = le-ltb (p + 1) p (omega arith)

  -- and in the row below p's, in p's row and in the row above it, by the parity of p's row
  pub odd-south : (p : ℕ) → is_odd (row columns (p + columns)) ≡ not (is_odd (row columns p))
  odd-south p = rw (row-south s p) (odd-next (row columns p))

  pub south-told : (p : ℕ) → right columns p ≡ false → Told columns (p + columns + 1) (p + columns) (not (is_odd (row columns p)))
  south-told p r = rw (odd-south p) at (east-told (p + columns) (p + columns + 1) (south-right s p ∙ r) refl)

  pub west-told : (p : ℕ) → left columns p ≡ false → Told columns p (p - 1) (is_odd (row columns p))
  west-told p l = rw (row-west s p l) at (east-told (p - 1) p (west-right s p l) (omega (arith, not_left s p l)))

  pub north-told : (p : ℕ) → left columns p ≡ false → top columns p ≡ false → Told columns (p - columns) (p - columns - 1) (not (is_odd (row columns p)))
  north-told p l t =
      rw (sym (row-north s p t), odd-next (row columns (p - columns)), not-not (is_odd (row columns (p - columns)))) (west-told (p - columns) (north-left s p t ∙ l))

-- A cell and the diagonal through its lowest post, over any strict total order: whose corners have a lower post beside them, and which posts it joins.
use Prim.Native.Nat.{ℕ, ◌+◌, ◌≤◌}
use mathlib.Core.Path.{◌≡◌, refl, sym, ap, ◌∙◌}
use mathlib.Core.Logic.{◌⊎◌, ⊎_elim, inl, inr}
use mathlib.Core.Bool.{Bool, true, false, not, ◌&&◌, true≢false, or-true, and-false}
use mathlib.Core.List.Memᴰ
use mathlib.Core.List.{List, [], ◌∷◌, Memᴰ}
use native.Mathlib.Omega.{arith}
use borrow.Author.Tests.{eq-eqb, ne_eqb}
use Rattle.surface.specs.Edges.{through_lowest, lowest}
use Rattle.surface.proofs.General.Bools.{either}
use Rattle.surface.proofs.General.Order.{StrictTotal}
use Rattle.surface.proofs.AnyOrder.Lowest.{lowest-member, lowest-least}

module _ (lower : ℕ → ℕ → Bool) (o : StrictTotal lower) where
  asym : (a b : ℕ) → lower a b ≡ true → lower b a ≡ false
  asym a b h = either (lower b a) (λ e. absurd (true≢false (sym (o.trans a b a h e) ∙ o.irrefl a))) (λ e. e)

  module _ (columns a : ℕ) (wide : 2 ≤ columns) where
    abbrev cell : List ℕ
    cell = a ∷ (a + 1) ∷ (a + columns) ∷ (a + columns + 1) ∷ []

    abbrev low : ℕ
    low = lowest lower cell

    one_of : {A : Type 0} → (low ≡ a → A) → (low ≡ a + 1 → A) → (low ≡ a + columns → A) → (low ≡ a + columns + 1 → A) → A
    one_of f g h k =
        ⊎_elim f
        (λ (i : Memᴰ low ((a + 1) ∷ (a + columns) ∷ (a + columns + 1) ∷ [])).
        ⊎_elim g
        (λ (j : Memᴰ low ((a + columns) ∷ (a + columns + 1) ∷ [])).
        ⊎_elim h
        (λ (l : Memᴰ low ((a + columns + 1) ∷ [])).
        ⊎_elim k (λ (n : Memᴰ low []). absurd (Memᴰ.not-nil n)) (Memᴰ.cases_cons l))
        (Memᴰ.cases_cons j))
        (Memᴰ.cases_cons i))
        (Memᴰ.cases_cons (lowest-member lower a cell (Memᴰ.head refl)))

    -- the lowest, b, is below any other
    under : (b q : ℕ) → low ≡ b → Memᴰ q cell → (q ≡ b → ⊥) → lower b q ≡ true
    under b q i m h =
        ap (λ (z : ℕ). lower z q) (sym i) ∙ o.other q low (λ j. h (j ∙ i)) ∙ ap not (lowest-least lower o cell q m)

    -- the diagonal, by which post is the lowest
    told-nw : low ≡ a → through_lowest lower columns a ≡ true
    unfolding through_lowest
    told-nw i = rw (eq-eqb low a i)

    told-ne : low ≡ a + 1 → through_lowest lower columns a ≡ false
    unfolding through_lowest
    told-ne i = rw (i, ne_eqb (a + 1) a (omega arith), ne_eqb (a + 1) (a + columns + 1) (omega arith))

    told-sw : low ≡ a + columns → through_lowest lower columns a ≡ false
    unfolding through_lowest
    told-sw i = rw (i, ne_eqb (a + columns) a (omega arith), ne_eqb (a + columns) (a + columns + 1) (omega arith))

    told-se : low ≡ a + columns + 1 → through_lowest lower columns a ≡ true
    unfolding through_lowest
    told-se i = rw (eq-eqb low (a + columns + 1) i, or-true)

    -- a corner of the other diagonal has an end of this one below it
    pub rising : {A : Type 0} (q : ℕ) → through_lowest lower columns a ≡ false → Memᴰ q cell → (q ≡ a + 1 → ⊥) → (q ≡ a + columns → ⊥)
        → (lower (a + 1) q ≡ true → A) → (lower (a + columns) q ≡ true → A) → A
    rising q e m f g ne sw =
        one_of
        (λ i. absurd (true≢false (sym (told-nw i) ∙ e)))
        (λ i. ne (under (a + 1) q i m f))
        (λ i. sw (under (a + columns) q i m g))
        (λ i. absurd (true≢false (sym (told-se i) ∙ e)))

    pub falling : {A : Type 0} (q : ℕ) → through_lowest lower columns a ≡ true → Memᴰ q cell → (q ≡ a → ⊥) → (q ≡ a + columns + 1 → ⊥)
        → (lower a q ≡ true → A) → (lower (a + columns + 1) q ≡ true → A) → A
    falling q e m f g nw se =
        one_of
        (λ i. nw (under a q i m f))
        (λ i. absurd (true≢false (sym e ∙ told-ne i)))
        (λ i. absurd (true≢false (sym e ∙ told-sw i)))
        (λ i. se (under (a + columns + 1) q i m g))

    -- p and q stand across the cell from each other; x and y are the other two
    record Across (p q x y : ℕ) : Type 0 where
      pub p-in : Memᴰ p cell
      pub x-in : Memᴰ x cell
      pub y-in : Memᴰ y cell
      pub x-other : x ≡ p → ⊥
      pub y-other : y ≡ p → ⊥
      pub one : (low ≡ p) ⊎ ((low ≡ q) ⊎ ((low ≡ x) ⊎ (low ≡ y)))

    -- where q is above p, they are joined exactly where both x and y are above p
    joined-above : {p q x y : ℕ} (c : Across p q x y) (t : Bool) → (low ≡ p → t ≡ true) → (low ≡ x → t ≡ false) → (low ≡ y → t ≡ false)
        → lower p q ≡ true → t ≡ lower p x && lower p y
    joined-above {p} {q} {x} {y} c t tp tx ty h =
        ⊎_elim (λ (i : low ≡ p). tp i ∙ rw (under p x i c.x-in c.x-other, under p y i c.y-in c.y-other))
        (λ (r : (low ≡ q) ⊎ ((low ≡ x) ⊎ (low ≡ y))).
        ⊎_elim
        (λ (i : low ≡ q). absurd (true≢false (sym h ∙ asym q p (under q p i c.p-in (λ e. true≢false (sym h ∙ ap (lower p) (sym e) ∙ o.irrefl p))))))
        (λ (r : (low ≡ x) ⊎ (low ≡ y)).
        ⊎_elim (λ (i : low ≡ x). tx i ∙ rw (asym x p (under x p i c.p-in (λ e. c.x-other (sym e)))))
        (λ (i : low ≡ y). ty i ∙ rw (asym y p (under y p i c.p-in (λ e. c.y-other (sym e))), and-false)) r)
        r)
        c.one

    in-nw : Memᴰ a cell
    in-nw = Memᴰ.head refl

    in-ne : Memᴰ (a + 1) cell
    in-ne = Memᴰ.tail (Memᴰ.head refl)

    in-sw : Memᴰ (a + columns) cell
    in-sw = Memᴰ.tail (Memᴰ.tail (Memᴰ.head refl))

    in-se : Memᴰ (a + columns + 1) cell
    in-se = Memᴰ.tail (Memᴰ.tail (Memᴰ.tail (Memᴰ.head refl)))

    -- from each post of the cell to the one across
    pub from-nw : lower a (a + columns + 1) ≡ true → through_lowest lower columns a ≡ lower a (a + 1) && lower a (a + columns)
    from-nw =
        joined-above
        (record {
          p-in = in-nw;
          x-in = in-ne;
          y-in = in-sw;
          x-other = λ e. omega arith;
          y-other = λ e. omega arith;
          one = one_of inl (λ i. inr (inr (inl i))) (λ i. inr (inr (inr i))) (λ i. inr (inl i));
        })
        _ told-nw told-ne told-sw

    pub from-ne : lower (a + 1) (a + columns) ≡ true → not (through_lowest lower columns a) ≡ lower (a + 1) (a + columns + 1) && lower (a + 1) a
    from-ne =
        joined-above
        (record {
          p-in = in-ne;
          x-in = in-se;
          y-in = in-nw;
          x-other = λ e. omega arith;
          y-other = λ e. omega arith;
          one = one_of (λ i. inr (inr (inr i))) inl (λ i. inr (inl i)) (λ i. inr (inr (inl i)));
        })
        _ (λ i. ap not (told-ne i)) (λ i. ap not (told-se i)) (λ i. ap not (told-nw i))

    pub from-sw : lower (a + columns) (a + 1) ≡ true → not (through_lowest lower columns a) ≡ lower (a + columns) a && lower (a + columns) (a + columns + 1)
    from-sw =
        joined-above
        (record {
          p-in = in-sw;
          x-in = in-nw;
          y-in = in-se;
          x-other = λ e. omega arith;
          y-other = λ e. omega arith;
          one = one_of (λ i. inr (inr (inl i))) (λ i. inr (inl i)) inl (λ i. inr (inr (inr i)));
        })
        _ (λ i. ap not (told-sw i)) (λ i. ap not (told-nw i)) (λ i. ap not (told-se i))

    pub from-se : lower (a + columns + 1) a ≡ true → through_lowest lower columns a ≡ lower (a + columns + 1) (a + columns) && lower (a + columns + 1) (a + 1)
    from-se =
        joined-above
        (record {
          p-in = in-se;
          x-in = in-sw;
          y-in = in-ne;
          x-other = λ e. omega arith;
          y-other = λ e. omega arith;
          one = one_of (λ i. inr (inl i)) (λ i. inr (inr (inr i))) (λ i. inr (inr (inl i))) inl;
        })
        _ told-se told-sw told-ne

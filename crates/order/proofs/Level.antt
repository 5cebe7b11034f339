-- Two posts whose order as driven is known: one comparison of heights tells which is below, that of the second being raised by one where the first comes first.
use Prim.Native.Nat.{ℕ, zero, suc, ◌+◌, ◌<◌}
use native.Mathlib.Omega.{arith}
use mathlib.Core.Path.{◌≡◌, refl, sym, ap, ◌∙◌}
use mathlib.Core.Bool.{Bool, true, false, not, ◌||◌, and-true, and-false, or-false}
use mathlib.Core.Logic.{⊎_elim}
use lib.Dec.{ltb}
use lib.IntN.{ℤ, pos, negsuc, ◌+ℤ◌, +ℤ_idr}
use lib.Signed.{lt_z}
use mir.Syntax.{w32}
use mir.Val.{SFits, to_z, bool_byte}
use borrow.Author.Tests.{ltb-true, ltb-false, lt-ltb, le-ltb, not-true}
use Rattle.surface.specs.Plot.{Plot, posts, is_height, height, virtual_pit, Vertex, driven_before, below, Valid}
use Rattle.surface.proofs.General.Bools.{either, and_left, not-not}
use Rattle.surface.proofs.AnyOrder.Grid.{not-pit}
use Rattle.surface.proofs.OfPlots.HeightOrder.{lt_z-asym, below-lex}

-- the same two posts, counted otherwise
pub below-same : (pl : Plot) {p q p' q' : ℕ} → p ≡ p' → q ≡ q' → below pl p q ≡ below pl p' q'
below-same pl e f = rw (e, f)

-- a vertex that is not the virtual pit
pub vertex-post : {n p : ℕ} → Vertex n p → (p ≡ 65535 → ⊥) → p < n
unfolding virtual_pit
vertex-post {n} {p} v h = ⊎_elim (λ (k : p < n). k) (λ (k : p ≡ virtual_pit). absurd (h k)) v

settled : (x y : Bool) → (x ≡ true → y ≡ false) → (x || not y) ≡ not y
settled true true h = h refl
settled true false h = refl
settled false y h = refl

next-less : (a b : ℕ) → ltb a (b + 1) ≡ not (ltb b a)
next-less a b = either (ltb b a) (λ e. rw e (le-ltb a (b + 1) (omega (arith, ltb-true b a e)))) (λ e. rw e (lt-ltb a (b + 1) (omega (arith, ltb-false b a e))))

later : (a b : ℕ) → ltb a (suc b) ≡ not (ltb b a)
later a b = let e : suc b ≡ b + 1 = omega arith in ap (ltb a) e ∙ next-less a b

-- a height raised by one
raised : (n : ℕ) → negsuc (suc n) +ℤ pos 1 ≡ negsuc n
raised n = rw (lt-ltb 1 (suc (suc n)) (omega arith)) (ap negsuc (omega arith))

raised-less : (a b : ℤ) → lt_z a (b +ℤ pos 1) ≡ not (lt_z b a)
raised-less (pos a) (pos b) = next-less a b
raised-less (pos a) (negsuc zero) = le-ltb a 0 (omega arith)
raised-less (pos a) (negsuc (suc b)) = rw (raised b)
raised-less (negsuc a) (pos b) = refl
raised-less (negsuc a) (negsuc zero) = ap not (sym (le-ltb a 0 (omega arith)))
raised-less (negsuc a) (negsuc (suc b)) = rw (raised b) (sym (ap not (later a b) ∙ not-not (ltb b a)))

module _ {pl : Plot} (v : Valid pl) {p q : ℕ} (h : p < posts pl) (k : q < posts pl) where
  pub below-told : (tie : Bool) → tie ≡ driven_before pl.columns p q → below pl p q ≡ lt_z (height pl p) (height pl q +ℤ to_z w32 (bool_byte tie))
  below-told true e =
      rw (below-lex pl p q (not-pit v.sides h) (not-pit v.sides k), sym e, and-true, raised-less (height pl p) (height pl q))
      (settled _ _ (lt_z-asym (height pl p) (height pl q)))
  below-told false e = rw (below-lex pl p q (not-pit v.sides h) (not-pit v.sides k), sym e, and-false, or-false, +ℤ_idr (height pl q))

  -- where neither height is less
  pub below-level : lt_z (height pl p) (height pl q) ≡ false → lt_z (height pl q) (height pl p) ≡ false → below pl p q ≡ driven_before pl.columns p q
  below-level e f = rw (below-lex pl p q (not-pit v.sides h) (not-pit v.sides k), e, f)

  pub not-below : lt_z (height pl p) (height pl q) ≡ false → lt_z (height pl q) (height pl p) ≡ true → below pl p q ≡ false
  not-below e f = rw (below-lex pl p q (not-pit v.sides h) (not-pit v.sides k), e, f)

-- a height in range, and one more
pub height-fits : (z : ℤ) → is_height z ≡ true → SFits w32 z
height-fits (pos n) e = record { sfits = omega (arith, ltb-false 1000000 n (not-true _ e)) }
height-fits (negsuc n) e = record { sfits = omega (arith, ltb-false 999999 n (not-true _ (and_left _ _ e))) }

pub tie-fits : (z : ℤ) (tie : Bool) → is_height z ≡ true → SFits w32 (z +ℤ to_z w32 (bool_byte tie))
tie-fits z false e = rw (+ℤ_idr z) (height-fits z e)
tie-fits (pos n) true e = record { sfits = omega (arith, ltb-false 1000000 n (not-true _ e)) }
tie-fits (negsuc zero) true e = record { sfits = omega arith }
tie-fits (negsuc (suc n)) true e = rw (raised n) (record { sfits = omega (arith, ltb-false 999999 (suc n) (not-true _ (and_left _ _ e))) })

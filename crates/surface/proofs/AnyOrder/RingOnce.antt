-- Each member of a ring stands in it once, the virtual pit too.
-- Seen from p each vertex has a key, and the keys of the ring's members rise from 0 to 7 along its places.
use Prim.Native.Nat.{ℕ, ◌+◌, ◌-◌, ◌*◌, ◌≤◌, ◌<◌}
use mathlib.Core.Path.{◌≡◌, refl, sym, ap, ◌∙◌}
use mathlib.Core.Bool.{Bool, true, false, cond, not, ◌&&◌, ◌||◌, false≢true}
use mathlib.Core.List.{List, [], ◌∷◌, ◌++◌}
use native.Mathlib.Omega.{arith}
use lib.Dec.{eqb}
use borrow.Author.Tests.{eqb-true, eq-eqb, ne_eqb}
use Rattle.surface.specs.Lists.{count, one, keep}
use Rattle.surface.specs.Plot.{row, column, virtual_pit, Sides}
use Rattle.surface.specs.Edges.{Place, members, top, bottom, left, right, places, ring}
use Rattle.surface.proofs.AnyOrder.Grid.{plot-fits}
use Rattle.surface.proofs.AnyOrder.RingPlaces.{diagonal}
use Rattle.surface.proofs.AnyOrder.Offsets.{Offset, to-n, to-ne, to-e, to-se, to-s, to-sw, to-w, to-nw}

infixr 5 ◌then◌
-- how often q is in a list
abbrev pub times : ℕ → List ℕ → ℕ
times q = count (λ x. eqb x q)

times-cons : (q x : ℕ) (l : List ℕ) → times q (x ∷ l) ≡ one (eqb x q) + times q l
unfolding count
times-cons q x l = refl

module _ (key : ℕ → ℕ) where
  -- the vertices taken have the keys i, i + 1, ..
  data Keyed : ℕ → List Place → Type 0 where
    end : {i : ℕ} → Keyed i []
    ◌then◌ : {i : ℕ} {s : Place} {l : List Place} → (s.taken ≡ true → key s.member ≡ i) → Keyed (i + 1) l → Keyed i (s ∷ l)

  record Once (i q : ℕ) (l : List ℕ) : Type 0 where
    once : times q l ≤ 1
    later : key q < i → times q l ≡ 0

  once-cons : (i q x : ℕ) (l : List ℕ) → key x ≡ i → Once (i + 1) q l → (e : Bool) → eqb x q ≡ e → Once i q (x ∷ l)
  once-cons i q x l k o true e =
      let same : key q ≡ i = ap key (sym (eqb-true x q e)) ∙ k in
      let none : times q l ≡ 0 = o.later (omega arith) in
      record { once = omega (arith, times-cons q x l, ap one e); later = λ h. absurd (omega arith) }
  once-cons i q x l k o false e =
      record {
        once = omega (arith, times-cons q x l, ap one e, o.once);
        later = λ h. omega (arith, times-cons q x l, ap one e, o.later (omega arith));
      }

  once_more : (i q : ℕ) (b : Bool) (x : ℕ) (l : List ℕ) → (b ≡ true → key x ≡ i) → Once (i + 1) q l → Once i q (keep b x ++ l)
  once_more i q true x l k o = once-cons i q x l (k refl) o (eqb x q) refl
  once_more i q false x l k o = record { once = o.once; later = λ h. o.later (omega arith) }

  keyed-once : (q : ℕ) {i : ℕ} {l : List Place} → Keyed i l → Once i q (members l)
  unfolding count members
  keyed-once q end = record { once = omega arith; later = λ h. refl }
  keyed-once q (◌then◌ {i} {s} {l} k ks) = once_more i q s.taken s.member (members l) k (keyed-once q ks)

-- the key of a vertex r - 1 rows below p and k - 1 columns after it, and that of the virtual pit
abbrev around : ℕ → ℕ → ℕ
around r k = cond (eqb k 2) (r + 1) (cond (eqb k 1) (2 * r) (7 - r))

abbrev pit_key : Bool → Bool → Bool → ℕ
pit_key t l b = cond t 0 (cond l 2 (cond b 4 6))

pit_e : (t l b : Bool) → not (l && t) ≡ true → l ≡ true → pit_key t l b ≡ 2
pit_e t false b h e = absurd (false≢true e)
pit_e true true b h e = absurd (false≢true h)
pit_e false true b h e = refl

pit_s : (t l b : Bool) → not (b && (t || l)) ≡ true → b ≡ true → pit_key t l b ≡ 4
pit_s t l false h e = absurd (false≢true e)
pit_s true l true h e = absurd (false≢true h)
pit_s false true true h e = absurd (false≢true h)
pit_s false false true h e = refl

pit_w : (t l b f : Bool) → not (f && (t || (l || b))) ≡ true → f ≡ true → pit_key t l b ≡ 6
pit_w t l b false h e = absurd (false≢true e)
pit_w true l b true h e = absurd (false≢true h)
pit_w false true b true h e = absurd (false≢true h)
pit_w false false true true h e = absurd (false≢true h)
pit_w false false false true h e = refl

module _ {rows columns : ℕ} (s : Sides rows columns) (falls : ℕ → Bool) (p : ℕ) (h : p < rows * columns) where
  key : ℕ → ℕ
  key q =
      cond (eqb q virtual_pit) (pit_key (top columns p) (right columns p) (bottom rows columns p))
      (around (row columns q + 1 - row columns p) (column columns q + 1 - column columns p))

  key-pit : key virtual_pit ≡ pit_key (top columns p) (right columns p) (bottom rows columns p)
  unfolding key
  key-pit = cc (eq-eqb virtual_pit virtual_pit refl)

  key-post : {r k q : ℕ} → Offset rows columns p r k q → key q ≡ around r k
  unfolding key
  key-post {r} {k} {q} o =
      let far : eqb q virtual_pit ≡ false = ne_eqb q virtual_pit (omega (arith, o, plot-fits s)) in
      let er : row columns q + 1 - row columns p ≡ r = omega (arith, o) in
      let ek : column columns q + 1 - column columns p ≡ k = omega (arith, o) in
      rw (far, er, ek)

  key-side : (b : Bool) (y : ℕ) {i : ℕ} → (b ≡ true → key virtual_pit ≡ i) → (b ≡ false → key y ≡ i) → key (cond b virtual_pit y) ≡ i
  key-side true y f g = f refl
  key-side false y f g = g refl

  places-keyed : Keyed key 0 (places rows columns falls p)
  unfolding places
  places-keyed =
      let t = top columns p in
      let l = right columns p in
      let b = bottom rows columns p in
      let f = left columns p in
      (λ _. key-side t (p - columns) (λ e. key-pit ∙ ap (λ x. pit_key x l b) e) (λ e. key-post (to-n s h e)))
      then (λ c. let k = diagonal t l _ c in key-post (to-ne s h k.0 k.1))
      then (λ c. key-side l (p + 1) (λ e. key-pit ∙ pit_e t l b c e) (λ e. key-post (to-e s h e)))
      then (λ c. let k = diagonal l b _ c in key-post (to-se s h k.0 k.1))
      then (λ c. key-side b (p + columns) (λ e. key-pit ∙ pit_s t l b c e) (λ e. key-post (to-s s h e)))
      then (λ c. let k = diagonal b f _ c in key-post (to-sw s h k.0 k.1))
      then (λ c. key-side f (p - 1) (λ e. key-pit ∙ pit_w t l b f c e) (λ e. key-post (to-w s h e)))
      then (λ c. let k = diagonal f t _ c in key-post (to-nw s h k.0 k.1))
      then end

  -- each member of a ring stands in it once
  pub ring-once : (q : ℕ) → count (λ x. eqb x q) (ring rows columns falls p) ≤ 1
  unfolding ring
  ring-once q = (keyed-once key q places-keyed).once

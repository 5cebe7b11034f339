-- Text that is written piece by piece, and the digits of a number.
use Prim.Native.Nat.{ℕ, zero, suc, ◌+◌, ◌-◌, ◌/◌, ◌%◌, ◌≤◌, ◌<◌}
use native.Mathlib.Numerals.{add-one}
use native.Mathlib.Omega.{arith}
use mathlib.Core.Path.{◌≡◌, refl, sym, ◌∙◌, ap}
use mathlib.Core.Bool.{cond}
use mathlib.Core.List.{List, [], ◌∷◌, ◌++◌, map, flatten, append-nil, append_assoc}
use borrow.Author.Tests.{lt-ltb, le-ltb, eq-eqb, ne_eqb}
use lib.Dec.{ltb}
use lib.ListN.{length, get_or, set, take, drop, length-append}
use lib.Seq.{sets, sets-eq, length-sets, take-suc, take_at, drop_at}
use Rattle.surface.specs.Plot.{virtual_pit}
use Rattle.surface.specs.Lister.{digits, decimal, end_name, fields, text_line}
use Rattle.text.specs.Wrote.{Wrote, begun_line}

-- one text after the other
sets-append : (l : List ℕ) (at : ℕ) (x y : List ℕ) → sets (sets l at x) (at + length x) y ≡ sets l at (x ++ y)
sets-append l at [] y = ap (λ (k : ℕ). sets l k y) (omega arith)
sets-append l at (a ∷ x) y =
    let e : at + suc (length x) ≡ suc at + length x = omega arith in
    ap (λ (k : ℕ). sets (sets (set l at a) (suc at) x) k y) e ∙ sets-append (set l at a) (suc at) x y

pub more : {m n : ℕ} {l l₁ l₂ : List ℕ} {at next last : ℕ} {x y : List ℕ}
    → Wrote m l l₁ at x next
    → Wrote n l₁ l₂ next y last
    → Wrote (m + n) l l₂ at (x ++ y) last
more {l = l} {at = at} {x = x} {y = y} p q =
    record {
      bytes = rw (q.bytes, p.bytes, p.place) (sets-append l at x y);
      place = rw length-append (omega (arith, p.place, q.place));
      bound = rw length-append (omega (arith, p.bound, q.bound));
    }

-- more room than asked
pub within : {m n : ℕ} {l l₁ : List ℕ} {at next : ℕ} {x : List ℕ} → m ≤ n → Wrote m l l₁ at x next → Wrote n l l₁ at x next
within h p = record { bytes = p.bytes; place = p.place; bound = omega (arith, p.bound) }

pub nothing : {n : ℕ} (l : List ℕ) (at : ℕ) → Wrote n l l at [] at
nothing l at = record { bytes = refl; place = omega arith; bound = omega arith }

-- the digits of a number, by the cases of the code
digits_step : (k n : ℕ) → (k ≡ 0 → ⊥) → digits k n ≡ cond (ltb n 10) ((48 + n) ∷ []) (digits (k - 1) (n / 10) ++ (48 + n % 10) ∷ [])
unfolding digits
digits_step zero n h = absurd (h refl)
digits_step (suc k) n h = let e : suc k - 1 ≡ k = omega arith in rw e

pub no-digits : (k n : ℕ) (l : List ℕ) (at : ℕ) → k ≡ 0 → Wrote k l l at (digits k n) at
unfolding digits
no-digits k n l at e = rw e (nothing l at)

module _ (k n : ℕ) {l l₁ : List ℕ} {at : ℕ} where
  pub one-digit : {next : ℕ} → (k ≡ 0 → ⊥) → n < 10 → Wrote 1 l l₁ at ((48 + n) ∷ []) next → Wrote k l l₁ at (digits k n) next
  one-digit h s p = rw (digits_step k n h, lt-ltb n 10 s) (within (omega arith) p)

  pub more-digits : {l₂ : List ℕ} {last next : ℕ} → (k ≡ 0 → ⊥) → 10 ≤ n
      → Wrote (k - 1) l l₁ at (digits (k - 1) (n / 10)) last
      → Wrote 1 l₁ l₂ last ((48 + n % 10) ∷ []) next
      → Wrote k l l₂ at (digits k n) next
  more-digits h s p q = rw (digits_step k n h, le-ltb n 10 s) (within (omega arith) (more p q))

-- numbers as fields, one more, and all that a line has
fields_next : (n : ℕ) (ns : List ℕ) → flatten (map (λ n. 32 ∷ decimal n) (ns ++ n ∷ [])) ≡ flatten (map (λ n. 32 ∷ decimal n) ns) ++ 32 ∷ decimal n
unfolding flatten
fields_next n [] = append-nil (32 ∷ decimal n)
fields_next n (m ∷ ns) =
    ap (λ (l : List ℕ). 32 ∷ decimal m ++ l) (fields_next n ns) ∙ sym (append_assoc (32 ∷ decimal m) (flatten (map (λ n. 32 ∷ decimal n) ns)) (32 ∷ decimal n))

pub begun-more : (letter i : ℕ) (ns : List ℕ) → i < length ns → begun_line letter (take i ns) ++ 32 ∷ decimal (get_or ns i 0) ≡ begun_line letter (take (i + 1) ns)
begun-more letter i ns h =
    let one : take (i + 1) ns ≡ take i ns ++ get_or ns i 0 ∷ [] = rw add-one (take-suc ns i 0 h) in
    ap (λ (l : List ℕ). letter ∷ l) (sym (fields_next (get_or ns i 0) (take i ns))) ∙ ap (begun_line letter) (sym one)

pub line-goes : (letter : ℕ) (ns : List ℕ) (l : List (List ℕ)) → begun_line letter ns ++ fields l ≡ text_line letter (map decimal ns ++ l)
unfolding text_line fields flatten
line-goes letter ns l = ap (λ (t : List ℕ). letter ∷ t) (goes ns)
  where
    goes : (ns : List ℕ) → flatten (map (λ n. 32 ∷ decimal n) ns) ++ fields l ≡ fields (map decimal ns ++ l)
    goes [] = refl
    goes (n ∷ ns) = append_assoc (32 ∷ decimal n) (flatten (map (λ n. 32 ∷ decimal n) ns)) (fields l) ∙ ap (λ (t : List ℕ). 32 ∷ decimal n ++ t) (goes ns)

pub line-ends : (letter : ℕ) (ns : List ℕ) → begun_line letter ns ++ 10 ∷ [] ≡ text_line letter (map decimal ns)
unfolding fields
line-ends letter ns = line-goes letter ns [] ∙ ap (text_line letter) (append-nil (map decimal ns))

pub line-named : (letter m n : ℕ) (end : List ℕ) → begun_line letter (m ∷ n ∷ []) ++ (32 ∷ end ++ 10 ∷ []) ≡ text_line letter (decimal m ∷ decimal n ∷ end ∷ [])
unfolding fields
line-named letter m n end = line-goes letter (m ∷ n ∷ []) (end ∷ [])

-- the name of an end
pub pit-named : (v : ℕ) → v ≡ 65535 → end_name v ≡ 86 ∷ []
unfolding end_name virtual_pit
pit-named v e = rw (eq-eqb v 65535 e)

pub post-named : (v : ℕ) → (v ≡ 65535 → ⊥) → end_name v ≡ decimal v
unfolding end_name virtual_pit
post-named v h = rw (ne_eqb v 65535 h)

-- text at the front of a list
pub front : {m : ℕ} (l l₁ : List ℕ) (text : List ℕ) (next : ℕ) → m ≤ length l → Wrote m l l₁ 0 text next
    → (take next l₁ ≡ text) × (drop next l₁ ≡ drop next l) × (next ≤ length l₁)
front {m} l l₁ text next h w =
    let e : 0 + length text ≡ next = omega (arith, w.place) in
    let size : length text ≡ next = omega (arith, w.place) in
    let same : length l₁ ≡ length l = ap length w.bytes ∙ length-sets l 0 text in
    let is : l₁ ≡ text ++ drop next l = w.bytes ∙ sets-eq text l 0 (omega (arith, w.bound)) ∙ ap (λ (k : ℕ). text ++ drop k l) e in
    (rw is (take_at text (drop next l) next size), rw is (drop_at text (drop next l) next size), omega (arith, w.bound))

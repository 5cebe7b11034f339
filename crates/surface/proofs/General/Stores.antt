-- Laws of a row of stores.
use Prim.Native.Nat.{ℕ, zero, suc, ◌+◌, ◌-◌, ◌≤◌, ◌<◌}
use native.Mathlib.Omega.{arith}
use native.Mathlib.Numerals.{add-one}
use native.Mathlib.Nat.{add-suc, add-zero}
use native.Mathlib.Decide.{ℕ_discrete}
use mathlib.Core.Path.{◌≡◌, refl, sym, ◌∙◌}
use mathlib.Core.List.{List, map}
use lib.ListN.{length, get_or, set, length-set}
use lib.Seq.{get_or-set_same, get_or-set_other, set-get_or, ext_get_or}
use Rattle.surface.specs.Lists.{list_of, stores}
use Rattle.surface.proofs.General.ListOf.{length-list_of, get_or-list_of, length-map, get_or-mapped}

module _ {A : Type 0} (f : ℕ → A) where
  pub length-stores : (from n : ℕ) (l : List A) → length (stores f from n l) ≡ length l
  unfolding stores
  length-stores from zero l = refl
  length-stores from (suc n) l = length-set (stores f from n l) (from + n) (f (from + n)) ∙ length-stores from n l

  pub stores-more : (from n : ℕ) (l : List A) → stores f from (n + 1) l ≡ set (stores f from n l) (from + n) (f (from + n))
  unfolding stores
  stores-more from n l = rw (add-one n)

  -- a store at the next place
  pub store-next : (from n m : ℕ) (l l₀ : List A) (k : ℕ) (x : A) → l ≡ stores f from n l₀ → k ≡ from + n → m ≡ n + 1 → x ≡ f k → set l k x ≡ stores f from m l₀
  store-next from n m l l₀ k x e p q v = rw (e, v, p, q) (sym (stores-more from n l₀))

  -- one row of stores after another
  pub stores-next : (from n m : ℕ) (l : List A) → stores f (from + n) m (stores f from n l) ≡ stores f from (n + m) l
  unfolding stores
  stores-next from n zero l = rw (add-zero n)
  stores-next from n (suc m) l =
      let e : from + n + m ≡ from + (n + m) = omega arith in
      rw (add-suc n m, stores-next from n m l, e)

  pub stores-join : (a n b m k : ℕ) (l l₁ l₂ : List A) → l₁ ≡ stores f a n l → l₂ ≡ stores f b m l₁ → b ≡ a + n → k ≡ n + m → l₂ ≡ stores f a k l
  stores-join a n b m k l l₁ l₂ e₁ e₂ p q = rw (e₂, e₁, p, q) (stores-next a n m l)

  pub stores-in : (from n : ℕ) (l : List A) (i : ℕ) (d : A) → from + n ≤ length l → from ≤ i → i < from + n → get_or (stores f from n l) i d ≡ f i
  unfolding stores
  stores-in from zero l i d h a b = absurd (omega arith)
  stores-in from (suc n) l i d h a b = go (ℕ_discrete i (from + n)) (stores-in from n l i d)
    where
      go : Dec (i ≡ from + n) → (from + n ≤ length l → from ≤ i → i < from + n → get_or (stores f from n l) i d ≡ f i)
          → get_or (set (stores f from n l) (from + n) (f (from + n))) i d ≡ f i
      go (yes e) ih = rw e (get_or-set_same (stores f from n l) (from + n) (f (from + n)) d (omega (arith, length-stores from n l)))
      go (no e) ih = get_or-set_other (stores f from n l) (from + n) i (f (from + n)) d e ∙ ih (omega arith) a (omega arith)

  -- a store of what is there changes nothing
  stores-again : (from n : ℕ) (l : List A) (d : A) → ((i : ℕ) → from ≤ i → i < from + n → get_or l i d ≡ f i) → stores f from n l ≡ l
  unfolding stores
  stores-again from zero l d h = refl
  stores-again from (suc n) l d h =
      rw (stores-again from n l d (λ i a b. h i a (omega arith)), ← h (from + n) (omega arith) (omega arith)) (set-get_or l (from + n) d)

  -- one row of stores over the end of another
  pub stores-over : (a n b m k : ℕ) (l l₁ l₂ : List A) (d : A) → l₁ ≡ stores f a n l → l₂ ≡ stores f b m l₁ → a ≤ b → b ≤ a + n → a + n ≤ b + m → a + k ≡ b + m
      → a + n ≤ length l → l₂ ≡ stores f a k l
  stores-over a n b m k l l₁ l₂ d e₁ e₂ p q r s h =
      let old = a + n - b in
      let new = b + m - (a + n) in
      let e : stores f b old l₁ ≡ l₁ = stores-again b old l₁ d (λ i x y. rw e₁ (stores-in a n l i d h (omega arith) (omega arith))) in
      let joined : stores f (a + n) new l₁ ≡ stores f b m l₁ = stores-join b old (a + n) new m l₁ l₁ _ (sym e) refl (omega arith) (omega arith) in
      stores-join a n (a + n) new k l l₁ l₂ e₁ (e₂ ∙ sym joined) refl (omega arith)

  pub stores-out : (from n : ℕ) (l : List A) (i : ℕ) (d : A) → (from ≤ i → i < from + n → ⊥) → get_or (stores f from n l) i d ≡ get_or l i d
  unfolding stores
  stores-out from zero l i d h = refl
  stores-out from (suc n) l i d h =
      get_or-set_other (stores f from n l) (from + n) i (f (from + n)) d (λ e. h (omega arith) (omega arith))
      ∙ stores-out from n l i d (λ a b. h a (omega arith))

  -- stores over a whole list
  pub stores-all : (n : ℕ) (l : List A) (d : A) → length l ≡ n → stores f 0 n l ≡ list_of f n
  stores-all n l d h =
      ext_get_or d (stores f 0 n l) (list_of f n) (length-stores 0 n l ∙ h ∙ sym (length-list_of f n))
      (λ i k.
      let m : i < n = omega (arith, length-stores 0 n l) in
      stores-in 0 n l i d (omega arith) (omega arith) (omega arith) ∙ sym (get_or-list_of f n i d m))

-- the same stores
pub stores_same : {A : Type 0} (f g : ℕ → A) (from n : ℕ) (l : List A) → ((i : ℕ) → i < n → f (from + i) ≡ g (from + i)) → stores f from n l ≡ stores g from n l
unfolding stores
stores_same f g from zero l h = refl
stores_same f g from (suc n) l h = rw (stores_same f g from n l (λ i k. h i (omega arith)), h n (omega arith))

-- a list with each element stored afresh
pub map-stores : (f : ℕ → ℕ) (l : List ℕ) → stores (λ k. f (get_or l k 0)) 0 (length l) l ≡ map f l
map-stores f l =
    stores-all (λ k. f (get_or l k 0)) (length l) l 0 refl
    ∙ ext_get_or 0 _ _ (length-list_of _ (length l) ∙ sym (length-map f l))
    (λ i h.
    let k : i < length l = omega (arith, length-list_of (λ k. f (get_or l k 0)) (length l)) in
    get_or-list_of (λ k. f (get_or l k 0)) (length l) i 0 k ∙ sym (get_or-mapped f l i 0 0 k))

-- Laws of lists made by `list_of`, of counting, and of elements by their places: members, maps, lists filled up and filtered, parts.
use Prim.Native.Nat.{ℕ, zero, suc, ◌+◌, ◌-◌, ◌≤◌, ◌<◌}
use native.Mathlib.Omega.{arith}
use native.Mathlib.Numerals.{add-one}
use mathlib.Core.Path.{◌≡◌, refl, sym, ◌∙◌, ap, ap₂}
use mathlib.Core.Bool.{Bool, true, false, ◌||◌, true≢false}
use mathlib.Core.Logic.{◌↔◌, ⊎_elim}
use mathlib.Core.List.{List, [], ◌∷◌, ◌++◌, map, map-append, append-nil, Memᴰ}
use native.Mathlib.Decide.{ℕ_discrete}
use lib.ListN.{length, get_or, take, drop, set, replicate, length-append, length-drop, length-replicate, get_or-append}
use lib.Seq.{get_or-append_seam, drop-cons, drop-length, append_snoc, set_at, get_or-take, get_or-drop, ext_get_or, length-take-le}
use lib.Dec.{eqb}
use borrow.Author.Tests.{eqb-true, eqb-false}
use Rattle.surface.specs.Lists.{list_of, filter, any, all, one, count, total}
use Rattle.surface.proofs.General.Bools.{and_left, and_right}
use Rattle.surface.proofs.General.Sum.{sum}

pub length-list_of : {A : Type 0} (f : ℕ → A) (n : ℕ) → length (list_of f n) ≡ n
unfolding list_of
length-list_of f zero = refl
length-list_of f (suc n) = rw (length-append, length-list_of f n) (omega arith)

pub get_or-list_of : {A : Type 0} (f : ℕ → A) (n i : ℕ) (d : A) → i < n → get_or (list_of f n) i d ≡ f i
unfolding list_of
get_or-list_of f zero i d h = absurd (omega arith)
get_or-list_of f (suc n) i d h = go (ℕ_discrete i n) (get_or-list_of f n i d)
  where
    go : Dec (i ≡ n) → (i < n → get_or (list_of f n) i d ≡ f i) → get_or (list_of f n ++ f n ∷ []) i d ≡ f i
    go (yes e) ih =
        ap (λ (k : ℕ). get_or (list_of f n ++ f n ∷ []) k d) (e ∙ sym (length-list_of f n))
        ∙ get_or-append_seam (list_of f n) (f n) [] d
        ∙ ap f (sym e)
    go (no e) ih =
        let k : i < n = omega arith in
        get_or-append (list_of f n) (f n ∷ []) d i (omega (arith, length-list_of f n)) ∙ ih k

pub list_of-ext : {A : Type 0} (f g : ℕ → A) (n : ℕ) → ((i : ℕ) → i < n → f i ≡ g i) → list_of f n ≡ list_of g n
unfolding list_of
list_of-ext f g zero h = refl
list_of-ext f g (suc n) h = ap₂ (λ (l : List _) (x : _). l ++ x ∷ []) (list_of-ext f g n (λ i k. h i (omega arith))) (h n (omega arith))

count-append : {A : Type 0} (s : A → Bool) (l m : List A) → count s (l ++ m) ≡ count s l + count s m
unfolding count
count-append s [] m = omega arith
count-append s (x ∷ l) m = omega (arith, count-append s l m)

pub count-list_of : {A : Type 0} (s : A → Bool) (f : ℕ → A) (n : ℕ) → count s (list_of f n) ≡ sum n (λ i. one (s (f i)))
unfolding list_of count sum
count-list_of s f zero = refl
count-list_of s f (suc n) = omega (arith, count-append s (list_of f n) (f n ∷ []), count-list_of s f n)

total-append : {A : Type 0} (g : A → ℕ) (l m : List A) → total (map g (l ++ m)) ≡ total (map g l) + total (map g m)
unfolding total
total-append g [] m = omega arith
total-append g (x ∷ l) m = omega (arith, total-append g l m)

pub total-list_of : {A : Type 0} (g : A → ℕ) (f : ℕ → A) (n : ℕ) → total (map g (list_of f n)) ≡ sum n (λ i. g (f i))
unfolding list_of total sum
total-list_of g f zero = refl
total-list_of g f (suc n) = omega (arith, total-append g (list_of f n) (f n ∷ []), total-list_of g f n)

-- a list mapped by what changes nothing
pub map-id : (f : ℕ → ℕ) → ((x : ℕ) → f x ≡ x) → (l : List ℕ) → map f l ≡ l
map-id f e [] = refl
map-id f e (x ∷ l) = ap₂ ◌∷◌ (e x) (map-id f e l)

pub length-map : (f : ℕ → ℕ) (l : List ℕ) → length (map f l) ≡ length l
length-map f [] = refl
length-map f (x ∷ l) = ap suc (length-map f l)

pub total-sum : (f : ℕ → ℕ) (n : ℕ) → total (list_of f n) ≡ sum n f
total-sum f n = ap total (sym (map-id (λ x. x) (λ x. refl) (list_of f n))) ∙ total-list_of (λ x. x) f n

-- the members of a list made by `list_of`
pub member-list_of : (f : ℕ → ℕ) (n i w : ℕ) → i < n → f i ≡ w → Memᴰ w (list_of f n)
unfolding list_of
member-list_of f zero i w h e = absurd (omega arith)
member-list_of f (suc n) i w h e = go (ℕ_discrete i n) (λ k. member-list_of f n i w k e)
  where
    go : Dec (i ≡ n) → (i < n → Memᴰ w (list_of f n)) → Memᴰ w (list_of f n ++ f n ∷ [])
    go (yes k) ih = mathlib.Core.List.Memᴰ.append_right (list_of f n) (mathlib.Core.List.Memᴰ.head (sym e ∙ ap f k))
    go (no k) ih = mathlib.Core.List.Memᴰ.append_left (f n ∷ []) (ih (omega arith))

pub list_of-member : (f : ℕ → ℕ) (n w : ℕ) → Memᴰ w (list_of f n) → (i : ℕ) × (i < n) × (f i ≡ w)
unfolding list_of
list_of-member f zero w m = absurd (mathlib.Core.List.Memᴰ.not-nil m)
list_of-member f (suc n) w m =
    ⊎_elim (λ (k : Memᴰ w (list_of f n)). let r = list_of-member f n w k in (r.0, omega (arith, r.1), r.2))
    (λ (k : Memᴰ w (f n ∷ [])). (n, omega arith, sym (mathlib.Core.List.Memᴰ.eq_of_singleton k)))
    (mathlib.Core.List.Memᴰ.append_cases (list_of f n) m)

-- whether a number stands in a list, as a test
pub any-member : (l : List ℕ) (w : ℕ) → any (λ x. eqb x w) l ≡ true ↔ Memᴰ w l
unfolding any
any-member [] w = (λ e. absurd (true≢false (sym e)), λ m. absurd (mathlib.Core.List.Memᴰ.not-nil m))
any-member (x ∷ l) w = (to (eqb x w) refl (any-member l w).0, from (eqb x w) refl (any-member l w).1)
  where
    to : (b : Bool) → eqb x w ≡ b → (any (λ y. eqb y w) l ≡ true → Memᴰ w l) → b || any (λ y. eqb y w) l ≡ true → Memᴰ w (x ∷ l)
    to true e ih h = mathlib.Core.List.Memᴰ.head (sym (eqb-true x w e))
    to false e ih h = mathlib.Core.List.Memᴰ.tail (ih h)

    from : (b : Bool) → eqb x w ≡ b → (Memᴰ w l → any (λ y. eqb y w) l ≡ true) → Memᴰ w (x ∷ l) → b || any (λ y. eqb y w) l ≡ true
    from true e ih m = refl
    from false e ih m =
        ⊎_elim (λ (k : w ≡ x). absurd (eqb-false x w e (sym k))) (λ (k : Memᴰ w l). ih k) (mathlib.Core.List.Memᴰ.cases_cons m)

-- a list that a loop fills from the front, and what a map makes of one
module _ {A : Type 0} (f : ℕ → A) where
  -- a list l that a loop fills from the front, after i turns
  abbrev pub Filled : List A → ℕ → List A → Type 0
  Filled l i l' = l' ≡ list_of f i ++ drop i l

  pub filled_none : (l : List A) → Filled l 0 l
  unfolding list_of
  filled_none l = refl

  set-list_of : (l : List A) (i : ℕ) → i < length l → set (list_of f i ++ drop i l) i (f i) ≡ list_of f (i + 1) ++ drop (i + 1) l
  unfolding list_of
  set-list_of l i h =
      rw (add-one, drop-cons l i (f i) h)
      (set_at (list_of f i) (get_or l i (f i)) (drop (suc i) l) (f i) i (length-list_of f i) ∙ sym (append_snoc (list_of f i) (f i) (drop (suc i) l)))

  pub filled_more : (l : List A) (i : ℕ) (l' : List A) (x : A) → i < length l → Filled l i l' → x ≡ f i → Filled l (i + 1) (set l' i x)
  filled_more l i l' x h e v = rw (e, v) (set-list_of l i h)

  pub filled-length : (l : List A) (i : ℕ) (l' : List A) → i ≤ length l → Filled l i l' → length l' ≡ length l
  filled-length l i l' h e = rw e (simp (length-append, length-drop, length-list_of) (omega arith))

  pub filled-all : (l : List A) (i : ℕ) (l' : List A) → i ≡ length l → Filled l i l' → l' ≡ list_of f (length l)
  filled-all l i l' h e = rw (e, h, drop-length l) (append-nil (list_of f (length l)))

pub map-list_of : {A B : Type 0} (g : A → B) (f : ℕ → A) (n : ℕ) → map g (list_of f n) ≡ list_of (λ i. g (f i)) n
unfolding list_of
map-list_of g f zero = refl
map-list_of g f (suc n) = rw (map-append, map-list_of g f n)

-- an element at a place is a member, and is mapped where its list is
pub get_or-member : (l : List ℕ) (i d : ℕ) → i < length l → Memᴰ (get_or l i d) l
get_or-member [] i d h = absurd (omega arith)
get_or-member (x ∷ l) zero d h = mathlib.Core.List.Memᴰ.head refl
get_or-member (x ∷ l) (suc i) d h = mathlib.Core.List.Memᴰ.tail (get_or-member l i d (omega arith))

pub get_or-mapped : {A B : Type 0} (f : A → B) (l : List A) (i : ℕ) (d : A) (e : B) → i < length l → get_or (map f l) i e ≡ f (get_or l i d)
get_or-mapped f [] i d e h = absurd (omega arith)
get_or-mapped f (x ∷ l) zero d e h = refl
get_or-mapped f (x ∷ l) (suc i) d e h = get_or-mapped f l i d e (omega arith)

-- a list filled up with d
padded-at : {A : Type 0} (l : List A) (m i : ℕ) (d : A) → get_or (l ++ replicate m d) i d ≡ get_or l i d
padded-at [] zero i d = refl
padded-at [] (suc m) zero d = refl
padded-at [] (suc m) (suc i) d = padded-at [] m i d
padded-at (x ∷ l) m zero d = refl
padded-at (x ∷ l) m (suc i) d = padded-at l m i d

pub list_of-padded : {A : Type 0} (l : List A) (n : ℕ) (d : A) → length l ≤ n → list_of (λ i. get_or l i d) n ≡ l ++ replicate (n - length l) d
list_of-padded l n d h =
    ext_get_or d _ _ (rw (length-list_of, length-append, length-replicate) (omega arith))
    (λ i k. get_or-list_of (λ i. get_or l i d) n i d (rw (length-list_of (λ i. get_or l i d) n) at k) ∙ sym (padded-at l (n - length l) i d))

-- what is left of it by a test that its elements pass and d fails
filter_none : {A : Type 0} (s : A → Bool) (m : ℕ) (d : A) → s d ≡ false → filter s (replicate m d) ≡ []
unfolding filter
filter_none s zero d h = refl
filter_none s (suc m) d h = rw (h, filter_none s m d h)

pub filter-padded : {A : Type 0} (s : A → Bool) (l : List A) (m : ℕ) (d : A) → all s l ≡ true → s d ≡ false → filter s (l ++ replicate m d) ≡ l
unfolding filter all
filter-padded s [] m d h k = filter_none s m d k
filter-padded s (x ∷ l) m d h k = rw (and_left (s x) (all s l) h, filter-padded s l m d (and_right (s x) (all s l) h) k)

-- a part of a list of one value, as an array is that nothing was stored in
pub length-part-replicate : {A : Type 0} (m n : ℕ) (x : A) → n ≤ m → length (take n (replicate m x)) ≡ n
length-part-replicate m n x h = length-take-le n (replicate m x) (omega (arith, length-replicate m x))

-- a part of a list
pub part_length : {A : Type 0} (a b : ℕ) (l : List A) → b ≤ length l → length (take (b - a) (drop a l)) ≡ b - a
part_length a b l h = length-take-le (b - a) (drop a l) (simp length-drop (omega arith))

pub part-list_of : {A : Type 0} (f : ℕ → A) (n a m : ℕ) (d : A) → a + m ≤ n → take m (drop a (list_of f n)) ≡ list_of (λ i. f (a + i)) m
part-list_of f n a m d h =
    let long : length (take m (drop a (list_of f n))) ≡ m = length-take-le m (drop a (list_of f n)) (simp (length-drop, length-list_of) (omega arith)) in
    ext_get_or d _ _ (long ∙ sym (length-list_of _ m))
    (λ i k.
    get_or-take m (drop a (list_of f n)) i d (omega arith)
    ∙ get_or-drop a (list_of f n) i d
    ∙ get_or-list_of f n (a + i) d (omega arith)
    ∙ sym (get_or-list_of (λ j. f (a + j)) m i d (omega arith)))

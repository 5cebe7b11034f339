-- A table follows a rule: one test over the whole table, which the checker computes, gives the rule at each entry.
use Prim.Native.Nat.{ℕ, zero, suc, ◌+◌, ◌<◌}
use native.Mathlib.Omega.{arith}
use mathlib.Core.Path.{◌≡◌, sym, ◌∙◌, ap}
use mathlib.Core.Bool.{Bool, true, ◌&&◌}
use mathlib.Core.List.{List, [], ◌∷◌}
use lib.Dec.{eqb}
use lib.ListN.{length, get_or}
use lib.Seq.{ext_get_or}
use borrow.Author.Tests.{eqb-true}
use Rattle.surface.specs.Lists.{list_of}
use Rattle.surface.proofs.General.Bools.{and_left, and_right}
use Rattle.surface.proofs.General.ListOf.{length-list_of, get_or-list_of}

unfoldable pub follows : (ℕ → ℕ) → ℕ → List ℕ → Bool
follows f i [] = true
follows f i (x ∷ l) = eqb x (f i) && follows f (i + 1) l

entry : (f : ℕ → ℕ) (l : List ℕ) (i k : ℕ) → follows f i l ≡ true → k < length l → get_or l k 0 ≡ f (i + k)
unfolding follows
entry f [] i k t h = absurd (omega arith)
entry f (x ∷ l) i zero t h = eqb-true x (f i) (and_left _ _ t) ∙ ap f (omega arith)
entry f (x ∷ l) i (suc k) t h = entry f l (i + 1) k (and_right (eqb x (f i)) _ t) (omega arith) ∙ ap f (omega arith)

pub table_is : (f : ℕ → ℕ) (l : List ℕ) (n : ℕ) → length l ≡ n → follows f 0 l ≡ true → l ≡ list_of f n
table_is f l n h t =
    ext_get_or 0 l (list_of f n) (h ∙ sym (length-list_of f n))
    (λ i k. entry f l 0 i t k ∙ ap f (omega arith) ∙ sym (get_or-list_of f n i 0 (omega arith)))

-- two tables that are the same are so at each entry
pub same-entry : (f g : ℕ → ℕ) (n : ℕ) → list_of f n ≡ list_of g n → (k : ℕ) → k < n → f k ≡ g k
same-entry f g n e k h = sym (get_or-list_of f n k 0 h) ∙ ap (λ (l : List ℕ). get_or l k 0) e ∙ get_or-list_of g n k 0 h

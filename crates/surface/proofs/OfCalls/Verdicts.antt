-- The table of refusals: a number is returned exactly if its row is the first that holds, and a call is accepted exactly if no row holds.
use Prim.Native.Nat.{ℕ, ◌<◌}
use native.Mathlib.Omega.{arith}
use mathlib.Core.Path.{◌≡◌, refl, ◌∙◌, ap}
use mathlib.Core.Logic.{◌↔◌}
use mathlib.Core.Bool.{Bool, true, false, cond, ◌&&◌, ◌||◌, true≢false}
use mathlib.Core.List.{List, [], ◌∷◌, ◌++◌}
use lib.Dec.{T, ltb, eqb, ltb→lt}
use borrow.Author.Tests.{lt-ltb, le-ltb, eq-eqb, ne_eqb}
use lib.ListN.{length, get_or}
use Rattle.surface.specs.Lists.{any, all}
use Rattle.surface.specs.Refusals.{Row, row_of, row_by_post, accepted, verdict, settled}
use Rattle.surface.specs.declared.Answer.{Answer}
use Rattle.surface.proofs.General.FirstNot.{first_not-is, ranged-all, all-first_not}

-- equal answers have one number
pub code : {a b : Answer} → a ≡ b → a.code ≡ b.code
code e = ap (λ (x : Answer). x.code) e

-- what stands after a refused call is what stood before, and after an accepted one what is new
module _ {A : Type 0} (v : Answer) (new old : A) where
  pub settled-refused : (v.code ≡ 0 → ⊥) → settled v new old ≡ old
  settled-refused n = rw (ne_eqb v.code 0 n)

  pub settled-accepted : v.code ≡ 0 → settled v new old ≡ new
  settled-accepted e = rw (eq-eqb v.code 0 e)

-- r is the first row of the table that holds
pub data First (r : Row) : List Row → Type 0 where
  now : {rs : List Row} → r.holds ≡ true → First r (r ∷ rs)
  later : {x : Row} {rs : List Row} → x.holds ≡ false → First r rs → First r (x ∷ rs)

-- the upper row wins
module _ (r : Row) (rs : List Row) where
  pub row-holds : r.holds ≡ true → verdict (r ∷ rs) ≡ record { code = r.code; place = r.place }
  unfolding verdict
  row-holds e = rw e

  pub row-passed : r.holds ≡ false → verdict (r ∷ rs) ≡ verdict rs
  unfolding verdict
  row-passed e = rw e

pub none_left : verdict [] ≡ accepted
unfolding verdict
none_left = refl

pub first-verdict : {r : Row} {rs : List Row} → First r rs → verdict rs ≡ record { code = r.code; place = r.place }
unfolding verdict
first-verdict (now h) = rw h
first-verdict (later h f) = rw h (first-verdict f)

pub verdict-first : (rs : List Row) → ((verdict rs).code ≡ 0 → ⊥) → (r : Row) × First r rs
unfolding verdict
verdict-first [] h = absurd (h refl)
verdict-first (x ∷ rs) h = go x.holds refl (verdict-first rs) h
  where
    go : (b : Bool) → x.holds ≡ b → (((verdict rs).code ≡ 0 → ⊥) → (r : Row) × First r rs)
        → ((cond b (record { code = x.code; place = x.place }) (verdict rs)).code ≡ 0 → ⊥)
        → (r : Row) × First r (x ∷ rs)
    go true e ih h = (x, now e)
    go false e ih h = let f = ih h in (f.0, later e f.1)

-- no row returns 0
abbrev pub numbered : List Row → Bool
numbered [] = true
numbered (r ∷ rs) = ltb 0 r.code && numbered rs

and_parts : (a b : Bool) → T (a && b) → T a × T b
and_parts true b h = (tt, h)
and_parts false b h = absurd h

-- where a call is accepted its first row does not hold, and the others accept it too
accepted-passed : (r : Row) (rs : List Row) → T (numbered (r ∷ rs)) → (verdict (r ∷ rs)).code ≡ 0 → (r.holds ≡ false) × ((verdict rs).code ≡ 0)
unfolding verdict
accepted-passed r rs n e = by r.holds e (ltb→lt 0 r.code (and_parts (ltb 0 r.code) (numbered rs) n).0)
  where
    by : (b : Bool) → (cond b (record { code = r.code; place = r.place }) (verdict rs)).code ≡ 0 → 0 < r.code → (b ≡ false) × ((verdict rs).code ≡ 0)
    by true e h = absurd (omega arith)
    by false e h = (refl, e)

-- a call is accepted exactly if no row holds
pub accepted-clear : (rs : List Row) → T (numbered rs) → (verdict rs).code ≡ 0 ↔ any (λ r. r.holds) rs ≡ false
unfolding verdict any
accepted-clear [] n = (λ e. refl, λ e. refl)
accepted-clear (r ∷ rs) n =
    let ns = and_parts (ltb 0 r.code) (numbered rs) n in
    by r.holds (ltb→lt 0 r.code ns.0) (accepted-clear rs ns.1)
  where
    by : (b : Bool) → 0 < r.code → (verdict rs).code ≡ 0 ↔ any (λ x. x.holds) rs ≡ false
        → (cond b (record { code = r.code; place = r.place }) (verdict rs)).code ≡ 0 ↔ b || any (λ x. x.holds) rs ≡ false
    by true h f = (λ e. absurd (omega arith), λ e. absurd (true≢false e))
    by false h f = f

-- no row holds, the first nor the others
infixr 60 ◌⨟◌
pub data Clear : List Row → Type 0 where
  done : Clear []
  ◌⨟◌ : {r : Row} {rs : List Row} → r.holds ≡ false → Clear rs → Clear (r ∷ rs)

pub clear-accepted : {rs : List Row} → Clear rs → verdict rs ≡ accepted
clear-accepted done = none_left
clear-accepted (◌⨟◌ {r = r} {rs = rs} h k) = row-passed r rs h ∙ clear-accepted k

pub code-accepted : (rs : List Row) → T (numbered rs) → (verdict rs).code ≡ 0 → verdict rs ≡ accepted
code-accepted [] n e = none_left
code-accepted (r ∷ rs) n e =
    let a = accepted-passed r rs n e in
    row-passed r rs a.0 ∙ code-accepted rs (and_parts (ltb 0 r.code) (numbered rs) n).1 a.1

-- the row of a number (one that does not hold, where there is none)
abbrev pub row_at : ℕ → List Row → Row
row_at code [] = row_of code false
row_at code (r ∷ rs) = cond (eqb r.code code) r (row_at code rs)

-- where a call is accepted no row holds, whatever its number
pub passed : (rs : List Row) → T (numbered rs) → (verdict rs).code ≡ 0 → (code : ℕ) → (row_at code rs).holds ≡ false
passed [] n e code = refl
passed (r ∷ rs) n e code =
    let a = accepted-passed r rs n e in
    by (eqb r.code code) a.0 (passed rs (and_parts (ltb 0 r.code) (numbered rs) n).1 a.1 code)
  where
    by : (b : Bool) → r.holds ≡ false → (row_at code rs).holds ≡ false → (cond b r (row_at code rs)).holds ≡ false
    by true h k = h
    by false h k = k

-- Rows that lead a call's table: what they refuse is refused, and where they pass the rows after them decide.
pub leads : (led rest : List Row) → T (numbered led) → verdict (led ++ rest) ≡ settled (verdict led) (verdict rest) (verdict led)
unfolding verdict
leads [] rest n = refl
leads (r ∷ led) rest n =
    let k = and_parts (ltb 0 r.code) (numbered led) n in
    by r.holds (ltb→lt 0 r.code k.0) (leads led rest k.1)
  where
    row : Answer
    row = record { code = r.code; place = r.place }

    by : (b : Bool) → 0 < r.code → verdict (led ++ rest) ≡ settled (verdict led) (verdict rest) (verdict led)
        → cond b row (verdict (led ++ rest)) ≡ settled (cond b row (verdict led)) (verdict rest) (cond b row (verdict led))
    by true h ih = rw (ne_eqb r.code 0 (omega arith))
    by false h ih = ih

module _ (led rest : List Row) (n : T (numbered led)) where
  pub leads-refused : ((verdict led).code ≡ 0 → ⊥) → verdict (led ++ rest) ≡ verdict led
  leads-refused h = rw (leads led rest n, ne_eqb (verdict led).code 0 h)

  pub leads-passed : (verdict led).code ≡ 0 → verdict (led ++ rest) ≡ verdict rest
  leads-passed h = rw (leads led rest n, h)

-- A row by post: it answers the first post that does not pass, and is clear if and only if there is none.
module _ {A : Type 0} (passes : A → Bool) (code_at : ℕ → ℕ) (l : List A) where
  pub first-by-post : (d : A) (p : ℕ) → p < length l → passes (get_or l p d) ≡ false → ((q : ℕ) → q < p → passes (get_or l q d) ≡ true)
      → (rs : List Row) → verdict (row_by_post passes code_at l ∷ rs) ≡ record { code = code_at p; place = p }
  first-by-post d p h e before rs =
      let f = first_not-is passes l d p h e before in
      row-holds (row_by_post passes code_at l) rs (rw f (lt-ltb p (length l) h)) ∙ rw f

  pub clear-by-post : (row_by_post passes code_at l).holds ≡ false ↔ all passes l ≡ true
  clear-by-post = (ranged-all passes l, λ e. rw (all-first_not passes l e) (le-ltb (length l) (length l) (omega arith)))

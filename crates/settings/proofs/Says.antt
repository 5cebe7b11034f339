-- What the entries of a sheet say, by the first of them: at most a rule and then a name are allowed.
use Prim.Native.Nat.{ℕ, ◌+◌, ◌-◌, ◌<◌, ◌≤◌}
use native.Mathlib.Nat.{add-zero}
use native.Mathlib.Omega.{arith}
use mathlib.Core.Path.{◌≡◌, refl, sym, ◌∙◌}
use mathlib.Core.Bool.{Bool, true, false, cond, ◌&&◌, ◌||◌, and-true, and-false, and_assoc}
use mathlib.Core.List.{List, [], ◌∷◌}
use borrow.Author.Tests.{ltb-true, ltb-false, eqb-true, eqb-false, lt-ltb, le-ltb, ne_eqb}
use lib.Dec.{ltb, leb, eqb}
use lib.ListN.{length, get_or, drop, drop_of_length-le}
use lib.Seq.{get_or-take, get_or-drop}
use Rattle.surface.specs.Lists.{all}
use Rattle.surface.specs.Plot.{default_rule}
use Rattle.surface.specs.Settings.{Entry, is_rule, is_name, is_printable, name_length, is_entry, are_entries, value_of}
use Rattle.surface.proofs.General.Bools.{either, and_left, and_right}
use Rattle.settings.specs.Walk.{entries_from, Whole, refusal, said_with, said_in}
use Rattle.settings.proofs.Walk.{size_at, next_at, value_at, entry_at, inside, entry-at, none-at, by_first, value-last, next-in, whole-next, value-size}

-- no entry comes after a name
none_after : (e : Entry) (l : List Entry) → are_entries 2 (e ∷ l) ≡ false
unfolding are_entries
none_after e l =
    either (ltb 2 e.kind)
    (λ t. let k = ltb-true 2 e.kind t in rw (t, ne_eqb e.kind 1 (λ q. omega arith), ne_eqb e.kind 2 (λ q. omega arith)))
    (λ f. rw f)

-- an entry that is no rule is a name, and the last
name-first : (n : ℕ) (e : Entry) (l : List Entry) → n < 2 → (e.kind ≡ 1 → e.kind ≤ n)
    → are_entries n (e ∷ l) ≡ (eqb e.kind 2 && (is_name e.value && are_entries 2 l))
unfolding are_entries
name-first n e l h k =
    either (eqb e.kind 2) (λ t. rw (eqb-true e.kind 2 t, lt-ltb n 2 h))
    (λ f.
    either (eqb e.kind 1) (λ t. rw (f, le-ltb n e.kind (k (eqb-true e.kind 1 t))))
    (λ g. rw (f, g) (and-false (ltb n e.kind))))

-- so that nothing changes where a rule may not stand before it
no-rule : (e : Entry) (l : List Entry) → (e.kind ≡ 1 → ⊥) → are_entries 0 (e ∷ l) ≡ are_entries 1 (e ∷ l)
no-rule e l k = name-first 0 e l (omega arith) (λ q. absurd (k q)) ∙ sym (name-first 1 e l (omega arith) (λ q. omega arith))

said-other : (e : Entry) (l : List Entry) → (e.kind ≡ 1 → ⊥) → said_in (e ∷ l) ≡ said_with default_rule (e ∷ l)
unfolding value_of
said-other e [] k = rw (no-rule e [] k, ne_eqb e.kind 1 k)
said-other e (x ∷ l) k =
    let r : are_entries 1 (e ∷ x ∷ l) ≡ false = name-first 1 e (x ∷ l) (omega arith) (λ q. omega arith) ∙ simp (none_after, and-false) in
    rw (no-rule e (x ∷ l) k, r)

said-rule : (e : Entry) (l : List Entry) → e.kind ≡ 1
    → said_in (e ∷ l) ≡ cond (is_rule e.value) (said_with (get_or e.value 0 default_rule) l) (refusal 14)
unfolding are_entries value_of
said-rule e l k = rw k (either (is_rule e.value) (λ t. rw t) (λ f. rw f))

-- entries of which the first, where there is one, is no rule
module _ (s : List ℕ) (at : ℕ) (k : get_or s at 0 ≡ 1 → ⊥) where
  entries-same : are_entries 0 (entries_from s at) ≡ are_entries 1 (entries_from s at)
  unfolding are_entries
  entries-same = by_first s at (λ l. are_entries 0 l ≡ are_entries 1 l) refl (λ l. no-rule (entry_at s at) l k)

  pub said-none : said_in (entries_from s at) ≡ said_with default_rule (entries_from s at)
  unfolding are_entries value_of
  said-none = by_first s at (λ l. said_in l ≡ said_with default_rule l) refl (λ l. said-other (entry_at s at) l k)

-- bytes with which a sheet ends
abbrev pub Ends : List ℕ → List ℕ → Type 0
Ends s v = v ≡ drop (length s - length v) s

-- the entry at a byte of a sheet whose entries end where it does
module _ (s : List ℕ) (at : ℕ) (h : at < length s) (w : Whole s at) where
  -- a name, by its kind and length, that ends with the sheet
  abbrev sized : Bool
  sized = eqb (get_or s at 0) 2 && (leb 1 (size_at s at) && leb (size_at s at) name_length)

  abbrev last : Bool
  last = eqb (next_at s at) (length s)

  pub name-is : (sized && last && all is_printable (drop (at + 2) s)) ≡ are_entries 1 (entries_from s at)
  unfolding are_entries
  name-is =
      let next = next_at s at in
      rw (entry-at s at h, name-first 1 (entry_at s at) (entries_from s next) (omega arith) (λ q. omega arith), value-size s at h w)
      (either (eqb next (length s))
      (λ t.
      let e = eqb-true next (length s) t in
      rw (t, none-at s next (omega arith), value-last s at e) (simp (and_assoc, and-true)))
      (λ f.
      let m : next < length s = omega (arith, next-in s at h w, eqb-false next (length s) f) in
      rw (f, entry-at s next m, none_after (entry_at s next) (entries_from s (next_at s next))) (simp and-false)))

  module _ (e : are_entries 1 (entries_from s at) ≡ true) where
    both : sized && last ≡ true
    both = and_left (sized && last) _ (name-is ∙ e)

    pub name-value : value_of 2 (entries_from s at) ≡ value_at s at
    unfolding value_of
    name-value = rw (entry-at s at h, and_left (eqb (get_or s at 0) 2) _ (and_left sized last both))

    pub name-next : next_at s at ≡ length s
    name-next = eqb-true (next_at s at) (length s) (and_right sized last both)

    -- the name's bytes end the sheet
    name-ends : Ends s (value_of 2 (entries_from s at))
    name-ends =
        let e : length s - size_at s at ≡ at + 2 = omega (arith, name-next) in
        rw (name-value, value-size s at h w, e) (value-last s at name-next)

  -- a rule, by its length and its byte
  value-first : size_at s at ≡ 1 → (d : ℕ) → get_or (value_at s at) 0 d ≡ get_or s (at + 2) 0
  value-first e d =
      first (value_at s at) (omega (arith, value-size s at h w))
      ∙ rw (get_or-take (size_at s at) (drop (at + 2) s) 0 0 (omega arith), get_or-drop (at + 2) s 0 0, add-zero (at + 2))
    where
      first : (l : List ℕ) → 0 < length l → get_or l 0 d ≡ get_or l 0 0
      first [] k = absurd (omega arith)
      first (x ∷ l) k = refl

  module _ (k : get_or s at 0 ≡ 1) (size rule : ℕ) (p : size ≡ size_at s at) (q : rule ≡ get_or s (at + 2) 0) where
    abbrev ruled : Bool
    ruled = eqb size 1 && (eqb rule 1 || eqb rule 2)

    by-rule : said_in (entries_from s at) ≡ cond ruled (said_with rule (entries_from s (next_at s at))) (refusal 14)
    by-rule =
        rw (entry-at s at h, said-rule (entry_at s at) (entries_from s (next_at s at)) k, p, q, value-size s at h w)
        (either (eqb (size_at s at) 1)
        (λ t. let e = eqb-true (size_at s at) 1 t in rw (value-first e 0, value-first e default_rule))
        (λ f. rw f))

    pub rule-refused : ruled ≡ false → said_in (entries_from s at) ≡ refusal 14
    rule-refused f = rw f at by-rule

    module _ (t : ruled ≡ true) where
      three : next_at s at ≡ at + 3
      three = omega (arith, p, eqb-true size 1 (and_left (eqb size 1) _ t))

      pub rule-whole : Whole s (at + 3)
      rule-whole = rw three at (whole-next s at h w)

      pub rule-said : said_in (entries_from s at) ≡ said_with rule (entries_from s (at + 3))
      rule-said = rw (by-rule, t, three)

-- the name is what an allowed sheet ends with
module _ (s : List ℕ) where
  ends : (at : ℕ) → Whole s at → are_entries 1 (entries_from s at) ≡ true → Ends s (value_of 2 (entries_from s at))
  unfolding value_of
  ends at w e =
      either (ltb at (length s))
      (λ t. let h = ltb-true at (length s) t in name-ends s at h w e)
      (λ f. rw (none-at s at (ltb-false at (length s) f)) (sym (drop_of_length-le s {i = length s - 0} (omega arith))))

  pub all_end : (at : ℕ) → Whole s at → are_entries 0 (entries_from s at) ≡ true → Ends s (value_of 2 (entries_from s at))
  unfolding are_entries value_of
  all_end at w e =
      either (eqb (get_or s at 0) 1)
      (λ t.
      let k = eqb-true (get_or s at 0) 1 t in
      let h = inside s at (λ q. omega arith) in
      let a = and_right (is_entry (entry_at s at)) _ (and_right (ltb 0 (get_or s at 0)) _ (rw (entry-at s at h) at e)) in
      rw (entry-at s at h, k) (ends (next_at s at) (whole-next s at h w) (rw k at a)))
      (λ f. ends at w (sym (entries-same s at (eqb-false (get_or s at 0) 1 f)) ∙ e))

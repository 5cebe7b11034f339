-- Where the first entry is a rule, the name may come after it; else it is the first.
use Prim.Native.Nat.{ℕ, ◌<◌}
use native.Mathlib.Omega.{arith}
use mathlib.Core.Path.{◌≡◌, refl, sym, ◌∙◌, ap}
use mathlib.Core.Bool.{true, false, ◌&&◌, ◌||◌}
use mathlib.Core.List.{List}
use lib.Dec.{eqb}
use lib.ListN.{length, get_or}
use Rattle.std.specs.Prelude.{Err}
use Rattle.surface.specs.Refused.{refused, sheet_of, rule_number}
use Rattle.surface.specs.declared.Refusal.TheVariants.{BadEntry}
use Rattle.surface.specs.declared.Refusal.{Refusal}
use Rattle.surface.specs.declared.Rule.{Rule}
use Rattle.surface.specs.declared.Rule.TheVariants.{Lowest, Highest}
use Rattle.settings.specs.Walk.{entries_from, said_in}
use Rattle.surface.proofs.OfCalls.Outcomes.{unless-passed, unless-failed, handed}
use Rattle.settings.proofs.Walk.{inside}
use Rattle.settings.proofs.Says.{said-none, rule-refused, rule-whole, rule-said}
use Rattle.settings.proofs.Sheets.{sheet_by}
use Rattle.settings.proofs.entries.read_entries.Goals as goal
use Rattle.settings.proofs.entries.read_entries.Goals.{After-byte_at-2, After-byte_at-3, In_ok-rule}

pub returns-then-byte_at-ne-RULE : goal.returns-then-byte_at-ne-RULE
returns-then-byte_at-ne-RULE c =
    c.read_name.ensures ∙ sym (said-none c.args.sheet.now 5 (λ q. c.if-byte_at-ne-RULE.true (c.byte_at.ensures ∙ q)))

-- the first entry is a rule
module _ (c : After-byte_at-2) where
  abbrev S : List ℕ
  S = c.args.sheet.now

  kind : get_or S 5 0 ≡ 1
  kind = sym c.byte_at.ensures ∙ c.if-byte_at-ne-RULE.false

  there : 5 < length S
  there = inside S 5 (λ q. omega (arith, kind))

  -- a sheet whose rule is of another length, or none
  refuse : (e : Refusal) (size rule : ℕ) → size ≡ get_or S 6 0 → rule ≡ get_or S 7 0 → (eqb size 1 && (eqb rule 1 || eqb rule 2)) ≡ false → refused e ≡ refused BadEntry
      → sheet_of (Err e) ≡ said_in (entries_from S 5)
  refuse e size rule p q f k = sheet_by k ∙ sym (rule-refused S 5 there c.requires kind size rule p q f)

-- a byte that names a rule
named : (r : Rule) → (eqb (rule_number r) 1 || eqb (rule_number r) 2) ≡ true
named Lowest = refl
named Highest = refl

pub returns-in_err-unless : goal.returns-in_err-unless
returns-in_err-unless c =
    let after = (goal.at.returns-in_err-unless c).After-byte_at-2 in
    let bad = unless-failed BadEntry _ _ c.in_err-unless.ensures in
    ap sheet_of (handed _ _ c.from_residual.ensures.1) ∙ refuse after _ _ _ c.byte_at-2.ensures refl (rw bad.0 refl) bad.1

module _ (c : After-byte_at-3) where
  abbrev before : After-byte_at-2
  before = (goal.at.After-byte_at-3 c).After-byte_at-2

  one_byte : eqb c.byte_at-2.result 1 ≡ true
  one_byte = unless-passed BadEntry _ c.in_ok-unless.ensures

pub returns-in_err-rule : goal.returns-in_err-rule
returns-in_err-rule c =
    let after = (goal.at.returns-in_err-rule c).After-byte_at-3 in
    let bad = c.in_err-rule.ensures in
    ap sheet_of (handed _ _ c.from_residual-in_err-rule.ensures.1)
    ∙ refuse (before after) _ _ _ c.byte_at-2.ensures c.byte_at-3.ensures (rw (one_byte after, bad.1) refl) (ap refused bad.0)

module _ (c : In_ok-rule) where
  abbrev after : After-byte_at-3
  after = (goal.at.In_ok-rule c).After-byte_at-3

  rule : rule_number c.in_ok-rule.rule ≡ get_or c.args.sheet.now 7 0
  rule = c.in_ok-rule.ensures ∙ c.byte_at-3.ensures

  ruled : (eqb c.byte_at-2.result 1 && (eqb (rule_number c.in_ok-rule.rule) 1 || eqb (rule_number c.in_ok-rule.rule) 2)) ≡ true
  ruled = rw (one_byte after, named c.in_ok-rule.rule) refl

pub read_name-requires-2 : goal.read_name-requires-2
read_name-requires-2 c =
    rule-whole c.args.sheet.now 5 (there (before (after c))) c.requires (kind (before (after c))) _ _ c.byte_at-2.ensures (rule c) (ruled c)

pub returns : goal.returns
returns c =
    let here = (goal.at.returns c).In_ok-rule in
    c.read_name-2.ensures
    ∙ sym (rule-said c.args.sheet.now 5 (there (before (after here))) c.requires (kind (before (after here))) _ _ c.byte_at-2.ensures (rule here) (ruled here))

-- The bytes that there are, and zeros, which is what is past them.
use Prim.Native.Nat.{ℕ, ◌+◌, ◌-◌, ◌≤◌, ◌<◌}
use native.Mathlib.Omega.{arith}
use mathlib.Core.Path.{◌≡◌, sym, ◌∙◌}
use mathlib.Core.List.{List}
use borrow.Author.Tests.{ltb-true, ltb-false}
use lib.Dec.{ltb}
use lib.ListN.{length, get_or, get_or-eq_default}
use lib.Seq.{ext_get_or}
use Rattle.surface.specs.Lists.{list_of, stores}
use Rattle.surface.proofs.General.Bools.{either}
use Rattle.surface.proofs.General.ListOf.{length-list_of, get_or-list_of}
use Rattle.surface.proofs.General.Stores.{length-stores, stores-in, stores-out}
use Rattle.settings.proofs.put_name.Goals as goal

module _ (sheet : List ℕ) (at : ℕ) where
  abbrev byte : ℕ → ℕ
  byte i = get_or sheet (at + i) 0

module _ (sheet name : List ℕ) (at n : ℕ) (size : length name ≡ 32) (few : n ≤ 32) (past : n < 32 → length sheet ≤ at + n) where
  abbrev copied : List ℕ
  copied = stores (byte sheet at) 0 n name

  abbrev put : List ℕ
  put = stores (λ _. 0) n (32 - n) copied

  long : length copied ≡ 32
  long = length-stores (byte sheet at) 0 n name ∙ size

  put-at : (i : ℕ) → i < 32 → get_or put i 0 ≡ byte sheet at i
  put-at i h =
      either (ltb i n)
      (λ e. let k = ltb-true i n e in stores-out _ n (32 - n) copied i 0 (λ a b. omega arith) ∙ stores-in (byte sheet at) 0 n name i 0 (omega arith) (omega arith) (omega arith))
      (λ e.
      let k = ltb-false i n e in
      stores-in _ n (32 - n) copied i 0 (omega (arith, long)) k (omega arith) ∙ sym (get_or-eq_default sheet 0 {n = at + i} (omega (arith, past (omega arith)))))

  is-put : put ≡ list_of (byte sheet at) 32
  is-put =
      ext_get_or 0 put (list_of (byte sheet at) 32) (length-stores _ n (32 - n) copied ∙ long ∙ sym (length-list_of (byte sheet at) 32))
      (λ i h.
      let k : i < 32 = omega (arith, length-stores (λ _. 0) n (32 - n) copied, long) in
      put-at i k ∙ sym (get_or-list_of (byte sheet at) 32 i 0 k))

pub clear_from-requires : goal.clear_from-requires
clear_from-requires c = omega (arith, c.min-n.ensures, c.copy_bytes.auto, c.requires.1)

pub returns : goal.returns
returns c =
    let a = c.args in
    let e = c.min-n.ensures in
    let n = c.min-n.result in
    let put = is-put a.sheet.now a.name.now a.at n c.requires.1 (omega (arith, e)) (λ h. omega (arith, e)) in
    let size = length-stores (λ i. get_or a.sheet.now (a.at + i) 0) 0 n a.name.now ∙ c.requires.1 in
    c.clear_from.ensures ∙ rw (c.copy_bytes.ensures, size) put

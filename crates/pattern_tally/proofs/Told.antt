-- A pattern tells a peak or a pit by itself, and its changes tell its multiplicity: by one test over all patterns. So of a list of patterns.
use Prim.Native.Nat.{ℕ, zero, suc, ◌+◌, ◌*◌, ◌<◌}
use native.Mathlib.Omega.{arith}
use mathlib.Core.Path.{◌≡◌, refl}
use mathlib.Core.List.{List, [], ◌∷◌, map}
use lib.Dec.{eqb}
use lib.ListN.{length, get_or}
use Rattle.surface.specs.Lists.{list_of, last_or, one, count, total}
use Rattle.surface.specs.Marks.{multiplicity}
use Rattle.surface.specs.Flags.{mark_by}
use Rattle.surface.specs.Patterns.{changes, changes_from, changes_in, signs_of, mark_in}
use Rattle.surface.proofs.General.Tables.{same-entry}

peak-pattern : (k : ℕ) → k < 256 → one (eqb (mark_in k) 1) ≡ one (eqb k 255)
unfolding list_of mark_in mark_by changes_in changes changes_from signs_of last_or
peak-pattern = same-entry _ _ 256 refl

pit-pattern : (k : ℕ) → k < 256 → one (eqb (mark_in k) 2) ≡ one (eqb k 0)
unfolding list_of mark_in mark_by changes_in changes changes_from signs_of last_or
pit-pattern = same-entry _ _ 256 refl

saddle-pattern : (k : ℕ) → k < 256 → changes_in k + 2 * (one (eqb k 255) + one (eqb k 0)) ≡ 2 * multiplicity (mark_in k) + 2
unfolding list_of mark_in mark_by changes_in changes changes_from signs_of last_or
saddle-pattern = same-entry _ _ 256 refl

-- a list of patterns
pub record Told (l : List ℕ) : Type 0 where
  pub peaks_told : count (λ m. eqb m 1) (map mark_in l) ≡ count (λ k. eqb k 255) l
  pub pits_told : count (λ m. eqb m 2) (map mark_in l) ≡ count (λ k. eqb k 0) l
  pub saddles_told :
      total (map changes_in l) + 2 * (count (λ k. eqb k 255) l + count (λ k. eqb k 0) l)
      ≡ 2 * total (map multiplicity (map mark_in l)) + 2 * length l

pub patterns-tell : (l : List ℕ) → ((i : ℕ) → i < length l → get_or l i 0 < 256) → Told l
unfolding count total
patterns-tell [] h = record { peaks_told = refl; pits_told = refl; saddles_told = refl }
patterns-tell (k ∷ l) h =
    let r = patterns-tell l (λ i e. h (suc i) (omega arith)) in
    let b = h zero (omega arith) in
    record {
      peaks_told = omega (arith, r, peak-pattern k b);
      pits_told = omega (arith, r, pit-pattern k b);
      saddles_told = omega (arith, r, saddle-pattern k b);
    }

-- The lines of one post after the other.
use Prim.Native.Nat.{ℕ, zero, suc, ◌+◌, ◌-◌, ◌≤◌, ◌<◌}
use native.Mathlib.Omega.{arith}
use mathlib.Core.Path.{◌≡◌, refl, sym, ◌∙◌, ap}
use mathlib.Core.Bool.{Bool, true, false, ◌&&◌, true≢false}
use mathlib.Core.List.{List, [], ◌++◌, flatten, append-nil, append_assoc}
use borrow.Author.Tests.{ltb-true, ltb-false, le-leb}
use lib.Dec.{ltb, leb}
use lib.ListN.{length, get_or}
use Rattle.surface.specs.Lists.{list_of}
use Rattle.surface.specs.Plot.{Plot, posts}
use Rattle.surface.specs.Marks.{is_saddle, mark_at, marks_of}
use Rattle.surface.specs.Lines.{down, up, dale_at, hill_at, dales_of, hills_of}
use Rattle.surface.specs.Lister.{lines_text, saddle_lines, post_lines}
use Rattle.surface.proofs.General.Bools.{either}
use Rattle.surface.proofs.General.ListOf.{length-list_of, get_or-list_of, list_of-ext}
use Rattle.surface.specs.declared.Spacings.{Spacings}
use Rattle.rings.specs.declared.ring.Ring.{Ring}
use Rattle.runs.specs.Runs.{Saddle}
use Rattle.text.specs.Wrote.{Wrote}
use Rattle.saddle_lines.specs.Lines.{runs_room, post_room, lines_from, SaddleWith, Known, Listed}
use Rattle.text.proofs.Writing.{more, nothing, front}
use Rattle.saddle_lines.proofs.Saddles.{flatten-more}

first-false : (a b : Bool) → a && b ≡ false → b ≡ true → a ≡ false
first-false true b h e = absurd (true≢false (sym e ∙ h))
first-false false b h e = refl

-- what the filled lists tell of a post
module _ {pl : Plot} {s : Spacings} {marks dales hills : List ℕ} (k : Known pl s marks dales hills) where
  pub marks-long : length marks ≡ posts pl
  unfolding marks_of
  marks-long = rw k.marks_known (length-list_of (mark_at pl) (posts pl))

  pub mark-known : {p : ℕ} → p < posts pl → get_or marks p 0 ≡ mark_at pl p
  unfolding marks_of
  mark-known {p} h = rw k.marks_known (get_or-list_of (mark_at pl) (posts pl) p 0 h)

module _ {pl : Plot} {s : Spacings} {marks dales hills : List ℕ} (k : Known pl s marks dales hills) {p : ℕ} {ring : Ring} (z : Saddle pl p ring) where
  pub downward : SaddleWith pl s false p ring dales
  unfolding dales_of dale_at
  downward = record { saddle = z; spaced = k.spaced; known = k.dales_known }

  pub upward : SaddleWith pl s true p ring hills
  unfolding hills_of hill_at
  upward = record { saddle = z; spaced = k.spaced; known = k.hills_known }

module _ (pl : Plot) (s : Spacings) (p : ℕ) where
  pub no-saddle : (l : List ℕ) (at : ℕ) → is_saddle (mark_at pl p) ≡ false → Wrote post_room l l at (post_lines pl s p) at
  unfolding post_lines
  no-saddle l at h = rw h (nothing l at)

  -- water lines, then crest lines
  pub both-written : {l l₁ l₂ : List ℕ} {at next last : ℕ} → is_saddle (mark_at pl p) ≡ true
      → Wrote runs_room l l₁ at (lines_text pl 84 (down pl s) p) next
      → Wrote runs_room l₁ l₂ next (lines_text pl 82 (up pl s) p) last
      → Wrote post_room l l₂ at (post_lines pl s p) last
  unfolding post_lines saddle_lines
  both-written h w v = rw h (more w v)

  -- posts one after the other
  from-none : lines_from pl s p p ≡ []
  unfolding lines_from list_of flatten
  from-none = let e : p - p ≡ 0 = omega arith in rw e

  from_more : (next : ℕ) → p ≤ next → lines_from pl s p (next + 1) ≡ lines_from pl s p next ++ post_lines pl s next
  unfolding lines_from
  from_more next h =
      let e : next + 1 - p ≡ (next - p) + 1 = omega arith in
      let f : p + (next - p) ≡ next = omega arith in
      rw (e, flatten-more (λ i. post_lines pl s (p + i)) (next - p), f)

  -- the lines up to post `next` are written, in a list with room after place `last`
  pub record Going (l l₁ : List ℕ) (last next bytes : ℕ) : Type 0 where
    pub wrote : Wrote (last + post_room) l l₁ 0 (lines_from pl s p next) bytes
    pub size : length l₁ ≡ length l
    pub low : p ≤ next
    pub first : next ≡ p → bytes ≡ 0

  pub going-none : (l : List ℕ) (last : ℕ) → Going l l last p 0
  going-none l last = record { wrote = rw from-none (nothing l 0); size = refl; low = omega arith; first = λ _. refl }

  pub going_more : {l l₁ l₂ : List ℕ} {last next bytes more' : ℕ} → Going l l₁ last next bytes → bytes ≤ last
      → Wrote post_room l₁ l₂ bytes (post_lines pl s next) more'
      → length l₂ ≡ length l₁
      → Going l l₂ last (next + 1) more'
  going_more {next = next} g h w e =
      let t = more g.wrote w in
      record {
        wrote = rw (from_more next g.low) (record { bytes = t.bytes; place = t.place; bound = omega (arith, t.place, w.place, w.bound) });
        size = e ∙ g.size;
        low = omega (arith, g.low);
        first = λ f. absurd (omega (arith, g.low));
      }

  pub going_end : {l l₁ : List ℕ} {last next bytes : ℕ} → Going l l₁ last next bytes → last + post_room ≡ length l → next ≤ posts pl
      → (ltb next (posts pl) && leb bytes last) ≡ false
      → Listed pl s p l l₁ (record { post = next; bytes = bytes })
  going_end {l} {l₁} {last} {next} {bytes} g e h stop =
      let f = front l l₁ (lines_from pl s p next) bytes (omega arith) g.wrote in
      record { text = f.0; kept = f.1; room = f.2; low = g.low; further = further; high = h }
    where
      further : p < posts pl → p < next
      further k =
          either (ltb p next) (λ a. ltb-true p next a)
          (λ a.
          let here : next ≡ p = omega (arith, ltb-false p next a, g.low) in
          let none : bytes ≤ last = omega (arith, g.first here) in
          absurd (omega (arith, ltb-false next (posts pl) (first-false _ _ stop (le-leb bytes last none)))))

-- pieces of the text, one after the other
pub from_zero : (pl : Plot) (s : Spacings) (n : ℕ) → lines_from pl s 0 n ≡ flatten (list_of (post_lines pl s) n)
unfolding lines_from
from_zero pl s n =
    let e : n - 0 ≡ n = omega arith in
    rw e (ap flatten (list_of-ext (λ i. post_lines pl s (0 + i)) (post_lines pl s) n (λ i _. let f : 0 + i ≡ i = omega arith in rw f)))

-- all posts' lines are those up to a post and those from it on
pub from-both : (pl : Plot) (s : Spacings) (p q n : ℕ) → p ≤ q → lines_from pl s p q ++ lines_from pl s q (q + n) ≡ lines_from pl s p (q + n)
from-both pl s p q zero h = let e : q + 0 ≡ q = omega arith in rw (e, from-none pl s q) (append-nil (lines_from pl s p q))
from-both pl s p q (suc n) h =
    let e : q + suc n ≡ q + n + 1 = omega arith in
    rw (e, from_more pl s q (q + n) (omega arith), from_more pl s p (q + n) (omega arith))
    (sym (append_assoc (lines_from pl s p q) (lines_from pl s q (q + n)) (post_lines pl s (q + n)))
    ∙ ap (λ (l : List ℕ). l ++ post_lines pl s (q + n)) (from-both pl s p q n h))

-- Runs of stores into a file: one after the other, the header and then the heights.
use Prim.Native.Nat.{ℕ, suc, ◌+◌, ◌<◌}
use native.Mathlib.Nat.{add-zero}
use native.Mathlib.Omega.{arith}
use mathlib.Core.Path.{◌≡◌, ◌∙◌}
use mathlib.Core.List.{List, [], ◌∷◌, ◌++◌, append-nil}
use lib.IntN.{ℤ, pos, ◌*ℤ◌}
use lib.ListN.{length, get_or, take, set}
use lib.Seq.{sets, sets-eq, drop-length, length-take-le}
use Rattle.surface.specs.Plot.{Plot}
use Rattle.surface.specs.Words.{unsigned, bytes_of, half_bytes}
use Rattle.surface.specs.SurveyFile.{header_for, filed_heights, file_of}
use Rattle.surface.proofs.OfPlots.SurveyFile.{length-filed_heights, filed_heights-take}
use Rattle.surface.proofs.OfCalls.FileCalls.{ForWrite}
use Rattle.surface.specs.declared.Spacings.{Spacings}
use Rattle.survey_file.specs.Layout.{written, header, height_at}

module _ {A : Type 0} where
  sets-append : (l vs ws : List A) (i : ℕ) → sets (sets l i vs) (i + length vs) ws ≡ sets l i (vs ++ ws)
  sets-append l [] ws i = rw (add-zero i)
  sets-append l (v ∷ vs) ws i =
      let e : i + length (v ∷ vs) ≡ suc i + length vs = omega arith in
      rw e (sets-append (set l i v) vs ws (suc i))

  -- stores that go through the whole list
  sets-all : (l vs : List A) → length vs ≡ length l → sets l 0 vs ≡ vs
  sets-all l vs e =
      let k : 0 + length vs ≡ length l = omega arith in
      sets-eq vs l 0 (omega arith) ∙ rw (k, drop-length l) (append-nil vs)

-- the heights of i posts are stored behind the header, then those of i + 1
pub filed-more :
    (hs : List ℤ) (l : List ℕ) (i n : ℕ)
    → i < length hs
    → n ≡ unsigned (get_or hs i (pos 0) *ℤ pos 10)
    → sets (sets l (header_for written) (filed_heights (take i hs))) (height_at written i) (bytes_of n) ≡ sets l (header_for written) (filed_heights (take (i + 1) hs))
filed-more hs l i n h e =
    let stored = filed_heights (take i hs) in
    let k : height_at written i ≡ (header_for written) + length stored = omega (arith, length-filed_heights (take i hs), length-take-le i hs (omega arith)) in
    rw (k, e, filed_heights-take hs i h) (sets-append l stored _ (header_for written))

-- the header and the heights make the file
pub file-stored :
    (pl : Plot) (s : Spacings) (l headed next : List ℕ)
    → ForWrite pl s l
    → headed ≡ sets l 0 (header pl.rows pl.columns s)
    → next ≡ sets headed (header_for written) (filed_heights pl.heights)
    → next ≡ file_of pl s
unfolding header file_of bytes_of half_bytes
file-stored pl s l headed next w h e =
    rw (e, h)
    (sets-append l (header pl.rows pl.columns s) (filed_heights pl.heights) 0
    ∙ sets-all l (file_of pl s) (omega (arith, w.room, w.valid.size, length-filed_heights pl.heights)))

-- The lines of a saddle, run by run.
use Prim.Native.Nat.{ℕ, zero, suc, ◌+◌, ◌*◌, ◌≤◌, ◌<◌}
use native.Mathlib.Omega.{arith}
use native.Mathlib.Numerals.{add-one}
use mathlib.Core.Path.{◌≡◌, refl, sym, ◌∙◌, ap}
use mathlib.Core.Logic.{⊎_elim}
use mathlib.Core.Bool.{Bool, true, false, cond, not, ◌&&◌}
use mathlib.Core.List.{List, [], ◌∷◌, ◌++◌, flatten, append_assoc, append-nil}
use borrow.Author.Tests.{eq-eqb, ne_eqb}
use lib.ListN.{length, get_or}
use Rattle.surface.specs.Lists.{list_of, keep, all, take_while, last_or}
use Rattle.surface.specs.Plot.{Plot, posts, virtual_pit, Vertex}
use Rattle.surface.specs.Edges.{runs, runs_from}
use Rattle.surface.specs.Lines.{Descent, is_end, next, walk, end, runs_of, line, line_start, toward}
use Rattle.surface.specs.Lister.{decimal, text_line, end_name, line_text}
use Rattle.surface.proofs.General.ListOf.{length-list_of, get_or-list_of}
use Rattle.surface.proofs.AnyOrder.Grid.{not-pit}
use Rattle.surface.proofs.AnyOrder.Walks.{Falling, end-stop, pit-stop}
use Rattle.surface.proofs.OfPlots.Instance.{toward-falling}
use Rattle.surface.specs.declared.Spacings.{Spacings}
use Rattle.rings.specs.declared.ring.Ring.{Ring}
use Rattle.runs.proofs.Ringed.{start-vertex}
use Rattle.text.specs.Wrote.{line_room, Wrote}
use Rattle.saddle_lines.specs.Lines.{end_from, run_lines, SaddleWith}
use Rattle.text.proofs.Writing.{more, within, nothing}

flatten-append : {A : Type 0} (l m : List (List A)) → flatten (l ++ m) ≡ flatten l ++ flatten m
unfolding flatten
flatten-append [] m = refl
flatten-append (x ∷ l) m = rw (flatten-append l m) (sym (append_assoc x (flatten l) (flatten m)))

-- one text more
pub flatten-more : {A : Type 0} (f : ℕ → List A) (n : ℕ) → flatten (list_of f (n + 1)) ≡ flatten (list_of f n) ++ f n
unfolding flatten list_of
flatten-more f n = rw (add-one, flatten-append (list_of f n) (f n ∷ []), append-nil (f n))

-- a walk's last entry is where it ends
walk-last : {n : ℕ} {d : Descent} → Falling n d → (x m p : ℕ) → last_or x (walk d m p) ≡ end d m p
unfolding last_or walk end
walk-last law x zero p = refl
walk-last {d = d} law x (suc m) p = go (is_end d p) refl (walk-last law p m (next d p))
  where
    w : List ℕ
    w = walk d m (next d p)

    go : (b : Bool) → is_end d p ≡ b → last_or p w ≡ end d m (next d p) → last_or p (cond b [] w) ≡ end d m (next d p)
    go true e h = sym (end-stop law (suc m) p e)
    go false e h = h

-- a ring has no more runs than members
runs_from-few : (s : ℕ → Bool) (b : Bool) (l c : List ℕ) → length (runs_from s b l c) ≤ length l
unfolding runs_from
runs_from-few s b [] c = omega arith
runs_from-few s b (x ∷ l) c = go (s x && not b) (runs_from-few s (s x) l c)
  where
    go : (t : Bool) → length (runs_from s (s x) l c) ≤ length l → length (keep t (take_while s (x ∷ l ++ c)) ++ runs_from s (s x) l c) ≤ suc (length l)
    go true h = omega arith
    go false h = omega arith

runs-few : (s : ℕ → Bool) (l : List ℕ) → length (runs s l) ≤ length l
unfolding runs
runs-few s [] = omega arith
runs-few s (x ∷ l) = go (all s (x ∷ l)) (runs_from-few s (s (last_or x l)) (x ∷ l) (x ∷ l))
  where
    go : (b : Bool) → length (runs_from s (s (last_or x l)) (x ∷ l) (x ∷ l)) ≤ length (x ∷ l)
        → length (cond b ((x ∷ l) ∷ []) (runs_from s (s (last_or x l)) (x ∷ l) (x ∷ l))) ≤ length (x ∷ l)
    go true h = omega arith
    go false h = h

-- the end from a vertex
pub end-pit : (ends : List ℕ) (v : ℕ) → v ≡ virtual_pit → virtual_pit ≡ end_from ends v
end-pit ends v e = rw (eq-eqb v virtual_pit e)

pub end-post : (ends : List ℕ) (v : ℕ) → (v ≡ virtual_pit → ⊥) → get_or ends v 0 ≡ end_from ends v
end-post ends v h = rw (ne_eqb v virtual_pit h)

module _ {pl : Plot} {spacings : Spacings} {up : Bool} {p : ℕ} {ring : Ring} {ends : List ℕ} (s : SaddleWith pl spacings up p ring ends) where
  abbrev d : Descent
  d = toward pl spacings up

  law : Falling (posts pl) d
  law = toward-falling pl s.saddle.post.valid.sides spacings up

  pub few-runs : length (runs_of d p) ≤ 8
  few-runs = omega (arith, runs-few (λ q. d.lower q p) (d.ring p), s.saddle.holds.len, s.saddle.holds.low)

  -- the end by the list of ends is the end of the walk
  end_known : (v : ℕ) → Vertex (posts pl) v → end_from ends v ≡ end d (posts pl) v
  end_known v w =
      ⊎_elim
      (λ (k : v < posts pl).
      sym (end-post ends v (not-pit s.saddle.post.valid.sides k)) ∙ rw s.known (get_or-list_of (end d (posts pl)) (posts pl) v 0 k))
      (λ (k : v ≡ virtual_pit). sym (end-pit ends v k) ∙ rw k (sym (end-stop law (posts pl) virtual_pit (pit-stop law))))
      w

  module _ {run post : ℕ} (has : run < length (runs_of d p)) (goes : post ≡ line_start d p run) where
    plain : Vertex (posts pl) post
    plain = start-vertex law s.saddle.post.post has goes

    pub vertex : Vertex (length ends) post
    vertex = rw (s.known, length-list_of) plain

    -- the line of the run ends where the walk does from what is picked of the run
    line-end : last_or virtual_pit (line d (posts pl) p run) ≡ end_from ends post
    unfolding last_or line
    line-end = walk-last law p (posts pl) _ ∙ ap (end d (posts pl)) (sym goes) ∙ sym (end_known post plain)

    pub line-more : {l l₁ l₂ : List ℕ} {at next last : ℕ} (letter end : ℕ) → end ≡ end_from ends post
        → Wrote (line_room * run) l l₁ at (run_lines pl letter d p run) next
        → Wrote line_room l₁ l₂ next (text_line letter (decimal p ∷ decimal run ∷ end_name end ∷ [])) last
        → Wrote (line_room * (run + 1)) l l₂ at (run_lines pl letter d p (run + 1)) last
    unfolding run_lines line_text
    line-more letter end f w v =
        let t : last_or virtual_pit (line d (posts pl) p run) ≡ end = line-end ∙ sym f in
        rw (flatten-more (λ run. line_text letter p run (line d (posts pl) p run)) run, t) (within (omega arith) (more w v))

pub no_lines : (pl : Plot) (letter : ℕ) (d : Descent) (p : ℕ) (l : List ℕ) (at : ℕ) → Wrote 0 l l at (run_lines pl letter d p 0) at
unfolding run_lines list_of flatten
no_lines pl letter d p l at = nothing l at

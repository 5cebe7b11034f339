-- The paths that a descent's list of next posts makes end where its walks end. Stated over any descent, then of the two lists of a plot.
use Prim.Native.Nat.{ℕ, zero, suc, ◌≤◌, ◌<◌}
use native.Mathlib.Omega.{arith}
use mathlib.Core.Path.{◌≡◌, refl, sym, ◌∙◌, ap}
use mathlib.Core.Logic.{inl, inr}
use mathlib.Core.Bool.{true}
use mathlib.Core.List.{List}
use lib.Dec.{ltb}
use lib.ListN.{length}
use borrow.Author.Tests.{ltb-true, ltb-false}
use Rattle.surface.specs.Lists.{list_of}
use Rattle.surface.specs.Plot.{Plot, posts, virtual_pit, Vertex}
use Rattle.surface.specs.Lines.{Descent, is_end, next, end, down, up, dale_at, hill_at, dales_of, hills_of}
use Rattle.surface.specs.declared.Spacings.{Spacings}
use Rattle.surface.proofs.General.Bools.{either}
use Rattle.surface.proofs.General.ListOf.{length-list_of, get_or-list_of, list_of-ext}
use Rattle.surface.proofs.General.Stores.{stores-all}
use Rattle.surface.proofs.AnyOrder.Grid.{plot-fits}
use Rattle.surface.proofs.AnyOrder.Walks.{Falling, next-vertex, next-stop, pit-stop, end-vertex, end-is-stop}
use Rattle.surface.proofs.OfPlots.Instance.{down-falling, up-falling}
use Rattle.nexts.specs.Filled.{ForNexts, AllFilled}
use Rattle.paths.specs.Paths.{follow, along, path_end, PathsEnd}
use Rattle.paths.proofs.Shorter.{outside, along-stays}

module _ {n : ℕ} {d : Descent} (law : Falling n d) (fits : n ≤ virtual_pit) where
  -- the list of next posts
  abbrev nexts : List ℕ
  nexts = list_of (next d) n

  follow-next : (p : ℕ) → Vertex n p → follow nexts p ≡ next d p
  follow-next p (inl h) = get_or-list_of (next d) n p p h
  follow-next p (inr h) = outside nexts p (omega (arith, length-list_of (next d) n)) ∙ sym (next-stop law p (ap (is_end d) h ∙ pit-stop law))

  along-end : (m p : ℕ) → Vertex n p → along nexts m p ≡ end d m p
  unfolding along end
  along-end zero p v = refl
  along-end (suc m) p v = rw (follow-next p v) (along-end m (next d p) (next-vertex law p v))

  end_is : (p : ℕ) → p < n → path_end nexts p ≡ end d n p
  end_is p h = rw (length-list_of (next d) n) (along-end n p (inl h))

  nexts-end : PathsEnd nexts
  nexts-end = record { stays = λ p. either (ltb p n) (λ e. post p (ltb-true p n e)) (λ e. beyond p (ltb-false p n e)) }
    where
      post : (p : ℕ) → p < n → follow nexts (path_end nexts p) ≡ path_end nexts p
      post p h = rw (end_is p h) (follow-next (end d n p) (end-vertex law n p (inl h)) ∙ next-stop law _ (end-is-stop law p (inl h)))

      beyond : (p : ℕ) → n ≤ p → follow nexts (path_end nexts p) ≡ path_end nexts p
      beyond p h =
          let o = outside nexts p (omega (arith, length-list_of (next d) n)) in
          rw (along-stays nexts (length nexts) p o) o

  ends-are : list_of (path_end nexts) (length nexts) ≡ list_of (end d n) n
  ends-are = rw (length-list_of (next d) n) (list_of-ext (along nexts n) (end d n) n (λ p h. along-end n p (inl h)))

module _ {pl : Plot} {s : Spacings} {dales₀ hills₀ dales hills : List ℕ} (lent : ForNexts pl s true dales₀ hills₀) (f : AllFilled pl s true dales₀ hills₀ dales hills) where
  dales-nexts : dales ≡ list_of (next (down pl s)) (posts pl)
  dales-nexts = f.downward ∙ stores-all _ (posts pl) dales₀ 0 lent.downs_size

  hills-nexts : hills ≡ list_of (next (up pl s)) (posts pl)
  hills-nexts = f.upward ∙ stores-all _ (posts pl) hills₀ 0 (lent.ups_size refl)

  pub dales-end : PathsEnd dales
  dales-end = rw dales-nexts (nexts-end (down-falling pl lent.valid.sides s) (plot-fits lent.valid.sides))

  pub hills-end : PathsEnd hills
  hills-end = rw hills-nexts (nexts-end (up-falling pl lent.valid.sides s) (plot-fits lent.valid.sides))

  -- the ends of their paths are the names of the dales, and of the hills
  pub dales-named : list_of (path_end dales) (length dales) ≡ dales_of pl s
  unfolding dales_of dale_at
  dales-named = rw dales-nexts (ends-are (down-falling pl lent.valid.sides s) (plot-fits lent.valid.sides))

  pub hills-named : list_of (path_end hills) (length hills) ≡ hills_of pl s
  unfolding hills_of hill_at
  hills-named = rw hills-nexts (ends-are (up-falling pl lent.valid.sides s) (plot-fits lent.valid.sides))

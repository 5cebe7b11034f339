-- A saddle and its ring; a run of the ring by the place of its first member; where a line goes to.
use Rattle.std.specs.Prelude.{ℕ, ◌<◌, ◌≤◌, ◌≡◌, Bool, true, List, [], ◌++◌, Option, MatchOption, length, get_or, drop}
use Rattle.surface.specs.Lists.{take_while}
use Rattle.surface.specs.Plot.{Plot, below, directed, PostOf}
use Rattle.surface.specs.Edges.{runs, ring_of}
use Rattle.surface.specs.Marks.{is_saddle, mark_at}
use Rattle.surface.specs.Lines.{Descent, runs_of, line_start}
use Rattle.surface.specs.Spacings.{Spaced}
use Rattle.surface.specs.declared.Spacings.{Spacings}
use Rattle.rings.specs.declared.ring.Ring.{Ring}
use Rattle.rings.specs.Rings.{held, Holds}

-- p is a saddle, and this is its ring
pub record Saddle (pl : Plot) (p : ℕ) (ring : Ring) : Type 0 where
  pub post : PostOf pl p
  pub saddle : is_saddle (mark_at pl p) ≡ true
  pub holds : Holds ring (ring_of pl p)

-- place i of its ring is in a run
pub record InRun (pl : Plot) (s : Spacings) (up : Bool) (p : ℕ) (ring : Ring) (i : ℕ) : Type 0 where
  pub saddle : Saddle pl p ring
  pub spaced : Spaced s
  pub place : i < ring.len
  pub lower : directed up (below pl) (get_or (held ring) i 0) p ≡ true

module _ (s : ℕ → Bool) (ring : List ℕ) where
  -- the members round from place i that pass the test
  abbrev pub run_from : ℕ → List ℕ
  run_from i = take_while s (drop i (ring ++ ring))

  -- i is the place at which run number j starts
  pub record StartsAt (j i : ℕ) : Type 0 where
    pub there : j < length (runs s ring)
    pub place : i < length ring
    pub passes : s (get_or ring i 0) ≡ true
    pub run : get_or (runs s ring) j [] ≡ run_from i

  -- the place of a run, if there is such a run
  abbrev pub Sought : ℕ → Option ℕ → Type 0
  Sought j r = MatchOption r (length (runs s ring) ≤ j) (λ i. StartsAt j i)

-- what is picked of the run of p that starts at place i
abbrev pub pick_from : Descent → ℕ → List ℕ → ℕ → ℕ
pick_from d p ring i = d.pick p (run_from (λ q. d.lower q p) ring i)

-- whether there is such a run, and where its line goes to
abbrev pub Starts : Descent → ℕ → ℕ → Option ℕ → Type 0
Starts d p run r = MatchOption r (length (runs_of d p) ≤ run) (λ post. (run < length (runs_of d p)) × (post ≡ line_start d p run))

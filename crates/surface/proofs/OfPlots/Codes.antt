-- The codes of a ring tell its sides, so its lower runs and the mark.
use Prim.Native.Nat.{ℕ, ◌≤◌, ◌<◌}
use mathlib.Core.Path.{◌≡◌, refl, sym, ◌∙◌, ap}
use mathlib.Core.Bool.{Bool, true, false, not, ◌||◌, true≢false}
use mathlib.Core.Logic.{◌≢◌}
use mathlib.Core.List.{List, [], ◌∷◌, map, Memᴰ}
use borrow.Author.Tests.{eqb-true, eqb-false}
use lib.Dec.{ltb, eqb}
use lib.Signed.{lt_z}
use lib.ListN.{length, get_or, length-map}
use Rattle.surface.specs.Lists.{any, all}
use Rattle.surface.specs.Plot.{Plot, height, virtual_pit, below, tied, PostOf}
use Rattle.surface.specs.Edges.{falls_in, members, places, ring, ring_of, runs}
use Rattle.surface.specs.Marks.{mark_for, mark, mark_at}
use Rattle.surface.specs.Flags.{runs_for}
use Rattle.surface.specs.Codes.{code_for, member_code, codes_of, ring_length, runs_below, says_below, Says, above_by_height, above_by_tie, below_by_height, the_pit, below_by_tie}
use Rattle.surface.proofs.General.Bools.{either}
use Rattle.surface.proofs.General.ListOf.{get_or-member, get_or-mapped}
use Rattle.surface.proofs.AnyOrder.Grid.{not-pit}
use Rattle.surface.proofs.AnyOrder.RingEdges.{ring-other}
use Rattle.surface.proofs.AnyOrder.RingPlaces.{ring-short}
use Rattle.surface.proofs.AnyOrder.Runs.{all_coded, any-coded, runs-coded, runs-for}
use Rattle.surface.proofs.AnyOrder.Signs.{any-above}
use Rattle.surface.proofs.OfPlots.HeightOrder.{lt_z-level, height-below, pit-below, tied-level, not-tied-pit, below-strict}

module _ (pl : Plot) (p : ℕ) where
  -- 3 and 4 are below, and no code is 0
  code_is : (q : ℕ) → (says_below (member_code pl p q) ≡ below pl q p) × (ltb 0 (member_code pl p q) ≡ true)
  unfolding member_code
  code_is q = go (below pl q p) (tied pl p q)
    where
      go : (b t : Bool) → (says_below (code_for b t) ≡ b) × (ltb 0 (code_for b t) ≡ true)
      go true true = (refl, refl)
      go true false = (refl, refl)
      go false true = (refl, refl)
      go false false = (refl, refl)

  code_below : (q : ℕ) → says_below (member_code pl p q) ≡ below pl q p
  code_below q = (code_is q).0

  each-some : (l : List ℕ) → all (λ c. ltb 0 c) (map (member_code pl p) l) ≡ true
  unfolding all
  each-some [] = refl
  each-some (x ∷ l) = rw ((code_is x).1, each-some l)

  pub codes-some : all (λ c. ltb 0 c) (codes_of pl p) ≡ true
  unfolding codes_of
  codes-some = each-some (ring_of pl p)

  -- what the codes say: of the virtual pit, and of another post
  pit-says : p ≢ virtual_pit → Says pl p virtual_pit (member_code pl p virtual_pit)
  unfolding member_code
  pit-says k = rw (pit-below pl p k, not-tied-pit pl p) (the_pit refl)

  post-says : p ≢ virtual_pit → (q : ℕ) → q ≢ virtual_pit → q ≢ p → Says pl p q (member_code pl p q)
  unfolding member_code
  post-says k q v n =
      rw (tied-level pl p q k v) (go (lt_z (height pl p) (height pl q)) (lt_z (height pl q) (height pl p)) (below pl q p) refl refl refl)
    where
      above : below pl p q ≡ not (below pl q p)
      above = (below-strict pl).other q p n

      go : (a b t : Bool) → lt_z (height pl p) (height pl q) ≡ a → lt_z (height pl q) (height pl p) ≡ b → below pl q p ≡ t → Says pl p q (code_for t (not (a || b)))
      go true b true ea eb et = absurd (true≢false (sym (height-below pl p q k v ea) ∙ above ∙ ap not et))
      go true b false ea eb et = above_by_height v ea
      go false true true ea eb et = below_by_height v eb
      go false true false ea eb et = absurd (true≢false (sym (height-below pl q p v k eb) ∙ et))
      go false false true ea eb et = below_by_tie v (lt_z-level (height pl q) (height pl p) eb ea) et
      go false false false ea eb et = above_by_tie v (lt_z-level (height pl q) (height pl p) eb ea) (above ∙ ap not et)

  code-says : p ≢ virtual_pit → (q : ℕ) → q ≢ p → Says pl p q (member_code pl p q)
  code-says k q n = either (eqb q virtual_pit) (λ e. rw (eqb-true q virtual_pit e) (pit-says k)) (λ e. post-says k q (eqb-false q virtual_pit e) n)

  pub codes-number : length (codes_of pl p) ≡ length (ring_of pl p)
  unfolding codes_of
  codes-number = length-map (ring_of pl p) (member_code pl p)

  pub codes-short : length (codes_of pl p) ≤ ring_length
  unfolding ring_of
  codes-short = rw codes-number (ring-short pl.rows pl.columns (falls_in pl) p)

  -- runs and mark, read off the codes
  pub codes-runs : runs_below pl p ≡ length (runs says_below (codes_of pl p))
  unfolding codes_of
  codes-runs = sym (runs-coded (member_code pl p) says_below (λ q. below pl q p) code_below (ring_of pl p))

  module _ (post : PostOf pl p) where
    others : (q : ℕ) → Memᴰ q (ring_of pl p) → q ≢ p
    unfolding ring_of
    others q = ring-other post.valid.sides (falls_in pl) p q post.post

    pub codes-say : (i : ℕ) → i < length (ring_of pl p) → Says pl p (get_or (ring_of pl p) i 0) (get_or (codes_of pl p) i 0)
    unfolding codes_of
    codes-say i h =
        rw (get_or-mapped (member_code pl p) (ring_of pl p) i 0 0 h)
        (code-says (not-pit post.valid.sides post.post) _ (others _ (get_or-member (ring_of pl p) i 0 h)))

    mark-is : mark_at pl p ≡ mark_for (not (all (λ q. below pl q p) (ring_of pl p))) (any (λ q. below pl q p) (ring_of pl p)) (runs_below pl p)
    unfolding mark_at mark
    mark-is = rw (any-above (below pl) (below-strict pl) p (ring_of pl p) others)

    pub codes-mark : mark_at pl p ≡ mark_for (not (all says_below (codes_of pl p))) (any says_below (codes_of pl p)) (runs_below pl p)
    unfolding codes_of
    codes-mark = rw (all_coded (member_code pl p) says_below (λ q. below pl q p) code_below, any-coded (member_code pl p) says_below (λ q. below pl q p) code_below) mark-is

    -- the lower runs are told by the mark
    pub mark-runs : runs_below pl p ≡ runs_for (mark_at pl p)
    unfolding ring_of ring places members
    mark-runs = rw mark-is (runs-for (λ q. below pl q p) _ _)

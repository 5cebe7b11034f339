-- The posts where the upper runs of a plot's post start are those of its ring, and their strides go no further back than post 0.
use Prim.Native.Nat.{ℕ, ◌+◌, ◌-◌, ◌*◌, ◌≤◌, ◌<◌}
use native.Mathlib.Omega.{arith}
use mathlib.Core.Path.{◌≡◌, refl, sym, ◌∙◌, ap, ap₂}
use mathlib.Core.Bool.{Bool, true, false, cond, not, true≢false}
use mathlib.Core.List.{List, [], ◌∷◌, map, Memᴰ}
use lib.ListN.{length, get_or}
use lib.Dec.{ltb}
use borrow.Author.Tests.{not-true, ltb-true, ltb-false}
use Rattle.surface.specs.Plot.{Plot, posts, virtual_pit, Sides, below}
use Rattle.surface.specs.Edges.{places, falls_in, top, bottom, left, right}
use Rattle.surface.specs.Patterns.{pattern_at, signs_at, upper_starts}
use Rattle.surface.proofs.General.Bools.{either, and_left, and_right}
use Rattle.surface.proofs.General.ListOf.{map-id, length-map, get_or-mapped, get_or-member}
use Rattle.surface.proofs.AnyOrder.Grid.{top-false, not_left, left-south, not-pit}
use Rattle.surface.proofs.AnyOrder.PatternStarts.{Told, pattern-starts}
use Rattle.surface.proofs.AnyOrder.UpperStarts.{upper_starts_at, upper-starting}
use Rattle.surface.proofs.AnyOrder.RingEdges.{edge-ends}
use Rattle.surface.proofs.AnyOrder.Network.{up-post}
use Rattle.surface.proofs.OfPlots.HeightOrder.{pit-below}
use Rattle.surface.proofs.OfPlots.Instance.{any-network}
use Rattle.starts.specs.Starts.{strides, stride_to, post_at, start_posts, first_start}

map-map : (f g h : ℕ → ℕ) → ((x : ℕ) → g (f x) ≡ h x) → (l : List ℕ) → map g (map f l) ≡ map h l
map-map f g h e [] = refl
map-map f g h e (x ∷ l) = ap₂ ◌∷◌ (e x) (map-map f g h e l)

module _ (pl : Plot) (sides : Sides pl.rows pl.columns) (p : ℕ) (h : p < posts pl) where
  abbrev low : ℕ → Bool
  low q = below pl q p

  abbrev c : ℕ
  c = pl.columns

  -- beyond a border stands the virtual pit, which is below
  inside : (b : Bool) (q : ℕ) → low (cond b virtual_pit q) ≡ false → b ≡ false
  inside true q e = absurd (true≢false (sym (pit-below pl p (not-pit sides h)) ∙ e))
  inside false q e = refl

  told : Told (λ i. p + stride_to c i) (λ m. m + (c + 1)) low 0 (places pl.rows c (falls_in pl) p)
  unfolding places strides
  told = (
    λ _ e. north (inside (top c p) (p - c) e),
    (
      λ t _. omega (arith, (top-false sides p).0 (not-true (top c p) (and_left (not (top c p)) _ t))),
      (
        λ _ e. east (inside (right c p) (p + 1) e),
        (
          λ _ _. omega arith,
          (
            λ _ e. south (inside (bottom pl.rows c p) (p + c) e),
            (
              λ _ _. omega (arith, sides.wide),
              (
                λ _ e. west (inside (left c p) (p - 1) e),
                (λ t _. north-west (not-true (left c p) (and_left (not (left c p)) _ t)) (not-true (top c p) (and_left (not (top c p)) _ (and_right (not (left c p)) _ t))), tt),
              ),
            ),
          ),
        ),
      ),
    ),
  )
    where
      north : top c p ≡ false → p + 1 ≡ cond (top c p) virtual_pit (p - c) + (c + 1)
      north e = rw e (omega (arith, (top-false sides p).0 e))

      east : right c p ≡ false → p + (c + 2) ≡ cond (right c p) virtual_pit (p + 1) + (c + 1)
      east e = rw e (omega arith)

      south : bottom pl.rows c p ≡ false → p + (2 * c + 1) ≡ cond (bottom pl.rows c p) virtual_pit (p + c) + (c + 1)
      south e = rw e (omega arith)

      west : left c p ≡ false → p + c ≡ cond (left c p) virtual_pit (p - 1) + (c + 1)
      west e = rw e (omega (arith, not_left sides p e))

      north-west : left c p ≡ false → top c p ≡ false → p + 0 ≡ p - c - 1 + (c + 1)
      north-west e f =
          either (ltb p (c + 1)) (λ t. absurd (true≢false (sym (left-south sides p (omega (arith, ltb-true p (c + 1) t, (top-false sides p).0 f))) ∙ e)))
          (λ t. omega (arith, ltb-false p (c + 1) t))

  -- the places of starts tell the ring's starts
  strides-starts : map (λ i. p + stride_to c i) (upper_starts (pattern_at pl p)) ≡ map (λ m. m + (c + 1)) (upper_starts_at (any-network pl sides) p)
  unfolding signs_at
  strides-starts = pattern-starts pl.rows c (falls_in pl) _ _ low p told

  pub start-posts : start_posts pl p ≡ upper_starts_at (any-network pl sides) p
  start-posts =
      sym (map-map (λ i. p + stride_to c i) (λ x. x - (c + 1)) (post_at c p) (λ x. refl) (upper_starts (pattern_at pl p)))
      ∙ ap (map (λ x. x - (c + 1))) strides-starts
      ∙ map-map (λ m. m + (c + 1)) (λ x. x - (c + 1)) (λ m. m + (c + 1) - (c + 1)) (λ x. refl) (upper_starts_at (any-network pl sides) p)
      ∙ map-id (λ m. m + (c + 1) - (c + 1)) (λ x. omega arith) (upper_starts_at (any-network pl sides) p)

  -- so no stride goes back past post 0
  pub start-inside : (j : ℕ) → j < length (upper_starts (pattern_at pl p)) → c + 1 ≤ p + stride_to c (get_or (upper_starts (pattern_at pl p)) j 8)
  start-inside j k =
      let l = upper_starts (pattern_at pl p) in
      let m = upper_starts_at (any-network pl sides) p in
      let same : length l ≡ length m = sym (length-map (λ i. p + stride_to c i) l) ∙ ap length strides-starts ∙ length-map (λ m. m + (c + 1)) m in
      omega (
        arith,
        get_or-mapped (λ i. p + stride_to c i) l j 8 0 k,
        get_or-mapped (λ m. m + (c + 1)) m j 0 0 (omega arith),
        ap (λ (x : List ℕ). get_or x j 0) strides-starts,
      )

  pub first-inside : c + 1 ≤ p + stride_to c (first_start (pattern_at pl p))
  unfolding strides
  first-inside = go (upper_starts (pattern_at pl p)) refl
    where
      go : (l : List ℕ) → upper_starts (pattern_at pl p) ≡ l → c + 1 ≤ p + stride_to c (first_start (pattern_at pl p))
      go [] e = rw e (omega arith)
      go (x ∷ l) e = start-inside 0 (rw e (omega arith))

  -- and every start is a post
  pub start-post : (j : ℕ) → j < length (upper_starts (pattern_at pl p)) → post_at c p (get_or (upper_starts (pattern_at pl p)) j 8) < posts pl
  start-post j k =
      let l = upper_starts (pattern_at pl p) in
      let net = any-network pl sides in
      let m : Memᴰ (post_at c p (get_or l j 8)) (upper_starts_at net p) =
      rw (← (get_or-mapped (post_at c p) l j 8 0 k), ← start-posts) (get_or-member (start_posts pl p) j 0 (omega (arith, length-map (post_at c p) l))) in
      let a = (upper-starting net).above p _ h m in
      up-post net p _ h (edge-ends sides (falls_in pl) a.0).1 a.1

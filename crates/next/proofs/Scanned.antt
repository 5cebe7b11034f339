-- Next down and next up as a scan of the places round a post: a step takes a place's member where it goes before what was found so far. Over any strict
-- total order; next goes by the order onward from the post.
use Prim.Native.Nat.{ℕ, ◌+◌, ◌-◌}
use mathlib.Core.Path.{◌≡◌, refl, sym, ap, ◌∙◌, fun_ext}
use mathlib.Core.Bool.{Bool, true, false, cond, not, ◌&&◌, ◌||◌, true≢false, or-true}
use mathlib.Core.List.{List, [], ◌∷◌, ◌++◌, Memᴰ}
use native.Mathlib.Omega.{arith}
use lib.Dec.{eqb}
use borrow.Author.Tests.{eqb-true, eqb-false, ne_eqb}
use Rattle.surface.specs.Lists.{keep, any, filter}
use Rattle.surface.specs.Plot.{Plot, virtual_pit, below, reversed, directed, PostOf}
use Rattle.surface.specs.Edges.{lower_of, lowest, lowest_or, Place, place, members, places, ring, top, bottom, left, right, is_border, falls_in, ring_of}
use Rattle.surface.specs.Spacings.{Spaced}
use Rattle.surface.specs.Lines.{before, steepest, is_end, next, toward}
use Rattle.surface.specs.declared.Spacings.{Spacings}
use Rattle.surface.proofs.General.Bools.{either}
use Rattle.surface.proofs.AnyOrder.Grid.{not-pit, top-false}
use Rattle.surface.proofs.AnyOrder.RingPlaces.{diagonal}
use Rattle.surface.proofs.AnyOrder.RingEdges.{ring-pit}
use Rattle.surface.proofs.General.Order.{StrictTotal}
use Rattle.surface.proofs.AnyOrder.Order.{directed-strict}
use Rattle.surface.proofs.AnyOrder.Walks.{filter-member}
use Rattle.surface.proofs.OfPlots.HeightOrder.{below-strict, not-below-pit}
use Rattle.surface.proofs.OfPlots.Steepest.{no-pit}
use Rattle.rings.specs.Corners.{borders_of, corners_of}
use Rattle.next.specs.Scan.{step, scan, turn}
use Rattle.next.proofs.Onward.{onward, onward-before, onward-strict, onward-own, never-onward}

flip : (t : Bool) (a b : ℕ) → cond (not t) b a ≡ cond t a b
flip true a b = refl
flip false a b = refl

module _ (lower : ℕ → ℕ → Bool) where
  pub scan-lowest : (x : ℕ) (l : List Place) → lowest_or lower x (members l) ≡ scan lower x l
  unfolding scan members lowest_or
  scan-lowest x [] = refl
  scan-lowest x (y ∷ l) = go y.taken y.member (scan-lowest (step lower x y) l)
    where
      go : (b : Bool) (q : ℕ) → lowest_or lower (cond b (lower_of lower x q) x) (members l) ≡ scan lower (cond b (lower_of lower x q) x) l
          → lowest_or lower x (keep b q ++ members l) ≡ scan lower (cond b (lower_of lower x q) x) l
      go true q h = h
      go false q h = h

  module _ (o : StrictTotal lower) where
    not_lower : (x a b : ℕ) → lower a x ≡ false → lower b x ≡ true → lower a b ≡ false
    not_lower x a b h k = either (lower a b) (λ e. absurd (true≢false (sym (o.trans a b x e k) ∙ h))) (λ e. e)

    same : (a b : ℕ) → lower_of lower a b ≡ lower_of lower b a
    same a b = either (eqb a b) (λ e. rw (eqb-true a b e)) (λ e. rw (o.other a b (eqb-false a b e)) (flip (lower a b) a b))

    swap : (x a b : ℕ) → lower_of lower (lower_of lower x a) b ≡ lower_of lower (lower_of lower x b) a
    swap x a b =
        either (lower a x)
        (λ ax.
        either (lower b x)
        (λ bx. rw (ax, bx) (same a b))
        (λ bx. rw (ax, bx, ax, not_lower x b a bx ax)))
        (λ ax. either (lower b x) (λ bx. rw (ax, bx, not_lower x a b ax bx)) (λ bx. rw (ax, bx, ax)))

    swap-steps : (x : ℕ) (y z : Place) → step lower (step lower x y) z ≡ step lower (step lower x z) y
    swap-steps x y z = go y.taken z.taken
      where
        go : (b c : Bool) → let a = cond b (lower_of lower x y.member) x in let d = cond c (lower_of lower x z.member) x in cond c (lower_of lower a z.member) a ≡ cond b (lower_of lower d y.member) d
        go true true = swap x y.member z.member
        go true false = refl
        go false true = refl
        go false false = refl

    -- a place may be scanned before all others
    pub to_front : (x : ℕ) (l : List Place) (y : Place) (m : List Place) → scan lower x (l ++ y ∷ m) ≡ scan lower (step lower x y) (l ++ m)
    unfolding scan
    to_front x [] y m = refl
    to_front x (z ∷ l) y m = to_front (step lower x z) l y m ∙ ap (λ (w : ℕ). scan lower w (l ++ m)) (swap-steps x z y)

    -- what is lower than x, which is p or lower than p, is lower than p
    filtered : (p x : ℕ) (l : List ℕ) → ((y : ℕ) → lower y p ≡ false → lower y x ≡ false) → lowest_or lower x (filter (λ q. lower q p) l) ≡ lowest_or lower x l
    unfolding filter lowest_or
    filtered p x [] h = refl
    filtered p x (y ∷ l) h =
        either (lower y p)
        (λ e. rw e (filtered p (lower_of lower x y) l (λ z k. either (lower y x) (λ a. rw a (not_lower p z y k e)) (λ a. rw a (h z k)))))
        (λ e. rw (e, h y e) (filtered p x l h))

    ends : (p : ℕ) (l : List ℕ) → let low : ℕ → Bool = λ q. lower q p in cond (not (any low l)) p (lowest lower (filter low l)) ≡ lowest_or lower p (filter low l)
    unfolding any filter lowest lowest_or
    ends p [] = refl
    ends p (y ∷ l) = either (lower y p) (λ e. rw (e, e)) (λ e. rw e (ends p l))

    -- the lowest of what is lower than p, or p: by a scan from p
    pub lowest-scan : (p : ℕ) (places : List Place) → let low : ℕ → Bool = λ q. lower q p in
        cond (not (any low (members places))) p (lowest lower (filter low (members places))) ≡ scan lower p places
    lowest-scan p places = ends p (members places) ∙ filtered p p (members places) (λ y k. k) ∙ scan-lowest p places

    assoc : (x a b : ℕ) → lower_of lower (lower_of lower x a) b ≡ lower_of lower x (lower_of lower a b)
    assoc x a b = ap (λ (z : ℕ). lower_of lower z b) (same x a) ∙ swap a x b ∙ same (lower_of lower a b) x

    -- what a scan starts from may be looked at after it
    scan-out : (z x : ℕ) (l : List Place) → scan lower (lower_of lower z x) l ≡ lower_of lower z (scan lower x l)
    unfolding scan
    scan-out z x [] = refl
    scan-out z x (y ∷ l) = go y.taken (scan-out z (lower_of lower x y.member) l) (scan-out z x l)
      where
        go : (b : Bool) → scan lower (lower_of lower z (lower_of lower x y.member)) l ≡ lower_of lower z (scan lower (lower_of lower x y.member) l)
            → scan lower (lower_of lower z x) l ≡ lower_of lower z (scan lower x l)
            → scan lower (cond b (lower_of lower (lower_of lower z x) y.member) (lower_of lower z x)) l ≡ lower_of lower z (scan lower (cond b (lower_of lower x y.member) x) l)
        go true i j = ap (λ (w : ℕ). scan lower w l) (assoc z x y.member) ∙ i
        go false i j = j

    scan-own : (x : ℕ) (l : List Place) → scan lower x l ≡ lower_of lower x (scan lower x l)
    scan-own x l = rw (o.irrefl x) at (scan-out x x l)

    -- a scan that goes on from what another found: the lower of what each finds
    pub scan-joins : (x : ℕ) (l m : List Place) → scan lower (scan lower x l) m ≡ lower_of lower (scan lower x l) (scan lower x m)
    scan-joins x l m =
        let z = scan lower x l in
        ap (λ (w : ℕ). scan lower w m) (scan-own x l ∙ same x z) ∙ scan-out z x m

    -- what a scan finds is not above what it starts from
    pub scan-low : (x : ℕ) (l : List Place) → lower x (scan lower x l) ≡ false
    scan-low x l = ap (lower x) (scan-own x l) ∙ go (scan lower x l)
      where
        go : (w : ℕ) → lower x (lower_of lower x w) ≡ false
        go w = either (lower w x) (λ e. rw e (not_lower x x w (o.irrefl x) e)) (λ e. rw e (o.irrefl x))

  -- places that the scan cannot tell apart
  Alike : List Place → List Place → Type 0
  Alike [] [] = Unit {0}
  Alike [] (z ∷ m) = ⊥
  Alike (y ∷ l) [] = ⊥
  Alike (y ∷ l) (z ∷ m) = ((x : ℕ) → step lower x y ≡ step lower x z) × Alike l m

  alike-scan : (x : ℕ) (l m : List Place) → Alike l m → scan lower x l ≡ scan lower x m
  unfolding Alike scan
  alike-scan x [] [] h = refl
  alike-scan x [] (z ∷ m) h = absurd h
  alike-scan x (y ∷ l) [] h = absurd h
  alike-scan x (y ∷ l) (z ∷ m) h = rw (h.0 x) (alike-scan (step lower x z) l m h.1)

  -- a side with the virtual pit where the post is missing, and a corner
  side : (b taken : Bool) (q : ℕ) → (b ≡ false → taken ≡ true) → (b ≡ true → (x : ℕ) → lower virtual_pit x ≡ false)
      → (x : ℕ) → step lower x (place taken (cond b virtual_pit q)) ≡ step lower x (place (not b) q)
  side true true q h k x = rw (k refl x)
  side true false q h k x = refl
  side false taken q h k x = rw (h refl)

  corner : (b : Bool) (q r : ℕ) → (b ≡ true → q ≡ r) → (x : ℕ) → step lower x (place b q) ≡ step lower x (place b r)
  corner true q r h x = rw (h refl)
  corner false q r h x = refl

-- every member that is there has a property
unfoldable pub AllIn : (ℕ → Type 0) → List Place → Type 0
AllIn P [] = Unit {0}
AllIn P (y ∷ l) = (y.taken ≡ true → P y.member) × AllIn P l

pub all_in : (P Q : ℕ → Type 0) → ((q : ℕ) → P q → Q q) → (l : List Place) → AllIn P l → AllIn Q l
unfolding AllIn
all_in P Q f [] a = tt
all_in P Q f (y ∷ l) a = (λ h. f y.member (a.0 h), all_in P Q f l a.1)

-- so has what a scan finds
pub scan-holds : (f : ℕ → ℕ → Bool) (P : ℕ → Type 0) (x : ℕ) (l : List Place) → P x → AllIn P l → P (scan f x l)
unfolding scan AllIn
scan-holds f P x [] h a = h
scan-holds f P x (y ∷ l) h a = go y.taken a.0 (λ m. scan-holds f P y.member l m a.1) (scan-holds f P x l h a.1)
  where
    go : (b : Bool) → (b ≡ true → P y.member) → (P y.member → P (scan f y.member l)) → P (scan f x l)
        → P (scan f (cond b (lower_of f x y.member) x) l)
    go true m i j = either (f y.member x) (λ e. rw e (i (m refl))) (λ e. rw e j)
    go false m i j = j

-- two orders that agree on what has it
pub scan-agree : (f g : ℕ → ℕ → Bool) (P : ℕ → Type 0) → ((a b : ℕ) → P a → P b → f a b ≡ g a b) → (x : ℕ) (l : List Place) → P x → AllIn P l → scan f x l ≡ scan g x l
unfolding scan AllIn
scan-agree f g P agree x [] h a = refl
scan-agree f g P agree x (y ∷ l) h a = go y.taken a.0 (λ m. scan-agree f g P agree y.member l m a.1) (scan-agree f g P agree x l h a.1)
  where
    go : (b : Bool) → (b ≡ true → P y.member) → (P y.member → scan f y.member l ≡ scan g y.member l) → scan f x l ≡ scan g x l
        → scan f (cond b (lower_of f x y.member) x) l ≡ scan g (cond b (lower_of g x y.member) x) l
    go true m i j = rw (agree y.member x (m refl) h) (either (g y.member x) (λ e. rw e (i (m refl))) (λ e. rw e j))
    go false m i j = j

pub toward-strict : (upward : Bool) (pl : Plot) → StrictTotal (directed upward (below pl))
toward-strict upward pl = directed-strict upward (below-strict pl)

-- the lowest by two orders that agree on a list
module _ (f g : ℕ → ℕ → Bool) (P : ℕ → Type 0) (agree : (a b : ℕ) → P a → P b → f a b ≡ g a b) where
  lowest_or-agree : (x : ℕ) (l : List ℕ) → P x → ((q : ℕ) → Memᴰ q l → P q) → lowest_or f x l ≡ lowest_or g x l
  unfolding lowest_or
  lowest_or-agree x [] h k = refl
  lowest_or-agree x (y ∷ l) h k =
      let m = k y (Memᴰ.head refl) in
      let rest : (q : ℕ) → Memᴰ q l → P q = λ q n. k q (Memᴰ.tail n) in
      rw (agree y x m h) (either (g y x) (λ e. rw e (lowest_or-agree y l m rest)) (λ e. rw e (lowest_or-agree x l h rest)))

  lowest-agree : (l : List ℕ) → ((q : ℕ) → Memᴰ q l → P q) → lowest f l ≡ lowest g l
  unfolding lowest
  lowest-agree [] h = refl
  lowest-agree (x ∷ l) h = lowest_or-agree x l (h x (Memᴰ.head refl)) (λ q m. h q (Memᴰ.tail m))

-- next, by a scan in the order onward from the post, where the virtual pit is not among what is lower
module _ (pl : Plot) (s : Spacings) (lower : ℕ → ℕ → Bool) (o : StrictTotal lower) (spaced : Spaced s) (p : ℕ) where
  abbrev ahead : ℕ → ℕ → Bool
  ahead = onward pl s lower p

  pub next-scan : (places : List Place) → (p ≡ virtual_pit → ⊥) → (Memᴰ virtual_pit (filter (λ q. lower q p) (members places)) → ⊥)
      → let ring : ℕ → List ℕ = λ _. members places in
      next (record { lower = lower; ring = ring; pick = steepest pl s lower }) p ≡ scan ahead p places
  unfolding next is_end
  next-scan places h pit =
      let ahead-low : ℕ → Bool = λ q. ahead q p in
      let low : ℕ → Bool = λ q. lower q p in
      let same : low ≡ ahead-low = fun_ext (λ q. sym (onward-own pl s lower p o spaced q)) in
      let l = filter (λ q. lower q p) (members places) in
      rw (
        ne_eqb p virtual_pit h,
        no-pit pl s lower p l pit,
        lowest-agree (before pl s lower p) ahead (λ q. lower q p ≡ true) (onward-before pl s lower p) l (λ q m. (filter-member (λ q. lower q p) (members places) q m).1),
      )
      (ap (λ (f : ℕ → Bool). cond (not (any f (members places))) p (lowest ahead (filter f (members places)))) same ∙ lowest-scan ahead (onward-strict pl s lower p o spaced) p places)

module _ {pl : Plot} {p : ℕ} (post : PostOf pl p) (s : Spacings) (spaced : Spaced s) where
  abbrev t : Bool
  t = top pl.columns p

  abbrev b : Bool
  b = bottom pl.rows pl.columns p

  abbrev l : Bool
  l = left pl.columns p

  abbrev r : Bool
  r = right pl.columns p

  module _ (lower : ℕ → ℕ → Bool) (falls : ℕ → Bool) where
    turned : (is_border pl.rows pl.columns p ≡ true → (x : ℕ) → lower virtual_pit x ≡ false)
        → scan lower p (places pl.rows pl.columns falls p) ≡ scan lower p (turn pl.columns p (borders_of pl.rows pl.columns p) (corners_of pl.rows pl.columns falls p))
    unfolding places Alike
    turned pit =
        let joined = corners_of pl.rows pl.columns falls p in
        alike-scan lower p _ _ (
          side lower t true (p - pl.columns) (λ e. refl) (λ e. pit (rw e)),
          (
            corner lower joined.ne (p - pl.columns + 1) (p - (pl.columns - 1)) (λ k. omega (arith, (top-false post.valid.sides p).0 (diagonal t r (not (falls (p - pl.columns))) k).0)),
            (
              side lower r (not (r && t)) (p + 1) (λ e. rw e) (λ e. pit (simp (e, or-true))),
              (
                corner lower joined.se (p + pl.columns + 1) (p + (pl.columns + 1)) (λ k. omega arith),
                (
                  side lower b (not (b && (t || r))) (p + pl.columns) (λ e. rw e) (λ e. pit (simp (e, or-true))),
                  (
                    corner lower joined.sw (p + pl.columns - 1) (p + (pl.columns - 1)) (λ k. omega arith),
                    (
                      side lower l (not (l && (t || (r || b)))) (p - 1) (λ e. rw e) (λ e. pit (simp (e, or-true))),
                      (
                        corner lower joined.nw (p - pl.columns - 1) (p - (pl.columns + 1)) (λ k. omega arith),
                        tt,
                      ),
                    ),
                  ),
                ),
              ),
            ),
          ),
        )

  -- upward, or on no border
  pub next-is : (upward : Bool) → (upward ≡ false → is_border pl.rows pl.columns p ≡ false)
      → next (toward pl s upward) p
      ≡ scan (onward pl s (directed upward (below pl)) p) p (turn pl.columns p (borders_of pl.rows pl.columns p) (corners_of pl.rows pl.columns (falls_in pl) p))
  unfolding next is_end ring_of ring
  next-is upward off =
      let o = toward-strict upward pl in
      let falls = falls_in pl in
      next-scan pl s (directed upward (below pl)) o spaced p (places pl.rows pl.columns falls p) (not-pit post.valid.sides post.post) (no-pit-lower upward off)
      ∙ turned (onward pl s (directed upward (below pl)) p) falls (pit-last upward off)
    where
      no-pit-lower : (upward : Bool) → (upward ≡ false → is_border pl.rows pl.columns p ≡ false)
          → Memᴰ virtual_pit (filter (λ q. directed upward (below pl) q p) (ring pl.rows pl.columns (falls_in pl) p)) → ⊥
      no-pit-lower true off m = true≢false (sym (filter-member _ _ virtual_pit m).1 ∙ not-below-pit pl p)
      no-pit-lower false off m =
          true≢false (sym ((ring-pit post.valid.sides (falls_in pl) p post.post).0 (filter-member _ _ virtual_pit m).0) ∙ off refl)

      pit-last : (upward : Bool) → (upward ≡ false → is_border pl.rows pl.columns p ≡ false)
          → is_border pl.rows pl.columns p ≡ true → (x : ℕ) → onward pl s (directed upward (below pl)) p virtual_pit x ≡ false
      pit-last true off b x = never-onward pl s (reversed (below pl)) p virtual_pit x (not-below-pit pl p) (not-below-pit pl x)
      pit-last false off b x = absurd (true≢false (sym b ∙ off refl))

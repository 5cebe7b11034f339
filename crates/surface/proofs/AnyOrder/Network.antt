-- The network over any strict total order in which the virtual pit is lowest, any diagonals, and any picks that take the virtual pit where it is:
-- where walks end, that the ends name the dales and the hills, and that these are in one piece. What differs between down and up is told by `Ends`.
use Prim.Native.Nat.{ℕ, suc, ◌+◌, ◌*◌, ◌<◌}
use native.Mathlib.Omega.{arith}
use mathlib.Core.Path.{◌≡◌, refl, sym, ◌∙◌, ap, subst}
use mathlib.Core.Logic.{◌⊎◌, inl, inr, ◌↔◌, ⊎_elim}
use mathlib.Core.Bool.{Bool, true, false, not, true≢false}
use mathlib.Core.List.{List, Memᴰ}
use lib.Dec.{eqb}
use lib.ListN.{get_or}
use borrow.Author.Tests.{eqb-true, eq-eqb, ne_eqb, not-true, not-false}
use Rattle.surface.specs.Lists.{list_of, any, all, count, one}
use Rattle.surface.specs.Plot.{virtual_pit, Vertex, reversed, Sides}
use Rattle.surface.specs.Edges.{Edge, members, places, ring, is_border}
use Rattle.surface.specs.Marks.{mark, peaks, pits, saddles}
use Rattle.surface.specs.Lines.{Descent, is_end, next, end}
use Rattle.surface.specs.Parts.{names_in, InDale, InHill, Parts}
use Rattle.surface.proofs.General.Bools.{same_test, either}
use Rattle.surface.proofs.General.Sum.{sum-ext}
use Rattle.surface.proofs.General.ListOf.{get_or-list_of, member-list_of, list_of-member, any-member, count-list_of}
use Rattle.surface.proofs.AnyOrder.Grid.{not-pit, row_fits, top-true}
use Rattle.surface.proofs.General.Order.{StrictTotal}
use Rattle.surface.proofs.AnyOrder.Order.{reversed-strict}
use Rattle.surface.proofs.AnyOrder.RingEdges.{edge-sym, ring-edge, ring-member, ring-other, ring-pit}
use Rattle.surface.proofs.AnyOrder.Runs.{mark-one, mark-two}
use Rattle.surface.proofs.AnyOrder.Signs.{any-above}
use Rattle.surface.proofs.AnyOrder.Balance.{balance}
use Rattle.surface.proofs.AnyOrder.Walks.{Falling, next-step, end-stop, end-next, end-is-stop, end-inside, member_filter, member-any}
use Rattle.surface.proofs.AnyOrder.Ways.{piece-map}
use Rattle.surface.proofs.AnyOrder.Pieces.{one_piece}

-- what the laws ask for
pub record Network (rows columns : ℕ) (lower : ℕ → ℕ → Bool) (falls : ℕ → Bool) (pick_down pick_up : ℕ → List ℕ → ℕ) : Type 0 where
  pub sides : Sides rows columns
  pub order : StrictTotal lower
  -- the virtual pit is below every post
  pub pit_below : (q : ℕ) → (q ≡ virtual_pit → ⊥) → lower virtual_pit q ≡ true
  -- one of the members is picked, and downward the virtual pit where it is one
  pub picks_down : (p q : ℕ) (l : List ℕ) → Memᴰ q l → Memᴰ (pick_down p l) l
  pub picks_pit : (p : ℕ) (l : List ℕ) → Memᴰ virtual_pit l → pick_down p l ≡ virtual_pit
  pub picks_up : (p q : ℕ) (l : List ℕ) → Memᴰ q l → Memᴰ (pick_up p l) l

-- The ends of a descent over n posts. `inside` are the vertices that belong to some end: all of them downward, the posts alone upward. `is_name` are the
-- ends among them, `mark` is what marks one that is a post, and each is where some post's walk ends.
pub record Ends (n : ℕ) (d : Descent) (inside : ℕ → Type 0) (is_name : ℕ → Type 0) (mark_of : ℕ → ℕ) (mark : ℕ) : Type 0 where
  pub falling : Falling n d
  pub post : (p : ℕ) → p < n → inside p
  pub vertex : (p : ℕ) → inside p → Vertex n p
  pub keeps : (p : ℕ) → inside p → is_end d p ≡ false → inside (next d p)
  pub named : (p : ℕ) → inside p → is_end d p ≡ true → is_name p
  pub ends : (p : ℕ) → is_name p → is_end d p ≡ true
  pub met : (w : ℕ) → is_name w → (p : ℕ) × (p < n) × (end d n p ≡ w)
  pub marked : (w : ℕ) → w < n → mark_of w ≡ mark ↔ is_name w

-- dales downward, hills upward
module _ {n : ℕ} {d : Descent} {inside is_name : ℕ → Type 0} {mark_of : ℕ → ℕ} {mark : ℕ} (e : Ends n d inside is_name mark_of mark) where
  -- every vertex's end is a name, and a name is its own end
  pub end-name : (p : ℕ) → inside p → is_name (end d n p)
  end-name p i = e.named _ (end-inside e.falling inside e.keeps n p i) (end-is-stop e.falling p (e.vertex p i))

  pub name-end : (w : ℕ) → is_name w → end d n w ≡ w
  name-end w h = end-stop e.falling n w (e.ends w h)

  abbrev list : List ℕ
  list = list_of (end d n) n

  -- the names in the list
  names : (w : ℕ) → Memᴰ w list ↔ is_name w
  names w = (
    λ m. let k = list_of-member (end d n) n w m in subst is_name k.2 (end-name k.0 (e.post k.0 k.1)),
    λ h. let k = e.met w h in member-list_of (end d n) n k.0 w k.1 k.2,
  )

  -- how many there are: those of posts are told by a mark
  numbered : names_in n list ≡ count (λ m. eqb m mark) (list_of mark_of n) + one (any (λ x. eqb x virtual_pit) list)
  unfolding names_in
  numbered =
      omega (
        arith,
        count-list_of (λ w. any (λ x. eqb x w) list) (λ w. w) n,
        count-list_of (λ m. eqb m mark) mark_of n,
        sum-ext n (λ w. one (any (λ x. eqb x w) list)) (λ w. one (eqb (mark_of w) mark)) (λ w i. ap one (same w i)),
      )
    where
      same : (w : ℕ) → w < n → any (λ x. eqb x w) list ≡ eqb (mark_of w) mark
      same w i =
          same_test _ _ (λ t. eq-eqb _ _ ((e.marked w i).1 ((names w).0 ((any-member list w).0 t))))
          (λ t. (any-member list w).1 ((names w).1 ((e.marked w i).0 (eqb-true _ _ t))))

  -- what the list says of a set of members that it tells
  pub parts : (edge : ℕ → ℕ → Type 0) → ((p q : ℕ) → edge p q → edge q p) → ((p q : ℕ) → p < n → Memᴰ q (d.ring p) → edge p q)
      → (member : ℕ → ℕ → Type 0)
      → ((w p : ℕ) → inside p × (end d n p ≡ w) → member w p)
      → ((w p : ℕ) → member w p → inside p × (end d n p ≡ w))
      → Parts n edge is_name member list (count (λ m. eqb m mark) (list_of mark_of n) + one (any (λ x. eqb x virtual_pit) list))
  parts edge back along member to from =
      record {
        one =
            λ p h.
            record {
              it = end d n p;
              it_holds = (end-name p (e.post p h), to _ p (e.post p h, refl));
              no_other = λ w i. sym (from w p i.1).1;
            };
        names = names;
        numbered = numbered;
        piece = λ w. piece-map (to w) (from w) (one_piece e.falling edge back along inside e.vertex e.keeps w);
      }

module _ {rows columns : ℕ} {lower : ℕ → ℕ → Bool} {falls : ℕ → Bool} {pick_down pick_up : ℕ → List ℕ → ℕ} (net : Network rows columns lower falls pick_down pick_up) where
  abbrev n : ℕ
  n = rows * columns

  abbrev ring_at : ℕ → List ℕ
  ring_at = ring rows columns falls

  abbrev downward : Descent
  downward = record { lower = lower; ring = ring_at; pick = pick_down }

  abbrev upward : Descent
  upward = record { lower = reversed lower; ring = ring_at; pick = pick_up }

  pub falling-down : Falling n downward
  falling-down = record { order = net.order; ring_vertex = ring-member net.sides falls; picks_member = net.picks_down }

  pub falling-up : Falling n upward
  falling-up = record { order = reversed-strict net.order; ring_vertex = ring-member net.sides falls; picks_member = net.picks_up }

  abbrev any_below : ℕ → Bool
  any_below p = any (λ q. lower q p) (ring_at p)

  abbrev any_above : ℕ → Bool
  any_above p = any (λ q. lower p q) (ring_at p)

  abbrev IsPitIn : ℕ → Type 0
  IsPitIn p = ((p < n) × (any_below p ≡ false)) ⊎ (p ≡ virtual_pit)

  abbrev IsPeakIn : ℕ → Type 0
  IsPeakIn p = (p < n) × (any_above p ≡ false)

  -- an end that is a post has no member of its ring lower
  end_none : (d : Descent) (p : ℕ) → p < n → is_end d p ≡ true ↔ any (λ q. d.lower q p) (d.ring p) ≡ false
  unfolding is_end
  end_none d p h = rw (ne_eqb p virtual_pit (not-pit net.sides h)) (not-true _, λ k. ap not k)

  pit-end : (d : Descent) → is_end d virtual_pit ≡ true
  unfolding is_end
  pit-end d = rw (eq-eqb virtual_pit virtual_pit refl)

  -- a border post drains to the virtual pit
  pub border-next : (p : ℕ) → p < n → is_border rows columns p ≡ true → next downward p ≡ virtual_pit
  unfolding next is_end
  border-next p h b =
      let low = net.pit_below p (not-pit net.sides h) in
      let m = (ring-pit net.sides falls p h).1 b in
      rw (ne_eqb p virtual_pit (not-pit net.sides h), member-any (λ q. lower q p) (ring_at p) virtual_pit m low)
      (net.picks_pit p _ (member_filter (λ q. lower q p) (ring_at p) virtual_pit m low))

  border-end : (p : ℕ) → p < n → is_border rows columns p ≡ true → end downward n p ≡ virtual_pit
  border-end p h b =
      sym (end-next falling-down p (inl h)) ∙ ap (end downward n) (border-next p h b) ∙ end-stop falling-down n virtual_pit (pit-end downward)

  pub some-post : 0 < n
  some-post = omega (arith, row_fits net.sides, net.sides.wide)

  pub corner-border : is_border rows columns 0 ≡ true
  corner-border = rw ((top-true net.sides 0).1 (omega (arith, net.sides.wide)))

  -- upward a walk never meets the virtual pit
  pub not-below-pit : (p : ℕ) → (p ≡ virtual_pit → ⊥) → lower p virtual_pit ≡ false
  not-below-pit p h = net.order.other virtual_pit p (λ e. h (sym e)) ∙ ap not (net.pit_below p h)

  pub up-post : (p q : ℕ) → p < n → Vertex n q → lower p q ≡ true → q < n
  up-post p q k (inl h) e = h
  up-post p q k (inr h) e = absurd (true≢false (sym e ∙ ap (lower p) h ∙ not-below-pit p (not-pit net.sides k)))

  pub up-keeps : (p : ℕ) → p < n → is_end upward p ≡ false → next upward p < n
  up-keeps p h e = let k = next-step falling-up p (inl h) e in up-post p _ h k.vertex k.falls

  -- marks tell the pits and the peaks
  above-not-all : (p : ℕ) → p < n → any_above p ≡ not (all (λ q. lower q p) (ring_at p))
  above-not-all p h = any-above lower net.order p (ring_at p) (λ q m. ring-other net.sides falls p q h m)

  pub mark-pit : (p : ℕ) → p < n → mark lower ring_at p ≡ 2 ↔ any_below p ≡ false
  unfolding mark ring places members
  mark-pit p h = rw (above-not-all p h) (mark-two (λ q. lower q p) _ _)

  pub mark-peak : (p : ℕ) → p < n → mark lower ring_at p ≡ 1 ↔ any_above p ≡ false
  unfolding mark ring places members
  mark-peak p h =
      let m = above-not-all p h in (
        λ e. m ∙ ap not ((mark-one (λ q. lower q p) _ _).0 (rw m at e)),
        λ e. rw m ((mark-one (λ q. lower q p) _ _).1 (not-false _ (sym m ∙ e))),
      )

  pub down_ends : Ends n downward (Vertex n) IsPitIn (mark lower ring_at) 2
  down_ends =
      record {
        falling = falling-down;
        post = λ p h. inl h;
        vertex = λ p v. v;
        keeps = λ p v e. (next-step falling-down p v e).vertex;
        named = λ p v e. ⊎_elim (λ (h : p < n). inl (h, (end_none downward p h).0 e)) (λ (h : p ≡ virtual_pit). inr h) v;
        ends = λ p h. is-end p h;
        met = met;
        marked = λ w h. (λ m. inl (h, (mark-pit w h).0 m), λ k. (mark-pit w h).1 (post-pit w h k));
      }
    where
      is-end : (p : ℕ) → IsPitIn p → is_end downward p ≡ true
      is-end p (inl h) = (end_none downward p h.0).1 h.1
      is-end p (inr h) = rw h (pit-end downward)

      met : (w : ℕ) → IsPitIn w → (p : ℕ) × (p < n) × (end downward n p ≡ w)
      met w (inl h) = (w, h.0, end-stop falling-down n w (is-end w (inl h)))
      met w (inr h) = (0, some-post, border-end 0 some-post corner-border ∙ sym h)

      post-pit : (w : ℕ) → w < n → IsPitIn w → any_below w ≡ false
      post-pit w h (inl k) = k.1
      post-pit w h (inr k) = absurd (not-pit net.sides h k)

  pub up_ends : Ends n upward (λ p. p < n) IsPeakIn (mark lower ring_at) 1
  up_ends =
      record {
        falling = falling-up;
        post = λ p h. h;
        vertex = λ p h. inl h;
        keeps = up-keeps;
        named = λ p h e. (h, (end_none upward p h).0 e);
        ends = is-end;
        met = λ w h. (w, h.0, end-stop falling-up n w (is-end w h));
        marked = λ w h. (λ m. (h, (mark-peak w h).0 m), λ k. (mark-peak w h).1 k.1);
      }
    where
      is-end : (p : ℕ) → IsPeakIn p → is_end upward p ≡ true
      is-end p h = (end_none upward p h.0).1 h.1

  -- the balance
  pub balanced : peaks (list_of (mark lower ring_at) n) + pits (list_of (mark lower ring_at) n) ≡ 2 + saddles (list_of (mark lower ring_at) n)
  balanced =
      balance lower net.order rows columns net.sides falls (λ p h. net.pit_below p (not-pit net.sides h))
      (λ p q h m. ring-other net.sides falls p q h m)

  -- dales number the pits, and the virtual pit names one; hills number the peaks, and it names none
  abbrev EdgeIn : ℕ → ℕ → Type 0
  EdgeIn = Edge rows columns falls

  along : (p q : ℕ) → p < n → Memᴰ q (ring_at p) → EdgeIn p q
  along p q h m = (ring-edge net.sides falls p q h).0 m

  pub dale-parts : let l = list_of (end downward n) n in Parts n EdgeIn IsPitIn (InDale n l) l (pits (list_of (mark lower ring_at) n))
  unfolding pits
  dale-parts =
      let l = list_of (end downward n) n in
      let pit : any (λ x. eqb x virtual_pit) l ≡ true = (any-member l virtual_pit).1 (member-list_of (end downward n) n 0 virtual_pit some-post (border-end 0 some-post corner-border)) in
      let s : count (λ m. eqb m 2) (list_of (mark lower ring_at) n) + 1 ≡ suc (count (λ m. eqb m 2) (list_of (mark lower ring_at) n)) = omega arith in
      rw s at (rw pit at (parts down_ends EdgeIn (λ p q e. edge-sym e) along (InDale n l) to from))
    where
      at : (p : ℕ) → p < n → get_or (list_of (end downward n) n) p 0 ≡ end downward n p
      at p h = get_or-list_of (end downward n) n p 0 h

      to : (w p : ℕ) → Vertex n p × (end downward n p ≡ w) → InDale n (list_of (end downward n) n) w p
      to w p i =
          ⊎_elim (λ (h : p < n). inl (h, at p h ∙ i.1))
          (λ (h : p ≡ virtual_pit). inr (h, sym i.1 ∙ name-end down_ends p (inr h) ∙ h))
          i.0

      from : (w p : ℕ) → InDale n (list_of (end downward n) n) w p → Vertex n p × (end downward n p ≡ w)
      from w p (inl h) = (inl h.0, sym (at p h.0) ∙ h.1)
      from w p (inr h) = (inr h.0, name-end down_ends p (inr h.0) ∙ h.0 ∙ sym h.1)

  pub hill-parts : let l = list_of (end upward n) n in Parts n EdgeIn IsPeakIn (InHill n l) l (peaks (list_of (mark lower ring_at) n))
  unfolding peaks
  hill-parts =
      let l = list_of (end upward n) n in
      let none : any (λ x. eqb x virtual_pit) l ≡ false =
      either (any (λ x. eqb x virtual_pit) l) (λ e. absurd (no_name ((any-member l virtual_pit).0 e))) (λ e. e)
      in
      let s : count (λ m. eqb m 1) (list_of (mark lower ring_at) n) + 0 ≡ count (λ m. eqb m 1) (list_of (mark lower ring_at) n) = omega arith in
      rw s at
      (rw none at
      (parts up_ends EdgeIn (λ p q e. edge-sym e) along (InHill n l) (λ w p i. (i.0, at p i.0 ∙ i.1)) (λ w p i. (i.0, sym (at p i.0) ∙ i.1))))
    where
      at : (p : ℕ) → p < n → get_or (list_of (end upward n) n) p 0 ≡ end upward n p
      at p h = get_or-list_of (end upward n) n p 0 h

      no_name : Memᴰ virtual_pit (list_of (end upward n) n) → ⊥
      no_name m = not-pit net.sides (end-name up_ends _ (list_of-member (end upward n) n virtual_pit m).1).0 (list_of-member (end upward n) n virtual_pit m).2

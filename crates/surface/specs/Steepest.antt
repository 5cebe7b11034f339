-- What is proved of the steepest edge, over the outcomes of the calls: where next and lines go is what the words of "Lines, dales and hills" say.
use Rattle.std.specs.Prelude.{ℕ, ◌≡◌, Bool, true, false, get_or}
use mathlib.Core.List.{List, [], Memᴰ}
use Rattle.surface.specs.Lists.{filter, any}
use Rattle.surface.specs.Plot.{Plot, virtual_pit, below, reversed}
use Rattle.surface.specs.Edges.{is_border, ring_of, lower_runs}
use Rattle.surface.specs.Lines.{Chosen}
use Rattle.surface.specs.Calls.{next_down_answer, next_up_answer, thalweg_answer, thalweg_list, ridge_answer, ridge_list}
use Rattle.surface.specs.declared.Next.{Next}
use Rattle.surface.specs.declared.Entries.{Entries}
use Rattle.surface.specs.declared.Spacings.{Spacings}

module _ (pl : Plot) (s : Spacings) where
  -- downward; upward it is the same in the reversed order
  pub record Goes (lower : ℕ → ℕ → Bool) (next_of : ℕ → Next) (answer : ℕ → ℕ → List ℕ → Entries) (list : ℕ → ℕ → List ℕ → List ℕ) : Type 0 where
    -- from a post with a lower neighbour, next goes to one that is chosen of these; from any other it stays
    pub next : (p : ℕ) → (next_of p).code ≡ 0 → any (λ q. lower q p) (ring_of pl p) ≡ true
        → Chosen pl s lower p (filter (λ q. lower q p) (ring_of pl p)) (next_of p).post
    pub stays : (p : ℕ) → (next_of p).code ≡ 0 → any (λ q. lower q p) (ring_of pl p) ≡ false → (next_of p).post ≡ p
    -- a line goes from its saddle to one that is chosen of its run
    pub line : (p run : ℕ) (lent : List ℕ) → (answer p run lent).code ≡ 0
        → Chosen pl s lower p (get_or (lower_runs lower (ring_of pl) p) run []) (get_or (list p run lent) 1 0)

  pub record Steeply : Type 0 where
    pub downward : Goes (below pl) (next_down_answer pl s) (thalweg_answer pl s) (thalweg_list pl s)
    pub upward : Goes (reversed (below pl)) (next_up_answer pl s) (ridge_answer pl s) (ridge_list pl s)
    -- a border post drains to the virtual pit, and on no other is it a neighbour
    pub border : (p : ℕ) → (next_down_answer pl s p).code ≡ 0 → is_border pl.rows pl.columns p ≡ true → (next_down_answer pl s p).post ≡ virtual_pit
    pub inner : (p : ℕ) → (next_down_answer pl s p).code ≡ 0 → is_border pl.rows pl.columns p ≡ false → Memᴰ virtual_pit (ring_of pl p) → ⊥

-- of every plot and all spacings
abbrev pub SteepestEdges : Type 0
SteepestEdges = (pl : Plot) (s : Spacings) → Steeply pl s

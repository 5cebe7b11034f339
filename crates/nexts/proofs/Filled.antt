-- Lists that are filled with next posts, a turn and a stretch at a time.
use Prim.Native.Nat.{ℕ, ◌+◌, ◌<◌}
use mathlib.Core.Path.{◌≡◌, refl, ◌∙◌, ap}
use mathlib.Core.Logic.{inl}
use mathlib.Core.Bool.{Bool, true, false, cond}
use mathlib.Core.List.{List}
use lib.ListN.{length, set}
use Rattle.surface.specs.Lists.{stores}
use Rattle.surface.specs.Plot.{Plot, PostOf}
use Rattle.surface.specs.Lines.{next, down, up}
use Rattle.surface.specs.declared.Spacings.{Spacings}
use Rattle.surface.proofs.General.Stores.{length-stores, store-next, stores-join}
use Rattle.surface.proofs.AnyOrder.Grid.{vertex-low}
use Rattle.surface.proofs.AnyOrder.Walks.{next-vertex}
use Rattle.surface.proofs.OfPlots.Instance.{down-falling, up-falling}
use Rattle.nexts.specs.Filled.{ForNexts, NextsFilled}

-- next posts fit 16 bits
pub next_fits : {pl : Plot} {p : ℕ} → PostOf pl p → (s : Spacings) → (next (down pl s) p < 65536) × (next (up pl s) p < 65536)
next_fits {pl} {p} i s =
    let sides = i.valid.sides in
    (vertex-low sides (next-vertex (down-falling pl sides s) p (inl i.post)), vertex-low sides (next-vertex (up-falling pl sides s) p (inl i.post)))

pub filled_none : (pl : Plot) (s : Spacings) (both : Bool) (from : ℕ) (downs ups : List ℕ) → NextsFilled pl s both from 0 downs ups downs ups
unfolding stores
filled_none pl s both from downs ups = record { downward = refl; upward = kept both }
  where
    kept : (b : Bool) → ups ≡ cond b ups ups
    kept true = refl
    kept false = refl

module _ {pl : Plot} {s : Spacings} {both : Bool} {from n : ℕ} {downs₀ ups₀ downs ups : List ℕ} (f : NextsFilled pl s both from n downs₀ ups₀ downs ups) where
  -- one post more, in both lists or in the first
  pub filled-both : both ≡ true → (x y : ℕ) → x ≡ next (down pl s) (from + n) → y ≡ next (up pl s) (from + n)
      → NextsFilled pl s both from (n + 1) downs₀ ups₀ (set downs (from + n) x) (set ups (from + n) y)
  filled-both e x y h k =
      record {
        downward = store-next _ from n (n + 1) downs downs₀ (from + n) x f.downward refl refl h;
        upward = rw e (store-next _ from n (n + 1) ups ups₀ (from + n) y (rw e at f.upward) refl refl k);
      }

  pub filled-one : both ≡ false → (x : ℕ) → x ≡ next (down pl s) (from + n) → NextsFilled pl s both from (n + 1) downs₀ ups₀ (set downs (from + n) x) ups
  filled-one e x h =
      record {
        downward = store-next _ from n (n + 1) downs downs₀ (from + n) x f.downward refl refl h;
        upward = rw e (rw e at f.upward);
      }

  -- the posts after them
  pub filled-join : {at m : ℕ} {downs' ups' : List ℕ} → NextsFilled pl s both at m downs ups downs' ups' → (k : ℕ) → at ≡ from + n → k ≡ n + m
      → NextsFilled pl s both from k downs₀ ups₀ downs' ups'
  filled-join {at} {m} {downs'} {ups'} g k e h =
      record {
        downward = stores-join _ from n _ _ k downs₀ downs _ f.downward g.downward e h;
        upward = go both f.upward g.upward;
      }
    where
      go : (b : Bool) → ups ≡ cond b (stores (next (up pl s)) from n ups₀) ups₀ → ups' ≡ cond b (stores (next (up pl s)) at m ups) ups
          → ups' ≡ cond b (stores (next (up pl s)) from k ups₀) ups₀
      go true u v = stores-join _ from n _ _ k ups₀ ups _ u v e h
      go false u v = v ∙ u

  -- the lists keep their size
  pub downs-long : length downs ≡ length downs₀
  downs-long = rw f.downward (length-stores _ from n downs₀)

  pub ups-long : length ups ≡ length ups₀
  ups-long = go both f.upward
    where
      go : (b : Bool) → ups ≡ cond b (stores (next (up pl s)) from n ups₀) ups₀ → length ups ≡ length ups₀
      go true u = rw u (length-stores _ from n ups₀)
      go false u = ap length u

  pub filled-lists : ForNexts pl s both downs₀ ups₀ → ForNexts pl s both downs ups
  filled-lists p = record { valid = p.valid; spaced = p.spaced; downs_size = downs-long ∙ p.downs_size; ups_size = λ e. ups-long ∙ p.ups_size e }

-- A side and its corner where the post may stand on a border: u, the border of that side, v, that of the side after it.
use Prim.Native.Nat.{ℕ}
use mathlib.Core.Path.{◌≡◌, refl, sym}
use mathlib.Core.Bool.{Bool, true, false, cond, not, ◌&&◌, ◌||◌}
use Rattle.surface.specs.Plot.{driven_before}
use Rattle.surface.specs.Flags.{pair_by}

-- which of two posts is driven past first, given of the same two, counted otherwise
pub as-told : (columns : ℕ) {p q : ℕ} {tie : Bool} (p' q' : ℕ) → driven_before columns p' q' ≡ tie → p ≡ p' → q ≡ q' → tie ≡ driven_before columns p q
as-told columns p' q' h e f = rw (e, f) (sym h)

pub side-or : (u x y : Bool) → (u ≡ false → x ≡ y) → cond (not u) x true ≡ u || y
side-or true x y f = refl
side-or false x y f = f refl

corner-or : (u v x y : Bool) → (u ≡ false → v ≡ false → x ≡ y) → cond (not u && not v) x true ≡ u || (v || y)
corner-or true v x y f = refl
corner-or false true x y f = refl
corner-or false false x y f = f refl refl

after-or : (u v x y : Bool) → (u ≡ false → v ≡ false → x ≡ y) → not v && cond (not u && not v) x true ≡ not v && (u || y)
after-or true true x y f = refl
after-or true false x y f = refl
after-or false true x y f = refl
after-or false false x y f = f refl refl

-- the side is told already
pub corner-paired : (h u v x z a z' a' : Bool) → (u ≡ false → v ≡ false → z ≡ z') → (u ≡ false → v ≡ false → a ≡ a')
    → pair_by h x (cond (not u && not v) z true) (not v && cond (not u && not v) a true) ≡ pair_by h x (u || (v || z')) (not v && (u || a'))
corner-paired h u v x z a z' a' f g = rw (corner-or u v z z' f, after-or u v a a' g)

pub paired : (h u v x z a x' z' a' : Bool) → (u ≡ false → x ≡ x') → (u ≡ false → v ≡ false → z ≡ z') → (u ≡ false → v ≡ false → a ≡ a')
    → pair_by h (cond (not u) x true) (cond (not u && not v) z true) (not v && cond (not u && not v) a true) ≡ pair_by h (u || x') (u || (v || z')) (not v && (u || a'))
paired h u v x z a x' z' a' e f g = rw (side-or u x x' e) (corner-paired h u v (u || x') z a z' a' f g)

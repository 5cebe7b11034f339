-- Ways: one after the other, turned round, and through other members.
use Prim.Native.Nat.{ℕ}
use Rattle.surface.specs.Ways.{Way, here, step, OnePiece}

module _ {edge : ℕ → ℕ → Type 0} {member : ℕ → Type 0} where
  pub way-first : {p q : ℕ} → Way edge member p q → member p
  way-first (here m) = m
  way-first (step m e w) = m

  pub way-last : {p q : ℕ} → Way edge member p q → member q
  way-last (here m) = m
  way-last (step m e w) = way-last w

  pub way-join : {p q r : ℕ} → Way edge member p q → Way edge member q r → Way edge member p r
  way-join (here m) w = w
  way-join (step m e v) w = step m e (way-join v w)

  pub way_back : ((p q : ℕ) → edge p q → edge q p) → {p q : ℕ} → Way edge member p q → Way edge member q p
  way_back sym (here m) = here m
  way_back sym (step {p = p} {q = q} m e w) = way-join (way_back sym w) (step (way-first w) (sym p q e) (here m))

-- a piece by one account of its members is a piece by another
pub way-map : {edge : ℕ → ℕ → Type 0} {m m' : ℕ → Type 0} → ((p : ℕ) → m p → m' p) → {p q : ℕ} → Way edge m p q → Way edge m' p q
way-map f (here {p = p} i) = here (f p i)
way-map f (step {p = p} i e w) = step (f p i) e (way-map f w)

pub piece-map : {edge : ℕ → ℕ → Type 0} {m m' : ℕ → Type 0} → ((p : ℕ) → m p → m' p) → ((p : ℕ) → m' p → m p) → OnePiece edge m → OnePiece edge m'
piece-map f g piece p q i j = way-map f (piece p q (g p i) (g q j))

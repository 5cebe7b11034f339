-- Keys as numbers: they are compared by heights and then by places, tell both, and fit 32 bits.
use Prim.Native.Nat.{ℕ, suc, ◌+◌, ◌-◌, ◌*◌, ◌%◌, ◌<◌}
use mathlib.Core.Path.{◌≡◌, refl, sym, ap}
use mathlib.Core.Bool.{true, not, ◌&&◌, ◌||◌}
use native.Mathlib.Omega.{arith}
use lib.Dec.{ltb}
use lib.IntN.{ℤ, pos, negsuc, ◌*ℤ◌, +ℤ_idr}
use mir.Syntax.{w32}
use mir.Val.{SFits, to_z, of_z}
use mir.Facts.{to_z-of_z}
use borrow.Author.Rules.{sfits_of}
use lib.Signed.{lt_z, mag}
use borrow.Author.Tests.{ltb-true, ltb-false, lt-ltb, le-ltb, not-true}
use Rattle.surface.specs.Plot.{is_height}
use Rattle.surface.proofs.General.Bools.{either, and_left}
use Rattle.keys.specs.declared.Block.{Block}
use Rattle.keys.specs.Keys.{key_by, is_key, number_in, height_in}

-- a key of a negative height
key-negative : (n i : ℕ) → i < 2048 → key_by (negsuc n) i ≡ negsuc (n * 2048 + (2047 - i))
key-negative n i h =
    let e : suc n * 2048 ≡ suc (n * 2048 + 2047) = omega arith in
    let f : suc (n * 2048 + 2047) - suc i ≡ n * 2048 + (2047 - i) = omega arith in
    rw (e, lt-ltb i (suc (n * 2048 + 2047)) (omega arith)) (ap negsuc f)

-- of two keys, by the heights and then by the places
by_height : (a b i j : ℕ) → i < 2048 → j < 2048 → ltb (a * 2048 + i) (b * 2048 + j) ≡ ltb a b || (not (ltb b a) && ltb i j)
by_height a b i j h k =
    either (ltb a b) (λ e. rw e (lt-ltb (a * 2048 + i) (b * 2048 + j) (omega (arith, ltb-true a b e))))
    (λ e.
    either (ltb b a) (λ f. rw (e, f) (le-ltb (a * 2048 + i) (b * 2048 + j) (omega (arith, ltb-true b a f))))
    (λ f.
    let g : a ≡ b = omega (arith, ltb-false a b e, ltb-false b a f) in
    rw (e, f) (either (ltb i j) (λ l. rw l (lt-ltb (a * 2048 + i) (b * 2048 + j) (omega (arith, ltb-true i j l)))) (λ l. rw l (le-ltb (a * 2048 + i) (b * 2048 + j) (omega (arith, ltb-false i j l)))))))

turned-less : (i j : ℕ) → i < 2048 → j < 2048 → ltb (2047 - j) (2047 - i) ≡ ltb i j
turned-less i j h k = either (ltb i j) (λ e. rw e (lt-ltb (2047 - j) (2047 - i) (omega (arith, ltb-true i j e)))) (λ e. rw e (le-ltb (2047 - j) (2047 - i) (omega (arith, ltb-false i j e))))

pub key-order : (a b : ℤ) (i j : ℕ) → i < 2048 → j < 2048 → lt_z (key_by a i) (key_by b j) ≡ lt_z a b || (not (lt_z b a) && ltb i j)
key-order (pos a) (pos b) i j h k = by_height a b i j h k
key-order (pos a) (negsuc b) i j h k = rw (key-negative b j k)
key-order (negsuc a) (pos b) i j h k = rw (key-negative a i h)
key-order (negsuc a) (negsuc b) i j h k =
    rw (key-negative a i h, key-negative b j k, sym (turned-less i j h k)) (by_height b a (2047 - j) (2047 - i) (omega arith) (omega arith))

-- its last eight binary digits are those of the place, and no key is below that of the lowest height
pub key-digits : (a : ℤ) (i : ℕ) → i < 2048 → number_in (key_by a i) ≡ i % 256
unfolding number_in
key-digits (pos n) i h = omega arith
key-digits (negsuc n) i h = rw (key-negative n i h) (omega arith)

pub key-low : (a : ℤ) (i : ℕ) → i < 2048 → is_height a ≡ true → is_key (key_by a i) ≡ true
key-low (pos n) i h e = refl
key-low (negsuc n) i h e =
    rw (key-negative n i h) (ap not (le-ltb 2047999999 (n * 2048 + (2047 - i)) (omega (arith, ltb-false 999999 n (not-true _ (and_left _ _ e))))))

-- a key tells its height
pub key-height : (a : ℤ) (i : ℕ) → i < 2048 → height_in (key_by a i) ≡ a
key-height (pos n) i h = ap pos (omega arith)
key-height (negsuc n) i h = rw (key-negative n i h) (ap negsuc (omega arith))

-- a key fits 32 bits, and so does its height's part
pub key_fits : (a : ℤ) (i : ℕ) → i < 2048 → is_height a ≡ true → SFits w32 (key_by a i)
key_fits (pos n) i h e = record { sfits = omega (arith, ltb-false 1000000 n (not-true _ e)) }
key_fits (negsuc n) i h e = rw (key-negative n i h) (record { sfits = omega (arith, ltb-false 999999 n (not-true _ (and_left _ _ e))) })

pub part-fits : (a : ℤ) → is_height a ≡ true → SFits w32 (a *ℤ pos 2048)
part-fits a e = rw (+ℤ_idr (a *ℤ pos 2048)) at (key_fits a 0 (omega arith) e)

-- a key that a local holds is told by its bits
pub bits_of : (k : ℤ) → mag k < 2147483648 → to_z w32 (of_z w32 k) ≡ k
bits_of k h = to_z-of_z {w = w32} (sfits_of h)

-- two blocks of the same keys
pub same_block : (p n ne e se s sw w nw p' n' ne' e' se' s' sw' w' nw' : ℤ)
    → p ≡ p' → n ≡ n' → ne ≡ ne' → e ≡ e' → se ≡ se' → s ≡ s' → sw ≡ sw' → w ≡ w' → nw ≡ nw'
    → ◌≡◌ {A = Block}
    (record { post = p; n = n; ne = ne; e = e; se = se; s = s; sw = sw; w = w; nw = nw })
    (record { post = p'; n = n'; ne = ne'; e = e'; se = se'; s = s'; sw = sw'; w = w'; nw = nw' })
same_block p n ne e se s sw w nw p' n' ne' e' se' s' sw' w' nw' h1 h2 h3 h4 h5 h6 h7 h8 h9 = rw (h1, h2, h3, h4, h5, h6, h7, h8, h9)

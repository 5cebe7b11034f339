-- The definitions of docs/SPECIFICATION.md, a file for each of its sections, or a few. These files are what a reader must believe; the laws are in proofs/.
-- They stand on the floors of proofs/ (see its Lib.antt): a file uses definitions of its own floor and of those before it.
--
-- To read them without knowing the language:
--     f : A → B, and below it f x = ..       a definition with its type; `abbrev`, `unfoldable` and `pub` may be skipped
--     (x : A) → B     (x y : A) → B          for every x of type A (for every x and y), B
--     A → B, where these are statements      if A then B
--     (x : A) × B                            there is an x of type A such that B
--     {A : Type 0} → ..                      for every type A, which is not written where the definition is used
--     λ x. ..    let x = .. in ..            a function; a name for a value
--     cond b x y                             x where b is true, else y;  &&, ||, not: of true and false
--     leb a b   ltb a b   eqb a b   lt_z a b the tests a ≤ b, a < b, a = b of natural numbers, and a < b of whole numbers
--     zero   suc n   a - b   a / b   a % b   0 and n + 1; a - b of natural numbers is 0 where b is greater; quotient and remainder
--     pos n    negsuc n   neg_ℤ a  nat_abs a the whole numbers n and -(n + 1); minus a; a without its sign
--     a *ℤ b    a -ℤ b                       a times b and a less b, of whole numbers
--     closest a b                            a / b to the nearest natural number, to the even one where two are equally near
--     []   x ∷ l   l ++ m   length           lists; x ∷ binds closer than ++
--     get_or l i d  set l i x  replicate n x element i of l, or d past its end; l with x at place i; x, n times
--     take n l   drop n l   map f l          the first n elements; the others; f of each.  flatten: lists one after the other
--     A × B   A ⊎ B   A ↔ B   A → ⊥          and; or; if and only if; not.  Unit {0}: no condition
--     x ≡ y   x ≢ y   T b                    equal; not equal; b is true
--     Memᴰ x l                               x is an element of l
--     record { x = ..; y = .. }   a.x        a value of named parts; its part x
--     data D where a b : ..                  the values, or the proofs, of D are made by a and b alone
--     module _ (x : A) where ..              every definition in it takes x as a further, first argument
-- and the contracts of the functions in src/:
--     requires { A }                         A must hold where the function is called; no call for C has one
--     ensures { A }                          A holds when it returns; `result` is what it returns. Where there are two or more, each has a name
--     l.now   l.old   l.new                  the contents of a lent list that is only read; of one that is written, at the call, and when it returns
-- General: lists, rounding and numbers as files have them.
pub mod Lists
pub mod Rounding
pub mod Words
-- AnyOrder and OfPlots: the ground. (Flags, Patterns and Names serve the code, and no promise of a call cites them; Patterns has the changes of side of "Marks and
-- counts".)
pub mod Plot
pub mod Edges
pub mod Ways
pub mod Marks
pub mod Flags
pub mod Patterns
pub mod Codes
pub mod Spacings
pub mod Lines
pub mod Parts
pub mod Bodies
pub mod Names
pub mod SurveyFile
-- OfCalls: what calls refuse, answer and leave, and the lister's text.
pub mod Settings
pub mod Refusals
pub mod Refused
pub mod Calls
pub mod Version
pub mod Series
pub mod Lister
-- OfCalls: what is proved of them. Demand: demand 3. Steepest: of next and lines. Sheets: of settings sheets. Grounds: of the ring call. Trial: of trials of a
-- re-shoot. Joins: of joins and splits. FirstVersion: of survey files of version 1. Then the example plots, files and sheets.
pub mod Demand
pub mod Steepest
pub mod Sheets
pub mod Grounds
pub mod Trial
pub mod Joins
pub mod FirstVersion
pub mod Examples
pub mod Starred
pub mod LevelGround
pub mod SlopedGround
pub mod JoinedGround
pub mod TriedGround
pub mod ExampleFiles
pub mod ExampleSheets

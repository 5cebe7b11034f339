-- docs/SPECIFICATION.md, "Settings sheet".
--
--     byte   0        1 .. 4               5     6        7 ..
--            version  bytes that follow    kind  length   value    kind  length  value   ..
--            1        unsigned             entry                   entry
--
-- The count is big-endian. A list of no bytes is no sheet.
use Rattle.std.specs.Prelude.{ℕ, zero, suc, ◌+◌, ◌-◌, Bool, true, cond, not, ◌&&◌, ◌||◌, List, [], ◌∷◌, map, leb, ltb, eqb, length, get_or, take, drop}
use Rattle.surface.specs.Lists.{list_of, all, total}
use Rattle.surface.specs.Plot.{default_rule}
use Rattle.surface.specs.Words.{word_at}

-- an entry: its kind, its length, and its value, as far as there are bytes for it
pub record Entry : Type 0 where
  pub kind : ℕ
  pub size : ℕ
  pub value : List ℕ

-- the entries that bytes are, by their lengths, at most n: each takes a byte or more, so as many as there are bytes are all. (A kind with no byte after
-- it has length 0.)
unfoldable pub entries_in : ℕ → List ℕ → List Entry
entries_in zero bytes = []
entries_in (suc n) [] = []
entries_in (suc n) (kind ∷ rest) =
    let size = get_or rest 0 0 in
    record { kind = kind; size = size; value = take size (drop 1 rest) } ∷ entries_in n (drop (1 + size) rest)

unfoldable pub entries_of : List ℕ → List Entry
entries_of sheet = entries_in (length sheet) (drop 5 sheet)

-- where the entries end by their lengths, counted from the first
unfoldable pub extent : List Entry → ℕ
extent l = total (map (λ e. 2 + e.size) l)

-- a sheet of 1 to 4 bytes, of another version, whose count differs from the bytes after it, or whose entries do not end exactly at its end
unfoldable pub is_bad_sheet : List ℕ → Bool
is_bad_sheet sheet =
    let after = length sheet - 5 in
    not (eqb (length sheet) 0)
    && (ltb (length sheet) 5
    || (not (eqb (get_or sheet 0 0) 1)
    || (not (eqb (word_at sheet 1) after)
    || not (eqb (extent (entries_of sheet)) after))))

-- kind 1, the rule: one byte, 1 or 2
abbrev pub is_rule : List ℕ → Bool
is_rule value = eqb (length value) 1 && (eqb (get_or value 0 0) 1 || eqb (get_or value 0 0) 2)

-- kind 2, a name: 1 to 32 bytes from 32 to 126
abbrev pub name_length : ℕ
name_length = 32

abbrev pub is_printable : ℕ → Bool
is_printable byte = leb 32 byte && leb byte 126

abbrev pub is_name : List ℕ → Bool
is_name value = leb 1 (length value) && (leb (length value) name_length && all is_printable value)

abbrev pub is_entry : Entry → Bool
is_entry e = (eqb e.kind 1 && is_rule e.value) || (eqb e.kind 2 && is_name e.value)

-- each of a known kind, above that of the one before, and in its range
unfoldable pub are_entries : ℕ → List Entry → Bool
are_entries before [] = true
are_entries before (e ∷ l) = ltb before e.kind && (is_entry e && are_entries e.kind l)

unfoldable pub has_bad_entry : List ℕ → Bool
has_bad_entry sheet = not (are_entries 0 (entries_of sheet))

-- the value of the first entry of a kind, nothing where there is none
unfoldable pub value_of : ℕ → List Entry → List ℕ
value_of kind [] = []
value_of kind (e ∷ l) = cond (eqb e.kind kind) e.value (value_of kind l)

-- what a sheet says that is not bad: the rule, and the plot's name
unfoldable pub rule_in : List ℕ → ℕ
rule_in sheet = get_or (value_of 1 (entries_of sheet)) 0 default_rule

unfoldable pub name_in : List ℕ → List ℕ
name_in sheet = value_of 2 (entries_of sheet)

-- as 32 bytes: the name at the front, zeros after
unfoldable pub name_bytes : List ℕ → List ℕ
name_bytes sheet = list_of (λ i. get_or (name_in sheet) i 0) name_length

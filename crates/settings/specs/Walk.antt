-- docs/SPECIFICATION.md, "Settings sheet": its entries from a byte on, and what they say.
use Rattle.std.specs.Prelude.{ℕ, ◌+◌, ◌<◌, ◌≡◌, cond, List, length, get_or, drop}
use Rattle.surface.specs.Plot.{default_rule}
use Rattle.surface.specs.Settings.{Entry, entries_in, extent, are_entries, value_of}
use Rattle.surface.specs.declared.Sheet.{Sheet}

-- how many bytes stand before the entries
abbrev pub header_size : ℕ
header_size = 5

-- the entries from a byte on; where there are any, they end exactly at the sheet's end
abbrev pub entries_from : List ℕ → ℕ → List Entry
entries_from sheet at = entries_in (length sheet) (drop at sheet)

abbrev pub Whole : List ℕ → ℕ → Type 0
Whole sheet at = at < length sheet → at + extent (entries_from sheet at) ≡ length sheet

-- a refusal's number, and nothing else
abbrev pub refusal : ℕ → Sheet
refusal code = record { code = code; place = 0; rule = 0; named = 0 }

-- what is said by a rule and the entries after it, and by all entries
abbrev pub said_with : ℕ → List Entry → Sheet
said_with rule l = cond (are_entries 1 l) (record { code = 0; place = 0; rule = rule; named = length (value_of 2 l) }) (refusal 14)

abbrev pub said_in : List Entry → Sheet
said_in l =
    cond (are_entries 0 l)
    (record { code = 0; place = 0; rule = get_or (value_of 1 l) 0 default_rule; named = length (value_of 2 l) })
    (refusal 14)

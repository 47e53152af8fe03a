-- Symbols: names of addresses.
use Rattle.std.specs.Prelude.{ℕ, ◌-◌, ◌^◌, ◌<◌, ◌==◌, ◌||◌, ◌&&◌, nat_le, Bool, IsTrue, List, length, slice_index, Option, Some, None, if◌then◌else◌}
use Rattle.std.specs.List.{list_all}
use Rattle.std.specs.Char.{is_ascii_alphabetic}

-- a name of an address
pub record Symbol : Type 0 where
  pub address : ℕ
  -- the letter that `nm` prints
  pub kind : ℕ
  -- its bytes
  pub name : List ℕ

-- where a symbol is
abbrev pub symbol_address : Symbol → ℕ
symbol_address s = s.address

-- a letter of either case, or `?`
abbrev pub is_kind : ℕ → Bool
is_kind kind = is_ascii_alphabetic kind || kind == 63

-- a printable byte that is no blank
abbrev pub is_mark : ℕ → Bool
is_mark b = nat_le 33 b && nat_le b 126

-- a printable byte
abbrev pub is_printable : ℕ → Bool
is_printable b = nat_le 32 b && nat_le b 126

-- printable bytes, of which the first and the last are no blanks
abbrev pub is_name : List ℕ → Bool
is_name bytes = list_all is_printable bytes && (is_mark (slice_index bytes 0) && is_mark (slice_index bytes (length bytes - 1)))

-- what holds of each symbol
pub record IsSymbol (s : Symbol) : Type 0 where
  pub address_fits : s.address < 2 ^ 32
  pub kind_is : IsTrue (is_kind s.kind)
  pub name_is : IsTrue (is_name s.name)

-- the symbol of this address, kind and name, if there is one
abbrev pub symbol_of : ℕ → ℕ → List ℕ → Option Symbol
symbol_of address kind name =
    if is_kind kind && is_name name then Some (record { address = address; kind = kind; name = name }) else None

-- The text that names an address.
use Rattle.std.specs.Prelude.{ℕ, zero, suc, ◌-◌, List, [], ◌++◌, codes, decimal, Option, option_map}
use Rattle.ir_symbols.specs.Symbols.{Symbol}
use Rattle.ir_symbols.specs.Tables.{nearest}

-- so many bytes after a symbol
abbrev pub distance_text : ℕ → List ℕ
distance_text zero = []
distance_text (suc n) = codes "+" ++ decimal (suc n)

-- an address by a symbol at or before it: ` <NAME>` or ` <NAME+N>`
abbrev pub name_by : ℕ → Symbol → List ℕ
name_by address s = codes " <" ++ (s.name ++ (distance_text (address - s.address) ++ codes ">"))

-- an address by the nearest symbol, if one reaches it
abbrev pub name_text : List Symbol → ℕ → Option (List ℕ)
name_text symbols address = option_map (name_by address) (nearest symbols address)

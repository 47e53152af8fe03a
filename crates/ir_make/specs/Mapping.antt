-- The map of a source's labels.
use Rattle.std.specs.Prelude.{◌≡◌, ℕ, true, List, map}
use Rattle.ir_asm.specs.declared.form.Section.{Section}
use Rattle.ir_asm.specs.declared.form.Section.TheVariants.{Text, Data}
use Rattle.ir_asm.specs.declared.item.Place.{Place}
use Rattle.ir_asm.specs.Text.{is_source_name}
use Rattle.ir_symbols.specs.Symbols.{Symbol}

-- the letter by which `nm` shows a label of a section that no other file sees: `t` and `d`
abbrev pub letter_of : Section → ℕ
letter_of Text = 116
letter_of Data = 100

-- a label that a source may define: its name is a letter or `_`, and then letters, digits and `_`
abbrev pub IsNamed : List ℕ × Place → Type 0
IsNamed label = is_source_name label.0 ≡ true

-- the symbol of a label
abbrev pub label_symbol : List ℕ × Place → Symbol
label_symbol label = record { address = label.1.address; kind = letter_of label.1.section; name = label.0 }

-- the symbols of labels, in their order: one for each
abbrev pub label_symbols : List (List ℕ × Place) → List Symbol
label_symbols labels = map label_symbol labels

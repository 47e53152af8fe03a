-- What comes before a line: the section, and how many bytes of each.
use Rattle.std.specs.Prelude.{ℕ, ◌+◌, List, [], ◌∷◌, None, Result, Ok, Err, if◌then◌else◌}
use Rattle.ir_asm.specs.declared.cause.Cause.{Cause}
use Rattle.ir_asm.specs.declared.form.Section.{Section}
use Rattle.ir_asm.specs.declared.item.Item.{Item}
use Rattle.ir_asm.specs.declared.item.Item.TheVariants.{Within, Nothing}
use Rattle.ir_asm.specs.declared.item.Place.{Place}
use Rattle.ir_asm.specs.Text.{is_nil}
use Rattle.ir_asm.specs.Source.{source_line, item_in, same_section, statement_size, segment_start}

-- what a statement that has no fault places
abbrev pub item_or_nothing : Result Item Cause → Item
item_or_nothing (Ok item) = item
item_or_nothing (Err cause) = Nothing

-- what a line of a section places; of the form of the image its size doesn't depend
abbrev pub placed_by_statement : Section → List ℕ → Item
placed_by_statement section line = if is_nil (source_line line).statement then Nothing else item_or_nothing
    (item_in None section (source_line line).statement)

-- the section from an item on
abbrev pub section_after : Item → Section → Section
section_after (Within other) section = other
section_after item section = section

-- the section after lines that begin in a section
abbrev pub section_at_end : Section → List (List ℕ) → Section
section_at_end section [] = section
section_at_end section (line ∷ lines) = section_at_end (section_after (placed_by_statement section line) section) lines

-- how many bytes of a section the lines place that begin in another
abbrev pub bytes_placed : Section → Section → List (List ℕ) → ℕ
bytes_placed wanted section [] = 0
bytes_placed wanted section (line ∷ lines) = (if same_section wanted section then statement_size (placed_by_statement section line) else 0) + bytes_placed
    wanted (section_after (placed_by_statement section line) section) lines

-- the place after lines of text: the start of the section that they end in, and what they place in it
abbrev pub place_after_statement : Section → List (List ℕ) → Place
place_after_statement section lines = record {
  section = section_at_end section lines;
  address =
      segment_start (section_at_end section lines) + bytes_placed (section_at_end section lines) section lines;
}

-- The lines of a source, and the first pass over them: sections, labels, sizes, and what is placed.
use Rattle.std.specs.Prelude.{◌==◌, ◌&&◌, ◌||◌, ℕ, ◌+◌, ◌*◌, nat_le, nat_lt, not, Bool, true, false, List, [], ◌∷◌, ◌++◌, length, map}
use Rattle.std.specs.Prelude.{flat_map, Option, Some, None, if◌then◌else◌, is_some, Result, Ok, Err}
use Rattle.std.specs.List.{list_all}
use Rattle.byteorder.specs.Endian.{little_bytes}
use Rattle.ir_image.specs.declared.form.ImageForm.{ImageForm}
use Rattle.ir_image.specs.declared.form.ImageForm.TheVariants.{Large}
use Rattle.ir_image.specs.Guest.{limits_of, code_start, memory_size, most_code_words}
use Rattle.ir_asm.specs.declared.cause.Cause.{Cause}
use Rattle.ir_asm.specs.declared.cause.Cause.TheVariants.{BadByte, UnknownStatement, LabelTwice, WrongSection, BadSize, BadCount, BadLabel}
use Rattle.ir_asm.specs.declared.form.Form.{Form}
use Rattle.ir_asm.specs.declared.form.Section.{Section}
use Rattle.ir_asm.specs.declared.form.Section.TheVariants.{Text, Data}
use Rattle.ir_asm.specs.declared.item.Item.{Item}
use Rattle.ir_asm.specs.declared.item.Item.TheVariants.{Code, BranchTo, JumpTo, LoadAddress, Filled, Enlarged, Within, Entry, Count, Nothing}
use Rattle.ir_asm.specs.declared.item.Place.{Place}
use Rattle.ir_asm.specs.declared.item.Placed.{Placed}
use Rattle.ir_asm.specs.Faults.{◌>>=◌, or_cause, fault_unless}
use Rattle.ir_asm.specs.Text.{split, text_before, trim, is_source_name, is_nil, is_source_blank, until, from}
use Rattle.ir_asm.specs.Names.{named}
use Rattle.ir_asm.specs.Forms.{form_named, stated, in_image, may_come, stands_in}
use Rattle.ir_asm.specs.Operands.{operands_of}
use Rattle.ir_asm.specs.Items.{source_item}

-- ---- one line

-- a printable byte or a tab
abbrev pub is_source_byte : ℕ → Bool
is_source_byte b = (nat_le 32 b && nat_le b 126) || (b == 9)

-- a line: its bytes, its labels, and its statement, which may be empty
pub record Line : Type 0 where
  pub bytes : List ℕ
  pub labels : List (List ℕ)
  pub statement : List ℕ

-- the parts but the last
abbrev pub all_but_last : List (List ℕ) → List (List ℕ)
all_but_last [] = []
all_but_last (x ∷ []) = []
all_but_last (x ∷ y ∷ ys) = x ∷ all_but_last (y ∷ ys)

-- the last part
abbrev pub last_segment : List (List ℕ) → List ℕ
last_segment [] = []
last_segment (x ∷ []) = x
last_segment (x ∷ y ∷ ys) = last_segment (y ∷ ys)

-- labels, each before its colon, and then the statement; a comment is left out
abbrev pub source_line : List ℕ → Line
source_line bytes = record {
  bytes = bytes;
  labels = map trim (all_but_last (split 58 (text_before 35 bytes)));
  statement = trim (last_segment (split 58 (text_before 35 bytes)));
}

-- the name of a statement
abbrev pub name_of : List ℕ → List ℕ
name_of statement = until is_source_blank statement

-- the operands in a text, of which an empty one has none
abbrev pub texts_of : List ℕ → List (List ℕ)
texts_of rest = if is_nil rest then [] else map trim (split 44 rest)

-- the operands of a statement, which follow its name
abbrev pub operand_texts : List ℕ → List (List ℕ)
operand_texts statement = texts_of (trim (from is_source_blank statement))

-- ---- the first pass

-- what the lines so far have: the form of the image, once there is a statement, the section, the sizes of both, the numbers of threads
-- and of objects, the labels, and what is placed
pub record Seen : Type 0 where
  pub form : Option ImageForm
  pub section : Section
  pub code : ℕ
  pub filled : ℕ
  pub threads : ℕ
  pub objects : ℕ
  pub labels : List (List ℕ × Place)
  pub placed : List Placed

-- before the first line
abbrev pub nothing_seen : Seen
nothing_seen = record { form = None; section = Text; code = 0; filled = 0; threads = 0; objects = 0; labels = []; placed = [] }

-- where a section begins
abbrev pub segment_start : Section → ℕ
segment_start Text = code_start
segment_start Data = 0x00100000

-- how much of a section there is so far
abbrev pub segment_size_in : Section → Seen → ℕ
segment_size_in Text s = s.code
segment_size_in Data s = s.filled

-- where the next byte of the section lies
abbrev pub here : Seen → Place
here s = record { section = s.section; address = segment_start s.section + segment_size_in s.section s }

-- how many bytes an item takes of its section
abbrev pub statement_size : Item → ℕ
statement_size (Code words) = 4 * length words
statement_size (BranchTo op rs1 rs2 label) = 4
statement_size (JumpTo rd label) = 4
statement_size (LoadAddress rd label) = 8
statement_size (Filled bytes) = length bytes
statement_size item = 0

-- the labels of a line
abbrev pub with_labels : List (List ℕ) → Seen → Result Seen Cause
with_labels [] s = Ok s
with_labels (label ∷ labels) s = fault_unless (not (is_some (named s.labels label))) LabelTwice
    (with_labels labels (record s { labels = s.labels ++ (label, here s) ∷ [] }))

-- two sections are one
abbrev pub same_section : Section → Section → Bool
same_section Text Text = true
same_section Data Data = true
same_section a b = false

-- a form for a section, if it is for one, may be in the section s
abbrev pub may_stand : Option Section → Section → Bool
may_stand None s = true
may_stand (Some a) s = same_section a s

-- after a statement that takes n bytes of its section
abbrev pub grown_segment : Section → ℕ → Seen → Result Seen Cause
grown_segment Text n s = fault_unless (nat_le (s.code + n) (4 * most_code_words)) BadSize (Ok (record s { code = s.code + n }))
grown_segment Data n s = fault_unless (nat_le (s.filled + n) memory_size) BadSize (Ok (record s { filled = s.filled + n }))

-- words in data are bytes, the lowest first
abbrev pub laid_out : Section → Item → Item
laid_out Data (Code words) = Filled (flat_map (little_bytes 4) words)
laid_out section item = item

-- after an item that waits for the second pass
abbrev pub placed_at_label : ℕ → ℕ → Item → Seen → Seen
placed_at_label line address item s = record s { placed = s.placed ++ record { line = line; address = address; item = item } ∷ [] }

-- after what an item says
abbrev pub entered_line : ℕ → ℕ → Item → Seen → Result Seen Cause
entered_line line address Enlarged s = Ok (record s { form = Some Large })
entered_line line address (Within section) s = Ok (record s { section = section })
entered_line line address (Count objects) s = Ok (record s { objects = objects })
entered_line line address (Entry label) s = fault_unless (nat_lt s.threads (limits_of (stated s.form)).threads) BadCount
    (Ok (placed_at_label line address (Entry label) (record s { threads = s.threads + 1 })))
entered_line line address Nothing s = Ok s
entered_line line address item s = Ok (placed_at_label line address item s)

-- after an item: first its size, then what it says
abbrev pub with_source_item : ℕ → Item → Seen → Result Seen Cause
with_source_item line item s = grown_segment s.section (statement_size item) s >>= λ t. entered_line line (here s).address (laid_out s.section item) t

-- what the operands of a form say
abbrev pub item_with : Form → List (List ℕ) → Result Item Cause
item_with form texts = operands_of form texts >>= λ xs. Ok (source_item form xs)

-- what a statement places, after statements that say a form, and in a section: first its name, then where it is, then its operands
abbrev pub item_in : Option ImageForm → Section → List ℕ → Result Item Cause
item_in text_before section statement =
    or_cause UnknownStatement (form_named (name_of statement)) >>= λ form.
    fault_unless (may_come text_before form) WrongSection
    (fault_unless (may_stand (stands_in form) section) WrongSection (item_with (in_image (stated text_before) form) (operand_texts statement)))

-- once there is a statement, the form of the image is said
abbrev pub begun_line : Seen → Seen
begun_line s = record s { form = Some (stated s.form) }

-- after a statement, which may be empty
abbrev pub with_statement : ℕ → List ℕ → Seen → Result Seen Cause
with_statement line statement s = if is_nil statement then Ok s else (item_in s.form s.section statement >>= λ item. with_source_item line item (begun_line s))

-- after a line: its bytes, all its labels' forms, its labels, its statement
abbrev pub with_line : ℕ → Line → Seen → Result Seen Cause
with_line number line s =
    fault_unless (list_all is_source_byte line.bytes) BadByte
    (fault_unless (list_all is_source_name line.labels) BadLabel
    (with_labels line.labels s >>= λ t. with_statement number line.statement t))

-- the first fault: where it is, and what
pub record Fault : Type 0 where
  pub line : ℕ
  pub cause : Cause

-- a fault of a line
abbrev pub at_line : {A : Type 0} → ℕ → Result A Cause → Result A Fault
at_line line (Ok x) = Ok x
at_line line (Err cause) = Err (record { line = line; cause = cause })

-- after the lines from a number on
abbrev pub first_pass : ℕ → List (List ℕ) → Seen → Result Seen Fault
first_pass number [] s = Ok s
first_pass number (line ∷ lines) s = at_line number (with_line number (source_line line) s) >>= λ t. first_pass (number + 1) lines t

-- the carriage return before a line feed is no part of the line
abbrev pub line_without_return : List ℕ → List ℕ
line_without_return [] = []
line_without_return (b ∷ []) = if b == 13 then [] else b ∷ []
line_without_return (b ∷ c ∷ bs) = b ∷ line_without_return (c ∷ bs)

-- parts between line feeds, of which the last is not before one
abbrev pub without_returns : List (List ℕ) → List (List ℕ)
without_returns [] = []
without_returns (line ∷ []) = line ∷ []
without_returns (line ∷ next ∷ lines) = line_without_return line ∷ without_returns (next ∷ lines)

-- the lines of a source: one more than its line feeds
abbrev pub source_lines : List ℕ → List (List ℕ)
source_lines source = without_returns (split 10 source)

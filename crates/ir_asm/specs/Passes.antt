-- The second pass, which puts what was placed into a guest, and the whole.
use Rattle.std.specs.Prelude.{◌≡◌, ◌==◌, ◌&&◌, ℕ, ◌+◌, ◌-◌, ◌*◌, nat_le, nat_lt, List, [], ◌∷◌, ◌++◌, length, take, drop, if◌then◌else◌, ℤ, pos, negsuc, neg_ℤ, Result, Ok, Err, replicate}
use Rattle.ir_isa.specs.Words.{word_of}
use Rattle.ir_isa.specs.declared.inst.Inst.TheVariants.{Jal, Branch}
use Rattle.ir_image.specs.declared.form.ImageForm.TheVariants.{Small}
use Rattle.ir_image.specs.Guest.{limits_of, Guest, code_start, object_words, padded_to}
use Rattle.ir_asm.specs.declared.cause.Cause.{Cause}
use Rattle.ir_asm.specs.declared.cause.Cause.TheVariants.{LabelMissing, TooFar, WrongSection, BadSize, BadCount}
use Rattle.ir_asm.specs.declared.form.Section.TheVariants.{Text}
use Rattle.ir_asm.specs.declared.item.Item.{Item}
use Rattle.ir_asm.specs.declared.item.Item.TheVariants.{Code, BranchTo, JumpTo, LoadAddress, Filled, Entry, First}
use Rattle.ir_asm.specs.declared.item.Place.{Place}
use Rattle.ir_asm.specs.declared.item.Placed.{Placed}
use Rattle.ir_asm.specs.Faults.{◌>>=◌, or_cause, fault_unless}
use Rattle.ir_asm.specs.Names.{named}
use Rattle.ir_asm.specs.Forms.{stated}
use Rattle.ir_asm.specs.Operands.{int_le}
use Rattle.ir_asm.specs.Fields.{branch_offset_of, jump_offset_of}
use Rattle.ir_asm.specs.Items.{li_words}
use Rattle.ir_asm.specs.Source.{Seen, Fault, nothing_seen, same_section, at_line, first_pass, source_lines}

-- a - b
abbrev pub label_difference : ℕ → ℕ → ℤ
label_difference a b = if nat_le b a then pos (a - b) else neg_ℤ (pos (b - a))

-- where a label is
abbrev pub operand_value : Seen → List ℕ → Result Place Cause
operand_value s label = or_cause LabelMissing (named s.labels label)

-- the address of a label, which has to be in text
abbrev pub text_address : Seen → List ℕ → Result ℕ Cause
text_address s label = operand_value s label >>= λ place. fault_unless (same_section place.section Text) WrongSection (Ok place.address)

-- a distance that has to lie in a range
abbrev pub reached_address : ℤ → ℤ → ℤ → Result ℤ Cause
reached_address low high z = fault_unless (int_le low z && int_le z high) TooFar (Ok z)

-- how far a label lies from an address
abbrev pub distance_to : Seen → ℤ → ℤ → ℕ → List ℕ → Result ℤ Cause
distance_to s low high address label = text_address s label >>= λ target. reached_address low high (label_difference target address)

-- the guest with more code
abbrev pub with_code : Guest → List ℕ → Guest
with_code g words = record g { code = g.code ++ words }

-- the guest with the first words of an object
abbrev pub with_object_line : Guest → ℕ → List ℕ → Guest
with_object_line g object words = record g {
  words =
      take (object_words g * object) g.words
      ++ (padded_to (object_words g) words ++ drop (object_words g * object + object_words g) g.words);
}

-- after an item
abbrev pub put_word_in : Seen → ℕ → Item → Guest → Result Guest Cause
put_word_in s address (Code words) g = Ok (with_code g words)
put_word_in s address (BranchTo op rs1 rs2 label) g = distance_to s (negsuc 4095) (pos 4094) address label >>= λ z. Ok
    (with_code g (word_of (Branch op rs1 rs2 (branch_offset_of z)) ∷ []))
put_word_in s address (JumpTo rd label) g = distance_to s (negsuc 1048575) (pos 1048574) address label >>= λ z. Ok
    (with_code g (word_of (Jal rd (jump_offset_of z)) ∷ []))
put_word_in s address (LoadAddress rd label) g = operand_value s label >>= λ place. Ok (with_code g (li_words rd place.address))
put_word_in s address (Filled bytes) g = Ok (record g { bytes = g.bytes ++ bytes })
put_word_in s address (Entry label) g = text_address s label >>= λ a. fault_unless (nat_lt a (code_start + s.code)) WrongSection
    (Ok (record g { entries = g.entries ++ a ∷ [] }))
put_word_in s address (First object words) g = fault_unless (nat_lt object s.objects) BadCount (Ok (with_object_line g object words))
put_word_in s address item g = Ok g

-- after the items, in their order
abbrev pub second_pass : Seen → List Placed → Guest → Result Guest Fault
second_pass s [] g = Ok g
second_pass s (x ∷ xs) g = at_line x.line (put_word_in s x.address x.item g) >>= λ h. second_pass s xs h

-- before the first item: the objects that were seen, all of zeros
abbrev pub started : Seen → Guest
started s = record {
  form = stated s.form;
  entries = [];
  code = [];
  bytes = [];
  words = replicate ((limits_of (stated s.form)).words * s.objects) 0;
}

-- without any entry there is one, at the start of the code
abbrev pub with_entry_line : Guest → Guest
with_entry_line g = if length g.entries == 0 then record g { entries = code_start ∷ [] } else g

-- what the first pass saw has code
abbrev pub has_code : ℕ → Seen → Result Seen Fault
has_code lines s = if s.code == 0 then Err (record { line = lines + 1; cause = BadSize }) else Ok s

-- the guest of what the first pass saw
abbrev pub assembled_guest : Seen → Result Guest Fault
assembled_guest s = second_pass s s.placed (started s) >>= λ g. Ok (with_entry_line g)

-- the guest of the lines, or their first fault
abbrev pub assembled_lines : List (List ℕ) → Result Guest Fault
assembled_lines lines =
    first_pass 1 lines nothing_seen >>= λ s.
    has_code (length lines) s >>= assembled_guest

-- the guest of a source, or its first fault
abbrev pub assembled : List ℕ → Result Guest Fault
assembled source = assembled_lines (source_lines source)

-- the labels of a source with their places, in the order of their lines, or the first fault of its first pass
abbrev pub labels_of : List ℕ → Result (List (List ℕ × Place)) Fault
labels_of source = first_pass 1 (source_lines source) nothing_seen >>= λ s. Ok s.labels

-- a small image of one thread, and that word alone
abbrev pub IsWordGuest : Result Guest Fault → ℕ → Type 0
IsWordGuest r word = r ≡ Ok (record { form = Small; entries = code_start ∷ []; code = word ∷ []; bytes = []; words = [] })

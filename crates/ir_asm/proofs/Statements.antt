-- A source of one statement.
use Rattle.std.proofs.Common.{◌≡◌, ℕ, true, false, List, [], ◌∷◌, Some, Ok, refl}
use Rattle.std.specs.List.{list_all}
use Rattle.ir_asm.specs.declared.form.Section.TheVariants.{Text}
use Rattle.ir_asm.specs.declared.form.Form.{Form}
use Rattle.ir_asm.specs.declared.item.Operand.{Operand}
use Rattle.ir_asm.specs.declared.item.Item.TheVariants.{Code}
use Rattle.ir_asm.specs.Text.{text_before, trim, is_nil}
use Rattle.ir_image.specs.declared.form.ImageForm.TheVariants.{Small}
use Rattle.ir_asm.specs.Forms.{form_named, in_image, stands_in}
use Rattle.ir_asm.specs.Operands.{operands_of}
use Rattle.ir_asm.specs.Items.{source_item}
use Rattle.ir_asm.specs.Source.{source_line, name_of, operand_texts, is_source_byte, may_stand, nothing_seen, begun_line, with_statement, with_source_item, with_line}
use Rattle.ir_asm.specs.Passes.{assembled, IsWordGuest}
use Rattle.ir_asm.proofs.Pieces.{lacks, split_without_separator}

-- the text is a line whose statement st is an instruction with this word
pub record Says (text st : List ℕ) (word : ℕ) : Type 0 where
  pub form : Form
  pub xs : List Operand
  pub feed : lacks 10 text ≡ true
  pub source : list_all is_source_byte text ≡ true
  pub colon : lacks 58 (text_before 35 text) ≡ true
  pub trimmed : trim (text_before 35 text) ≡ st
  pub some : is_nil st ≡ false
  pub named : form_named (name_of st) ≡ Some form
  pub stands : may_stand (stands_in form) Text ≡ true
  pub read : operands_of (in_image Small form) (operand_texts st) ≡ Ok xs
  pub means : source_item (in_image Small form) xs ≡ Code (word ∷ [])

statement_places_word : (text st : List ℕ) (word : ℕ) (s : Says text st word)
    → with_statement 1 st nothing_seen ≡ with_source_item 1 (Code (word ∷ [])) (begun_line nothing_seen)
statement_places_word text st word s = rw (s.some, s.named) (rw (s.stands, s.read) (rw (s.means) refl))

line_places_word : (text st : List ℕ) (word : ℕ) (s : Says text st word)
    → with_line 1 (source_line text) nothing_seen ≡ with_source_item 1 (Code (word ∷ [])) (begun_line nothing_seen)
line_places_word text st word s = rw (s.source, split_without_separator 58 (text_before 35 text) s.colon) (rw s.trimmed (statement_places_word text st word s))

pub said_word_assembles : (text st : List ℕ) (word : ℕ) (s : Says text st word) → IsWordGuest (assembled text) word
said_word_assembles text st word s = rw (split_without_separator 10 text s.feed) (rw (line_places_word text st word s) refl)

-- Operands: their shape, which is tested first, and what they say.
use Rattle.std.specs.Prelude.{◌==◌, ◌&&◌, ◌||◌, ℕ, ◌+◌, ◌%◌, nat_le, not, Bool, true, false, List, [], ◌∷◌, length, drop, Option, Some}
use Rattle.std.specs.Prelude.{None, if◌then◌else◌, ℤ, pos, negsuc, neg_ℤ, option_map, is_some, Result, Ok, Err}
use Rattle.ir_asm.specs.declared.cause.Cause.{Cause}
use Rattle.ir_asm.specs.declared.cause.Cause.TheVariants.{WrongOperands, UnknownRegister, BadNumber}
use Rattle.ir_asm.specs.declared.form.Form.{Form}
use Rattle.ir_asm.specs.declared.form.Kind.{Kind}
use Rattle.ir_asm.specs.declared.form.Kind.TheVariants.{Register, Number, Address, Target, Value, Label}
use Rattle.ir_asm.specs.declared.item.Operand.{Operand}
use Rattle.ir_asm.specs.declared.item.Operand.TheVariants.{Index, Integer, Offset, Symbol}
use Rattle.ir_asm.specs.Faults.{◌>>=◌, or_cause, fault_unless}
use Rattle.ir_asm.specs.Text.{split, trim, is_source_name, is_nil, first_byte, is_source_digit, source_number, natural}
use Rattle.ir_asm.specs.Names.{register_named}
use Rattle.ir_asm.specs.Forms.{takes, kind_at}

-- the first whole number is at most the second
abbrev pub int_le : ℤ → ℤ → Bool
int_le (pos a) (pos b) = nat_le a b
int_le (pos a) (negsuc b) = false
int_le (negsuc a) (pos b) = true
int_le (negsuc a) (negsuc b) = nat_le b a

-- the whole number is a multiple of 2
abbrev pub is_even : ℤ → Bool
is_even (pos n) = n % 2 == 0
is_even (negsuc n) = n % 2 == 1

-- a number that has to lie in a range
abbrev pub operand_within : ℤ → ℤ → ℤ → Result ℤ Cause
operand_within low high z = fault_unless (int_le low z && int_le z high) BadNumber (Ok z)

-- the number of a text, in a range
abbrev pub operand_number : ℤ → ℤ → List ℕ → Result ℤ Cause
operand_number low high text = or_cause BadNumber (source_number text) >>= λ z. operand_within low high z

-- a distance after its first two bytes, which are .+ or .-
abbrev pub signed_distance : ℕ → ℕ → Option ℕ → Option ℤ
signed_distance a b n = if (a == 46) && (b == 43) then option_map pos n else if (a == 46) && (b == 45) then option_map (λ m. neg_ℤ (pos m))
    n else None

-- the distance of a text
abbrev pub operand_distance_text : List ℕ → Option ℤ
operand_distance_text text = signed_distance (first_byte text) (first_byte (drop 1 text)) (natural (drop 2 text))

-- the distance of a text, even and in a range
abbrev pub distance_in : ℤ → ℤ → List ℕ → Result ℤ Cause
distance_in low high text = or_cause BadNumber (operand_distance_text text) >>= λ z. fault_unless (is_even z) BadNumber (operand_within low high z)

-- what comes before the opening parenthesis, and what is between it and the closing one that ends the text
abbrev pub in_parentheses : List (List ℕ) → List (List ℕ) → Option (List ℕ × List ℕ)
in_parentheses (imm ∷ []) (base ∷ [] ∷ []) = Some (trim imm, trim base)
in_parentheses a b = None

-- the parts of a text that was cut at its opening parentheses
abbrev pub address_parts : List (List ℕ) → Option (List ℕ × List ℕ)
address_parts (imm ∷ rest ∷ []) = in_parentheses (split 41 imm) (split 41 rest)
address_parts parts = None

-- the two parts of imm(register)
abbrev pub operand_address : List ℕ → Option (List ℕ × List ℕ)
operand_address text = address_parts (split 40 text)

-- a text that may be in the place of a label, be it allowed there or not
abbrev pub is_like_label : List ℕ → Bool
is_like_label text = is_source_name text || (is_source_digit (first_byte text) || ((first_byte text == 45) || (first_byte text == 46)))

-- an operand has the shape of its kind
abbrev pub is_formed : Kind → List ℕ → Bool
is_formed Register text = not (is_nil text)
is_formed (Number low high) text = not (is_nil text)
is_formed Address text = is_some (operand_address text)
is_formed (Target low high) text = is_like_label text
is_formed Value text = is_like_label text
is_formed Label text = is_like_label text

-- the number and the register of an address
abbrev pub at_address : Option (List ℕ × List ℕ) → Result Operand Cause
at_address None = Err WrongOperands
at_address (Some parts) = operand_number (negsuc 2047) (pos 2047) parts.0 >>= λ imm. or_cause UnknownRegister (register_named parts.1) >>= λ base. Ok
    (Offset imm base)

-- what an operand of a kind says
abbrev pub read : Kind → List ℕ → Result Operand Cause
read Register text = or_cause UnknownRegister (register_named text) >>= λ r. Ok (Index r)
read (Number low high) text = operand_number low high text >>= λ z. Ok (Integer z)
read Address text = at_address (operand_address text)
read (Target low high) text = if is_source_name text then Ok (Symbol text) else (distance_in low high text >>= λ z. Ok (Integer z))
read Value text = if is_source_name text then Ok (Symbol text) else (operand_number (negsuc 2147483647) (pos 4294967295) text >>= λ z. Ok (Integer z))
read Label text = if is_source_name text then Ok (Symbol text) else Err BadNumber

-- all operands from a place on have their shapes
abbrev pub are_formed : Form → ℕ → List (List ℕ) → Bool
are_formed form place [] = true
are_formed form place (text ∷ texts) = is_formed (kind_at form place) text && are_formed form (place + 1) texts

-- what the operands from a place on say
abbrev pub read_all : Form → ℕ → List (List ℕ) → Result (List Operand) Cause
read_all form place [] = Ok []
read_all form place (text ∷ texts) = read (kind_at form place) text >>= λ x. read_all form (place + 1) texts >>= λ xs. Ok (x ∷ xs)

-- what the operands of a statement say: their number and all shapes are tested before any is read
abbrev pub operands_of : Form → List (List ℕ) → Result (List Operand) Cause
operands_of form texts = fault_unless (takes form (length texts) && are_formed form 0 texts) WrongOperands (read_all form 0 texts)

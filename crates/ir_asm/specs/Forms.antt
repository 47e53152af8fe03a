-- The table of statements: their names, and how many operands of which kinds they take.
use Rattle.std.specs.Prelude.{◌==◌, ◌&&◌, ◌||◌, ◌+◌, ℕ, nat_le, Bool, List, [], ◌∷◌, ◌++◌, true, false, codes, map, Option, Some, None, if◌then◌else◌, pos, negsuc}
use Rattle.ir_image.specs.declared.form.ImageForm.{ImageForm}
use Rattle.ir_image.specs.declared.form.ImageForm.TheVariants.{Small}
use Rattle.ir_image.specs.Guest.{limits_of, memory_size}
use Rattle.ir_asm.specs.declared.form.Section.{Section}
use Rattle.ir_asm.specs.declared.form.Section.TheVariants.{Text, Data}
use Rattle.ir_asm.specs.declared.form.Form.{Form}
use Rattle.ir_asm.specs.declared.form.Form.TheVariants.{Registers, Immediates, Shifts, Loads, JumpsTo, Stores, Branches, Jumps, LoadsUpper}
use Rattle.ir_asm.specs.declared.form.Form.TheVariants.{AddsUpper, Fences, Calls, Breaks, DoesNothing, LoadsValue, Enlarges, Sections}
use Rattle.ir_asm.specs.declared.form.Form.TheVariants.{Words, Bytes, Space, Thread, Objects, Object}
use Rattle.ir_asm.specs.declared.form.Kind.{Kind}
use Rattle.ir_asm.specs.declared.form.Kind.TheVariants.{Register, Number, Address, Target, Value, Label}
use Rattle.ir_disasm.specs.Names.{branch_name, load_name, store_name, immediate_name, shift_name, operation_name}
use Rattle.ir_asm.specs.Names.{named, branch_ops, load_ops, store_ops, immediate_ops, shift_ops, base_operations, multiply_operations}

-- the operations on two registers of the base
abbrev pub base_rows : List (List ℕ × Form)
base_rows = map (λ op. (operation_name op, Registers op)) base_operations

-- multiplications and divisions
abbrev pub multiply_rows : List (List ℕ × Form)
multiply_rows = map (λ op. (operation_name op, Registers op)) multiply_operations

-- operations with an immediate, and shifts
abbrev pub immediate_rows : List (List ℕ × Form)
immediate_rows = map (λ op. (immediate_name op, Immediates op)) immediate_ops ++ map (λ op. (shift_name op, Shifts op)) shift_ops

-- loads and stores
abbrev pub memory_rows : List (List ℕ × Form)
memory_rows = map (λ op. (load_name op, Loads op)) load_ops ++ map (λ op. (store_name op, Stores op)) store_ops

-- branches
abbrev pub branch_rows : List (List ℕ × Form)
branch_rows = map (λ op. (branch_name op, Branches op)) branch_ops

-- the instructions that have a form of their own
abbrev pub single_rows : List (List ℕ × Form)
single_rows =
    (codes "jal", Jumps) ∷
    (codes "jalr", JumpsTo) ∷
    (codes "lui", LoadsUpper) ∷
    (codes "auipc", AddsUpper) ∷
    (codes "fence", Fences) ∷
    (codes "ecall", Calls) ∷
    (codes "ebreak", Breaks) ∷
    (codes "nop", DoesNothing) ∷
    (codes "li", LoadsValue) ∷ []

-- the directives, those of objects as they are in a small image
abbrev pub directive_rows : List (List ℕ × Form)
directive_rows =
    (codes ".large", Enlarges) ∷
    (codes ".text", Sections Text) ∷
    (codes ".data", Sections Data) ∷
    (codes ".word", Words) ∷
    (codes ".byte", Bytes) ∷
    (codes ".space", Space) ∷
    (codes ".thread", Thread) ∷
    (codes ".objects", Objects Small) ∷
    (codes ".object", Object Small) ∷ []

-- each name and its form
abbrev pub forms : List (List ℕ × Form)
forms = base_rows ++ (multiply_rows ++ (immediate_rows ++ (memory_rows ++ (branch_rows ++ (single_rows ++ directive_rows)))))

-- the form of the statements of a name
abbrev pub form_named : List ℕ → Option Form
form_named name = named forms name

-- the form of an image, which the statements before say: a large one if `.large` is among them
abbrev pub stated : Option ImageForm → ImageForm
stated None = Small
stated (Some image) = image

-- a form in an image
abbrev pub in_image : ImageForm → Form → Form
in_image image (Objects other) = Objects image
in_image image (Object other) = Object image
in_image image form = form

-- a form may come after other statements
abbrev pub may_follow : Form → Bool
may_follow Enlarges = false
may_follow form = true

-- a form may come after these statements, if there are any
abbrev pub may_come : Option ImageForm → Form → Bool
may_come None form = true
may_come (Some image) form = may_follow form

-- the section in which a form has to be, or none if it may be in either
abbrev pub stands_in : Form → Option Section
stands_in (Sections section) = None
stands_in Enlarges = None
stands_in Words = None
stands_in Thread = None
stands_in (Objects image) = None
stands_in (Object image) = None
stands_in Bytes = Some Data
stands_in Space = Some Data
stands_in form = Some Text

-- a form may have n operands
abbrev pub takes : Form → ℕ → Bool
takes (Registers op) n = n == 3
takes (Immediates op) n = n == 3
takes (Shifts op) n = n == 3
takes (Loads op) n = n == 2
takes JumpsTo n = n == 2
takes (Stores op) n = n == 2
takes (Branches op) n = n == 3
takes Jumps n = n == 2
takes LoadsUpper n = n == 2
takes AddsUpper n = n == 2
takes Fences n = (n == 0) || (n == 3)
takes Calls n = n == 0
takes Breaks n = n == 0
takes DoesNothing n = n == 0
takes LoadsValue n = n == 2
takes Enlarges n = n == 0
takes (Sections section) n = n == 0
takes Words n = nat_le 1 n
takes Bytes n = nat_le 1 n
takes Space n = n == 1
takes Thread n = n == 1
takes (Objects image) n = n == 1
takes (Object image) n = nat_le 2 n && nat_le n (1 + (limits_of image).words)

-- a number of 32 bits, with or without a sign
abbrev pub word_number : Kind
word_number = Number (negsuc 2147483647) (pos 4294967295)

-- registers up to place n, and there another kind
abbrev pub registers_then : ℕ → Kind → ℕ → Kind
registers_then n kind place = if place == n then kind else Register

-- the kind of the operand at a place, from 0
abbrev pub kind_at : Form → ℕ → Kind
kind_at (Registers op) place = Register
kind_at (Immediates op) place = registers_then 2 (Number (negsuc 2047) (pos 2047)) place
kind_at (Shifts op) place = registers_then 2 (Number (pos 0) (pos 31)) place
kind_at (Loads op) place = registers_then 1 Address place
kind_at JumpsTo place = registers_then 1 Address place
kind_at (Stores op) place = registers_then 1 Address place
kind_at (Branches op) place = registers_then 2 (Target (negsuc 4095) (pos 4094)) place
kind_at Jumps place = registers_then 1 (Target (negsuc 1048575) (pos 1048574)) place
kind_at LoadsUpper place = registers_then 1 (Number (pos 0) (pos 1048575)) place
kind_at AddsUpper place = registers_then 1 (Number (pos 0) (pos 1048575)) place
kind_at Fences place = registers_then 2 (Number (pos 0) (pos 4095)) place
kind_at LoadsValue place = registers_then 1 Value place
kind_at Words place = word_number
kind_at Bytes place = Number (pos 0) (pos 255)
kind_at Space place = Number (pos 0) (pos memory_size)
kind_at Thread place = Label
kind_at (Objects image) place = Number (pos 0) (pos (limits_of image).objects)
kind_at (Object image) place = if place == 0 then Number (pos 0) (pos 4294967295) else word_number
kind_at form place = Register

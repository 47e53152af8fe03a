-- Which placed statement is at fault once all labels and the number of objects are known.
use Rattle.std.specs.Prelude.{◌≡◌, ℕ, ◌+◌, ◌≤◌, nat_lt, List, [], ◌∷◌, ◌++◌, Option, Some, None, if◌then◌else◌, Result, Ok, Err, pos, negsuc}
use Rattle.std.specs.List.{AllByRecursion}
use Rattle.ir_image.specs.Guest.{code_start}
use Rattle.ir_asm.specs.declared.cause.Cause.{Cause}
use Rattle.ir_asm.specs.declared.cause.Cause.TheVariants.{WrongSection, BadCount}
use Rattle.ir_asm.specs.declared.item.Item.{Item}
use Rattle.ir_asm.specs.declared.item.Item.TheVariants.{BranchTo, JumpTo, LoadAddress, Entry, First}
use Rattle.ir_asm.specs.declared.item.Placed.{Placed}
use Rattle.ir_asm.specs.Faults.{◌>>=◌, fault_unless}
use Rattle.ir_asm.specs.Source.{Seen, Fault}
use Rattle.ir_asm.specs.Passes.{operand_value, text_address, distance_to}

-- the fault of a step, if it has one
abbrev pub fault_in : {A : Type 0} → Result A Cause → Option Cause
fault_in (Ok x) = None
fault_in (Err cause) = Some cause

-- the address of a label that has to be a place in the code
abbrev pub entry_address : Seen → List ℕ → Result ℕ Cause
entry_address s label = text_address s label >>= λ a. fault_unless (nat_lt a (code_start + s.code)) WrongSection (Ok a)

-- the fault of an item at an address, if it has one: its label is wrong, or there is no such object
abbrev pub item_fault : Seen → ℕ → Item → Option Cause
item_fault s address (BranchTo op rs1 rs2 label) = fault_in (distance_to s (negsuc 4095) (pos 4094) address label)
item_fault s address (JumpTo rd label) = fault_in (distance_to s (negsuc 1048575) (pos 1048574) address label)
item_fault s address (LoadAddress rd label) = fault_in (operand_value s label)
item_fault s address (Entry label) = fault_in (entry_address s label)
item_fault s address (First object words) = if nat_lt object s.objects then None else Some BadCount
item_fault s address item = None

-- a placed statement has no fault
abbrev pub IsPutAt : Seen → Placed → Type 0
IsPutAt s x = item_fault s x.address x.item ≡ None

-- the fault is that of the first of these placed statements that has one
pub record IsFirstFault (s : Seen) (placed : List Placed) (fault : Fault) : Type 0 where
  pub before : List Placed
  pub statement : Placed
  pub after : List Placed
  pub stands : placed ≡ before ++ statement ∷ after
  pub earlier : AllByRecursion (IsPutAt s) before
  pub fails : item_fault s statement.address statement.item ≡ Some fault.cause
  pub line : statement.line ≡ fault.line

-- statements in the order of their lines, of which each has one at most, from a line on
abbrev pub AreInOrder : ℕ → List Placed → Type 0
AreInOrder line [] = Unit {0}
AreInOrder line (x ∷ xs) = (line ≤ x.line) × AreInOrder (x.line + 1) xs

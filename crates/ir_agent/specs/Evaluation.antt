-- What a bytecode expression evaluates to: its bytecodes one after the other, each on a stack of numbers of 64 bits.
use Rattle.std.specs.Prelude.{◌≡◌, ℕ, zero, suc, ◌+◌, ◌*◌, ◌^◌, ◌==◌, nat_lt, nat_le, not, Bool, true, List, [], ◌∷◌, length, take, drop}
use Rattle.std.specs.Prelude.{slice_get, Option, Some, None, option_map, option_and_then, Result, Ok, Err, if◌then◌else◌}
use Rattle.ir_agent.specs.declared.evaluate_err.EvaluateErr.{EvaluateErr}
use Rattle.ir_agent.specs.declared.evaluate_err.EvaluateErr.TheVariants.{StackEmpty, StackFull, UnknownBytecode, DivisionByZero, NoRegister, NoMemory, Outside, TooManySteps}
use Rattle.ir_agent.specs.declared.operation.Binary.{Binary}
use Rattle.ir_agent.specs.declared.operation.Unary.{Unary}
use Rattle.ir_agent.specs.declared.operation.Source.{Source}
use Rattle.ir_agent.specs.declared.operation.Source.TheVariants as source
use Rattle.ir_agent.specs.declared.operation.Order.{Order}
use Rattle.ir_agent.specs.declared.operation.Order.TheVariants as order
use Rattle.ir_agent.specs.declared.operation.Flow.{Flow}
use Rattle.ir_agent.specs.declared.operation.Flow.TheVariants as flow
use Rattle.ir_agent.specs.declared.operation.Operation.{Operation}
use Rattle.ir_agent.specs.declared.operation.Operation.TheVariants as operation
use Rattle.ir_agent.specs.declared.fetched.Fetched.{Fetched}
use Rattle.ir_agent.specs.declared.turn.Turn.{Turn}
use Rattle.ir_agent.specs.declared.turn.Turn.TheVariants as turn
use Rattle.ir_agent.specs.Operations.{operation_of, bytes_behind, bytes_in, number_from, wrapped}
use Rattle.ir_agent.specs.Arithmetic.{binary_value, unary_value}

-- what an expression reads: registers by their numbers, and bytes by their addresses, where there are such
pub record Seen : Type 0 where
  pub register : ℕ → Option ℕ
  pub byte : ℕ → Option ℕ

abbrev pub scene_of : (ℕ → Option ℕ) → (ℕ → Option ℕ) → Seen
scene_of register byte = record { register = register; byte = byte }

-- the most numbers on the stack
abbrev pub most_stack : ℕ
most_stack = 100

-- the most steps of an evaluation
abbrev pub most_expression_steps : ℕ
most_expression_steps = 4096

-- ---- reading the bytecodes

abbrev pub bytecode_with : Operation → ℕ → ℕ → Fetched
bytecode_with o number next = record { operation = o; number = number; next = next }

-- a bytecode, with the number in the bytes behind it, which are at this place
abbrev pub with_number : Operation → ℕ → List ℕ → Result Fetched EvaluateErr
with_number o start rest =
    if nat_le (bytes_behind o) (length rest) then Ok (bytecode_with o (number_from 0 (take (bytes_behind o) rest)) (start + bytes_behind o)) else Err Outside

abbrev pub fetched_by : List ℕ → ℕ → Option Operation → Result Fetched EvaluateErr
fetched_by code place None = Err UnknownBytecode
fetched_by code place (Some o) = with_number o (place + 1) (drop (place + 1) code)

abbrev pub fetch_by : List ℕ → ℕ → Option ℕ → Result Fetched EvaluateErr
fetch_by code place None = Err Outside
fetch_by code place (Some byte) = fetched_by code place (operation_of byte)

-- the bytecode at a place of an expression
abbrev pub fetch : List ℕ → ℕ → Result Fetched EvaluateErr
fetch code place = fetch_by code place (slice_get code place)

-- ---- what a bytecode does to the stack, whose top is first

-- one number more
abbrev pub pushed : ℕ → List ℕ → Result (List ℕ) EvaluateErr
pushed n stack = if nat_lt (length stack) most_stack then Ok (n ∷ stack) else Err StackFull

abbrev pub or_zero_division : Option ℕ → List ℕ → Result (List ℕ) EvaluateErr
or_zero_division None rest = Err DivisionByZero
or_zero_division (Some n) rest = Ok (n ∷ rest)

abbrev pub after_binary : Binary → List ℕ → Result (List ℕ) EvaluateErr
after_binary o [] = Err StackEmpty
after_binary o (b ∷ []) = Err StackEmpty
after_binary o (b ∷ a ∷ rest) = or_zero_division (binary_value o a b) rest

abbrev pub after_unary : Unary → ℕ → List ℕ → Result (List ℕ) EvaluateErr
after_unary o n [] = Err StackEmpty
after_unary o n (a ∷ rest) = Ok (unary_value o n a ∷ rest)

-- the byte at an address of 32 bits
abbrev pub seen_byte : Seen → ℕ → Option ℕ
seen_byte seen address = if nat_lt address (2 ^ 32) then seen.byte address else None

-- the number that bytes from an address on write, the lowest first, if they are all there
unfoldable pub number_in_memory : Seen → ℕ → ℕ → Option ℕ
number_in_memory seen zero address = Some 0
number_in_memory seen (suc count) address =
    option_and_then (λ low. option_map (λ high. wrapped (low + 256 * high)) (number_in_memory seen count (address + 1))) (seen_byte seen address)

abbrev pub or_no_memory : Option ℕ → List ℕ → Result (List ℕ) EvaluateErr
or_no_memory None rest = Err NoMemory
or_no_memory (Some n) rest = Ok (n ∷ rest)

abbrev pub or_no_register : Option ℕ → List ℕ → Result (List ℕ) EvaluateErr
or_no_register None stack = Err NoRegister
or_no_register (Some n) stack = pushed n stack

-- the memory that a number of the stack is the address of; a constant; a register
abbrev pub after_source : Seen → Source → ℕ → List ℕ → Result (List ℕ) EvaluateErr
after_source seen (source.Memory width) n [] = Err StackEmpty
after_source seen (source.Memory width) n (address ∷ rest) = or_no_memory (number_in_memory seen (bytes_in width) address) rest
after_source seen (source.Constant width) n stack = pushed n stack
after_source seen source.Register n stack = or_no_register (seen.register n) stack

abbrev pub or_empty : Option ℕ → List ℕ → Result (List ℕ) EvaluateErr
or_empty None stack = Err StackEmpty
or_empty (Some n) stack = pushed n stack

-- the top again; without the top; the upper two exchanged; a number by how far it is from the top; the top below the next two
abbrev pub after_order : Order → ℕ → List ℕ → Result (List ℕ) EvaluateErr
after_order order.Duplicate n stack = or_empty (slice_get stack 0) stack
after_order order.Pop n [] = Err StackEmpty
after_order order.Pop n (a ∷ rest) = Ok rest
after_order order.Swap n [] = Err StackEmpty
after_order order.Swap n (b ∷ []) = Err StackEmpty
after_order order.Swap n (b ∷ a ∷ rest) = Ok (a ∷ b ∷ rest)
after_order order.Pick n stack = or_empty (slice_get stack n) stack
after_order order.Rotate n [] = Err StackEmpty
after_order order.Rotate n (c ∷ []) = Err StackEmpty
after_order order.Rotate n (c ∷ b ∷ []) = Err StackEmpty
after_order order.Rotate n (c ∷ b ∷ a ∷ rest) = Ok (b ∷ a ∷ c ∷ rest)

-- ---- steps

-- the next bytecode's place and the stack before it, or the end with the value or what is wrong
pub data Course : Type 0 where
  Goes : ℕ → List ℕ → Course
  Ends : Result ℕ EvaluateErr → Course

abbrev pub goes_on : ℕ → Result (List ℕ) EvaluateErr → Course
goes_on place (Ok stack) = Goes place stack
goes_on place (Err e) = Ends (Err e)

-- end: the top is the value
abbrev pub ended_with : List ℕ → Course
ended_with [] = Ends (Err StackEmpty)
ended_with (value ∷ rest) = Ends (Ok value)

-- if_goto, by the number that it takes off the stack
abbrev pub branched : ℕ → ℕ → List ℕ → Course
branched target next [] = Ends (Err StackEmpty)
branched target next (a ∷ rest) = Goes (if a == 0 then next else target) rest

abbrev pub flowed : Flow → ℕ → ℕ → List ℕ → Course
flowed flow.GotoIf n next stack = branched n next stack
flowed flow.Goto n next stack = Goes n stack
flowed flow.End n next stack = ended_with stack

abbrev pub performed : Seen → Operation → ℕ → ℕ → List ℕ → Course
performed seen (operation.Binary o) n next stack = goes_on next (after_binary o stack)
performed seen (operation.Unary o) n next stack = goes_on next (after_unary o n stack)
performed seen (operation.Source o) n next stack = goes_on next (after_source seen o n stack)
performed seen (operation.Order o) n next stack = goes_on next (after_order o n stack)
performed seen (operation.Flow o) n next stack = flowed o n next stack

abbrev pub step_by : Seen → List ℕ → Result Fetched EvaluateErr → Course
step_by seen stack (Err e) = Ends (Err e)
step_by seen stack (Ok f) = performed seen f.operation f.number f.next stack

-- one step, at a place with a stack
abbrev pub expression_step : Seen → List ℕ → ℕ → List ℕ → Course
expression_step seen code place stack = step_by seen stack (fetch code place)

abbrev pub course_result : (ℕ → List ℕ → Result ℕ EvaluateErr) → Course → Result ℕ EvaluateErr
course_result more (Goes place stack) = more place stack
course_result more (Ends result) = result

-- at most so many steps from a place on
unfoldable pub evaluates_from : Seen → List ℕ → ℕ → ℕ → List ℕ → Result ℕ EvaluateErr
evaluates_from seen code zero place stack = Err TooManySteps
evaluates_from seen code (suc n) place stack = course_result (evaluates_from seen code n) (expression_step seen code place stack)

-- what an expression evaluates to, from its first byte on with nothing on the stack
abbrev pub evaluates : Seen → List ℕ → Result ℕ EvaluateErr
evaluates seen code = evaluates_from seen code most_expression_steps 0 []

-- ---- conditions

-- a value other than 0, or an error: what stops at a point doesn't know better then
abbrev pub is_met : Result ℕ EvaluateErr → Bool
is_met (Ok n) = not (n == 0)
is_met (Err e) = true

-- whether a condition is met
abbrev pub condition_holds : Seen → List ℕ → Bool
condition_holds seen code = is_met (evaluates seen code)

-- ---- calls

-- the stack that a call leaves
abbrev pub LeavesStack : {A : Type 0} → Result A EvaluateErr → List ℕ → Result (List ℕ) EvaluateErr → Type 0
LeavesStack (Ok a) stack outcome = outcome ≡ Ok stack
LeavesStack (Err e) stack outcome = outcome ≡ Err e

-- a step leads so, and leaves this stack
abbrev pub IsTurnOf : Turn → List ℕ → Course → Type 0
IsTurnOf (turn.Goes place) stack course = course ≡ Goes place stack
IsTurnOf (turn.Ends result) stack course = course ≡ Ends result

-- The bytecodes of agent expressions, by the numbers that the GDB manual gives them.
use Rattle.std.specs.Prelude.{ℕ, ◌+◌, ◌*◌, ◌%◌, ◌^◌, ◌==◌, List, [], ◌∷◌, Option, Some, None, option_map, if◌then◌else◌}
use Rattle.ir_agent.specs.declared.operation.Binary.{Binary}
use Rattle.ir_agent.specs.declared.operation.Binary.TheVariants as binary
use Rattle.ir_agent.specs.declared.operation.Unary.{Unary}
use Rattle.ir_agent.specs.declared.operation.Unary.TheVariants as unary
use Rattle.ir_agent.specs.declared.operation.Width.{Width}
use Rattle.ir_agent.specs.declared.operation.Width.TheVariants.{Byte, Half, Word, Double}
use Rattle.ir_agent.specs.declared.operation.Source.{Source}
use Rattle.ir_agent.specs.declared.operation.Source.TheVariants as source
use Rattle.ir_agent.specs.declared.operation.Order.{Order}
use Rattle.ir_agent.specs.declared.operation.Order.TheVariants as order
use Rattle.ir_agent.specs.declared.operation.Flow.{Flow}
use Rattle.ir_agent.specs.declared.operation.Flow.TheVariants as flow
use Rattle.ir_agent.specs.declared.operation.Operation.{Operation}
use Rattle.ir_agent.specs.declared.operation.Operation.TheVariants as operation

-- of two numbers: add, sub, mul, div_signed, div_unsigned, rem_signed, rem_unsigned, lsh, rsh_signed, rsh_unsigned, bit_and, bit_or, bit_xor,
-- equal, less_signed, less_unsigned
abbrev pub binary_bytecode : ℕ → Option Binary
binary_bytecode code =
    if code == 0x02 then Some binary.Add else
    if code == 0x03 then Some binary.Subtract else
    if code == 0x04 then Some binary.Multiply else
    if code == 0x05 then Some binary.DivideSigned else
    if code == 0x06 then Some binary.DivideUnsigned else
    if code == 0x07 then Some binary.RemainderSigned else
    if code == 0x08 then Some binary.RemainderUnsigned else
    if code == 0x09 then Some binary.ShiftLeft else
    if code == 0x0a then Some binary.ShiftRightSigned else
    if code == 0x0b then Some binary.ShiftRightUnsigned else
    if code == 0x0f then Some binary.And else
    if code == 0x10 then Some binary.Or else
    if code == 0x11 then Some binary.Xor else
    if code == 0x13 then Some binary.Equal else
    if code == 0x14 then Some binary.LessSigned else
    if code == 0x15 then Some binary.LessUnsigned else None

-- of a number: log_not, bit_not, ext, zero_ext
abbrev pub unary_bytecode : ℕ → Option Unary
unary_bytecode code =
    if code == 0x0e then Some unary.LogicalNot else
    if code == 0x12 then Some unary.BitwiseNot else
    if code == 0x16 then Some unary.Extend else
    if code == 0x2a then Some unary.ZeroExtend else None

-- what puts a number on the stack: ref8, ref16, ref32, ref64 in the place of an address, const8, const16, const32, const64, reg
abbrev pub source_bytecode : ℕ → Option Source
source_bytecode code =
    if code == 0x17 then Some (source.Memory Byte) else
    if code == 0x18 then Some (source.Memory Half) else
    if code == 0x19 then Some (source.Memory Word) else
    if code == 0x1a then Some (source.Memory Double) else
    if code == 0x22 then Some (source.Constant Byte) else
    if code == 0x23 then Some (source.Constant Half) else
    if code == 0x24 then Some (source.Constant Word) else
    if code == 0x25 then Some (source.Constant Double) else
    if code == 0x26 then Some source.Register else None

-- what orders the stack: dup, pop, swap, pick, rot
abbrev pub order_bytecode : ℕ → Option Order
order_bytecode code =
    if code == 0x28 then Some order.Duplicate else
    if code == 0x29 then Some order.Pop else
    if code == 0x2b then Some order.Swap else
    if code == 0x32 then Some order.Pick else
    if code == 0x33 then Some order.Rotate else None

-- where the next bytecode is, or that there is none: if_goto, goto, end
abbrev pub flow_bytecode : ℕ → Option Flow
flow_bytecode code =
    if code == 0x20 then Some flow.GotoIf else
    if code == 0x21 then Some flow.Goto else
    if code == 0x27 then Some flow.End else None

abbrev pub or_operation : Option Operation → Option Operation → Option Operation
or_operation None next = next
or_operation (Some o) next = Some o

-- any bytecode of these. All others are none: trace, trace_quick, getv, setv, tracev, tracenz, trace16 and printf want a stub that traces, and the
-- manual gives those of floating point a number only
abbrev pub operation_of : ℕ → Option Operation
operation_of code =
    or_operation (option_map operation.Binary (binary_bytecode code))
    (or_operation (option_map operation.Unary (unary_bytecode code))
    (or_operation (option_map operation.Source (source_bytecode code))
    (or_operation (option_map operation.Order (order_bytecode code)) (option_map operation.Flow (flow_bytecode code)))))

-- ---- the number behind a bytecode

-- how many bytes a number of a width has
abbrev pub bytes_in : Width → ℕ
bytes_in Byte = 1
bytes_in Half = 2
bytes_in Word = 4
bytes_in Double = 8

abbrev pub behind_unary : Unary → ℕ
behind_unary unary.LogicalNot = 0
behind_unary unary.BitwiseNot = 0
behind_unary unary.Extend = 1
behind_unary unary.ZeroExtend = 1

abbrev pub behind_source : Source → ℕ
behind_source (source.Memory width) = 0
behind_source (source.Constant width) = bytes_in width
behind_source source.Register = 2

abbrev pub behind_order : Order → ℕ
behind_order order.Duplicate = 0
behind_order order.Pop = 0
behind_order order.Swap = 0
behind_order order.Pick = 1
behind_order order.Rotate = 0

abbrev pub behind_flow : Flow → ℕ
behind_flow flow.GotoIf = 2
behind_flow flow.Goto = 2
behind_flow flow.End = 0

-- how many bytes the number behind a bytecode has
abbrev pub bytes_behind : Operation → ℕ
bytes_behind (operation.Binary o) = 0
bytes_behind (operation.Unary o) = behind_unary o
bytes_behind (operation.Source o) = behind_source o
bytes_behind (operation.Order o) = behind_order o
bytes_behind (operation.Flow o) = behind_flow o

-- a number as the stack has it
abbrev pub wrapped : ℕ → ℕ
wrapped n = n % 2 ^ 64

-- the number that bytes write behind those that wrote n, the highest first
unfoldable pub number_from : ℕ → List ℕ → ℕ
number_from n [] = n
number_from n (b ∷ bytes) = number_from (wrapped (n * 256 + b)) bytes

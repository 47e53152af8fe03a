-- Threads that differ in registers that aren't live, and in nothing else.
use Rattle.std.specs.Prelude.{◌≡◌, ℕ, List, length}
use Rattle.ir_mach.specs.Core.{Core, register}
use Rattle.ir_thread.specs.State.{ThreadState, ask_of, after_reply, reply_of}
use Rattle.ir_liveness.specs.Flow.{call_number}
use Rattle.ir_liveness.specs.Live.{Point, IsLiveRegister}

-- the point of the code where a core stands; a7 is x17
abbrev pub point_of : Core → Point
point_of core = record { pc = core.pc; number = call_number (register core 17) }

-- 32 registers, of which x0 is 0
pub record IsRegisterFile (core : Core) : Type 0 where
  pub count : length core.registers ≡ 32
  pub zero_register : register core 0 ≡ 0

-- cores that differ at most in registers that aren't live where they stand; a7 is the same in both
pub record AgreeOnLive (code : List ℕ) (x y : Core) : Type 0 where
  pub first : IsRegisterFile x
  pub second : IsRegisterFile y
  pub pc : x.pc ≡ y.pc
  pub memory : x.memory ≡ y.memory
  pub call : register x 17 ≡ register y 17
  pub live : (number : ℕ) → IsLiveRegister code (point_of x) number → register x number ≡ register y number

-- threads that differ at most in such registers of their cores
pub record DifferInDead (code : List ℕ) (x y : ThreadState) : Type 0 where
  pub rest : record x { core = y.core } ≡ y
  pub cores : AgreeOnLive code x.core y.core

-- such threads ask the same, and differ at most in such registers again after the same result
abbrev pub AgreementLasts : Type 0
AgreementLasts = (code : List ℕ) (x y : ThreadState) → DifferInDead code x y
    → (ask_of code x ≡ ask_of code y)
    × ((value : ℕ) → DifferInDead code (after_reply code x (reply_of (ask_of code x) value)) (after_reply code y (reply_of (ask_of code y) value)))

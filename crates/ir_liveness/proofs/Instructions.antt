-- Two cores that agree on live registers come to the same at the next instruction.
use Rattle.std.proofs.Common.{◌≡◌, ℕ, ◌+◌, ◌*◌, ◌/◌, ◌%◌, ◌^◌, ◌<◌, Bool, true, false, List, inl, inr, Option, Some, None, refl, sym, ap, ◌∙◌, subst, arith, nat_lt}
use Rattle.std.specs.Prelude.{ℤ, ◌==◌, ◌&&◌, if◌then◌else◌, pos, ◌+ℤ◌}
use Rattle.std.proofs.lemmas.Bool.{cond_both}
use Rattle.std.proofs.lemmas.Bool.Decides.{nat_tests}
use Rattle.ir_lemmas.proofs.CallerLemmas.{or_true_from_left, or_true_from_right, byte_equals_itself}
use Rattle.ir_isa.specs.declared.inst.Inst.{Inst}
use Rattle.ir_isa.specs.declared.inst.Inst.TheVariants.{Lui, Auipc, Jal, Jalr, Branch, Load, Store, OpImm, Shift, Op, Fence, Ecall, Ebreak}
use Rattle.ir_isa.specs.declared.inst.ImmediateOp.{ImmediateOp}
use Rattle.ir_image.specs.Guest.{fetched}
use Rattle.ir_image.specs.declared.fetched.Fetched.{Fetched}
use Rattle.ir_image.specs.declared.fetched.Fetched.TheVariants.{Outside, Illegal, Found}
use Rattle.ir_mach.specs.Core.{Core, register, put, next_pc, Outcome, Goes, Calls, Ends}
use Rattle.ir_mach.specs.declared.outcome.Fault.TheVariants.{TargetMisaligned}
use Rattle.ir_mach.specs.Execution.{low_32, immediate_result, shift_result, register_result, is_taken, loaded, stored, sum_of, jumps, branches, loads, stores, execute, execute_fetched, outcome_of}
use Rattle.ir_mach.specs.Execution as execution
use Rattle.ir_liveness.specs.Flow.{constant_of, writes_register, MayGoTo}
use Rattle.ir_liveness.specs.Agreement.{AgreeOnLive}
use Rattle.ir_liveness.proofs.Steps.{call_asked, IsConstant, read_register_agrees, cores_agree_after_write, cores_agree_without_write}

-- two outcomes are a core each, which agree again, or the same end, or a system call each
abbrev pub AreAlike : List ℕ → Core → Outcome → Outcome → Type 0
AreAlike code x (Goes u) (Goes v) = AgreeOnLive code u v
AreAlike code x (Ends e) (Ends f) = e ≡ f
AreAlike code x Calls Calls = fetched code x.pc ≡ Found Ecall
AreAlike code x (Goes u) (Ends f) = ⊥
AreAlike code x (Goes u) Calls = ⊥
AreAlike code x (Ends e) (Goes v) = ⊥
AreAlike code x (Ends e) Calls = ⊥
AreAlike code x Calls (Goes v) = ⊥
AreAlike code x Calls (Ends f) = ⊥

-- ---- by what an instruction does

module _ (code : List ℕ) (inst : Inst) (x y : Core) (agree : AgreeOnLive code x y) (at : fetched code x.pc ≡ Found inst) where
  writes_of_agreeing_cores_are_alike : (rd value other : ℕ) → rd < 32 → value ≡ other
      → ((n : ℕ) → writes_register inst (call_asked x) n ≡ ((rd == n) && nat_lt 0 n))
      → MayGoTo inst (call_asked x) x.pc (next_pc x.pc) → IsConstant (constant_of inst) value
      → AreAlike code x (execution.writes x rd value) (execution.writes y rd other)
  writes_of_agreeing_cores_are_alike rd value other fits same is goes constant = cores_agree_after_write code inst x y agree at rd value other (next_pc x.pc) (next_pc y.pc)
      x.memory y.memory fits same (ap next_pc agree.pc) agree.memory is goes constant

  jumps_of_agreeing_cores_are_alike : (rd target other : ℕ) → rd < 32 → target ≡ other
      → ((n : ℕ) → writes_register inst (call_asked x) n ≡ ((rd == n) && nat_lt 0 n))
      → (target % 4 ≡ 0 → MayGoTo inst (call_asked x) x.pc target) → IsConstant (constant_of inst) (next_pc x.pc)
      → AreAlike code x (jumps x rd target) (jumps y rd other)
  jumps_of_agreeing_cores_are_alike rd target other fits same is goes constant =
      subst (λ t. AreAlike code x (jumps x rd target) (jumps y rd t)) same (by (target % 4 == 0) refl)
    where
      aligned : (target % 4 == 0) ≡ true → target % 4 ≡ 0
      aligned e = grind (arith, nat_tests)

      by : (b : Bool) → (target % 4 == 0) ≡ b → AreAlike code x
          (if b then Goes (record x { pc = target; registers = put x.registers rd (next_pc x.pc) }) else Ends TargetMisaligned)
          (if b then Goes (record y { pc = target; registers = put y.registers rd (next_pc y.pc) }) else Ends TargetMisaligned)
      by true e = cores_agree_after_write code inst x y agree at rd (next_pc x.pc) (next_pc y.pc) target target x.memory y.memory fits
          (ap next_pc agree.pc) refl agree.memory is (goes (aligned e)) constant
      by false e = refl

  branches_of_agreeing_cores_are_alike : (taken other_taken : Bool) (target other : ℕ) → taken ≡ other_taken → target ≡ other
      → ((n : ℕ) → writes_register inst (call_asked x) n ≡ false)
      → (target % 4 ≡ 0 → MayGoTo inst (call_asked x) x.pc target)
      → MayGoTo inst (call_asked x) x.pc (next_pc x.pc)
      → AreAlike code x (branches x taken target) (branches y other_taken other)
  branches_of_agreeing_cores_are_alike taken other_taken target other same_test same none goes passes =
      subst (λ t. AreAlike code x (branches x taken target) (branches y t other)) same_test
      (subst (λ t. AreAlike code x (branches x taken target) (branches y taken t)) same (by taken (target % 4 == 0) refl))
    where
      aligned : (target % 4 == 0) ≡ true → target % 4 ≡ 0
      aligned e = grind (arith, nat_tests)

      by : (taken b : Bool) → (target % 4 == 0) ≡ b → AreAlike code x
          (if taken then (if b then Goes (record x { pc = target }) else Ends TargetMisaligned) else Goes (record x { pc = next_pc x.pc }))
          (if taken then (if b then Goes (record y { pc = target }) else Ends TargetMisaligned) else Goes (record y { pc = next_pc y.pc }))
      by true true e = cores_agree_without_write code inst x y agree at target target x.memory y.memory refl agree.memory none (goes (aligned e))
      by true false e = refl
      by false b e =
          cores_agree_without_write code inst x y agree at (next_pc x.pc) (next_pc y.pc) x.memory y.memory (ap next_pc agree.pc) agree.memory none passes

  loads_of_agreeing_cores_are_alike : (rd : ℕ) (found other : Option ℕ) → rd < 32 → found ≡ other
      → ((n : ℕ) → writes_register inst (call_asked x) n ≡ ((rd == n) && nat_lt 0 n))
      → MayGoTo inst (call_asked x) x.pc (next_pc x.pc) → constant_of inst ≡ None
      → AreAlike code x (loads x rd found) (loads y rd other)
  loads_of_agreeing_cores_are_alike rd found other fits same is goes varies = subst (λ o. AreAlike code x (loads x rd found) (loads y rd o)) same (by found)
    where
      by : (o : Option ℕ) → AreAlike code x (loads x rd o) (loads y rd o)
      by (Some value) = writes_of_agreeing_cores_are_alike rd value value fits refl is goes (subst (λ c. IsConstant c value) (sym varies) tt)
      by None = refl

  stores_of_agreeing_cores_are_alike : (memory other : Option (List ℕ)) → memory ≡ other
      → ((n : ℕ) → writes_register inst (call_asked x) n ≡ false)
      → MayGoTo inst (call_asked x) x.pc (next_pc x.pc)
      → AreAlike code x (stores x memory) (stores y other)
  stores_of_agreeing_cores_are_alike memory other same none goes = subst (λ o. AreAlike code x (stores x memory) (stores y o)) same (by memory)
    where
      by : (o : Option (List ℕ)) → AreAlike code x (stores x o) (stores y o)
      by (Some m) = cores_agree_without_write code inst x y agree at (next_pc x.pc) (next_pc y.pc) m m (ap next_pc agree.pc) refl none goes
      by None = refl

-- ---- the instructions

-- what an operation with x0 gives is what is taken to be written
immediate_is_constant : (op : ImmediateOp) (x : Core) (number : ℕ) (imm : ℤ) → register x 0 ≡ 0
    → IsConstant (if number == 0 then Some (immediate_result op 0 imm) else None) (immediate_result op (register x number) imm)
immediate_is_constant op x number imm zero_register =
    cond_both (number == 0) (Some (immediate_result op 0 imm)) None (λ c. IsConstant c (immediate_result op (register x number) imm))
    (λ is. ap (λ v. immediate_result op v imm) (ap (register x) (equal is) ∙ zero_register)) (λ _. tt)
  where
    equal : (number == 0) ≡ true → number ≡ 0
    equal is = grind (arith, nat_tests)

executed_alike : (code : List ℕ) (inst : Inst) (x y : Core) → AgreeOnLive code x y → fetched code x.pc ≡ Found inst
    → AreAlike code x (execute code inst x) (execute code inst y)
executed_alike code (Lui rd imm) x y agree at =
    writes_of_agreeing_cores_are_alike code (Lui rd imm) x y agree at rd.number imm.value imm.value rd.in_range refl (λ n. refl) refl refl
executed_alike code (Auipc rd imm) x y agree at = writes_of_agreeing_cores_are_alike code (Auipc rd imm) x y agree at rd.number ((x.pc + imm.value) % 2 ^ 32)
    ((y.pc + imm.value) % 2 ^ 32) rd.in_range (ap (λ pc. (pc + imm.value) % 2 ^ 32) agree.pc) (λ n. refl) refl tt
executed_alike code (Jal rd offset) x y agree at = jumps_of_agreeing_cores_are_alike code (Jal rd offset) x y agree at rd.number (low_32 (pos x.pc +ℤ offset.value))
    (low_32 (pos y.pc +ℤ offset.value)) rd.in_range (ap (λ pc. low_32 (pos pc +ℤ offset.value)) agree.pc) (λ n. refl) (λ aligned. (refl, aligned)) tt
executed_alike code (Jalr rd rs1 imm) x y agree at =
    let same : register x rs1.number ≡ register y rs1.number =
    read_register_agrees code (Jalr rd rs1 imm) x y agree at rs1.number (byte_equals_itself rs1.number) in
    jumps_of_agreeing_cores_are_alike code (Jalr rd rs1 imm) x y agree at rd.number (sum_of x rs1.number imm.value / 2 * 2) (sum_of y rs1.number imm.value / 2 * 2)
    rd.in_range (ap (λ v. low_32 (pos v +ℤ imm.value) / 2 * 2) same) (λ n. refl) (λ aligned. aligned) tt
executed_alike code (Branch op rs1 rs2 offset) x y agree at =
    let first : register x rs1.number ≡ register y rs1.number = read_register_agrees code (Branch op rs1 rs2 offset) x y agree at rs1.number
    (or_true_from_left (rs1.number == rs1.number) (rs2.number == rs1.number) (byte_equals_itself rs1.number)) in
    let second : register x rs2.number ≡ register y rs2.number = read_register_agrees code (Branch op rs1 rs2 offset) x y agree at rs2.number
    (or_true_from_right (rs1.number == rs2.number) (rs2.number == rs2.number) (byte_equals_itself rs2.number)) in
    branches_of_agreeing_cores_are_alike code (Branch op rs1 rs2 offset) x y agree at (is_taken op (register x rs1.number) (register x rs2.number))
    (is_taken op (register y rs1.number) (register y rs2.number)) (low_32 (pos x.pc +ℤ offset.value)) (low_32 (pos y.pc +ℤ offset.value))
    (ap (λ v. is_taken op v (register x rs2.number)) first ∙ ap (λ v. is_taken op (register y rs1.number) v) second)
    (ap (λ pc. low_32 (pos pc +ℤ offset.value)) agree.pc) (λ n. refl) (λ aligned. inr (refl, aligned)) (inl refl)
executed_alike code (Load op rd rs1 imm) x y agree at =
    let same : register x rs1.number ≡ register y rs1.number =
    read_register_agrees code (Load op rd rs1 imm) x y agree at rs1.number (byte_equals_itself rs1.number) in
    loads_of_agreeing_cores_are_alike code (Load op rd rs1 imm) x y agree at rd.number (loaded op code x.memory (sum_of x rs1.number imm.value))
    (loaded op code y.memory (sum_of y rs1.number imm.value)) rd.in_range
    (ap (λ v. loaded op code x.memory (low_32 (pos v +ℤ imm.value))) same ∙ ap (λ m. loaded op code m (sum_of y rs1.number imm.value)) agree.memory)
    (λ n. refl) refl refl
executed_alike code (Store op rs1 rs2 imm) x y agree at =
    let first : register x rs1.number ≡ register y rs1.number = read_register_agrees code (Store op rs1 rs2 imm) x y agree at rs1.number
    (or_true_from_left (rs1.number == rs1.number) (rs2.number == rs1.number) (byte_equals_itself rs1.number)) in
    let second : register x rs2.number ≡ register y rs2.number = read_register_agrees code (Store op rs1 rs2 imm) x y agree at rs2.number
    (or_true_from_right (rs1.number == rs2.number) (rs2.number == rs2.number) (byte_equals_itself rs2.number)) in
    stores_of_agreeing_cores_are_alike code (Store op rs1 rs2 imm) x y agree at (stored op (sum_of x rs1.number imm.value) (register x rs2.number) x.memory)
    (stored op (sum_of y rs1.number imm.value) (register y rs2.number) y.memory)
    (ap (λ v. stored op (low_32 (pos v +ℤ imm.value)) (register x rs2.number) x.memory) first
    ∙ ap (λ v. stored op (sum_of y rs1.number imm.value) v x.memory) second
    ∙ ap (λ m. stored op (sum_of y rs1.number imm.value) (register y rs2.number) m) agree.memory) (λ n. refl) refl
executed_alike code (OpImm op rd rs1 imm) x y agree at =
    let same : register x rs1.number ≡ register y rs1.number =
    read_register_agrees code (OpImm op rd rs1 imm) x y agree at rs1.number (byte_equals_itself rs1.number) in
    writes_of_agreeing_cores_are_alike code (OpImm op rd rs1 imm) x y agree at rd.number (immediate_result op (register x rs1.number) imm.value)
    (immediate_result op (register y rs1.number) imm.value) rd.in_range (ap (λ v. immediate_result op v imm.value) same) (λ n. refl) refl
    (immediate_is_constant op x rs1.number imm.value agree.first.zero_register)
executed_alike code (Shift op rd rs1 amount) x y agree at =
    let same : register x rs1.number ≡ register y rs1.number =
    read_register_agrees code (Shift op rd rs1 amount) x y agree at rs1.number (byte_equals_itself rs1.number) in
    writes_of_agreeing_cores_are_alike code (Shift op rd rs1 amount) x y agree at rd.number (shift_result op (register x rs1.number) amount.bits)
    (shift_result op (register y rs1.number) amount.bits) rd.in_range (ap (λ v. shift_result op v amount.bits) same) (λ n. refl) refl tt
executed_alike code (Op op rd rs1 rs2) x y agree at =
    let first : register x rs1.number ≡ register y rs1.number = read_register_agrees code (Op op rd rs1 rs2) x y agree at rs1.number
    (or_true_from_left (rs1.number == rs1.number) (rs2.number == rs1.number) (byte_equals_itself rs1.number)) in
    let second : register x rs2.number ≡ register y rs2.number = read_register_agrees code (Op op rd rs1 rs2) x y agree at rs2.number
    (or_true_from_right (rs1.number == rs2.number) (rs2.number == rs2.number) (byte_equals_itself rs2.number)) in
    writes_of_agreeing_cores_are_alike code (Op op rd rs1 rs2) x y agree at rd.number (register_result op (register x rs1.number) (register x rs2.number))
    (register_result op (register y rs1.number) (register y rs2.number)) rd.in_range
    (ap (λ v. register_result op v (register x rs2.number)) first ∙ ap (λ v. register_result op (register y rs1.number) v) second)
    (λ n. refl) refl tt
executed_alike code (Fence rd rs1 imm) x y agree at = cores_agree_without_write code (Fence rd rs1 imm) x y agree at (next_pc x.pc) (next_pc y.pc)
    x.memory y.memory (ap next_pc agree.pc) agree.memory (λ n. refl) refl
executed_alike code Ecall x y agree at = at
executed_alike code Ebreak x y agree at = refl

-- what the next instruction comes to
pub outcomes_alike : (code : List ℕ) (x y : Core) → AgreeOnLive code x y → AreAlike code x (outcome_of code x) (outcome_of code y)
outcomes_alike code x y agree =
    subst (λ pc. AreAlike code x (outcome_of code x) (execute_fetched code (fetched code pc) y)) agree.pc (by (fetched code x.pc) refl)
  where
    by : (f : Fetched) → fetched code x.pc ≡ f → AreAlike code x (execute_fetched code f x) (execute_fetched code f y)
    by Outside is = refl
    by Illegal is = refl
    by (Found inst) is = executed_alike code inst x y agree is

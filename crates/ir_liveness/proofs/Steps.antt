-- Cores that agree on live registers agree again after an instruction, whatever it writes.
use Rattle.std.proofs.Common.{◌≡◌, ℕ, ◌<◌, Bool, true, false, List, [], ◌∷◌, inr, Option, Some, None, refl, sym, ap, ◌∙◌, subst, arith, nat_lt}
use Rattle.std.specs.Prelude.{◌==◌, ◌&&◌, length, slice_index}
use Rattle.std.proofs.lemmas.Bool.{cond_both}
use Rattle.std.proofs.lemmas.Bool.Decides.{nat_tests}
use Rattle.ir_lemmas.proofs.CallerLemmas.{true_is_not_false}
use Rattle.ir_isa.specs.declared.inst.Inst.{Inst}
use Rattle.ir_image.specs.Guest.{fetched}
use Rattle.ir_image.specs.declared.fetched.Fetched.TheVariants.{Found}
use Rattle.ir_mach.specs.Core.{Core, register, put}
use Rattle.ir_liveness.specs.Flow.{call_limit, call_number, constant_of, reads_register, writes_register, AsksAfter, MayGoTo}
use Rattle.ir_liveness.specs.Live.{Point, IsLiveAlong}
use Rattle.ir_liveness.specs.Agreement.{point_of, IsRegisterFile, AgreeOnLive}
use Rattle.ir_liveness.proofs.Registers.{written_register_value, other_register_is_kept, register_file_after_put, kept_register_file}

-- ---- which call a7 asks for

-- the number of the call that a7 of a core asks for
abbrev pub call_asked : Core → ℕ
call_asked core = call_number (register core 17)

-- the value that is written, if it is known, is this
abbrev pub IsConstant : Option ℕ → ℕ → Type 0
IsConstant None value = Unit {0}
IsConstant (Some constant) value = value ≡ constant

pub call_number_below_limit : (value : ℕ) → call_number value < call_limit
call_number_below_limit value = cond_both (nat_lt value call_limit) value 0 (λ n. n < call_limit) (λ is. below is) (λ _. omega arith)
  where
    below : nat_lt value call_limit ≡ true → value < call_limit
    below is = grind (arith, nat_tests)

call_asked_after_step : (b : Bool) (constant : Option ℕ) (value old new : ℕ) → IsConstant constant value → (b ≡ true → new ≡ value) → (b ≡ false → new ≡ old)
    → AsksAfter b constant (call_number old) (call_number new)
call_asked_after_step false constant value old new is written kept = ap call_number (kept refl)
call_asked_after_step true (Some c) value old new is written kept = ap call_number (written refl ∙ is)
call_asked_after_step true None value old new is written kept = call_number_below_limit new

-- ---- two cores at an instruction

module _ (code : List ℕ) (inst : Inst) (x y : Core) (agree : AgreeOnLive code x y) (at : fetched code x.pc ≡ Found inst) where
  pub read_register_agrees : (n : ℕ) → reads_register inst (call_asked x) n ≡ true → register x n ≡ register y n
  read_register_agrees n is = agree.live n ([], inr (inst, at, is))

  cores_agree_after_step : (u v : Core) → IsRegisterFile u → IsRegisterFile v → u.pc ≡ v.pc → u.memory ≡ v.memory
      → MayGoTo inst (call_asked x) x.pc u.pc
      → AsksAfter (writes_register inst (call_asked x) 17) (constant_of inst) (call_asked x) (call_number (register u 17))
      → ((n : ℕ) → writes_register inst (call_asked x) n ≡ true → register u n ≡ register v n)
      → ((n : ℕ) → writes_register inst (call_asked x) n ≡ false → (register u n ≡ register x n) × (register v n ≡ register y n))
      → AgreeOnLive code u v
  cores_agree_after_step u v first second pcs memories goes asks written kept = record {
    first = first;
    second = second;
    pc = pcs;
    memory = memories;
    call = by_write 17 agree.call (writes_register inst (call_asked x) 17) refl;
    live = λ n way. by_way n way.0 way.1 (writes_register inst (call_asked x) n) refl;
  }
    where
      by_write : (n : ℕ) → register x n ≡ register y n → (b : Bool) → writes_register inst (call_asked x) n ≡ b → register u n ≡ register v n
      by_write n same true is = written n is
      by_write n same false is = (kept n is).0 ∙ same ∙ sym (kept n is).1

      by_way : (n : ℕ) (path : List Point) → IsLiveAlong code n (point_of u) path → (b : Bool) → writes_register inst (call_asked x) n ≡ b
          → register u n ≡ register v n
      by_way n path along true is = written n is
      by_way n path along false is = (kept n is).0
          ∙ agree.live n (point_of u ∷ path, (record { inst = inst; at = at; goes = goes; asks = asks; keeps = is }, along)) ∙ sym (kept n is).1

  -- the same value is written to the same register
  pub cores_agree_after_write : (rd value other pc other_pc : ℕ) (memory other_memory : List ℕ) → rd < 32 → value ≡ other → pc ≡ other_pc
      → memory ≡ other_memory
      → ((n : ℕ) → writes_register inst (call_asked x) n ≡ ((rd == n) && nat_lt 0 n))
      → MayGoTo inst (call_asked x) x.pc pc → IsConstant (constant_of inst) value
      → AgreeOnLive code (record { pc = pc; registers = put x.registers rd value; memory = memory })
      (record { pc = other_pc; registers = put y.registers rd other; memory = other_memory })
  cores_agree_after_write rd value other pc other_pc memory other_memory fits values pcs memories is goes constant =
      cores_agree_after_step _ _ (register_file_after_put x rd value pc memory agree.first)
      (register_file_after_put y rd other other_pc other_memory agree.second) pcs memories goes
      (call_asked_after_step (writes_register inst (call_asked x) 17) (constant_of inst) value (register x 17) _ constant (has_first 17) (keeps_first 17))
      (λ n w. has_first n w ∙ values ∙ sym (has_second n w)) (λ n w. (keeps_first n w, keeps_second n w))
    where
      fits_first : rd < length x.registers
      fits_first = subst (λ k. rd < k) (sym agree.first.count) fits

      fits_second : rd < length y.registers
      fits_second = subst (λ k. rd < k) (sym agree.second.count) fits

      has_first : (n : ℕ) → writes_register inst (call_asked x) n ≡ true → slice_index (put x.registers rd value) n ≡ value
      has_first n w = written_register_value x.registers rd value n fits_first (sym (is n) ∙ w)

      has_second : (n : ℕ) → writes_register inst (call_asked x) n ≡ true → slice_index (put y.registers rd other) n ≡ other
      has_second n w = written_register_value y.registers rd other n fits_second (sym (is n) ∙ w)

      keeps_first : (n : ℕ) → writes_register inst (call_asked x) n ≡ false → slice_index (put x.registers rd value) n ≡ register x n
      keeps_first n w = other_register_is_kept x.registers rd value n (sym (is n) ∙ w)

      keeps_second : (n : ℕ) → writes_register inst (call_asked x) n ≡ false → slice_index (put y.registers rd other) n ≡ register y n
      keeps_second n w = other_register_is_kept y.registers rd other n (sym (is n) ∙ w)

  -- nothing is written
  pub cores_agree_without_write : (pc other_pc : ℕ) (memory other_memory : List ℕ) → pc ≡ other_pc → memory ≡ other_memory
      → ((n : ℕ) → writes_register inst (call_asked x) n ≡ false)
      → MayGoTo inst (call_asked x) x.pc pc
      → AgreeOnLive code (record { pc = pc; registers = x.registers; memory = memory })
      (record { pc = other_pc; registers = y.registers; memory = other_memory })
  cores_agree_without_write pc other_pc memory other_memory pcs memories none goes =
      cores_agree_after_step _ _ (kept_register_file x pc memory agree.first)
      (kept_register_file y other_pc other_memory agree.second) pcs memories goes
      (subst (λ b. AsksAfter b (constant_of inst) (call_asked x) (call_asked x)) (sym (none 17)) refl)
      (λ n w. absurd (true_is_not_false _ w (none n))) (λ n w. (refl, refl))

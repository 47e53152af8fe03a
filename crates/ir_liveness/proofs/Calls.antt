-- Two cores that agree on live registers at a system call: its arguments, and the cores past it.
use Rattle.std.proofs.Common.{◌≡◌, ℕ, ◌+◌, ◌<◌, Bool, true, false, List, Some, None, refl, sym, ap, ◌∙◌, arith, nat_lt}
use Rattle.std.specs.Prelude.{◌==◌, ◌&&◌, nat_le, if◌then◌else◌}
use Rattle.std.proofs.lemmas.Bool.Decides.{nat_tests}
use Rattle.ir_lemmas.proofs.CallerLemmas.{conjunction_with_false}
use Rattle.ir_isa.specs.declared.inst.Inst.TheVariants.{Ecall}
use Rattle.ir_image.specs.Guest.{fetched}
use Rattle.ir_image.specs.declared.fetched.Fetched.TheVariants.{Found}
use Rattle.ir_mach.specs.Core.{Core, register, next_pc}
use Rattle.ir_mach.specs.Execution.{past_call}
use Rattle.ir_thread.specs.State.{call_of}
use Rattle.ir_thread.specs.declared.call.Call.{Call}
use Rattle.ir_thread.specs.declared.profile.Profile.{Profile}
use Rattle.ir_thread.specs.declared.profile.Profile.TheVariants.{One, Two}
use Rattle.ir_liveness.specs.Flow.{argument_count, has_answer, can_go_on, call_limit, call_number}
use Rattle.ir_liveness.specs.Agreement.{AgreeOnLive}
use Rattle.ir_liveness.proofs.Steps.{call_asked, read_register_agrees, cores_agree_after_write, cores_agree_without_write}

-- ---- calls by their numbers

call_13_not_in_first : (n : ℕ) (c : Call) → (n == 13) ≡ true → call_of One n ≡ Some c → ⊥
call_13_not_in_first n c is found = let never : None ≡ Some c = ap (call_of One) (sym (equal is)) ∙ found in cc
  where
    equal : (n == 13) ≡ true → n ≡ 13
    equal e = grind (arith, nat_tests)

profiles_share_calls : (n : ℕ) → (n == 13) ≡ false → call_of One n ≡ call_of Two n
profiles_share_calls n is = rw is refl

-- what is a call in a profile is the same call in the second
call_of_second_profile : (profile : Profile) (n : ℕ) (c : Call) → call_of profile n ≡ Some c → call_of Two n ≡ Some c
call_of_second_profile Two n c found = found
call_of_second_profile One n c found = by (n == 13) refl
  where
    by : (b : Bool) → (n == 13) ≡ b → call_of Two n ≡ Some c
    by true is = absurd (call_13_not_in_first n c is found)
    by false is = sym (profiles_share_calls n is) ∙ found

past_limit_differs : (n k : ℕ) → nat_lt n call_limit ≡ false → k < call_limit → (n == k) ≡ false
past_limit_differs n k past below = grind (arith, nat_tests)

no_call_past_limit : (n : ℕ) → nat_lt n call_limit ≡ false → call_of Two n ≡ None
no_call_past_limit n past = rw (
  differs 1 (omega arith),
  differs 2 (omega arith),
  differs 3 (omega arith),
  differs 4 (omega arith),
  differs 5 (omega arith),
  differs 6 (omega arith),
  differs 7 (omega arith),
  differs 8 (omega arith),
  differs 9 (omega arith),
  differs 10 (omega arith),
  differs 11 (omega arith),
  differs 12 (omega arith),
  differs 13 (omega arith),
) refl
  where
    differs : (k : ℕ) → k < call_limit → (n == k) ≡ false
    differs k below = past_limit_differs n k past below

pub call_of_call_number : (n : ℕ) → call_of Two (call_number n) ≡ call_of Two n
call_of_call_number n = by (nat_lt n call_limit) refl
  where
    by : (b : Bool) → nat_lt n call_limit ≡ b → call_of Two (if b then n else 0) ≡ call_of Two n
    by true is = refl
    by false is = sym (no_call_past_limit n is)

-- ---- two cores at a call

answered_writes_a0 : (n : ℕ) (answered : Bool) → answered ≡ true → ((n == 10) && answered) ≡ ((10 == n) && nat_lt 0 n)
answered_writes_a0 n true is = grind (arith, nat_tests)
answered_writes_a0 n false is = absurd (cc is)

unanswered_writes_nothing : (n : ℕ) (answered : Bool) → answered ≡ false → ((n == 10) && answered) ≡ false
unanswered_writes_nothing n answered is = ap (λ b. (n == 10) && b) is ∙ conjunction_with_false (n == 10)

module _ (code : List ℕ) (x y : Core) (agree : AgreeOnLive code x y) (at : fetched code x.pc ≡ Found Ecall)
    (profile : Profile) (c : Call) (found : call_of profile (register x 17) ≡ Some c) where
  call_of_a7_in_second_profile : call_of Two (call_asked x) ≡ Some c
  call_of_a7_in_second_profile = call_of_call_number (register x 17) ∙ call_of_second_profile profile (register x 17) c found

  -- the registers from a0 on that the call reads
  pub argument_agrees : (n : ℕ) → (nat_le 10 n && nat_lt n (10 + argument_count (Some c))) ≡ true → register x n ≡ register y n
  argument_agrees n is =
      read_register_agrees code Ecall x y agree at n (ap (λ o. nat_le 10 n && nat_lt n (10 + argument_count o)) call_of_a7_in_second_profile ∙ is)

  pub cores_agree_past_call : can_go_on (Some c) ≡ true → has_answer (Some c) ≡ false → AgreeOnLive code (past_call x None) (past_call y None)
  cores_agree_past_call on none = cores_agree_without_write code Ecall x y agree at (next_pc x.pc) (next_pc y.pc) x.memory y.memory
      (ap next_pc agree.pc) agree.memory
      (λ n. unanswered_writes_nothing n (has_answer (call_of Two (call_asked x))) (ap has_answer call_of_a7_in_second_profile ∙ none))
      (ap can_go_on call_of_a7_in_second_profile ∙ on, refl)

  pub cores_agree_past_answered_call : (value : ℕ) → can_go_on (Some c) ≡ true → has_answer (Some c) ≡ true
      → AgreeOnLive code (past_call x (Some value)) (past_call y (Some value))
  cores_agree_past_answered_call value on answered = cores_agree_after_write code Ecall x y agree at 10 value value (next_pc x.pc) (next_pc y.pc)
      x.memory y.memory (omega arith) refl (ap next_pc agree.pc) agree.memory
      (λ n. answered_writes_a0 n (has_answer (call_of Two (call_asked x))) (ap has_answer call_of_a7_in_second_profile ∙ answered))
      (ap can_go_on call_of_a7_in_second_profile ∙ on, refl) tt

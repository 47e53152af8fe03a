-- To agree on live registers, and to differ in others alone, is symmetric and transitive.
use Rattle.std.proofs.Common.{◌≡◌, ℕ, List, sym, ap, ◌∙◌, subst}
use Rattle.ir_mach.specs.Core.{Core, register}
use Rattle.ir_thread.specs.State.{ThreadState}
use Rattle.ir_liveness.specs.Flow.{call_number}
use Rattle.ir_liveness.specs.Live.{IsLiveRegister}
use Rattle.ir_liveness.specs.Agreement.{point_of, AgreeOnLive, DifferInDead}

-- cores of one pc and one a7 stand at the same point of the code
pub at_same_point : (x y : Core) → x.pc ≡ y.pc → register x 17 ≡ register y 17 → point_of x ≡ point_of y
at_same_point x y pc call = λ i. record { pc = pc i; number = call_number (call i) }

agree_on_live_sym : (code : List ℕ) (x y : Core) → AgreeOnLive code x y → AgreeOnLive code y x
agree_on_live_sym code x y agree = record {
  first = agree.second;
  second = agree.first;
  pc = sym agree.pc;
  memory = sym agree.memory;
  call = sym agree.call;
  live = λ number way. sym (agree.live number
      (subst (λ p. IsLiveRegister code p number) (sym (at_same_point x y agree.pc agree.call)) way));
}

agree_on_live_trans : (code : List ℕ) (x y z : Core) → AgreeOnLive code x y → AgreeOnLive code y z → AgreeOnLive code x z
agree_on_live_trans code x y z one two = record {
  first = one.first;
  second = two.second;
  pc = one.pc ∙ two.pc;
  memory = one.memory ∙ two.memory;
  call = one.call ∙ two.call;
  live = λ number way. one.live number way
      ∙ two.live number (subst (λ p. IsLiveRegister code p number) (at_same_point x y one.pc one.call) way);
}

pub differ_in_dead_sym : (code : List ℕ) (x y : ThreadState) → DifferInDead code x y → DifferInDead code y x
differ_in_dead_sym code x y differ = record {
  rest = sym (ap (λ (t : ThreadState). record t { core = x.core }) differ.rest);
  cores = agree_on_live_sym code x.core y.core differ.cores;
}

pub differ_in_dead_trans : (code : List ℕ) (x y z : ThreadState) → DifferInDead code x y → DifferInDead code y z → DifferInDead code x z
differ_in_dead_trans code x y z one two = record {
  rest = ap (λ (t : ThreadState). record t { core = z.core }) one.rest ∙ two.rest;
  cores = agree_on_live_trans code x.core y.core z.core one.cores two.cores;
}

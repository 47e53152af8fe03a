-- What a thread passes over at instructions that aren't marked.
use Rattle.std.proofs.Common.{◌≡◌, ◌⊎◌, ℕ, suc, zero, ◌+◌, ◌-◌, ◌<◌, ◌≤◌, false, List, refl, sym, ap, ◌∙◌, subst, add-zero, add-suc, inl, inr, arith}
use Rattle.ir_lemmas.proofs.CallerLemmas.{true_is_not_false}
use Rattle.ir_mach.specs.Marks.{Marked, is_marked}
use Rattle.ir_mach.specs.Execution.{memory_word}
use Rattle.ir_runs.specs.Machine.{act_of, reply}
use Rattle.ir_runs.specs.Run.{Step}
use Rattle.ir_thread.specs.State.{ThreadState, held_at, ask_of, after_reply, reply_of}
use Rattle.ir_thread.specs.Permitted.{step_of, run_of}
use Rattle.ir_thread.specs.Private.{UnmarkedSteps}
use Rattle.ir_thread.specs.declared.ask.Ask.TheVariants as ask
use Rattle.ir_thread.proofs.CallerLemmas.{private_steps_prefix, private_steps_keep_held, unmarked_steps_prefix, thread_step_unmarked, unmarked_keep_memory}
use Rattle.ir_flat.specs.Flat.{Flat, thread_of}
use Rattle.ir_fit.specs.Fit.{FittedTrace, IsRunOf}
use Rattle.ir_cut.specs.Positions.{machine_of, start_of, thread_at}
use Rattle.ir_weave.proofs.CallerLemmas.{StepOf, emitting_is_step_of, step_below_count_emits}
use Rattle.ir_weave.specs.Standing.{positions}
use Rattle.ir_weave.specs.Stepping.{HasGone}
use Rattle.ir_command.specs.declared.command.Point.{Point}
use Rattle.ir_command.specs.declared.command.Point.TheVariants.{Break, Watch, WatchObject}
use Rattle.ir_hits.specs.Hits.{Numbered, HitBy, NoneWithin, puts_at, ChangesWord, PutsWord}
use Rattle.ir_hits.specs.Passing.{Watches, IsCovered, AreCovered, HasPassed}
use Rattle.ir_hits.specs.Seeing.{IsNoted, AllNoted, steps_of, LeavesWritten}
use Rattle.ir_hits.specs.declared.before.Before.{Before}
use Rattle.ir_hits.specs.declared.before.Before.TheVariants.{Nothing, Word, Putting, Inside}
use Rattle.ir_hits.proofs.Leaves.{held_around_write_leave}

-- ---- private steps of a run

private_is_step_of_code : (f : FittedTrace) (run : List Step) → IsRunOf f.guest f.recorded run → (t k : ℕ) (x : ThreadState) → k < steps_of f run t
    → thread_at f run t k ≡ x → ask_of f.guest.code x ≡ ask.Private → thread_at f run t (suc k) ≡ step_of f.guest.code x
unfolding step_of
private_is_step_of_code f run whole t k x less at private =
    let some = step_below_count_emits f run t k less in
    let z : StepOf (machine_of f) (thread_at f run t k) (thread_at f run t (suc k)) some.0 =
    emitting_is_step_of (machine_of f) (start_of f) run whole.1.runs t k some.0 some.1 in
    let n : ℕ = reply (act_of ((machine_of f).ask (thread_at f run t k)) z.result) z.object in
    z.next ∙ ap (λ (y : ThreadState). after_reply f.guest.code y (reply_of (ask_of f.guest.code y) n)) at
    ∙ ap (λ q. after_reply f.guest.code x (reply_of q n)) private

pub private_steps_run_code : (f : FittedTrace) (run : List Step) → IsRunOf f.guest f.recorded run → (t j n k : ℕ) (x : ThreadState) → thread_at f run t j ≡ x
    → j + n ≤ steps_of f run t → ((i : ℕ) → i < n → ask_of f.guest.code (run_of f.guest.code i x) ≡ ask.Private) → k ≤ n
    → thread_at f run t (j + k) ≡ run_of f.guest.code k x
unfolding run_of
private_steps_run_code f run whole t j n zero x at within each le = ap (thread_at f run t) (add-zero j) ∙ at
private_steps_run_code f run whole t j n (suc k) x at within each le =
    ap (thread_at f run t) (add-suc j k) ∙ private_is_step_of_code f run whole t (j + k) (run_of f.guest.code k x) (omega (arith, within, le))
    (private_steps_run_code f run whole t j n k x at within each (omega (arith, le))) (each k (omega (arith, le)))

-- ---- steps at instructions that aren't marked, where what the points may hit at is

-- thread t of the run has taken n such steps from position j on
pub record IsStretch (f : FittedTrace) (run : List Step) (code : Marked) (points : List Numbered) (t j n : ℕ) (x y : ThreadState) : Type 0 where
  pub whole : IsRunOf f.guest f.recorded run
  pub words : code.words ≡ f.guest.code
  pub covered : AreCovered code t points
  pub at : thread_at f run t j ≡ x
  pub within : j + n ≤ steps_of f run t
  pub steps : UnmarkedSteps code n x y

pub stretch_runs_code : (f : FittedTrace) (run : List Step) (code : Marked) (points : List Numbered) (t j n k : ℕ) (x y : ThreadState)
    → IsStretch f run code points t j n x y → k ≤ n → thread_at f run t (j + k) ≡ run_of code.words k x
stretch_runs_code f run code points t j n k x y s le =
    subst (λ c. thread_at f run t (j + k) ≡ run_of c k x) (sym s.words) (private_steps_run_code f run s.whole t j n k x s.at s.within
    (subst (λ (c : List ℕ). (i : ℕ) → i < n → ask_of c (run_of c i x) ≡ ask.Private) s.words s.steps.steps.each) le)

stretch_keeps_held : (f : FittedTrace) (run : List Step) (code : Marked) (points : List Numbered) (t j n k : ℕ) (x y : ThreadState)
    → IsStretch f run code points t j n x y → k ≤ n → (thread_at f run t (j + k)).held ≡ x.held
stretch_keeps_held f run code points t j n k x y s le =
    ap (λ (z : ThreadState). z.held) (stretch_runs_code f run code points t j n k x y s le)
    ∙ private_steps_keep_held code.words k x (run_of code.words k x) (private_steps_prefix code.words k n x y le s.steps.steps)

stretch_keeps_memory : (f : FittedTrace) (run : List Step) (code : Marked) (points : List Numbered) (t j n k : ℕ) (x y : ThreadState) (p : Point)
    → IsStretch f run code points t j n x y → k ≤ n → IsCovered code t p → Watches t p
    → (thread_at f run t (j + k)).core.memory ≡ x.core.memory
stretch_keeps_memory f run code points t j n k x y (Break u address) s le c w = absurd w
stretch_keeps_memory f run code points t j n k x y (Watch u address) s le c w =
    ap (λ (z : ThreadState). z.core.memory) (stretch_runs_code f run code points t j n k x y s le)
    ∙ unmarked_keep_memory code k x (run_of code.words k x) (c w.0 w.1) (unmarked_steps_prefix code k n x y le s.steps)
stretch_keeps_memory f run code points t j n k x y (WatchObject object) s le c w = absurd w

-- the thread asks nothing of others
stretch_step_private : (f : FittedTrace) (run : List Step) (code : Marked) (points : List Numbered) (t j n k : ℕ) (x y : ThreadState)
    → IsStretch f run code points t j n x y → k < n → ask_of f.guest.code (thread_at f run t (j + k)) ≡ ask.Private
stretch_step_private f run code points t j n k x y s less =
    ap (ask_of f.guest.code) (stretch_runs_code f run code points t j n k x y s (omega (arith, less)))
    ∙ ap (λ c. ask_of c (run_of code.words k x)) (sym s.words) ∙ s.steps.steps.each k less

-- so it puts no word
stretch_puts_nothing : (f : FittedTrace) (run : List Step) (code : Marked) (points : List Numbered) (t j n k : ℕ) (x y : ThreadState) (address : ℕ)
    → IsStretch f run code points t j n x y → k < n → puts_at address (ask_of f.guest.code (thread_at f run t (j + k))) ≡ false
stretch_puts_nothing f run code points t j n k x y address s less = ap (puts_at address) (stretch_step_private f run code points t j n k x y s less)

-- ---- no point hits between

stretch_hits_nothing : (f : FittedTrace) (run : List Step) (code : Marked) (points : List Numbered) (t j n k : ℕ) (x y : ThreadState) (p : Point)
    → IsStretch f run code points t j n x y → suc k < n → IsCovered code t p → HitBy f run t (suc (j + k)) p → ⊥
stretch_hits_nothing f run code points t j n k x y (Break u address) s less c h =
    let here : thread_at f run t (suc (j + k)) ≡ run_of code.words (suc k) x = ap (thread_at f run t) (sym (add-suc j k))
    ∙ stretch_runs_code f run code points t j n (suc k) x y s (omega (arith, less)) in
    let pc : (run_of code.words (suc k) x).core.pc ≡ address = ap (λ (z : ThreadState). z.core.pc) (sym here) ∙ h.1 in
    true_is_not_false (is_marked code.marks address) (c h.0)
    (ap (λ a. is_marked code.marks a) (sym pc) ∙ thread_step_unmarked code (suc k) n x y less s.steps)
stretch_hits_nothing f run code points t j n k x y (Watch u address) s less c (same, (i, is, written)) =
    by (subst (λ m. ChangesWord f run t address m ⊎ PutsWord f run t address m) (let e : i ≡ j + k = omega (arith, is) in e) written)
  where
    by : ChangesWord f run t address (j + k) ⊎ PutsWord f run t address (j + k) → ⊥
    by (inl changes) =
        let before = stretch_keeps_memory f run code points t j n k x y (Watch u address) s (omega (arith, less)) c (same, changes.0) in
        let after = ap (λ m. (thread_at f run t m).core.memory) (sym (add-suc j k))
        ∙ stretch_keeps_memory f run code points t j n (suc k) x y (Watch u address) s (omega (arith, less)) c (same, changes.0) in
        changes.1 (ap (λ m. memory_word m address) (before ∙ sym after))
    by (inr puts) = true_is_not_false _ puts.1 (stretch_puts_nothing f run code points t j n k x y address s (omega (arith, less)))
stretch_hits_nothing f run code points t j n k x y (WatchObject object) s less c h =
    let e : h.0 ≡ j + k = omega (arith, h.1) in
    let inside = held_around_write_leave f run s.whole t (j + k) object (subst (LeavesWritten f run t object) e h.2) in
    let before = stretch_keeps_held f run code points t j n k x y s (omega (arith, less)) in
    let after = ap (λ i. (thread_at f run t i).held) (sym (add-suc j k))
    ∙ stretch_keeps_held f run code points t j n (suc k) x y s (omega (arith, less)) in
    inside.1 (ap (λ held. held_at held object) (after ∙ sym before) ∙ inside.0)

pub no_hit_within_stretch : (f : FittedTrace) (run : List Step) (code : Marked) (points : List Numbered) (t j n : ℕ) (x y : ThreadState)
    → IsStretch f run code points t j n x y → NoneWithin f run points t (suc j) (j + n)
no_hit_within_stretch f run code points t j n x y s i m low high h =
    let e : i ≡ suc (j + (i - suc j)) = omega (arith, low) in
    stretch_hits_nothing f run code points t j n (i - suc j) x y h.1.point s (omega (arith, low, high)) (s.covered h.0 h.1 h.2)
    (subst (λ q. HitBy f run t q h.1.point) e h.4)

-- ---- what the points noted is what they would note before the last step

note_holds_alike : (code : List ℕ) (t : ℕ) (x z : ThreadState) (p : Point) (b : Before) → z.held ≡ x.held
    → (Watches t p → z.core.memory ≡ x.core.memory) → ((address : ℕ) → puts_at address (ask_of code x) ≡ puts_at address (ask_of code z))
    → IsNoted code t x p b → IsNoted code t z p b
note_holds_alike code t x z (Break u address) b held memory puts k = tt
note_holds_alike code t x z (Watch u address) Nothing held memory puts k = λ same. let none = k same in (none.0, sym (puts address) ∙ none.1)
note_holds_alike code t x z (Watch u address) (Word word) held memory puts k =
    (k.0, k.1, k.2 ∙ ap (λ m. memory_word m address) (sym (memory (k.0, k.1))))
note_holds_alike code t x z (Watch u address) Putting held memory puts k = (k.0, sym (puts address) ∙ k.1)
note_holds_alike code t x z (Watch u address) Inside held memory puts k = k
note_holds_alike code t x z (WatchObject object) Nothing held memory puts k = λ e. k (ap (λ h. held_at h object) (sym held) ∙ e)
note_holds_alike code t x z (WatchObject object) (Word word) held memory puts k = k
note_holds_alike code t x z (WatchObject object) Putting held memory puts k = k
note_holds_alike code t x z (WatchObject object) Inside held memory puts k = ap (λ h. held_at h object) held ∙ k

pub notes_hold_in_stretch : (f : FittedTrace) (run : List Step) (code : Marked) (points : List Numbered) (notes : List Before) (t j n k : ℕ)
    (x y : ThreadState) → IsStretch f run code points t j n x y → k < n → AllNoted f.guest.code t x points notes
    → AllNoted f.guest.code t (thread_at f run t (j + k)) points notes
notes_hold_in_stretch f run code points notes t j n k x y s less all = record {
  size = all.size;
  each = λ i p b here there. note_holds_alike f.guest.code t x (thread_at f run t (j + k)) p.point b
      (stretch_keeps_held f run code points t j n k x y s (omega (arith, less)))
      (stretch_keeps_memory f run code points t j n k x y p.point s (omega (arith, less)) (s.covered i p here))
      (λ address. ap (λ z. puts_at address (ask_of f.guest.code z)) (sym (ap (thread_at f run t) (add-zero j) ∙ s.at))
      ∙ stretch_puts_nothing f run code points t j n 0 x y address s (omega (arith, less))
      ∙ sym (stretch_puts_nothing f run code points t j n k x y address s less)) (all.each i p b here there);
}

-- ---- how far the thread came

pub has_passed_by_stretch : (code : Marked) (t to here n : ℕ) (old new : Flat) → here ≡ positions old t → here < to → 0 < n → n ≤ to - here
    → HasGone old new t n → UnmarkedSteps code n (thread_of old t) (thread_of new t) → HasPassed code t to old new
has_passed_by_stretch code t to here n old new at less some within gone steps = record {
  count = n;
  some = omega (arith, some);
  taken = gone.own;
  within = let own = gone.own in omega (arith, own, at, less, within);
  how = inr steps;
}

pub has_passed_by_step : (code : Marked) (t to n : ℕ) (old middle new : Flat) → positions old t < to → n ≤ 0 → HasGone old middle t n
    → positions new t ≡ positions middle t + 1 → HasPassed code t to old new
has_passed_by_step code t to n old middle new less none gone one =
    let next : positions new t ≡ positions old t + 1 = let own = gone.own in omega (arith, own, none, one) in
    record { count = 1; some = omega arith; taken = next; within = omega (arith, next, less); how = inl refl }

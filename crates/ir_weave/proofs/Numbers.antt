-- A thread of a guest has the number of its place.
use Rattle.std.proofs.Common.{◌≡◌, ℕ, suc, zero, ◌+◌, ◌<◌, ◌≤◌, List, length, ap, ◌∙◌, arith}
use Rattle.std.specs.List.{slice_index_or}
use Rattle.ir_image.specs.Guest.{Guest}
use Rattle.ir_thread.specs.State.{shared_ask, reply_of}
use Rattle.ir_runs.specs.Machine.{act_of, reply}
use Rattle.ir_thread.specs.State as thread
use Rattle.ir_thread.specs.declared.profile.Profile.{Profile}
use Rattle.ir_flat.specs.Flat.{Flat, IsFlat, idle, thread_of, start_threads}
use Rattle.ir_runs.specs.Run.{Step, count}
use Rattle.ir_fit.specs.Fit.{FittedTrace, HasRun, IsRunOf}
use Rattle.ir_cut.specs.Positions.{machine_of, start_of, thread_at}
use Rattle.ir_weave.specs.Ahead.{IsAhead, ask_at}
use Rattle.ir_weave.specs.Standing.{IsStateAt, positions}
use Rattle.ir_weave.proofs.Lone.{number_after_ask, step_below_count_emits, machine_take_is_ask}
use Rattle.ir_weave.proofs.Trails.{StepOf, emitting_is_step_of, thread_at_zero_is_start}

start_thread_number : (g : Guest) (budget : ℕ) (profile : Profile) (from n t : ℕ) → t < n
    → (slice_index_or (start_threads g budget profile from n) t idle).number ≡ from + t
start_thread_number g budget profile from zero t l = absurd (omega (arith, l))
start_thread_number g budget profile from (suc n) zero l = omega arith
start_thread_number g budget profile from (suc n) (suc t) l =
    let e = start_thread_number g budget profile (suc from) n t (omega (arith, l)) in omega (arith, e)

number_at_step_is_index : (f : FittedTrace) (run : List Step) → IsRunOf f.guest f.recorded run → (t k : ℕ) → t < length f.guest.entries
    → k ≤ count (machine_of f) (start_of f) run t → (thread_at f run t k).number ≡ t
number_at_step_is_index f run of t zero there l = ap (λ (z : thread.ThreadState). z.number) (thread_at_zero_is_start (machine_of f) (start_of f) run t)
    ∙ (let e = start_thread_number f.guest f.recorded.budget f.recorded.profile 0 (length f.guest.entries) t there in omega (arith, e))
number_at_step_is_index f run of t (suc k) there l =
    let at = step_below_count_emits f run t k (omega (arith, l)) in
    let z : StepOf (machine_of f) (thread_at f run t k) (thread_at f run t (suc k)) at.0 =
    emitting_is_step_of (machine_of f) (start_of f) run of.1.runs t k at.0 at.1 in
    let n : ℕ = reply (act_of (shared_ask (ask_at f run t k)) z.result) z.object in
    ap (λ (x : thread.ThreadState). x.number) (z.next ∙ machine_take_is_ask f.guest.code (thread_at f run t k) n)
    ∙ number_after_ask f.guest.code (thread_at f run t k) (ask_at f run t k) (reply_of (ask_at f run t k) n)
    ∙ number_at_step_is_index f run of t k there (omega (arith, l))

-- a thread of a state is where it is
pub state_ahead_at_position : (f : FittedTrace) (s : Flat) (t : ℕ) → HasRun f → IsFlat s → IsStateAt f (positions s) s → t < length s.threads
    → IsAhead f t (positions s t) (thread_of s t)
state_ahead_at_position f s t h flat at there =
    let inside : t < length f.guest.entries = (let e = at.threads in omega (arith, there, e)) in record {
      run = h;
      there = inside;
      number = ap (λ (x : thread.ThreadState). x.number) ((at.each h.run h.whole).threads t)
          ∙ number_at_step_is_index f h.run h.whole t (positions s t) inside ((at.each h.run h.whole).cut t);
      held = flat.places t there ∙ at.objects;
      past = omega arith;
      at = λ run of. ((at.each run of).cut t, (at.each run of).threads t);
      alone = λ run of j past less. absurd (omega (arith, past, less));
    }

-- What threads have left along a run.
use Rattle.std.proofs.Common.{ℕ, zero, suc, ◌+◌, ◌<◌, ◌≤◌, List, length, replicate, sym, subst, arith}
use Rattle.ir_image.specs.Guest.{most_objects}
use Rattle.ir_thread.specs.State.{ask_of, reply_of, thread_machine}
use Rattle.ir_thread.specs.State as thread
use Rattle.ir_thread.proofs.CallerLemmas.{ask_of_permitted}
use Rattle.ir_runs.specs.Machine.{target, reply}
use Rattle.ir_runs.proofs.CallerLemmas.{upd_by_cases}
use Rattle.ir_runs.specs.Run.{State, Step, act, Can, after, IsRun, end}
use Rattle.ir_flat.proofs.CallerLemmas.{moved_thread, threads_after_step, stepping_thread_not_done, length-held_after_ask}
use Rattle.ir_record.specs.Progress.{all_left}
use Rattle.ir_record.proofs.Left.{permitted_lowers_left, all_left_falls}

-- ---- places

-- no thread holds more objects than a guest may have
abbrev pub HoldFewObjects : State thread.ThreadState → Type 0
HoldFewObjects s = (t : ℕ) → length (s.now t).held ≤ most_objects

pub hold_few_after_step : (code : List ℕ) (s : State thread.ThreadState) (e : Step) → HoldFewObjects s → HoldFewObjects (after (thread_machine code) s e)
hold_few_after_step code s e few t =
    subst (λ now. length (now t).held ≤ most_objects) (sym (threads_after_step code s e))
    (upd_by_cases s.now e.0 (moved_thread code s e) t (λ z. length z.held ≤ most_objects)
    (λ _. let same = length-held_after_ask code (s.now e.0) (ask_of code (s.now e.0))
    (reply_of (ask_of code (s.now e.0)) (reply (act (thread_machine code) s e) (s.objects (target (act (thread_machine code) s e))))) in
    let was = few e.0 in omega (arith, same, was))
    (λ _. few t))

-- a step leaves fewer
pub step_lowers_all_left : (code : List ℕ) (n : ℕ) (s : State thread.ThreadState) (e : Step) → HoldFewObjects s → e.0 < n → Can (thread_machine code) s e
    → all_left n (after (thread_machine code) s e).now + 1 ≤ all_left n s.now
step_lowers_all_left code n s e few l can = subst (λ now. all_left n now + 1 ≤ all_left n s.now) (sym (threads_after_step code s e))
    (all_left_falls n s.now e.0 (moved_thread code s e) l
    (permitted_lowers_left code most_objects (s.now e.0) (ask_of code (s.now e.0)) _ (few e.0) (ask_of_permitted code (s.now e.0)) (stepping_thread_not_done code s e can)))

-- so do the steps of one thread
pub steps_lower_all_left : (code : List ℕ) (n t k : ℕ) (s : State thread.ThreadState) → HoldFewObjects s → t < n → IsRun (thread_machine code) s (replicate k (t, 0))
    → all_left n (end (thread_machine code) s (replicate k (t, 0))).now + k ≤ all_left n s.now
steps_lower_all_left code n t zero s few l ok = omega arith
steps_lower_all_left code n t (suc k) s few l ok =
    let first = step_lowers_all_left code n s (t, 0) few l ok.0 in
    let rest = steps_lower_all_left code n t k (after (thread_machine code) s (t, 0)) (hold_few_after_step code s (t, 0) few) l ok.1 in
    omega (arith, first, rest)

-- What threads count along a run.
use Rattle.std.proofs.Common.{◌≡◌, ◌≢◌, ℕ, zero, suc, ◌+◌, List, [], ◌∷◌, length, refl, sym, ap, ◌∙◌, subst, arith, inl, inr, eq-eqb, ne_eqb}
use Rattle.std.proofs.lemmas.Bool.{cases_eq}
use Rattle.ir_thread.specs.State.{ask_of, after_ask, after_reply, shared_ask, reply_of, thread_machine}
use Rattle.ir_runs.specs.Machine as machine
use Rattle.ir_runs.specs.Machine.{act_of, upd, Object, target, reply, emitted, Admits, Label, Quiet, Answer, EnteredAt, FailedTry, LeftAt, logged}
use Rattle.ir_thread.specs.State as thread
use Rattle.ir_runs.specs.declared.access.Access.TheVariants.{Reading, Writing}
use Rattle.ir_thread.specs.declared.ask.Ask.{Ask}
use Rattle.ir_thread.specs.declared.ask.Ask.TheVariants.{Private, Env, Enter, Try, Leave, Get, Put, Print, End, Done}
use Rattle.ir_thread.specs.declared.ask.Reply.{Reply}
use Rattle.ir_runs.proofs.CallerLemmas.{upd_at_own_place, upd_at_other_place}
use Rattle.ir_runs.specs.Run.{State, Step, act, Can, after, label, IsRun, end, join_if, trail, events, log, count}
use Rattle.ir_flat.proofs.Kept.{events_added_by, events_after_ask}

-- the thread of a step after it
abbrev pub moved_thread : List ℕ → State thread.ThreadState → Step → thread.ThreadState
moved_thread code s e = after_ask code (s.now e.0) (ask_of code (s.now e.0))
    (reply_of (ask_of code (s.now e.0)) (reply (act (thread_machine code) s e) (s.objects (target (act (thread_machine code) s e)))))

pub threads_after_step : (code : List ℕ) (s : State thread.ThreadState) (e : Step)
    → (after (thread_machine code) s e).now ≡ upd s.now e.0 (moved_thread code s e)
unfolding after after_reply
threads_after_step code s e = refl

pub stepping_thread_not_done : (code : List ℕ) (s : State thread.ThreadState) (e : Step) → Can (thread_machine code) s e → ask_of code (s.now e.0) ≢ Done
stepping_thread_not_done code s e can is = subst (λ q. Admits (thread_machine code) (act_of (shared_ask q) e.1)
    (s.objects (target (act_of (shared_ask q) e.1)))) is can

-- what asks others for nothing more, is done
pub shared_done_is_done : (q : Ask) → shared_ask q ≡ machine.Done → q ≡ Done
shared_done_is_done Private e = absurd (cc e)
shared_done_is_done (Env k) e = absurd (cc e)
shared_done_is_done (Enter o a) e = absurd (cc e)
shared_done_is_done (Try o) e = absurd (cc e)
shared_done_is_done (Leave o a) e = absurd (cc e)
shared_done_is_done (Get o i) e = absurd (cc e)
shared_done_is_done (Put o i w) e = absurd (cc e)
shared_done_is_done Print e = absurd (cc e)
shared_done_is_done (End k) e = absurd (cc e)
shared_done_is_done Done e = refl

emitted_length_is_added : (code : List ℕ) (q : Ask) (r : ℕ) (b : Object) → Admits (thread_machine code) (act_of (shared_ask q) r) b
    → length (logged (emitted (act_of (shared_ask q) r) b) []) ≡ events_added_by q
emitted_length_is_added code Private r b can = refl
emitted_length_is_added code (Env kind) r b can = refl
emitted_length_is_added code (Enter o Reading) r b can = refl
emitted_length_is_added code (Enter o Writing) r b can = refl
emitted_length_is_added code (Try o) zero b can = refl
emitted_length_is_added code (Try o) (suc zero) b can = refl
emitted_length_is_added code (Try o) (suc (suc r)) b can = absurd can
emitted_length_is_added code (Leave o a) r b can = refl
emitted_length_is_added code (Get o i) r b can = refl
emitted_length_is_added code (Put o i w) r b can = refl
emitted_length_is_added code Print r b can = refl
emitted_length_is_added code (End e) r b can = refl
emitted_length_is_added code Done r b can = refl

length_of_logged : (k : Label) (xs : List Label) → length (logged k xs) ≡ length (logged k []) + length xs
length_of_logged Quiet xs = omega arith
length_of_logged (Answer i v) xs = omega arith
length_of_logged (EnteredAt o a v l) xs = omega arith
length_of_logged (FailedTry o) xs = omega arith
length_of_logged (LeftAt o a v) xs = omega arith

steps_after_ask : (code : List ℕ) (x : thread.ThreadState) (q : Ask) (r : Reply) → q ≢ Done → (after_ask code x q r).steps ≡ x.steps + 1
steps_after_ask code x Private r ne = refl
steps_after_ask code x (Env kind) r ne = refl
steps_after_ask code x (Enter o a) r ne = refl
steps_after_ask code x (Try o) r ne = refl
steps_after_ask code x (Leave o a) r ne = refl
steps_after_ask code x (Get o i) r ne = refl
steps_after_ask code x (Put o i w) r ne = refl
steps_after_ask code x Print r ne = refl
steps_after_ask code x (End e) r ne = refl
steps_after_ask code x Done r ne = absurd (ne refl)

-- each thread has logged as many events as it counts, and taken as many steps
pub record Tallies (code : List ℕ) (s : State thread.ThreadState) (run : List Step) (t : ℕ) : Type 0 where
  pub events : ((end (thread_machine code) s run).now t).events ≡ (s.now t).events + length (log (thread_machine code) s run t)
  pub steps : ((end (thread_machine code) s run).now t).steps ≡ (s.now t).steps + count (thread_machine code) s run t

tallies_cons_own : (code : List ℕ) (s : State thread.ThreadState) (e : Step) (run : List Step) → Can (thread_machine code) s e
    → Tallies code (after (thread_machine code) s e) run e.0 → Tallies code s (e ∷ run) e.0
tallies_cons_own code s e run can k =
    let m = thread_machine code in
    let now : (after m s e).now e.0 ≡ moved_thread code s e = ap (λ f. f e.0) (threads_after_step code s e)
    ∙ upd_at_own_place s.now e.0 (moved_thread code s e) in
    let trail_is : trail m s (e ∷ run) e.0 ≡ (s.now e.0, label m s e) ∷ trail m (after m s e) run e.0 =
    ap (λ b. join_if b (s.now e.0, label m s e) (trail m (after m s e) run e.0)) (eq-eqb e.0 e.0 refl) in
    let more : ((after m s e).now e.0).events ≡ (s.now e.0).events + events_added_by (ask_of code (s.now e.0)) = ap (λ x. x.events) now
    ∙ events_after_ask code (s.now e.0) (ask_of code (s.now e.0)) _ in
    let one : ((after m s e).now e.0).steps ≡ (s.now e.0).steps + 1 = ap (λ x. x.steps) now
    ∙ steps_after_ask code (s.now e.0) (ask_of code (s.now e.0)) _ (stepping_thread_not_done code s e can) in
    let size : length (log m s (e ∷ run) e.0) ≡ events_added_by (ask_of code (s.now e.0)) + length (log m (after m s e) run e.0) =
    ap (λ z. length (events z)) trail_is ∙ length_of_logged (label m s e) (events (trail m (after m s e) run e.0))
    ∙ ap (λ z. z + length (log m (after m s e) run e.0)) (emitted_length_is_added code (ask_of code (s.now e.0)) e.1 (s.objects (target (act m s e))) can) in
    let steps : count m s (e ∷ run) e.0 ≡ suc (count m (after m s e) run e.0) = ap length trail_is in
    record { events = let was = k.events in omega (arith, was, more, size); steps = let was = k.steps in omega (arith, was, one, steps) }

pub tallies_along_run : (code : List ℕ) (s : State thread.ThreadState) (run : List Step) → IsRun (thread_machine code) s run → (t : ℕ) → Tallies code s run t
tallies_along_run code s [] ok t = record { events = omega arith; steps = omega arith }
tallies_along_run code s (e ∷ run) ok t = elim (cases_eq t e.0) [
  | inl same ↦ subst (Tallies code s (e ∷ run)) (sym same)
      (tallies_cons_own code s e run ok.0 (tallies_along_run code (after (thread_machine code) s e) run ok.1 e.0))
  | inr ne ↦
      let m = thread_machine code in
      let k : Tallies code (after m s e) run t = tallies_along_run code (after m s e) run ok.1 t in
      let trail_is : trail m s (e ∷ run) t ≡ trail m (after m s e) run t =
      ap (λ b. join_if b (s.now t, label m s e) (trail m (after m s e) run t)) (ne_eqb t e.0 ne) in
      let now : (after m s e).now t ≡ s.now t = ap (λ f. f t) (threads_after_step code s e) ∙ upd_at_other_place s.now e.0 t (moved_thread code s e) ne in
      record {
        events = k.events ∙ ap (λ x. x.events + length (log m (after m s e) run t)) now
            ∙ ap (λ z. (s.now t).events + length (events z)) (sym trail_is);
        steps = k.steps ∙ ap (λ x. x.steps + count m (after m s e) run t) now ∙ ap (λ z. (s.now t).steps + length z) (sym trail_is);
      }
]

-- A thread's leaves after writing, by what it holds before and after its steps.
use Rattle.std.proofs.Common.{◌≡◌, ◌≢◌, ℕ, suc, zero, ◌<◌, ◌≤◌, List, Option, Some, None, sym, ap, ◌∙◌, subst, inl, inr, arith, get_or}
use Rattle.std.proofs.lemmas.Bool.{cases_eq}
use Rattle.std.proofs.lemmas.Option.{same_Some}
use Rattle.ir_runs.specs.Machine.{Machine, Ask, act_of, upd, Object, reply, emitted, Label, Quiet, Answer, EnteredAt, FailedTry, LeftAt}
use Rattle.ir_runs.specs.Lawful.{held_after, Holds}
use Rattle.ir_runs.specs.Machine as machine
use Rattle.ir_runs.specs.declared.access.Access.{Access}
use Rattle.ir_runs.specs.declared.access.Access.TheVariants.{Reading, Writing}
use Rattle.ir_runs.specs.Run.{Step, trail, end, Emits}
use Rattle.ir_runs.proofs.CallerLemmas.{upd_at_own_place, upd_at_other_place}
use Rattle.ir_thread.specs.State as thread
use Rattle.ir_thread.specs.State.{held_at}
use Rattle.ir_fit.specs.Fit.{FittedTrace, IsRunOf}
use Rattle.ir_fit.proofs.CallerLemmas.{get_or_is_at, at_is_get_or}
use Rattle.ir_cut.specs.Positions.{machine_of, start_of, thread_at}
use Rattle.ir_weave.proofs.CallerLemmas.{StepOf, emitting_is_step_of, guest_machine_is_lawful, thread_in_past_length}
use Rattle.ir_hits.specs.Seeing.{steps_of, LeavesWritten}

-- ---- one step

-- the ask of the step that emits a leave
abbrev leave_ask_of_label : Label → Ask
leave_ask_of_label Quiet = machine.Private
leave_ask_of_label (Answer k v) = machine.Private
leave_ask_of_label (EnteredAt o a v l) = machine.Private
leave_ask_of_label (FailedTry o) = machine.Private
leave_ask_of_label (LeftAt o a v) = machine.Leave o a

-- what leaves an object asked to
emits_write_leave_asks : (q : Ask) (r o v : ℕ) (b : Object) → emitted (act_of q r) b ≡ LeftAt o Writing v → q ≡ machine.Leave o Writing
emits_write_leave_asks machine.Private r o v b e = absurd (cc e)
emits_write_leave_asks (machine.Env k) r o v b e = absurd (cc e)
emits_write_leave_asks (machine.Enter p Reading) r o v b e = absurd (cc e)
emits_write_leave_asks (machine.Enter p Writing) r o v b e = absurd (cc e)
emits_write_leave_asks (machine.Try p) zero o v b e = absurd (cc e)
emits_write_leave_asks (machine.Try p) (suc zero) o v b e = absurd (cc e)
emits_write_leave_asks (machine.Try p) (suc (suc r)) o v b e = absurd (cc e)
emits_write_leave_asks (machine.Leave p a) r o v b e = ap leave_ask_of_label e
emits_write_leave_asks (machine.Get p i) r o v b e = absurd (cc e)
emits_write_leave_asks (machine.Put p i w) r o v b e = absurd (cc e)
emits_write_leave_asks machine.Done r o v b e = absurd (cc e)

-- what isn't held isn't held for writing
none_is_not_writing : (h : Option Access) → h ≡ None → h ≡ Some Writing → ⊥
none_is_not_writing h none some = cc (none, some)

-- an entry is of what wasn't held
held_after_other_entry : (h : ℕ → Option Access) (p o : ℕ) (a : Access) → ((i : ℕ) → p ≤ i → h i ≡ None) → h o ≡ Some Writing
    → upd h p (Some a) o ≡ Some Writing
held_after_other_entry h p o a none w = elim (cases_eq o p) [
  | inl same ↦ absurd (none_is_not_writing (h o) (none o (omega (arith, same))) w)
  | inr ne ↦ upd_at_other_place h p o (Some a) ne ∙ w
]

-- what was held for writing and isn't any more is left
lost_write_hold_leaves : (q : Ask) (r o : ℕ) (h : ℕ → Option Access) → Holds q h → h o ≡ Some Writing → held_after (act_of q r) h o ≢ Some Writing
    → q ≡ machine.Leave o Writing
lost_write_hold_leaves machine.Private r o h k w n = absurd (n w)
lost_write_hold_leaves (machine.Env kind) r o h k w n = absurd (n w)
lost_write_hold_leaves (machine.Enter p a) r o h k w n = absurd (n (held_after_other_entry h p o a k w))
lost_write_hold_leaves (machine.Try p) zero o h k w n = absurd (n w)
lost_write_hold_leaves (machine.Try p) (suc zero) o h k w n = absurd (n (held_after_other_entry h p o Writing k w))
lost_write_hold_leaves (machine.Try p) (suc (suc r)) o h k w n = absurd (n w)
lost_write_hold_leaves (machine.Leave p a) r o h k w n = elim (cases_eq o p) [
  | inl same ↦ let e : a ≡ Writing = same_Some a Writing (sym k ∙ ap h (sym same) ∙ w) in λ i. machine.Leave (sym same i) (e i)
  | inr ne ↦ absurd (n (upd_at_other_place h p o None ne ∙ w))
]
lost_write_hold_leaves (machine.Get p i) r o h k w n = absurd (n w)
lost_write_hold_leaves (machine.Put p i v) r o h k w n = absurd (n w)
lost_write_hold_leaves machine.Done r o h k w n = absurd (n w)

-- ---- the steps of a run

-- each step emits something
pub step_emits_label : (f : FittedTrace) (run : List Step) (t j : ℕ) → j < steps_of f run t → (a : Label)
    × Emits (machine_of f) (start_of f) run t j a
step_emits_label f run t j less =
    let xs : List (thread.ThreadState × Label) = trail (machine_of f) (start_of f) run t in
    let d : thread.ThreadState × Label = ((start_of f).now t, Quiet) in
    ((get_or xs j d).1, ((get_or xs j d).0, get_or_is_at xs j d less))

-- only its steps do
pub emitting_below_count : (f : FittedTrace) (run : List Step) (t j : ℕ) (a : Label) → Emits (machine_of f) (start_of f) run t j a
    → j < steps_of f run t
emitting_below_count f run t j a h = (at_is_get_or (trail (machine_of f) (start_of f) run t) j (h.0, a) h.1).0

pub last_step_same_thread : (f : FittedTrace) (run : List Step) (t j : ℕ) → steps_of f run t ≤ j → thread_at f run t j ≡ thread_at f run t (suc j)
last_step_same_thread f run t j past =
    let xs : List (thread.ThreadState × Label) = trail (machine_of f) (start_of f) run t in
    let last : thread.ThreadState = (end (machine_of f) (start_of f) run).now t in
    thread_in_past_length xs j last past ∙ sym (thread_in_past_length xs (suc j) last (omega (arith, past)))

-- what a thread asks before its step, and what it holds after it
abbrev Asks : FittedTrace → List Step → ℕ → ℕ → Ask → Type 0
Asks f run t j q = (machine_of f).ask (thread_at f run t j) ≡ q

held_after_step_is_act : (f : FittedTrace) (run : List Step) (t j : ℕ) (a : Label)
    → (s : StepOf (machine_of f) (thread_at f run t j) (thread_at f run t (suc j)) a) → (o : ℕ)
    → held_at (thread_at f run t (suc j)).held o
    ≡ held_after (act_of ((machine_of f).ask (thread_at f run t j))
    (reply (act_of ((machine_of f).ask (thread_at f run t j)) s.result) s.object)) (held_at (thread_at f run t j).held) o
held_after_step_is_act f run t j a s o =
    ap (λ (x : thread.ThreadState). held_at x.held o) s.next
    ∙ (guest_machine_is_lawful f).takes (thread_at f run t j) (reply (act_of ((machine_of f).ask (thread_at f run t j)) s.result) s.object) o

-- a step that leaves an object after writing: the thread is inside before it, and not after it
pub held_around_write_leave : (f : FittedTrace) (run : List Step) → IsRunOf f.guest f.recorded run → (t j o : ℕ) → LeavesWritten f run t o j
    → (held_at (thread_at f run t j).held o ≡ Some Writing) × (held_at (thread_at f run t (suc j)).held o ≢ Some Writing)
held_around_write_leave f run whole t j o h =
    let x : thread.ThreadState = thread_at f run t j in
    let s = emitting_is_step_of (machine_of f) (start_of f) run whole.1.runs t j (LeftAt o Writing h.0) h.1 in
    let asks : (machine_of f).ask x ≡ machine.Leave o Writing =
    emits_write_leave_asks ((machine_of f).ask x) s.result o h.0 s.object (sym s.emits) in
    let r : ℕ = reply (act_of ((machine_of f).ask x) s.result) s.object in
    let gone : held_after (act_of ((machine_of f).ask x) r) (held_at x.held) o ≡ None =
    subst (λ q. held_after (act_of q r) (held_at x.held) o ≡ None) (sym asks) (upd_at_own_place (held_at x.held) o None) in (
      subst (λ q. Holds q (held_at x.held)) asks ((guest_machine_is_lawful f).holds x),
      none_is_not_writing (held_at (thread_at f run t (suc j)).held o) (held_after_step_is_act f run t j (LeftAt o Writing h.0) s o ∙ gone),
    )

-- and the other way round
pub lost_hold_leaves_written : (f : FittedTrace) (run : List Step) → IsRunOf f.guest f.recorded run → (t j o : ℕ) → j < steps_of f run t
    → held_at (thread_at f run t j).held o ≡ Some Writing → held_at (thread_at f run t (suc j)).held o ≢ Some Writing
    → LeavesWritten f run t o j
lost_hold_leaves_written f run whole t j o less inside out =
    let x : thread.ThreadState = thread_at f run t j in
    let some = step_emits_label f run t j less in
    let s = emitting_is_step_of (machine_of f) (start_of f) run whole.1.runs t j some.0 some.1 in
    let r : ℕ = reply (act_of ((machine_of f).ask x) s.result) s.object in
    let asks : (machine_of f).ask x ≡ machine.Leave o Writing =
    lost_write_hold_leaves ((machine_of f).ask x) r o (held_at x.held) ((guest_machine_is_lawful f).holds x) inside
    (λ w. out (held_after_step_is_act f run t j some.0 s o ∙ w)) in
    let emits : some.0 ≡ LeftAt o Writing s.object.version =
    s.emits ∙ ap (λ q. emitted (act_of q s.result) s.object) asks in
    (s.object.version, subst (Emits (machine_of f) (start_of f) run t j) emits some.1)

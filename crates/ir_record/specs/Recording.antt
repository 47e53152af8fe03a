-- What a recording of a run holds.
use Rattle.ir_thread.specs.declared.profile.Profile.{Profile}
use Rattle.std.specs.Prelude.{◌≡◌, ℕ, ◌<◌, ◌++◌, List, [], ◌∷◌, length, map, slice_get, slice_index_or, Some, Bool, true, false, ⊤, flat_map, replicate}
use Rattle.ir_image.specs.Guest.{Guest, object_count}
use Rattle.ir_thread.specs.State.{start_state, ask_of, thread_machine}
use Rattle.ir_thread.specs.declared.ask.Ask.TheVariants as ask
use Rattle.ir_flat.specs.Flat.{start_flat, tables, machine, MayRun, alone_after}
use Rattle.ir_runs.specs.Machine.{Act, act_of, Replied, Env, Machine}
use Rattle.ir_runs.specs.Run.{Step, asked, log, end, rounds, IsWhole}
use Rattle.ir_runs.specs.declared.env_kind.EnvKind.{EnvKind}
use Rattle.ir_trace.specs.Recorded.{Recorded, trace_of}
use Rattle.ir_record.specs.Worlds.{answers_at, AnsweredCall, answers_in, NoneFailed, IsFirstFailed, AreSameWorlds}
use Rattle.ir_record.specs.declared.outputs.Outputs.{Outputs}
use Rattle.ir_record.specs.declared.record_err.RecordErr.{RecordErr}
use Rattle.ir_record.specs.declared.record_err.RecordErr.TheVariants.{NoMem, World}
use Rattle.ir_record.specs.Refusing.{Turn, plain_turns, InTurns, IsByTurns}
use Rattle.ir_record.specs.declared.item.Item.{Item}
use Rattle.ir_record.specs.declared.turns.Turns.{Turns}

-- the trace of a complete run of the guest: its header, and of each thread its steps, its log, its end and its code
pub record IsTraceOf (guest : Guest) (budget : ℕ) (profile : Profile) (run : List Step) (recorded : Recorded) : Type 0 where
  pub objects : recorded.objects ≡ object_count guest
  pub limit : recorded.budget ≡ budget
  pub profile_is : recorded.profile ≡ profile
  pub threads : length recorded.threads ≡ length guest.entries
  pub whole : IsWhole (machine (start_flat guest budget profile)) (tables (start_flat guest budget profile)) (length guest.entries) (trace_of recorded) run

-- what each thread of the run printed
pub record AreOutputs (guest : Guest) (budget : ℕ) (profile : Profile) (run : List Step) (outputs : List (List ℕ)) : Type 0 where
  pub threads : length outputs ≡ length guest.entries
  pub each : (t : ℕ) → t < length guest.entries
      → slice_get outputs t ≡ Some ((end (machine (start_flat guest budget profile)) (tables (start_flat guest budget profile)) run).now t).output

-- what the world of each thread had answered, and then the answers that the run logged of it
pub record AreAnswers (guest : Guest) (budget : ℕ) (profile : Profile) (run : List Step) (before answers : List (List AnsweredCall)) : Type 0 where
  pub threads : length answers ≡ length guest.entries
  pub each : (t : ℕ) → t < length guest.entries → slice_get answers t ≡ Some (answers_at before t ++ answers_in
      (log (machine (start_flat guest budget profile)) (tables (start_flat guest budget profile)) run t))

-- the trace, the outputs and the worlds' answers of this run of the guest, which is complete
pub record IsRecordingOf (guest : Guest) (budget : ℕ) (profile : Profile) (run : List Step) (before : List (List AnsweredCall)) (trace : Recorded)
    (outputs : List (List ℕ)) (answers : List (List AnsweredCall)) : Type 0 where
  pub emitted : IsTraceOf guest budget profile run trace
  pub printed : AreOutputs guest budget profile run outputs
  pub answered : AreAnswers guest budget profile run before answers

-- ---- what a call that records hands back, of worlds by what they have answered, whether they have failed and what they were made with

-- what f gives of each thread's world, as it is handed back
abbrev pub each_world : {W A : Type 0} → (W → A) → Outputs W → List A
each_world f outputs = map (λ o. f o.world) outputs.each.items

-- the bytes that each thread printed
abbrev pub printed_by : {W : Type 0} → Outputs W → List (List ℕ)
printed_by outputs = map (λ o. o.bytes.items) outputs.each.items

-- the complete run by turns, in which tries may be refused, is recorded: its trace, what its threads printed, and what their worlds answered
abbrev pub IsRecordedInTurns : {W : Type 0} → (W → List AnsweredCall) → Guest → ℕ → Profile → List Turn → List W → Recorded × Outputs W → Type 0
IsRecordedInTurns answers guest budget profile turns before r = (run : List Step)
    × IsByTurns (machine (start_flat guest budget profile)) (tables (start_flat guest budget profile)) (length guest.entries) turns run
    × IsRecordingOf guest budget profile run (map answers before) r.0 (printed_by r.1) (each_world answers r.1)

-- the same of one complete run of the guest
abbrev pub IsRecordedByThreads : {W : Type 0} → (W → List AnsweredCall) → Guest → ℕ → Profile → List W → Recorded × Outputs W → Type 0
IsRecordedByThreads answers guest budget profile before r = (run : List Step)
    × IsRecordingOf guest budget profile run (map answers before) r.0 (printed_by r.1) (each_world answers r.1)

-- no world that is handed back has failed
abbrev pub AllWork : {W : Type 0} → (W → Bool) → Recorded × Outputs W → Type 0
AllWork broken r = NoneFailed (each_world broken r.1)

-- the worlds that are handed back are those that were handed in
abbrev pub AreHandedBack : {W O : Type 0} → (W → O) → List W → Recorded × Outputs W → Type 0
AreHandedBack origin before r = each_world origin r.1 ≡ map origin before

-- the turns, in which tries may be refused, and rounds after them, were taken until the one of the thread whose world failed, which asks its world
-- there. They are a run of the guest, and each world answered what it had answered, and then the answers that this run logged of it
pub record StoppedInTurns (guest : Guest) (budget : ℕ) (profile : Profile) (turns : List Turn) (failed : ℕ) (before after : List (List AnsweredCall)) :
    Type 0 where
  pub count : ℕ
  pub taken : List Turn
  pub refused : Bool
  pub left : List Turn
  pub so_far : turns ++ plain_turns (rounds (length guest.entries) count) ≡ taken ++ (failed, refused) ∷ left
  pub run : List Step
  pub in_turns : InTurns (machine (start_flat guest budget profile)) (tables (start_flat guest budget profile)) taken run
  pub kind : EnvKind
  pub asks : asked (machine (start_flat guest budget profile))
      (end (machine (start_flat guest budget profile)) (tables (start_flat guest budget profile)) run) failed ≡ Env kind
  pub answered : AreAnswers guest budget profile run before after

-- out of memory; or a world has failed, none of a lower thread has, the worlds are handed back, and they answered what the turns asked until then
abbrev pub IsFailureInTurns : {W O : Type 0} → (W → List AnsweredCall) → (W → Bool) → (W → O) → Guest → ℕ → Profile → List Turn → List W → RecordErr W
    → Type 0
IsFailureInTurns answers broken origin guest budget profile turns before NoMem = ⊤
IsFailureInTurns answers broken origin guest budget profile turns before (World thread worlds) = IsFirstFailed (map broken worlds.items) thread
    × AreSameWorlds origin before worlds.items × StoppedInTurns guest budget profile turns thread (map answers before) (map answers worlds.items)

-- what the environment answers in an act, and the answers after it
abbrev pub answer_if : Act → List AnsweredCall → List AnsweredCall
answer_if (Replied kind value) others = (kind, value) ∷ others
answer_if q others = others

-- the calls of the environment that a thread makes alone, with their answers, if these are its replies
abbrev pub alone_answers : {T : Type 0} → Machine T → T → List ℕ → List AnsweredCall
alone_answers m x [] = []
alone_answers m x (v ∷ vs) = answer_if (act_of (m.ask x) v) (alone_answers m (m.take x v) vs)

-- thread t of the guest, alone, is done after these replies, or where its world failed asks it; its world answered what it had answered, and
-- then those of the replies that are answers of the environment
pub record WentOn (guest : Guest) (budget : ℕ) (profile : Profile) (t : ℕ) (failed : Bool) (before after : List AnsweredCall) : Type 0 where
  pub replies : List ℕ
  pub may : MayRun (thread_machine guest.code) (start_state guest t budget profile) replies
  pub done : failed ≡ false → ask_of guest.code (alone_after (thread_machine guest.code) (start_state guest t budget profile) replies) ≡ ask.Done
  pub asks : failed ≡ true → (kind : EnvKind)
      × (ask_of guest.code (alone_after (thread_machine guest.code) (start_state guest t budget profile) replies) ≡ ask.Env kind)
  pub answered : after ≡ before ++ alone_answers (thread_machine guest.code) (start_state guest t budget profile) replies

-- each thread went on, to its end or until its world failed
abbrev pub EachWentOn : {W : Type 0} → (W → List AnsweredCall) → (W → Bool) → Guest → ℕ → Profile → List W → List W → Type 0
EachWentOn answers broken guest budget profile before after = (t : ℕ) → t < length guest.entries
    → WentOn guest budget profile t (slice_index_or (map broken after) t false) (answers_at (map answers before) t)
    (answers_at (map answers after) t)

-- out of memory; or a world has failed and none of a lower thread has, the worlds are handed back, and each thread went on by itself, to its
-- end or until its world failed. That what they did together is a run isn't said
abbrev pub IsFailure : {W O : Type 0} → (W → List AnsweredCall) → (W → Bool) → (W → O) → Guest → ℕ → Profile → List W → RecordErr W → Type 0
IsFailure answers broken origin guest budget profile before NoMem = ⊤
IsFailure answers broken origin guest budget profile before (World thread worlds) = IsFirstFailed (map broken worlds.items) thread
    × AreSameWorlds origin before worlds.items × EachWentOn answers broken guest budget profile before worlds.items

-- the threads in the order of their turns
abbrev pub order_of_turns : List Turns → List ℕ
order_of_turns turns = flat_map (λ t. replicate t.count t.thread) turns

-- the turns of items, one after the other
abbrev pub turns_of_items : List Item → List Turn
turns_of_items items = flat_map (λ i. replicate i.count (i.thread, i.refused)) items

-- A thread without a count of its steps and events, and without a budget.
use Rattle.std.specs.Prelude.{◌≡◌, ℕ, List, ◌⊎◌, Some, option_map}
use Rattle.ir_runs.specs.Machine.{Machine, Done}
use Rattle.ir_thread.specs.State.{end_number, end_code, ThreadState, held_at, ask_of, after_reply, shared_ask, reply_of, is_result, thread_machine}
use Rattle.ir_thread.specs.Permitted.{held_count}
use Rattle.ir_thread.specs.declared.profile.Profile.{Profile}
use Rattle.ir_image.specs.Guest.{Guest}
use Rattle.ir_liveness.specs.Agreement.{DifferInDead}
use Rattle.ir_runs.specs.Run as run
use Rattle.ir_runs.specs.Bounds as bounds
use Rattle.ir_flat.specs.Flat.{start_flat, tables}
use Rattle.ir_search_laws.specs.Sources.{Giving, Gives}
use Rattle.ir_search_laws.specs.Views.{viewed, beside, IsUnspoilt}

-- a thread that has taken no step and logged nothing, and may take one
abbrev pub view : ThreadState → ThreadState
view s = record s { steps = 0; events = 0; budget = 1 }

-- a thread that runs this code, seen so after each step
abbrev pub seen_machine : List ℕ → Machine ThreadState
seen_machine code = record {
  ask = λ s. shared_ask (ask_of code s);
  take = λ s value. view (after_reply code s (reply_of (ask_of code s) value));
  held = λ s. held_at s.held;
  fits = is_result;
  ended = λ s. option_map (λ e. (end_number e, end_code e)) s.ended;
  size = λ s. held_count s.held;
}

-- it asks what its view asks
abbrev pub IsLive : List ℕ → ThreadState → Type 0
IsLive code s = ask_of code (view s) ≡ ask_of code s

-- its end is that of a spent budget or a full log
abbrev pub IsSpoilt : List ℕ → ThreadState → Type 0
IsSpoilt code s = ((thread_machine code).ended s ≡ Some (13, 0)) ⊎ ((thread_machine code).ended s ≡ Some (14, 0))

-- both threads are done, with one end and one output
abbrev pub AreDoneAlike : List ℕ → ThreadState → ThreadState → Type 0
AreDoneAlike code x y = (shared_ask (ask_of code x) ≡ Done) × (shared_ask (ask_of code y) ≡ Done) × (x.ended ≡ y.ended) × (x.output ≡ y.output)

-- threads that look the same beside their sources: all is equal but registers that aren't live, or both are done, with one end and one output
abbrev pub Same : {S : Type 0} → List ℕ → ThreadState × S → ThreadState × S → Type 0
Same code x y = (x ≡ y) ⊎ ((DifferInDead code x.0 y.0 × (x.1 ≡ y.1)) ⊎ AreDoneAlike code x.0 y.0)

-- a guest's start seen so, beside the sources of its threads, whatever its budget
abbrev pub seen_start : {S : Type 0} → Guest → Profile → (ℕ → S) → run.State (ThreadState × S)
seen_start guest profile sources = beside (viewed view (tables (start_flat guest 1 profile))) sources

-- a complete run of a guest that counts: each thread is answered by its own source, in turn, and no end is a spent budget's or a full log's
pub record IsCounted {S : Type 0} (guest : Guest) (budget : ℕ) (profile : Profile) (given : Giving S) (sources : ℕ → S) (steps : List run.Step)
    : Type 0 where
  pub complete : bounds.IsComplete (thread_machine guest.code) (tables (start_flat guest budget profile)) steps
  pub answered : (t : ℕ) → Gives given (sources t) (run.log (thread_machine guest.code) (tables (start_flat guest budget profile)) steps t)
  pub unspoilt : IsUnspoilt (IsSpoilt guest.code) (run.end (thread_machine guest.code) (tables (start_flat guest budget profile)) steps)

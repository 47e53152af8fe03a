-- Which stale writes of a recorded run rest on what was read.
use Rattle.std.specs.Prelude.{◌≡◌, ◌⊎◌, ℕ, ◌+◌, ◌-◌, List, length, slice_get, Option, Some, None}
use Rattle.std.specs.List.{slice_index_or}
use Rattle.ir_fit.specs.Fit.{FittedTrace}
use Rattle.ir_cut.specs.Positions.{EachRun, thread_at}
use Rattle.ir_past.specs.declared.stale_write.StaleWrite.{StaleWrite}
use Rattle.ir_events.specs.Events.{event_entry}
use Rattle.ir_opened.specs.Positions.{LeavesAfter, IsLeaveOf}
use Rattle.ir_event_walk.specs.Words.{AreWordsAt}
use Rattle.ir_event_walk.specs.Calls.{calls_in}
use Rattle.ir_stale_run.specs.WhatIf.{rest_of, more_steps}
use Rattle.ir_stale_run.specs.declared.rest.Rest.{Rest}

-- the position of a row's thread behind its read entry
abbrev pub behind_read : FittedTrace → StaleWrite → ℕ
behind_read f x = event_entry f x.thread x.read + 1

-- and behind its write entry
abbrev pub behind_write : FittedTrace → StaleWrite → ℕ
behind_write f x = event_entry f x.thread x.event + 1

-- how a row's write rests on its read, if it does, in each run with the trace: by what its thread would have done from behind the read
-- entry to the leave after the write entry, had it read the words that are there behind the write entry
pub record RestsAs (f : FittedTrace) (x : StaleWrite) (rest : Option Rest) : Type 0 where
  pub last : ℕ
  pub leave : IsLeaveOf f x.thread x.event last
  pub was : List ℕ
  pub was_there : AreWordsAt f x.thread (behind_read f x) x.object was
  pub now : List ℕ
  pub now_there : AreWordsAt f x.thread (behind_write f x) x.object now
  pub found : EachRun f (λ run. rest ≡ rest_of f.guest.code x.object was now (last + 1 - behind_read f x + more_steps)
      (thread_at f run x.thread (behind_read f x))
      (calls_in f.guest.code (thread_at f run x.thread) (behind_read f x) (last + 1 - behind_read f x)))

-- so; a write entry that is never left rests on nothing
abbrev pub IsRestOf : FittedTrace → StaleWrite → Option Rest → Type 0
IsRestOf f x rest = RestsAs f x rest ⊎ (((k : ℕ) → LeavesAfter f x.thread x.event k → ⊥) × (rest ≡ None))

-- one for each row
pub record AreRests (f : FittedTrace) (rows : List StaleWrite) (rests : List (Option Rest)) : Type 0 where
  pub size : length rests ≡ length rows
  pub each : (r : ℕ) (x : StaleWrite) → slice_get rows r ≡ Some x → IsRestOf f x (slice_index_or rests r None)

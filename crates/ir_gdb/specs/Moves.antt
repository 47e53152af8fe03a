-- Moves that packets ask for, and the stops that they are answered by.
use Rattle.std.specs.Prelude.{◌≡◌, ◌&&◌, ℕ, ◌+◌, Bool, true, false, List, Option, Some, None, option_map, if◌then◌else◌}
use Rattle.ir_mach.specs.Core.{Core, register}
use Rattle.ir_runs.specs.Run.{Step}
use Rattle.ir_debug.specs.Machine.{moved_to}
use Rattle.ir_packet.specs.Replies.{stop_reply_text}
use Rattle.ir_packet.specs.declared.reply.Reason.TheVariants as reason
use Rattle.ir_packet.specs.declared.reply.Stop.{Stop}
use Rattle.ir_packet.specs.declared.request.Motion.{Motion}
use Rattle.ir_packet.specs.declared.request.Mover.{Mover}
use Rattle.ir_packet.specs.declared.request.Mover.TheVariants as mover
use Rattle.ir_gdb.specs.declared.stopped.Told.{Told}
use Rattle.ir_gdb.specs.declared.stopped.Moving.{Moving}
use Rattle.ir_gdb.specs.Stub.{Stub}
use Rattle.ir_gdb.specs.Reads.{thread_of_id, current_of}
use Rattle.ir_gdb.specs.Together.{Halt, MovesAmong}
use Rattle.ir_gdb.specs.Over.{LeadsAlone, after_alone}
use Rattle.ir_gdb.specs.Endings.{ended, is_thread_over, told_or}

-- a stop, with the registers that spare gdb a `g`
abbrev pub stop_with : Told → Core → Stop
stop_with told core = record {
  interrupted = told.interrupted;
  thread = told.thread + 1;
  reason = told.reason;
  pc = core.pc;
  sp = register core 2;
  fp = register core 8;
  ra = register core 1;
}

-- the last stop: `?`, and the reply to a move
abbrev pub told_text : List Step → Stub → List ℕ
told_text run s = stop_reply_text (stop_with s.told (current_of run s s.told.thread).core)

-- a thread has stopped: it is general and current then
abbrev pub after_told : Stub → Told → Stub
after_told s told = record s { told = told; general = told.thread; current = told.thread; interrupted = false }

abbrev pub told_of : Halt → Told
told_of h = record { interrupted = false; thread = h.thread; reason = h.reason }

-- all threads have gone to the cut of a stop
abbrev pub all_at_stop : Stub → Halt → Stub
all_at_stop s h = after_told (record s { desk = moved_to s.desk h.cut }) (told_of h)

-- what gdb is told of a stop: the bad end to which the move has come, or the stop itself
abbrev pub told_at : Stub → Bool → Halt → Told
told_at s among h = told_or (ended s.desk.fitted s.desk.at h.cut h.thread (among && is_thread_over h.reason)) (told_of h)

-- all threads have gone to the cut of a stop, and gdb is told of it
abbrev pub arrived : Stub → Bool → Halt → Stub
arrived s among h = after_told (all_at_stop s h) (told_at s among h)

-- a thread is interrupted where it is
abbrev pub interrupted_at : ℕ → Told
interrupted_at t = record { interrupted = true; thread = t; reason = reason.Step }

abbrev pub moving : Bool → ℕ → Moving
moving among t = record { thread = t; among = among }

abbrev pub chosen_moving : ℕ → Option ℕ → Moving
chosen_moving current None = moving true current
chosen_moving current (Some t) = moving false t

-- the thread that moves, and whether the others may be stopped at their hits; none where there is no such thread
abbrev pub moving_of : Stub → Mover → Option Moving
moving_of s mover.Chosen = Some (chosen_moving s.current s.chosen)
moving_of s mover.Any = Some (moving true s.current)
moving_of s (mover.Alone id) = option_map (moving false) (thread_of_id s.desk.fitted id)
moving_of s (mover.Among id) = option_map (moving true) (thread_of_id s.desk.fitted id)

-- the stop to which a motion of a thread leads
abbrev pub MotionLeads : List Step → Stub → Bool → ℕ → Motion → Halt → Type 0
MotionLeads run s true t m h = MovesAmong run s t m h
MotionLeads run s false t m h = LeadsAlone run s t m h

-- whether gdb moves the threads together, as this move says
abbrev pub together_after : Stub → Moving → Motion → Bool
together_after s who m = if who.among then true else after_alone s who.thread m

abbrev pub with_together : Stub → Bool → Stub
with_together s together = record s { together = together }

-- a move, by whether gdb has interrupted it
abbrev pub MovesBy : Bool → List Step → Stub → Moving → Motion → Stub → Type 0
MovesBy true run s who m next = next ≡ after_told s (interrupted_at who.thread)
MovesBy false run s who m next = (h : Halt) × MotionLeads run s who.among who.thread m h × (next ≡ with_together (arrived s who.among h) (together_after s who m))

abbrev pub Moves : List Step → Stub → Moving → Motion → Stub → Type 0
Moves run s who m next = MovesBy s.interrupted run s who m next

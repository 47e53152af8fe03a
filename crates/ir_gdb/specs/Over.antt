-- A step of one thread alone. Where gdb moves the threads together it makes such a step over a breakpoint, which it has taken out for that.
use Rattle.std.specs.Prelude.{◌≡◌, ◌≢◌, ◌<◌, ◌==◌, ◌&&◌, ℕ, Bool, true, false, List, Option, Some, None, if◌then◌else◌}
use Rattle.ir_runs.specs.Run.{Step}
use Rattle.ir_cut.specs.Positions.{cut_of, threads_of, last_of, thread_at}
use Rattle.ir_command.specs.declared.command.Direction.TheVariants.{Forwards}
use Rattle.ir_command.specs.declared.hit.Hit.{Hit}
use Rattle.ir_hits.specs.Hits.{Numbered}
use Rattle.ir_hits.specs.Searching.{IsNextHit}
use Rattle.ir_packet.specs.declared.reply.Reason.{Reason}
use Rattle.ir_packet.specs.declared.reply.Reason.TheVariants as reason
use Rattle.ir_packet.specs.declared.request.Motion.{Motion}
use Rattle.ir_packet.specs.declared.request.Motion.TheVariants as motion
use Rattle.ir_gdb.specs.declared.stopped.Stopped.{Stopped}
use Rattle.ir_gdb.specs.Points.{upwards_of, with_stub_point}
use Rattle.ir_gdb.specs.Stub.{Stub}
use Rattle.ir_gdb.specs.Stops.{position_of, StepsTo}
use Rattle.ir_gdb.specs.Together.{Halt, halt, Comes, MovesAlone}

-- the pc of a thread
abbrev pub pc_here : List Step → Stub → ℕ → ℕ
pc_here run s t = (thread_at s.desk.fitted run t (position_of s t)).core.pc

-- the points of thread u, and a breakpoint where gdb has taken one out
abbrev pub points_over : Stub → ℕ → ℕ → List Numbered
points_over s pc u = with_stub_point (upwards_of s u false) u pc

-- the first hit of thread u on its way to a cut, if there is one. Conditions count for nothing: gdb lets all threads go on, and they are looked at then
abbrev pub OnWay : List Step → Stub → ℕ → List ℕ → ℕ → Option Hit → Type 0
OnWay run s pc cut u hit = IsNextHit s.desk.fitted run (points_over s pc u) u (position_of s u) (cut_of cut u) hit

-- whether thread u has a hit on its way
abbrev pub HasHit : Bool → List Step → Stub → ℕ → List ℕ → ℕ → Type 0
HasHit true run s pc cut u = (hit : Hit) × OnWay run s pc cut u (Some hit)
HasHit false run s pc cut u = OnWay run s pc cut u None

-- no thread below n but t has one
abbrev pub NoneHasHit : List Step → Stub → ℕ → List ℕ → ℕ → ℕ → Type 0
NoneHasHit run s pc cut t n = (u : ℕ) → u < n → u ≢ t → HasHit false run s pc cut u

-- whether a thread but t has one
abbrev pub OtherHasHit : Bool → List Step → Stub → ℕ → List ℕ → ℕ → Type 0
OtherHasHit true run s pc cut t = (u : ℕ) × (u < threads_of s.desk.fitted) × (u ≢ t) × HasHit true run s pc cut u
OtherHasHit false run s pc cut t = NoneHasHit run s pc cut t (threads_of s.desk.fitted)

-- whether a step of thread t to a cut would pass a hit of another, by whether the threads move together
abbrev pub PassesHit : Bool → Bool → List Step → Stub → List ℕ → ℕ → Type 0
PassesHit true passes run s cut t = OtherHasHit passes run s (pc_here run s t) cut t
PassesHit false passes run s cut t = passes ≡ false

-- a thread that comes to its last position waits there for ever
abbrev pub reason_over : ℕ → Stopped → Reason
reason_over last to = if to.position == last then reason.Waits else to.reason

-- where a hit would be passed nothing moves: the thread waits
abbrev pub stepped_over : Bool → Stub → ℕ → List ℕ → Stopped → Halt
stepped_over true s t cut to = halt t s.desk.at reason.Waits
stepped_over false s t cut to = halt t cut (reason_over (last_of s.desk.fitted t) to)

-- one step of a thread alone
abbrev pub StepsOver : List Step → Stub → ℕ → Halt → Type 0
StepsOver run s t h = (to : Stopped) × StepsTo run s t true to × ((cut : List ℕ) × Comes run s Forwards t to.position cut
    × ((passes : Bool) × PassesHit s.together passes run s cut t × (h ≡ stepped_over passes s t cut to)))

-- ---- a move of one thread alone

-- whether a stop says that a thread waits
abbrev pub is_waiting : Reason → Bool
is_waiting reason.Waits = true
is_waiting reason.Step = false
is_waiting reason.SoftwareBreak = false
is_waiting reason.HardwareBreak = false
is_waiting (reason.Watch address) = false
is_waiting reason.End = false
is_waiting reason.Begin = false
is_waiting (reason.Ended how) = false

-- whether the last stop says so of thread t
abbrev pub waits : Stub → ℕ → Bool
waits s t = (s.told.thread == t) && is_waiting s.told.reason

-- gdb lets a thread that waits go on freely, also where it was asked for one step: alone a `continue` then makes one step, and other moves stay
abbrev pub no_more : Motion → Motion
no_more motion.Step = motion.Step
no_more (motion.Range low high) = motion.Range low high
no_more motion.Continue = motion.Step
no_more motion.StepBack = motion.StepBack
no_more motion.ContinueBack = motion.ContinueBack

-- whether a motion is one step forwards
abbrev pub is_step : Motion → Bool
is_step motion.Step = true
is_step (motion.Range low high) = false
is_step motion.Continue = false
is_step motion.StepBack = false
is_step motion.ContinueBack = false

-- by whether the thread waits, and whether it is to make one step
abbrev pub LeadsBy : Bool → Bool → List Step → Stub → ℕ → Motion → Halt → Type 0
LeadsBy true step run s t m h = MovesAlone run s t (no_more m) h
LeadsBy false true run s t m h = StepsOver run s t h
LeadsBy false false run s t m h = MovesAlone run s t m h

abbrev pub LeadsAlone : List Step → Stub → ℕ → Motion → Halt → Type 0
LeadsAlone run s t m h = LeadsBy (waits s t) (is_step m) run s t m h

-- one step says nothing of the other threads
abbrev pub after_motion : Bool → Motion → Bool
after_motion together motion.Step = together
after_motion together (motion.Range low high) = false
after_motion together motion.Continue = false
after_motion together motion.StepBack = together
after_motion together motion.ContinueBack = false

-- whether gdb moves the threads together, after a move of thread t alone
abbrev pub after_alone : Stub → ℕ → Motion → Bool
after_alone s t m = if waits s t then false else after_motion s.together m

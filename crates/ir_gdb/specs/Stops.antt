-- Where a thread stops that moves alone, and why.
use Rattle.std.specs.Prelude.{◌≡◌, ◌<◌, ◌≤◌, ℕ, zero, suc, ◌+◌, ◌-◌, nat_lt, nat_le, ◌&&◌, Bool, true, false, List, slice_get, Option, Some, None, option_map, length, if◌then◌else◌}
use Rattle.ir_runs.specs.Run.{Step}
use Rattle.ir_cut.specs.Positions.{cut_of, last_of, thread_at}
use Rattle.ir_hits.specs.Searching.{IsNextHit}
use Rattle.ir_command.specs.declared.hit.Hit.{Hit}
use Rattle.ir_command.specs.declared.command.Direction.{Direction}
use Rattle.ir_command.specs.declared.command.Direction.TheVariants.{Forwards, Backwards}
use Rattle.ir_packet.specs.declared.reply.Reason.{Reason}
use Rattle.ir_packet.specs.declared.reply.Reason.TheVariants as reason
use Rattle.ir_packet.specs.declared.request.Motion.{Motion}
use Rattle.ir_packet.specs.declared.request.Motion.TheVariants as motion
use Rattle.ir_gdb.specs.declared.point.Watched.{Watched}
use Rattle.ir_gdb.specs.declared.stopped.Stopped.{Stopped}
use Rattle.ir_gdb.specs.Guards.{Guarded, place_of}
use Rattle.ir_gdb.specs.Points.{watch_points, watches_if}
use Rattle.ir_gdb.specs.Conditions.{StopsUpwards, StopsDownwards, IsFirstStop, IsNextStop, IsLastStop}
use Rattle.ir_gdb.specs.Stub.{Stub}

abbrev pub stopped : ℕ → Reason → Stopped
stopped k why = record { position = k; reason = why }

-- the position of a thread
abbrev pub position_of : Stub → ℕ → ℕ
position_of s t = cut_of s.desk.at t

-- ---- why a thread stops at a point

abbrev pub break_of : Bool → Reason
break_of true = reason.HardwareBreak
break_of false = reason.SoftwareBreak

abbrev pub reason_of_break : Option Guarded → Reason
reason_of_break None = reason.Step
reason_of_break (Some b) = break_of b.point.hardware

abbrev pub reason_of_watch : Option Watched → Reason
reason_of_watch None = reason.Step
reason_of_watch (Some w) = reason.Watch w.address

-- at the breakpoint of a place; without one at a point of the session
abbrev pub break_reason : List Guarded → ℕ → Reason
break_reason breaks n = reason_of_break (slice_get breaks n)

abbrev pub watch_reason : List Watched → ℕ → Reason
watch_reason watches n = reason_of_watch (slice_get watches n)

-- upwards a watch stops before the step that changes its word, or puts it: gdb takes that step itself
abbrev pub stop_above : List Watched → List Guarded → Hit → Stopped
stop_above watches breaks h =
    if nat_lt h.number (length watches) then stopped (h.position - 1) (watch_reason watches h.number)
    else stopped h.position (break_reason breaks (place_of h.number - length watches))

-- downwards it stops after that step, and gdb takes it back itself
abbrev pub stop_below : List Watched → List Guarded → Hit → Stopped
stop_below watches breaks h =
    if nat_lt (place_of h.number) (length breaks) then stopped h.position (break_reason breaks (place_of h.number))
    else stopped h.position (watch_reason watches (h.number - length breaks))

-- ---- forwards

-- why a thread at a position stays there, if a watch hits it at the next one
abbrev pub WatchNext : List Step → Stub → ℕ → Bool → ℕ → Option Reason → Type 0
WatchNext run s t watched p why = (hit : Option Hit) × IsNextHit s.desk.fitted run (watch_points t 0 (watches_if s watched)) t p (p + 1) hit
    × (why ≡ option_map (λ h. watch_reason (watches_if s watched) h.number) hit)

abbrev pub after_step : ℕ → Option Reason → Stopped
after_step p None = stopped (p + 1) reason.Step
after_step p (Some why) = stopped p why

-- by whether there is a step left
abbrev pub StepsBy : Bool → List Step → Stub → ℕ → Bool → ℕ → Stopped → Type 0
StepsBy true run s t watched p to = (why : Option Reason) × WatchNext run s t watched p why × (to ≡ after_step p why)
StepsBy false run s t watched p to = to ≡ stopped p reason.End

-- `s`
abbrev pub StepsTo : List Step → Stub → ℕ → Bool → Stopped → Type 0
StepsTo run s t watched to = StepsBy (nat_lt (position_of s t) (last_of s.desk.fitted t)) run s t watched (position_of s t) to

-- whether an address is in a range
abbrev pub is_in_range : ℕ → ℕ → ℕ → Bool
is_in_range low high address = nat_le low address && nat_lt address high

-- pc of a thread is in a range at each position above the first and below the second
abbrev pub StaysWithin : List Step → Stub → ℕ → ℕ → ℕ → ℕ → ℕ → Type 0
StaysWithin run s t low high from to = (j : ℕ) → from < j → j < to → is_in_range low high (thread_at s.desk.fitted run t j).core.pc ≡ true

-- the first position above a thread's own at which its pc isn't in a range, if there is one
abbrev pub Leaves : List Step → Stub → ℕ → ℕ → ℕ → Option ℕ → Type 0
Leaves run s t low high (Some k) = (position_of s t < k) × (k ≤ last_of s.desk.fitted t) × StaysWithin run s t low high (position_of s t) k
    × (is_in_range low high (thread_at s.desk.fitted run t k).core.pc ≡ false)
Leaves run s t low high None = StaysWithin run s t low high (position_of s t) (suc (last_of s.desk.fitted t))

abbrev pub end_of_range : ℕ → Option ℕ → ℕ
end_of_range last None = last
end_of_range last (Some k) = k

abbrev pub after_range : ℕ → Option ℕ → Stopped
after_range last None = stopped last reason.End
after_range last (Some k) = stopped k reason.Step

abbrev pub ranged : Stub → ℕ → Bool → Option ℕ → Option Hit → Stopped
ranged s t watched left None = after_range (last_of s.desk.fitted t) left
ranged s t watched left (Some h) = stop_above (watches_if s watched) s.breaks h

-- `r low,high`: until pc leaves the range, or a point hits on the way
abbrev pub RangesTo : List Step → Stub → ℕ → ℕ → ℕ → Bool → Stopped → Type 0
RangesTo run s t low high watched to = (left : Option ℕ) × Leaves run s t low high left × ((hit : Option Hit)
    × IsNextStop (StopsUpwards run s t watched) (position_of s t) (end_of_range (last_of s.desk.fitted t) left) hit
    × (to ≡ ranged s t watched left hit))

-- where a search upwards ends, by the hit that it finds
abbrev pub end_above : List Watched → List Guarded → ℕ → Option Hit → Stopped
end_above watches breaks last None = stopped last reason.End
end_above watches breaks last (Some h) = stop_above watches breaks h

abbrev pub above : Stub → ℕ → Bool → Option Hit → Stopped
above s t watched hit = end_above (watches_if s watched) s.breaks (last_of s.desk.fitted t) hit

-- `c`: to the next stop, or to the last position
abbrev pub ContinuesTo : List Step → Stub → ℕ → Bool → Stopped → Type 0
ContinuesTo run s t watched to = (hit : Option Hit) × IsFirstStop (StopsUpwards run s t watched) (position_of s t) hit
    × (to ≡ above s t watched hit)

-- ---- backwards

abbrev pub after_back : ℕ → Option Reason → Stopped
after_back p None = stopped p reason.Step
after_back p (Some why) = stopped (suc p) why

-- `bs`, from a position: none before 0, no motion where a watch hits at the position itself
abbrev pub StepsBackBy : List Step → Stub → ℕ → Bool → ℕ → Stopped → Type 0
StepsBackBy run s t watched zero to = to ≡ stopped 0 reason.Begin
StepsBackBy run s t watched (suc p) to = (why : Option Reason) × WatchNext run s t watched p why × (to ≡ after_back p why)

abbrev pub StepsBackTo : List Step → Stub → ℕ → Bool → Stopped → Type 0
StepsBackTo run s t watched to = StepsBackBy run s t watched (position_of s t) to

-- where a search downwards ends
abbrev pub end_below : List Watched → List Guarded → Option Hit → Stopped
end_below watches breaks None = stopped 0 reason.Begin
end_below watches breaks (Some h) = stop_below watches breaks h

abbrev pub below : Stub → Bool → Option Hit → Stopped
below s watched hit = end_below (watches_if s watched) s.breaks hit

-- to the last stop below the thread's position, or to 0
abbrev pub StopsBelow : List Step → Stub → ℕ → Bool → Stopped → Type 0
StopsBelow run s t watched to = (hit : Option Hit) × IsLastStop (StopsDownwards run s t watched) (position_of s t) hit
    × (to ≡ below s watched hit)

-- by the watch that hits at the position itself: no motion
abbrev pub BackBy : List Step → Stub → ℕ → Bool → ℕ → Option Reason → Stopped → Type 0
BackBy run s t watched p None to = StopsBelow run s t watched to
BackBy run s t watched p (Some why) to = to ≡ stopped p why

abbrev pub ContinuesBackBy : List Step → Stub → ℕ → Bool → ℕ → Stopped → Type 0
ContinuesBackBy run s t watched zero to = to ≡ stopped 0 reason.Begin
ContinuesBackBy run s t watched (suc p) to = (why : Option Reason) × WatchNext run s t watched p why × BackBy run s t watched (suc p) why to

-- `bc`
abbrev pub ContinuesBackTo : List Step → Stub → ℕ → Bool → Stopped → Type 0
ContinuesBackTo run s t watched to = ContinuesBackBy run s t watched (position_of s t) to

-- ---- all of them

abbrev pub direction_of : Motion → Direction
direction_of motion.Step = Forwards
direction_of (motion.Range low high) = Forwards
direction_of motion.Continue = Forwards
direction_of motion.StepBack = Backwards
direction_of motion.ContinueBack = Backwards

-- where a thread stops that continues in a direction
abbrev pub StopsInDirection : Direction → List Step → Stub → ℕ → Bool → Stopped → Type 0
StopsInDirection Forwards run s t watched to = ContinuesTo run s t watched to
StopsInDirection Backwards run s t watched to = ContinuesBackTo run s t watched to

-- where a thread stops that moves so; watches count
abbrev pub MovesTo : List Step → Stub → ℕ → Motion → Stopped → Type 0
MovesTo run s t motion.Step to = StepsTo run s t true to
MovesTo run s t (motion.Range low high) to = RangesTo run s t low high true to
MovesTo run s t motion.Continue to = StopsInDirection Forwards run s t true to
MovesTo run s t motion.StepBack to = StepsBackTo run s t true to
MovesTo run s t motion.ContinueBack to = StopsInDirection Backwards run s t true to

-- whether it is a hit, and not that there is no step more in the direction
abbrev pub is_hit : Reason → Bool
is_hit reason.Step = true
is_hit reason.SoftwareBreak = true
is_hit reason.HardwareBreak = true
is_hit (reason.Watch address) = true
is_hit reason.End = false
is_hit reason.Begin = false
is_hit (reason.Ended how) = false
is_hit reason.Waits = false

-- why all threads stop that have no hit in a direction
abbrev pub reason_at_end : Direction → Reason
reason_at_end Forwards = reason.End
reason_at_end Backwards = reason.Begin

-- Where threads stop is at one of their positions.
use Rattle.std.proofs.Common.{◌≡◌, ◌≤◌, ◌-◌, ℕ, Bool, true, false, List, length, Option, Some, None, sym, ap, subst, arith}
use Rattle.std.specs.Prelude.{nat_lt, if◌then◌else◌}
use Rattle.ir_fit.specs.Fit.{HasRun}
use Rattle.ir_cut.specs.Positions.{EachRun, last_of}
use Rattle.ir_command.specs.declared.hit.Hit.{Hit}
use Rattle.ir_packet.specs.declared.reply.Reason.{Reason}
use Rattle.ir_gdb.specs.declared.point.Watched.{Watched}
use Rattle.ir_gdb.specs.Guards.{Guarded, place_of}
use Rattle.ir_gdb.specs.declared.stopped.Stopped.{Stopped}
use Rattle.ir_gdb.specs.Stub.{Stub}
use Rattle.ir_gdb.specs.Conditions.{StopsDownwards, IsLastStop}
use Rattle.ir_gdb.specs.Stops.{stopped, position_of, stop_above, stop_below, end_below, watch_reason, break_reason}

either_stop_is_within : (b : Bool) (k last : ℕ) (why other : Reason) → k ≤ last → (if b then stopped (k - 1) why else stopped k other).position ≤ last
either_stop_is_within true k last why other le = omega (arith, le)
either_stop_is_within false k last why other le = le

pub stop_above_within_last : (watches : List Watched) (breaks : List Guarded) (h : Hit) (last : ℕ) → h.position ≤ last
    → (stop_above watches breaks h).position ≤ last
stop_above_within_last watches breaks h last le =
    either_stop_is_within (nat_lt h.number (length watches)) h.position last (watch_reason watches h.number) (break_reason breaks (place_of h.number - length watches)) le

either_stop_at_is_within : (b : Bool) (k last : ℕ) (why other : Reason) → k ≤ last → (if b then stopped k why else stopped k other).position ≤ last
either_stop_at_is_within true k last why other le = le
either_stop_at_is_within false k last why other le = le

pub stop_below_within_last : (watches : List Watched) (breaks : List Guarded) (h : Hit) (last : ℕ) → h.position ≤ last
    → (stop_below watches breaks h).position ≤ last
stop_below_within_last watches breaks h last le =
    either_stop_at_is_within (nat_lt (place_of h.number) (length breaks)) h.position last (break_reason breaks (place_of h.number)) (watch_reason watches (h.number - length breaks)) le

-- where a search ends is at one of the thread's positions
pub last_stop_end_within_last : (s : Stub) (t here : ℕ) (w : Bool) (watches : List Watched) (breaks : List Guarded) (hit : Option Hit) (to : Stopped)
    → HasRun s.desk.fitted → here ≡ position_of s t → here ≤ last_of s.desk.fitted t
    → EachRun s.desk.fitted (λ run. IsLastStop (StopsDownwards run s t w) (position_of s t) hit) → to ≡ end_below watches breaks hit
    → to.position ≤ last_of s.desk.fitted t
last_stop_end_within_last s t here w watches breaks None to has at le finds is = let ends = ap (λ (x : Stopped). x.position) is in omega (arith, ends)
last_stop_end_within_last s t here w watches breaks (Some h) to has at le finds is =
    let below = (finds has.run has.whole).0 in
    subst (λ (x : Stopped). x.position ≤ last_of s.desk.fitted t) (sym is)
    (stop_below_within_last watches breaks h (last_of s.desk.fitted t) (omega (arith, below, at, le)))

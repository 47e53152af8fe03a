-- What the run with a trace is shrunk to, and why it isn't.
use Rattle.std.proofs.Common.{◌≡◌, ◌≤◌, ℕ, true, false, Bool, List, length, map, Some, refl, sym, subst}
use Rattle.std.specs.Prelude.{◌≢◌, Result, Ok, Err, OnOk, OnErr}
use Rattle.std.specs.Result.{is_err}
use Rattle.ir_flat.specs.Flat.{Flat}
use Rattle.ir_image.specs.Guest.{Guest, guest_at}
use Rattle.ir_order.specs.Spelling.{IsListOf}
use Rattle.ir_order.proofs.CallerLemmas.{list_recordings_of_run, nonempty_list_spells}
use Rattle.ir_record.specs.Recording.{IsTraceOf, turns_of_items}
use Rattle.ir_record.specs.declared.item.Item.{Item}
use Rattle.ir_record_command.specs.Faults.{RefusesRecord}
use Rattle.ir_record_command.specs.Recording.{IsRecordedOf}
use Rattle.ir_record_command.specs.declared.record_fault.RecordFault.{RecordFault}
use Rattle.ir_record_command.specs.declared.record_fault.RecordFault.TheVariants.{Clock, NoMem, Order}
use Rattle.ir_hunt.specs.Finding.{by_list}
use Rattle.ir_trace.specs.Recorded.{Recorded}
use Rattle.ir_shrink.specs.Judging.{IsVerdict}
use Rattle.ir_shrink.specs.Played.{IsPlayed}
use Rattle.ir_shrink.specs.Shrinking.{goal_of, IsKeptRun, IsMinimal, IsOrderOf}
use Rattle.ir_shrink.specs.Stale.{IsTraceInTurns}
use Rattle.ir_shrink.specs.Stopping.{IsShrinking, IsShrunkIn, HasOtherTrace, HasUnmet, HasUnwanted, RefusesRun, RefusesShrink}
use Rattle.ir_shrink.specs.Switches.{thread_changes}
use Rattle.ir_shrink.specs.declared.judging.Verdict.TheVariants.{Unmet, Stale}
use Rattle.ir_shrink.specs.declared.plan.ShrinkPlan.{ShrinkPlan}
use Rattle.ir_shrink.specs.declared.refusal.Refusal.{Refusal}
use Rattle.ir_shrink.specs.declared.refusal.Refusal.TheVariants as refusal
use Rattle.ir_shrink.proofs.Judged.{switches_of_taken}

-- ---- a run that was followed to its end, and its trace

module _ (guest : Guest) (plan : ShrinkPlan) (items taken : List Item) (flat : Flat) (p : IsPlayed guest plan.record items taken flat) (own : Recorded)
    (by : IsTraceInTurns guest plan.record (turns_of_items taken) own) where
  -- if it is the trace that is given, these items are an order of the run with it
  pub played_is_order : (trace : Recorded) (count : ℕ) → own ≡ trace → count ≡ thread_changes (map (λ t. t.0) (turns_of_items taken))
      → IsOrderOf guest plan.record trace taken count
  played_is_order trace count same is = record {
    run = p.run;
    in_turns = p.in_turns;
    traces = subst (λ z. IsTraceOf guest plan.record.budget plan.record.profile p.run z) same (by p.run p.in_turns).1.trace_of;
    switches_are = switches_of_taken guest plan items taken flat p count is;
  }

  -- which doesn't fulfil the condition at a place
  pub played_is_unmet : (trace : Recorded) (place : ℕ) → own ≡ trace → IsVerdict (goal_of guest plan) p.run (Unmet place)
      → HasUnmet (goal_of guest plan) trace place
  unfolding played_is_order
  played_is_unmet trace place same fails = record {
    items = taken;
    count = thread_changes (map (λ t. t.0) (turns_of_items taken));
    order = played_is_order trace (thread_changes (map (λ t. t.0) (turns_of_items taken))) same refl;
    fails = fails;
  }

  -- or hasn't what is wanted of its stale writes
  pub played_is_unwanted : (trace : Recorded) → own ≡ trace → IsVerdict (goal_of guest plan) p.run Stale → HasUnwanted (goal_of guest plan) trace
  unfolding played_is_order
  played_is_unwanted trace same fails = record {
    items = taken;
    count = thread_changes (map (λ t. t.0) (turns_of_items taken));
    order = played_is_order trace (thread_changes (map (λ t. t.0) (turns_of_items taken))) same refl;
    fails = fails;
  }

  -- else it has another
  pub played_has_other : (trace : Recorded) → own ≢ trace → HasOtherTrace guest plan.record trace
  played_has_other trace differs = record {
    items = taken;
    run = p.run;
    in_turns = p.in_turns;
    other = own;
    traces = (by p.run p.in_turns).1.trace_of;
    differs = differs;
  }

-- ---- why a run isn't shrunk

-- memory ran out
pub memory_refuses_shrink : (image : List ℕ) (plan : ShrinkPlan) (trace : Recorded) → RefusesShrink (refusal.Fault NoMem) image plan trace
memory_refuses_shrink image plan trace = record { refused = tt; no_clock = λ e. cc e; no_list = λ n e. cc e }

-- the image's guest is refused
pub guest_refuses_shrink : (e : RecordFault) (image : List ℕ) (plan : ShrinkPlan) (trace : Recorded) → RefusesRecord e image plan.record
    → ((n : ℕ) → e ≢ Order n) × (e ≢ Clock) → RefusesShrink (refusal.Fault e) image plan trace
guest_refuses_shrink e image plan trace refused only = record { refused = refused; no_clock = only.1; no_list = only.0 }

-- or its run is
pub run_refuses_shrink : (e : Refusal) (image : List ℕ) (guest : Guest) (plan : ShrinkPlan) (trace : Recorded) → guest_at image ≡ Ok guest
    → RefusesRun e (goal_of guest plan) trace → ((f : RecordFault) → e ≡ refusal.Fault f → f ≡ NoMem) → RefusesShrink e image plan trace
run_refuses_shrink (refusal.Fault f) image guest plan trace is h memory =
    subst (λ z. RefusesShrink (refusal.Fault z) image plan trace) (sym (memory f refl)) (memory_refuses_shrink image plan trace)
run_refuses_shrink refusal.Other image guest plan trace is h memory = (guest, is, h)
run_refuses_shrink (refusal.Unmet place) image guest plan trace is h memory = (guest, is, h)
run_refuses_shrink refusal.Stale image guest plan trace is h memory = (guest, is, h)

-- ---- what it is shrunk to

-- the list of the items spells the order of the run that it is shrunk to
pub found_is_shrunk : (image : List ℕ) (guest : Guest) (plan : ShrinkPlan) (trace : Recorded) (given items : List Item) (before after : ℕ) (list : List ℕ) (is_minimal : Bool)
    → guest_at image ≡ Ok guest → IsOrderOf guest plan.record trace given before → IsKeptRun (goal_of guest plan) items after → after ≤ before
    → (is_minimal ≡ true → IsMinimal (goal_of guest plan) items after) → (is_minimal ≡ false → (s : ℕ) × (plan.seconds ≡ Some s))
    → IsListOf list (turns_of_items items) → IsShrunkIn image plan trace before after list is_minimal
found_is_shrunk image guest plan trace given items before after list is_minimal is order kept fewer minimal over spells = record {
  guest = guest;
  is = is;
  items = items;
  shrunk = record { given = given; order = order; kept = kept; fewer = fewer; minimal = minimal };
  spelled = nonempty_list_spells list (turns_of_items items) spells kept.some (length guest.entries) kept.of_threads;
  over = over;
}

-- what is recorded with the list is of that run
pub shrunk_is_shrinking : (image : List ℕ) (plan : ShrinkPlan) (trace : Recorded) (before after : ℕ) (list : List ℕ) (is_minimal : Bool) (recorded : Recorded)
    (printed : List (List ℕ)) → IsShrunkIn image plan trace before after list is_minimal → IsRecordedOf image (by_list plan.record list) recorded printed
    → IsShrinking image plan trace before after list is_minimal recorded printed
shrunk_is_shrinking image plan trace before after list is_minimal recorded printed h r = record {
  is = h;
  of_run = list_recordings_of_run image h.guest (by_list plan.record list) list (turns_of_items h.items) h.shrunk.kept.run recorded printed h.is refl h.spelled
      h.shrunk.kept.in_turns r;
}

-- whether a call failed says which of its facts holds
pub is_err_tells_which : {A E : Type 0} (r : Result A E) (b : Bool) (P Q : Type 0) → OnOk r P → OnErr r Q → is_err r ≡ b → (b ≡ true → Q) × (b ≡ false → P)
is_err_tells_which (Ok x) b P Q h k e = (λ t. absurd (cc (e, t)), λ f. h)
is_err_tells_which (Err x) b P Q h k e = (λ t. k, λ f. absurd (cc (e, f)))

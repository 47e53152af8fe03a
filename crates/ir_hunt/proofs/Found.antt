-- What was found, and what is recorded of it.
use Rattle.std.proofs.Common.{◌≡◌, ◌<◌, ◌≤◌, ℕ, zero, suc, List, [], ◌++◌, ◌⊎◌, inl, inr, length, get_or, Bool, Option, Some, None, true, false, sym, ap, ◌∙◌, subst, refl}
use Rattle.std.specs.Prelude.{◌≢◌, replicate}
use Rattle.std.specs.List.{list_all, AllByRecursion}
use Rattle.ir_image.specs.Guest.{Guest}
use Rattle.ir_flat.specs.Flat.{tables, machine}
use Rattle.ir_flat.proofs.CallerLemmas.{length_of_start_threads}
use Rattle.ir_runs.specs.Run.{Step, log}
use Rattle.ir_runs.specs.Orders.{IsByOrder}
use Rattle.ir_trace.specs.Recorded.{Recorded}
use Rattle.ir_record.specs.Worlds.{answers_at, AnsweredCall, answers_in}
use Rattle.ir_record.specs.Recording.{order_of_turns}
use Rattle.ir_world.specs.Sources.{origin_of, IsAnsweredFrom}
use Rattle.ir_record_command.specs.Plan.{Plan}
use Rattle.ir_record_command.specs.Recording.{IsRecordedOf}
use Rattle.ir_order.specs.Recording.{IsPlanned}
use Rattle.ir_order.specs.Spelling.{Spells}
use Rattle.ir_order.proofs.CallerLemmas.{complete_have_steps, plain_recordings_of_run}
use Rattle.ir_schedule.proofs.CallerLemmas.{schedules_are_orders, schedules_of_threads}
use Rattle.ir_schedule.specs.Conditions.{fulfils, end_state}
use Rattle.ir_schedule.specs.Moments.{Moment}
use Rattle.ir_schedule.specs.Schedules.{IsSchedule, chosen_threads}
use Rattle.ir_schedule.specs.Choices.{chooser_of}
use Rattle.ir_schedule.specs.declared.chooser.Chooser.{Chooser}
use Rattle.ir_hunt.specs.Finding.{has_tries, first_flat, IsJudged, IsFound, by_list}
use Rattle.ir_hunt.specs.Hunt.{Hunt}
use Rattle.ir_hunt.specs.Hunted.{IsFoundIn, IsFinding}
use Rattle.ir_hunt.specs.Seeking.{RanBy}
use Rattle.ir_hunt.specs.Stale.{IsWanted, FulfilsStale, FailsStale}
use Rattle.ir_hunt.specs.Tried.{Fails}
use Rattle.ir_hunt.specs.declared.plan.HuntPlan.{HuntPlan}

-- no world had answered
replicated_empty_is : (n t : ℕ) → get_or {A = List AnsweredCall} (replicate n []) t [] ≡ []
replicated_empty_is zero t = refl
replicated_empty_is (suc n) zero = refl
replicated_empty_is (suc n) (suc t) = replicated_empty_is n t

-- a run by a chooser to its end is the run by the order of its turns
schedule_run_by_order : (guest : Guest) (plan : Plan) (chooser : Chooser) (run : List Step)
    → IsSchedule (has_tries plan.profile) (machine (first_flat guest plan)) (length (first_flat guest plan).threads) (tables (first_flat guest plan)) chooser run
    → IsByOrder (machine (first_flat guest plan)) (tables (first_flat guest plan)) (length guest.entries) (chosen_threads run) run
schedule_run_by_order guest plan chooser run h = schedules_are_orders (has_tries plan.profile) (machine (first_flat guest plan)) (length guest.entries)
    (tables (first_flat guest plan)) chooser run
    (subst (λ n. IsSchedule (has_tries plan.profile) (machine (first_flat guest plan)) n (tables (first_flat guest plan)) chooser run)
    (length_of_start_threads guest plan.budget plan.profile 0 (length guest.entries)) h)

-- a run by a chooser to its end is planned by the order of its turns
run_is_planned : (guest : Guest) (plan : Plan) (chooser : Chooser) (b : Moment) (h : RanBy guest plan chooser b)
    → ((t : ℕ) → t < length guest.entries → IsAnsweredFrom (origin_of true plan.random plan.input t) (answers_at b.answers t))
    → IsPlanned guest plan (order_of_turns b.turns) h.run
run_is_planned guest plan chooser b h answered = record {
  by_order = subst (λ o. IsByOrder (machine (first_flat guest plan)) (tables (first_flat guest plan)) (length guest.entries) o h.run)
      (sym h.gained.order) (schedule_run_by_order guest plan chooser h.run h.schedule);
  answered = λ t l. subst (IsAnsweredFrom (origin_of true plan.random plan.input t))
      (h.gained.answers t (subst (λ n. t < n) (sym (length_of_start_threads guest plan.budget plan.profile 0 (length guest.entries))) l)
      ∙ ap (λ z. z ++ answers_in (log (machine (first_flat guest plan)) (tables (first_flat guest plan)) h.run t))
      (replicated_empty_is (length guest.entries) t)) (answered t l);
}

-- what is found of what it came to
run_is_judged : (hunt : Hunt) (chooser : Chooser) (b : Moment) (h : RanBy hunt.guest hunt.plan chooser b) (holds : Bool)
    → list_all (λ c. fulfils c (end_state b.flat)) hunt.conditions ≡ holds → IsJudged hunt h.run holds
run_is_judged hunt chooser b h holds is = record {
  flat = b.flat;
  came = record { ends = h.gained.ends; threads = h.gained.threads; objects = h.gained.objects };
  each = is;
}

-- the turns of a run to its end are of the guest's threads
turns_of_guest_threads : (guest : Guest) (plan : Plan) (chooser : Chooser) (b : Moment) → RanBy guest plan chooser b
    → AllByRecursion (λ t. t < length guest.entries) (order_of_turns b.turns)
turns_of_guest_threads guest plan chooser b h = subst (AllByRecursion (λ t. t < length guest.entries)) (sym h.gained.order)
    (schedules_of_threads (has_tries plan.profile) (machine (first_flat guest plan)) (length guest.entries) (tables (first_flat guest plan)) chooser
    h.run (subst (λ n. IsSchedule (has_tries plan.profile) (machine (first_flat guest plan)) n (tables (first_flat guest plan)) chooser h.run)
    (length_of_start_threads guest plan.budget plan.profile 0 (length guest.entries)) h.schedule))

-- and there are some
pub turns_are_not_empty : (guest : Guest) (plan : Plan) (chooser : Chooser) (b : Moment) → 1 ≤ length guest.entries → RanBy guest plan chooser b
    → order_of_turns b.turns ≢ []
turns_are_not_empty guest plan chooser b some h none = complete_have_steps guest plan.budget plan.profile h.run some h.schedule.done
    (sym h.gained.order ∙ none)

-- a run by an order whose runs have what is wanted of them has it
planned_fulfils_stale : (guest : Guest) (plan : Plan) (order : List ℕ) (wanted : Option Bool) (run : List Step) → IsWanted guest plan order wanted true
    → IsPlanned guest plan order run → FulfilsStale guest plan wanted run
planned_fulfils_stale guest plan order None run h planned = tt
planned_fulfils_stale guest plan order (Some has) run h planned = h run planned

-- and if none of its runs has it, the run hasn't
planned_run_fails_stale : (guest : Guest) (plan : Plan) (order : List ℕ) (wanted : Option Bool) (run : List Step) → IsWanted guest plan order wanted false
    → IsPlanned guest plan order run → FailsStale guest plan wanted run
planned_run_fails_stale guest plan order None run h planned = absurd cc
planned_run_fails_stale guest plan order (Some has) run h planned = h run planned

-- the list of a seed's turns, where what its run came to fulfils each condition, and the run has what is wanted of its stale writes
pub fulfilled_seed_is_found : (hunt : Hunt) (seed : ℕ) (b : Moment) (list : List ℕ)
    → RanBy hunt.guest hunt.plan (chooser_of hunt.way seed (length hunt.guest.entries) hunt.choices) b
    → ((t : ℕ) → t < length hunt.guest.entries → IsAnsweredFrom (origin_of true hunt.plan.random hunt.plan.input t) (answers_at b.answers t))
    → list_all (λ c. fulfils c (end_state b.flat)) hunt.conditions ≡ true → IsWanted hunt.guest hunt.plan (order_of_turns b.turns) hunt.wanted true
    → Spells list (order_of_turns b.turns) → IsFound hunt seed list
fulfilled_seed_is_found hunt seed b list h answered holds stale spells =
    let chooser = chooser_of hunt.way seed (length hunt.guest.entries) hunt.choices in
    let planned = run_is_planned hunt.guest hunt.plan chooser b h answered in
    record {
      order = order_of_turns b.turns;
      spelled = spells (length hunt.guest.entries) (turns_of_guest_threads hunt.guest hunt.plan chooser b h);
      run = h.run;
      of_seed = h.schedule;
      planned = planned;
      fulfilled = run_is_judged hunt chooser b h true holds;
      stale = planned_fulfils_stale hunt.guest hunt.plan (order_of_turns b.turns) hunt.wanted h.run stale planned;
    }

fails_in_one_way : (hunt : Hunt) (chooser : Chooser) (b : Moment) (h : RanBy hunt.guest hunt.plan chooser b)
    → IsPlanned hunt.guest hunt.plan (order_of_turns b.turns) h.run
    → (list_all (λ c. fulfils c (end_state b.flat)) hunt.conditions ≡ false) ⊎ IsWanted hunt.guest hunt.plan (order_of_turns b.turns) hunt.wanted false
    → IsJudged hunt h.run false ⊎ FailsStale hunt.guest hunt.plan hunt.wanted h.run
fails_in_one_way hunt chooser b h planned (inl some) = inl (run_is_judged hunt chooser b h false some)
fails_in_one_way hunt chooser b h planned (inr stale) = inr (planned_run_fails_stale hunt.guest hunt.plan (order_of_turns b.turns) hunt.wanted h.run stale planned)

-- a seed's run that came to its end and doesn't fulfil some condition, or hasn't what is wanted of its stale writes
pub fails_if_seed_run_does : (hunt : Hunt) (seed : ℕ) (b : Moment)
    → RanBy hunt.guest hunt.plan (chooser_of hunt.way seed (length hunt.guest.entries) hunt.choices) b
    → ((t : ℕ) → t < length hunt.guest.entries → IsAnsweredFrom (origin_of true hunt.plan.random hunt.plan.input t) (answers_at b.answers t))
    → (list_all (λ c. fulfils c (end_state b.flat)) hunt.conditions ≡ false) ⊎ IsWanted hunt.guest hunt.plan (order_of_turns b.turns) hunt.wanted false
    → Fails hunt seed
fails_if_seed_run_does hunt seed b h answered fails =
    let chooser = chooser_of hunt.way seed (length hunt.guest.entries) hunt.choices in
    let planned = run_is_planned hunt.guest hunt.plan chooser b h answered in
    record { run = h.run; order = order_of_turns b.turns; of_seed = h.schedule; planned = planned; fails = fails_in_one_way hunt chooser b h planned fails }

-- a recording by the list is of the run that was found
pub found_is_finding : (image : List ℕ) (plan : HuntPlan) (left_out seed : ℕ) (list : List ℕ) (trace : Recorded) (outputs : List (List ℕ))
    → IsFoundIn image plan left_out seed list → IsRecordedOf image (by_list plan.record list) trace outputs → IsFinding image plan left_out seed list trace outputs
found_is_finding image plan left_out seed list trace outputs found r =
    let run = found.lowest.found in
    record {
      is = found;
      recorded = plain_recordings_of_run image found.guest (by_list plan.record list) list run.order run.run trace outputs found.is refl
          run.spelled run.planned r;
    }

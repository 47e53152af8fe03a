-- The outcome that is recorded.
use Rattle.std.proofs.Common.{◌≡◌, ℕ, ◌<◌, ◌≤◌, true, Some, List, [], ◌∷◌, length, map, refl, ap, ◌∙◌, subst, arith, inl, inr}
use Rattle.std.specs.Prelude.{◌≢◌, Ok}
use Rattle.std.specs.List.{AllByRecursion}
use Rattle.std.proofs.lemmas.Bool.{cases_lt}
use Rattle.ir_lemmas.proofs.CallerLemmas.{same_head, same_tail}
use Rattle.ir_schedule.specs.Conditions.{Condition}
use Rattle.ir_flat.proofs.CallerLemmas.{guest_start_is_idle}
use Rattle.ir_flat.specs.Flat.{start_flat, tables}
use Rattle.ir_graph.specs.Outcomes.{run_outcome}
use Rattle.ir_graph.specs.Setup.{Setup}
use Rattle.ir_image.specs.Guest.{Guest, guest_at}
use Rattle.ir_order.proofs.CallerLemmas.{complete_have_steps, list_recordings_of_run}
use Rattle.ir_order.specs.Spelling.{SpellsTurns}
use Rattle.ir_outcomes.specs.Again.{TakesEach}
use Rattle.ir_outcomes.specs.Explored.{ShowsState, AreExplored}
use Rattle.ir_outcomes.specs.Shown.{IsShown}
use Rattle.ir_outcomes.specs.declared.shown.Shown.{Shown}
use Rattle.ir_record.specs.Recording.{turns_of_items}
use Rattle.ir_record.specs.Refusing.{Turn}
use Rattle.ir_record_command.specs.Recording.{IsRecordedOf}
use Rattle.ir_runs.proofs.CallerLemmas.{later_threads_stay_done}
use Rattle.ir_runs.specs.Machine.{target, act_of, Admits}
use Rattle.ir_runs.specs.Run.{State, Step, IsRun, after, log}
use Rattle.ir_runs.specs.Bounds.{IsIdle}
use Rattle.ir_state_store.specs.Nodes.{SourcedFlat}
use Rattle.ir_thread.specs.State.{most_budget, thread_machine}
use Rattle.ir_thread.specs.State as thread
use Rattle.ir_trace.specs.Recorded.{Recorded}
use Rattle.ir_explore.specs.Conditions.{fulfils_each, NoneBefore}
use Rattle.ir_explore.specs.Plan.{ExplorePlan, setup_of}
use Rattle.ir_explore.specs.Until.{recording, IsHit, IsHitText, IsOutcomeFinding}
use Rattle.ir_explore.proofs.Answered.{log_answered_by_world}
use Rattle.ir_explore.proofs.Fulfilled.{never_within_level}

-- who steps is one of the guest's threads
pub taken_turns_below : (code : List ℕ) (n : ℕ) (s : State thread.ThreadState) (turns : List Turn) (steps : List Step) → IsIdle (thread_machine code) s n
    → IsRun (thread_machine code) s steps → TakesEach turns steps → AllByRecursion (λ t. t.0 < n) turns
taken_turns_below code n s [] steps rest ok taken = tt
taken_turns_below code n s (t ∷ turns) [] rest ok taken = absurd (cc taken)
taken_turns_below code n s (t ∷ turns) (e ∷ steps) rest ok taken =
    let own : e.0 ≡ t.0 = same_head e.0 t.0 (map (λ (e : Step). e.0) steps) (map (λ (t : Turn). t.0) turns) taken in
    let less : e.0 < n = elim (cases_lt e.0 n) [
      | inl l ↦ l
      | inr g ↦ absurd (subst (λ q. Admits (thread_machine code) (act_of q e.1) (s.objects (target (act_of q e.1)))) (rest e.0 g) ok.0)
    ] in (
      subst (λ z. z < n) own less,
      taken_turns_below code n (after (thread_machine code) s e) turns steps (later_threads_stay_done (thread_machine code) s n rest e ok.0) ok.1
          (same_tail e.0 t.0 (map (λ (e : Step). e.0) steps) (map (λ (t : Turn). t.0) turns) taken),
    )

-- an order of a complete run isn't empty
pub shown_order_nonempty : (setup : Setup) (s : SourcedFlat) (level : ℕ) (turns : List Turn) → 1 ≤ length setup.guest.entries
    → IsShown setup s level turns → turns ≢ []
shown_order_nonempty setup s level turns some shown none =
    complete_have_steps setup.guest most_budget setup.profile shown.steps some shown.counted.complete.1
    (shown.taken ∙ ap (λ o. map (λ (t : Turn). t.0) o) none)

-- the run by the order of an outcome that fulfils each condition
abbrev pub is_hit_if_shown_outcome_is_first_to_fulfil : (guest : Guest) (plan : ExplorePlan) (cs : List Condition) (flats : List SourcedFlat) (outcomes : List Shown) (levels place : ℕ)
    (x : Shown) (s : SourcedFlat) (list : List ℕ) → AreExplored (setup_of guest plan) flats levels outcomes → ShowsState flats outcomes place x s
    → NoneBefore guest cs flats outcomes place → fulfils_each guest cs (run_outcome (tables s.flat)) ≡ true
    → SpellsTurns list (turns_of_items x.turns.items) → IsHit guest plan cs x.level list
is_hit_if_shown_outcome_is_first_to_fulfil guest plan cs flats outcomes levels place x s list e at none does spells =
    let setup = setup_of guest plan in
    let turns = turns_of_items x.turns.items in
    let shown : IsShown setup s x.level turns = e.shown place x s at in
    let first = tables (start_flat guest most_budget plan.profile) in
    let least = e.fewest place x s at most_budget shown.steps shown.counted shown.same in
    let few = shown.few in record {
      turns = turns;
      spelled = spells (length guest.entries)
          (taken_turns_below guest.code (length guest.entries) first turns shown.steps (guest_start_is_idle guest most_budget plan.profile)
          shown.counted.complete.0 shown.taken);
      run = shown.steps;
      counted = shown.counted;
      planned = record {
        by_turns = shown.by_turns;
        answered = λ t less.
            log_answered_by_world setup t (log (thread_machine guest.code) first shown.steps t) less (shown.counted.answered t);
      };
      fulfilled = ap (fulfils_each guest cs) shown.same ∙ does;
      switched = omega (arith, least, few);
      fewest = never_within_level setup cs flats outcomes levels place x e at.0 none;
    }

-- a recording by the list is of the run that was found
pub hit_recording_finding : (image : List ℕ) (plan : ExplorePlan) (cs : List Condition) (list text : List ℕ) (trace : Recorded) (outputs : List (List ℕ)) (guest : Guest)
    → guest_at image ≡ Ok guest → IsHitText guest plan cs list text → IsRecordedOf image (recording plan (Some list)) trace outputs
    → IsOutcomeFinding image plan cs list text trace outputs
hit_recording_finding image plan cs list text trace outputs guest is found r = record {
  guest = guest;
  is = is;
  found = found;
  recorded = list_recordings_of_run image guest (recording plan (Some list)) list found.hit.turns found.hit.run trace outputs is refl found.hit.spelled
      found.hit.planned r;
}

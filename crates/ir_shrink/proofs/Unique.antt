-- The run by items is one.
use Rattle.std.proofs.Common.{◌≡◌, ◌≤◌, ℕ, zero, suc, ◌+◌, true, Bool, List, [], ◌∷◌, ◌++◌, length, map, refl, sym, ap, ◌∙◌, subst, arith, inl, inr, append-nil, append_assoc}
use Rattle.std.specs.Prelude.{Option, Some, None, ◌⊎◌}
use Rattle.ir_flat.specs.Flat.{Flat, start_flat, tables, machine}
use Rattle.ir_hunt.specs.Stale.{FailsStale}
use Rattle.ir_image.specs.Guest.{Guest}
use Rattle.ir_order.specs.OneRun.{AreSameRuns, acts}
use Rattle.ir_order.specs.Recording.{IsPlannedInTurns}
use Rattle.ir_order.proofs.CallerLemmas.{one_run_by_turns}
use Rattle.ir_record.specs.Recording.{turns_of_items}
use Rattle.ir_record.specs.Refusing.{Turn, InTurns}
use Rattle.ir_record.specs.declared.item.Item.{Item}
use Rattle.ir_record.proofs.CallerLemmas.{in_turns_of_append}
use Rattle.ir_record_command.specs.Plan.{Plan}
use Rattle.ir_runs.specs.Machine.{Act, Machine, Admits, act_of, target}
use Rattle.ir_runs.specs.Run.{State, Step, after, end, IsDone}
use Rattle.ir_shrink.specs.Items.{IsPlannedByItems, endless_of, pass_of, passes_of}
use Rattle.ir_shrink.specs.Laws.{EachRunIsNoBetter}
use Rattle.ir_shrink.specs.Shrinking.{Goal, FailsGoal}
use Rattle.ir_shrink.specs.Switches.{thread_changes, switch_count}
use Rattle.ir_shrink.proofs.Items.{turns_of_items_append}
use Rattle.ir_shrink.proofs.Recorded.{same_run_is_of_recording}
use Rattle.ir_world.specs.Sources.{origin_of}

-- where all threads are done no turn takes a step
done_takes_no_turns : {T : Type 0} (m : Machine T) (s : State T) (turns : List Turn) → IsDone m s → InTurns m s turns []
done_takes_no_turns m s [] done = refl
done_takes_no_turns m s ((t, refused) ∷ turns) done = inl (
  (λ r can. subst (λ q. Admits m (act_of q r) (s.objects (target (act_of q r)))) (done t) can),
  done_takes_no_turns m s turns done,
)

-- more turns after the end
turns_after_done : {T : Type 0} (m : Machine T) (s : State T) (turns more : List Turn) (run : List Step) → InTurns m s turns run → IsDone m (end m s run)
    → InTurns m s (turns ++ more) run
turns_after_done m s turns more run h done = subst (InTurns m s (turns ++ more)) (append-nil run)
    (in_turns_of_append m s turns more run [] h (done_takes_no_turns m (end m s run) more done))

-- more passes
passes_go_on : (n endless a k : ℕ) → (more : List Item) × (passes_of n endless (k + a) ≡ passes_of n endless a ++ more)
passes_go_on n endless a zero =
    let e : 0 + a ≡ a = omega arith in ([], ap (passes_of n endless) e ∙ sym (append-nil (passes_of n endless a)))
passes_go_on n endless a (suc k) = let r = passes_go_on n endless a k in let e : suc k + a ≡ suc (k + a) = omega arith in (
  r.0 ++ pass_of n endless,
  ap (passes_of n endless) e ∙ ap (λ z. z ++ pass_of n endless) r.1 ∙ append_assoc (passes_of n endless a) r.0 (pass_of n endless),
)

-- a run by items is the run by their turns and by so many passes or more
planned_with_passes : (guest : Guest) (plan : Plan) (items : List Item) (run : List Step) (k : ℕ) (p : IsPlannedByItems guest plan items run)
    → IsPlannedInTurns guest plan (turns_of_items (items ++ passes_of (length guest.entries) (endless_of plan) (k + p.by_items.count))) run
planned_with_passes guest plan items run k p = record {
  by_turns = record {
    count = 0;
    in_turns = subst (λ z. InTurns (machine f) (tables f) z run)
        (sym (ap (λ z. turns_of_items (items ++ z)) more.1 ∙ ap turns_of_items (sym (append_assoc items passes more.0))
        ∙ turns_of_items_append (items ++ passes) more.0) ∙ sym (append-nil _))
        (turns_after_done (machine f) (tables f) (turns_of_items (items ++ passes)) (turns_of_items more.0) run p.by_items.in_turns p.by_items.done);
    done = p.by_items.done;
  };
  answered = p.answered;
}
  where
    f : Flat
    f = start_flat guest plan.budget plan.profile

    passes : List Item
    passes = passes_of (length guest.entries) (endless_of plan) p.by_items.count

    more : (z : List Item) × (passes_of (length guest.entries) (endless_of plan) (k + p.by_items.count) ≡ passes ++ z)
    more = passes_go_on (length guest.entries) (endless_of plan) p.by_items.count k

-- the threads of its acts are those of its steps
threads_of_acts : {T : Type 0} (m : Machine T) (s : State T) (run : List Step) → map (λ x. x.0) (acts m s run) ≡ map (λ e. e.0) run
threads_of_acts m s [] = refl
threads_of_acts m s (e ∷ run) = ap (λ z. e.0 ∷ z) (threads_of_acts m (after m s e) run)

module _ (goal : Goal) (turns : List Turn) (run other : List Step) (x : IsPlannedInTurns goal.guest goal.plan turns run)
    (same : AreSameRuns (machine (start_flat goal.guest goal.plan.budget goal.plan.profile)) (tables (start_flat goal.guest goal.plan.budget goal.plan.profile)) run other) where
  stale_fails_again : (wanted : Option Bool) → FailsStale goal.guest goal.plan wanted other → FailsStale goal.guest goal.plan wanted run
  stale_fails_again None h = absurd h
  stale_fails_again (Some has) h = record {
    trace = h.trace;
    outputs = h.outputs;
    of_run = same_run_is_of_recording goal.guest goal.plan turns run other h.trace h.outputs x same h.of_run;
    fitted = h.fitted;
    of_guest = h.of_guest;
    of_trace = h.of_trace;
    fits = h.fits;
    rests = h.rests;
  }

  -- the same run fails too
  same_run_fails : FailsGoal goal other → FailsGoal goal run
  same_run_fails (inl (place, h)) = inl (
    place,
    record {
      flat = h.flat;
      came = record { ends = h.came.ends ∙ sym same.ends; threads = h.came.threads; objects = h.came.objects };
      condition = h.condition;
      is = h.is;
      fails = h.fails;
    },
  )
  same_run_fails (inr h) = inr (stale_fails_again goal.wanted h)

  same_run_switches : switch_count run ≡ switch_count other
  same_run_switches =
      let f = start_flat goal.guest goal.plan.budget goal.plan.profile in
      ap thread_changes (sym (threads_of_acts (machine f) (tables f) run) ∙ ap (map (λ (z : ℕ × Act). z.0)) same.steps ∙ threads_of_acts (machine f) (tables f) other)

  same_run_is_no_better : (count : ℕ) → FailsGoal goal other ⊎ (count ≤ switch_count other) → FailsGoal goal run ⊎ (count ≤ switch_count run)
  same_run_is_no_better count (inl h) = inl (same_run_fails h)
  same_run_is_no_better count (inr l) = inr (subst (λ n. count ≤ n) (sym same_run_switches) l)

pub each_run_no_better : EachRunIsNoBetter
each_run_no_better goal count items run h p =
    let other = h.by_items in
    let turns = turns_of_items (items ++ passes_of (length goal.guest.entries) (endless_of goal.plan) (other.by_items.count + p.by_items.count)) in
    let x = planned_with_passes goal.guest goal.plan items run other.by_items.count p in
    let swapped : p.by_items.count + other.by_items.count ≡ other.by_items.count + p.by_items.count = omega arith in
    let y = subst (λ k. IsPlannedInTurns goal.guest goal.plan (turns_of_items (items ++ passes_of (length goal.guest.entries) (endless_of goal.plan) k)) h.run) swapped
    (planned_with_passes goal.guest goal.plan items h.run p.by_items.count other) in
    same_run_is_no_better goal turns run h.run x
    (one_run_by_turns goal.guest goal.plan.budget goal.plan.profile turns (origin_of true goal.plan.random goal.plan.input) run h.run (λ t l. refl) x y) count h.why

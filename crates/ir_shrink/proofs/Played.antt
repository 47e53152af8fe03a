-- A guest's run by items, at its end.
use Rattle.std.proofs.Common.{◌≡◌, ℕ, zero, suc, ◌<◌, ◌≤◌, List, [], ◌++◌, length, map, true, refl, sym, ap, ◌∙◌, subst, arith, inl, inr, append-nil}
use Rattle.std.proofs.lemmas.Bool.{cases_lt}
use Rattle.std.specs.List.{AllByRecursion}
use Rattle.std.specs.Prelude.{replicate}
use Rattle.ir_flat.specs.Flat.{Flat, tables, machine, start_flat}
use Rattle.ir_flat.proofs.CallerLemmas.{guest_run_not_stuck, guest_start_is_idle, length_of_start_threads}
use Rattle.ir_image.specs.Guest.{Guest}
use Rattle.ir_order.proofs.CallerLemmas.{complete_have_steps}
use Rattle.ir_record.specs.Recording.{turns_of_items}
use Rattle.ir_record.specs.Refusing.{Turn, InTurns}
use Rattle.ir_record.specs.Worlds.{answers_at, answers_in}
use Rattle.ir_record.specs.declared.item.Item.{Item}
use Rattle.ir_record.proofs.CallerLemmas.{ask_is_done_or_not, is_run_if_in_turns}
use Rattle.ir_record_command.specs.Plan.{Plan}
use Rattle.ir_runs.specs.Machine.{Admits, act_of, target}
use Rattle.ir_runs.specs.Run.{State, Step, asked, Can, IsRun, end, log, IsDone, HasNone}
use Rattle.ir_runs.proofs.CallerLemmas.{idle_after_run}
use Rattle.ir_shrink.specs.Items.{AreJoined, endless_of, passes_of}
use Rattle.ir_shrink.specs.Moments.{Moment, Followed, HasNoStep, first_moment}
use Rattle.ir_shrink.specs.Played.{IsPlayed}
use Rattle.ir_shrink.proofs.Items.{turns_of_items_append}
use Rattle.ir_shrink.proofs.Moves.{followed_append, in_turns_if_each, threads_of_each}
use Rattle.ir_thread.specs.State.{thread_machine}
use Rattle.ir_thread.specs.State as thread
use Rattle.ir_world.specs.Sources.{origin_of, IsAnsweredFrom}

-- no world had answered
nothing_was_answered : (n t : ℕ) → answers_at (replicate n []) t ≡ []
nothing_was_answered zero t = refl
nothing_was_answered (suc n) zero = refl
nothing_was_answered (suc n) (suc t) = nothing_was_answered n t

-- a run of a guest after which none of its threads has a step is complete
none_left_is_done : (guest : Guest) (plan : Plan) (run : List Step) (b : Moment)
    → IsRun (machine (first_moment guest plan).flat) (tables (first_moment guest plan).flat) run
    → tables b.flat ≡ end (machine (first_moment guest plan).flat) (tables (first_moment guest plan).flat) run → b.flat.code ≡ guest.code
    → ((t : ℕ) → t < length guest.entries → HasNoStep b t)
    → IsDone (machine (first_moment guest plan).flat) (end (machine (first_moment guest plan).flat) (tables (first_moment guest plan).flat) run)
none_left_is_done guest plan run b ok ends code none t =
    elim (ask_is_done_or_not (asked (thread_machine guest.code) s t)) [
      | inl e ↦ e
      | inr ne ↦ absurd (stuck (guest_run_not_stuck guest plan.budget plan.profile run ok t ne))
    ]
  where
    s : State thread.ThreadState
    s = end (thread_machine guest.code) (tables (start_flat guest plan.budget plan.profile)) run

    none_there : (u : ℕ) → u < length guest.entries → HasNone (thread_machine guest.code) s u
    none_there u l = subst (λ z. HasNone (thread_machine guest.code) z u) ends (subst (λ c. HasNone (thread_machine c) (tables b.flat) u) code (none u l))

    stuck : ((u : ℕ) × Can (thread_machine guest.code) s (u, 0)) → ⊥
    stuck step = elim (cases_lt step.0 (length guest.entries)) [
      | inl l ↦ none_there step.0 l 0 step.1
      | inr past ↦ subst (λ q. Admits (thread_machine guest.code) (act_of q 0) (s.objects (target (act_of q 0))))
          (idle_after_run (thread_machine guest.code) (tables (start_flat guest plan.budget plan.profile)) (length guest.entries)
          (guest_start_is_idle guest plan.budget plan.profile) run ok step.0 past) step.1
    ]

-- it was followed to its end
pub played_to_end : (guest : Guest) (plan : Plan) (items : List Item) (count : ℕ) (a b c : Moment) (taken : List Item) (n : ℕ) → 1 ≤ length guest.entries → a ≡ first_moment guest plan
    → Followed (turns_of_items items) a b → n ≡ length b.flat.threads → Followed (turns_of_items (passes_of n (endless_of plan) count)) b c
    → ((t : ℕ) → t < n → HasNoStep c t) → c.turns ≡ turns_of_items taken
    → ((t : ℕ) → t < length guest.entries → IsAnsweredFrom (origin_of true plan.random plan.input t) (answers_at c.answers t)) → AreJoined taken
    → IsPlayed guest plan items taken c.flat
played_to_end guest plan items count a b c taken n threaded first p threads q none noted answered joined = record {
  run = h.took.run;
  by_items = record {
    by_items = record {
      count = count;
      in_turns = subst (λ z. InTurns (machine f) (tables f) z h.took.run)
          (ap (λ k. turns_of_items items ++ turns_of_items (passes_of k (endless_of plan) count)) long
          ∙ sym (turns_of_items_append items (passes_of (length guest.entries) (endless_of plan) count))) h.took.in_turns;
      done = done;
    };
    answered = given;
  };
  in_turns = record {
    by_turns = record {
      count = 0;
      in_turns = subst (λ z. InTurns (machine f) (tables f) z h.took.run) (all_taken ∙ sym (append-nil (turns_of_items taken)))
          (in_turns_if_each (machine f) (tables f) h.taken h.took.run h.took.each);
      done = done;
    };
    answered = given;
  };
  of_threads = subst (AllByRecursion (λ t. t.0 < length guest.entries)) all_taken (subst (λ k. AllByRecursion (λ (t : Turn). t.0 < k) h.taken) start h.took.of_threads);
  some = λ none. complete_have_steps guest plan.budget plan.profile h.took.run threaded done (threads_are ∙ ap (map (λ t. t.0)) none);
  joined = joined;
  each = threads_are;
  came = record { ends = h.took.ends; threads = h.took.threads; objects = h.took.objects };
}
  where
    f : Flat
    f = start_flat guest plan.budget plan.profile

    start : length f.threads ≡ length guest.entries
    start = length_of_start_threads guest plan.budget plan.profile 0 (length guest.entries)

    h : Followed (turns_of_items items ++ turns_of_items (passes_of n (endless_of plan) count)) (first_moment guest plan) c
    h = subst (λ z. Followed (turns_of_items items ++ turns_of_items (passes_of n (endless_of plan) count)) z c) first
        (followed_append (turns_of_items items) (turns_of_items (passes_of n (endless_of plan) count)) a b c p q)

    long : n ≡ length guest.entries
    long = threads ∙ p.took.threads ∙ ap (λ (m : Moment). length m.flat.threads) first ∙ start

    all_taken : h.taken ≡ turns_of_items taken
    all_taken = sym h.noted ∙ noted

    threads_are : map (λ e. e.0) h.took.run ≡ map (λ t. t.0) (turns_of_items taken)
    threads_are = threads_of_each (machine f) (tables f) h.taken h.took.run h.took.each ∙ ap (map (λ t. t.0)) all_taken

    done : IsDone (machine f) (end (machine f) (tables f) h.took.run)
    done = none_left_is_done guest plan h.took.run c (is_run_if_in_turns (machine f) (tables f) _ h.took.run h.took.in_turns) h.took.ends h.took.code
        (λ t l. none t (omega (arith, l, long)))

    given : (t : ℕ) → t < length guest.entries → IsAnsweredFrom (origin_of true plan.random plan.input t) (answers_in (log (machine f) (tables f) h.took.run t))
    given t l = subst (IsAnsweredFrom (origin_of true plan.random plan.input t))
        (h.took.answers t (subst (λ k. t < k) (sym start) l)
        ∙ ap (λ z. z ++ answers_in (log (machine f) (tables f) h.took.run t)) (nothing_was_answered (length guest.entries) t)) (answered t l)

-- A recording answers no call for the time where no run of the guest that counts does.
use Rattle.std.proofs.Common.{◌≡◌, ◌≢◌, ◌⊎◌, ℕ, zero, suc, Bool, true, false, List, [], ◌∷◌, map, inl, inr, refl, sym, ap, ◌∙◌, subst, eq-eqb, ne_eqb}
use Rattle.std.specs.List.{AllByRecursion}
use Rattle.std.proofs.lemmas.Bool.{cases_eq}
use Rattle.ir_flat.specs.Flat.{start_flat, tables}
use Rattle.ir_graph.specs.Setup.{Setup, first_source}
use Rattle.ir_graph.specs.Times.{HasTime, HasTimedRun}
use Rattle.ir_graph.proofs.CallerLemmas.{first_source_no_ticks}
use Rattle.ir_log.specs.Logging.{label_of}
use Rattle.ir_log.specs.declared.event.Event.{Event}
use Rattle.ir_log.specs.declared.event.Event.TheVariants as event
use Rattle.ir_record.specs.Worlds.{answers_in}
use Rattle.ir_runs.specs.Machine.{Machine, Admits, Ask, Private, Env, Enter, Try, Leave, Get, Put, Done, Object, act_of, emitted, target, logged, Label, Quiet, Answer, EnteredAt, FailedTry, LeftAt}
use Rattle.ir_runs.specs.Run.{State, Step, IsRun, asked, act, after, end, label, join_if, trail, events, log}
use Rattle.ir_runs.specs.declared.access.Access.TheVariants.{Reading, Writing}
use Rattle.ir_runs.specs.declared.env_kind.EnvKind.TheVariants.{Clock, Random, Input}
use Rattle.ir_runs.proofs.CallerLemmas.{upd_at_own_place, thread_after_other}
use Rattle.ir_likeness.specs.Seen.{IsLive, IsSpoilt}
use Rattle.ir_likeness.proofs.CallerLemmas.{live_or_next_spoils, start_state_is_unspoilt}
use Rattle.ir_world.specs.Sources.{Source, given, Gave, untimed, from_sources}
use Rattle.ir_search_laws.specs.Counting.{IsAnswered, RunCounts}
use Rattle.ir_search_laws.specs.Sources.{sourced, by_source, plain_source, left_of_source, answer_of}
use Rattle.ir_search_laws.specs.Views.{beside, IsLiveRun, IsUnspoilt}
use Rattle.ir_search_laws.proofs.CallerLemmas.{plain_end, sourced_counts, unspoilt_run_is_live, stays_unspoilt_live}
use Rattle.ir_thread.specs.State.{ThreadState, thread_machine}
use Rattle.ir_explore.specs.Recorded.{IsUntimed}

-- up to the first call for the time, the calls of this log are answered by the source, in turn
abbrev pub GivesUntilTime : Source → List Label → Type 0
GivesUntilTime s [] = Unit {0}
GivesUntilTime s (Quiet ∷ es) = GivesUntilTime s es
GivesUntilTime s (Answer Clock v ∷ es) = Unit {0}
GivesUntilTime s (Answer Random v ∷ es) = (v ≡ (given Random s).0) × GivesUntilTime (given Random s).1 es
GivesUntilTime s (Answer Input v ∷ es) = (v ≡ (given Input s).0) × GivesUntilTime (given Input s).1 es
GivesUntilTime s (EnteredAt o a v l ∷ es) = GivesUntilTime s es
GivesUntilTime s (FailedTry o ∷ es) = GivesUntilTime s es
GivesUntilTime s (LeftAt o a v ∷ es) = GivesUntilTime s es

until_time_all_given : (s : Source) (es : List Label) (left : Source) → Gave s (answers_in es) left → GivesUntilTime s es
until_time_all_given s [] left h = tt
until_time_all_given s (Quiet ∷ es) left h = until_time_all_given s es left h
until_time_all_given s (Answer Clock v ∷ es) left h = tt
until_time_all_given s (Answer Random v ∷ es) left h = (h.0, until_time_all_given (given Random s).1 es left h.1)
until_time_all_given s (Answer Input v ∷ es) left h = (h.0, until_time_all_given (given Input s).1 es left h.1)
until_time_all_given s (EnteredAt o a v l ∷ es) left h = until_time_all_given s es left h
until_time_all_given s (FailedTry o ∷ es) left h = until_time_all_given s es left h
until_time_all_given s (LeftAt o a v ∷ es) left h = until_time_all_given s es left h

until_time_untimed : (s : Source) (es : List Label) (left : Source) → Gave s (untimed (answers_in es)) left → GivesUntilTime s es
until_time_untimed s [] left h = tt
until_time_untimed s (Quiet ∷ es) left h = until_time_untimed s es left h
until_time_untimed s (Answer Clock v ∷ es) left h = tt
until_time_untimed s (Answer Random v ∷ es) left h = (h.0, until_time_untimed (given Random s).1 es left h.1)
until_time_untimed s (Answer Input v ∷ es) left h = (h.0, until_time_untimed (given Input s).1 es left h.1)
until_time_untimed s (EnteredAt o a v l ∷ es) left h = until_time_untimed s es left h
until_time_untimed s (FailedTry o ∷ es) left h = until_time_untimed s es left h
until_time_untimed s (LeftAt o a v ∷ es) left h = until_time_untimed s es left h

-- a world's answers come from its sources, whether it counts or has a clock, up to the first call for the time
pub until_time_given : (counted : Bool) (s : Source) (es : List Label) (left : Source) → Gave s (from_sources counted (answers_in es)) left
    → GivesUntilTime s es
until_time_given true s es left h = until_time_all_given s es left h
until_time_given false s es left h = until_time_untimed s es left h

-- no event is an answer to a call for the time, or the log has one
pub untimed_or_have_time : (es : List Event) → AllByRecursion IsUntimed es ⊎ HasTime (map label_of es)
untimed_or_have_time [] = inl tt
untimed_or_have_time (event.Answer Clock v ∷ es) = inr tt
untimed_or_have_time (event.Answer Random v ∷ es) = elim (untimed_or_have_time es) [ inl all ↦ inl (tt, all) | inr has ↦ inr has ]
untimed_or_have_time (event.Answer Input v ∷ es) = elim (untimed_or_have_time es) [ inl all ↦ inl (tt, all) | inr has ↦ inr has ]
untimed_or_have_time (event.Read o v ∷ es) = elim (untimed_or_have_time es) [ inl all ↦ inl (tt, all) | inr has ↦ inr has ]
untimed_or_have_time (event.Write o v r ∷ es) = elim (untimed_or_have_time es) [ inl all ↦ inl (tt, all) | inr has ↦ inr has ]
untimed_or_have_time (event.Try o ∷ es) = elim (untimed_or_have_time es) [ inl all ↦ inl (tt, all) | inr has ↦ inr has ]

-- what a step that is no call for the time does of that, for its own thread's log
log_goes_on_no_step : (q : Ask) (r : ℕ) (s : Source) (b : Object) (es : List Label) → q ≢ Env Clock
    → GivesUntilTime s (logged (emitted (act_of q r) b) es) → IsAnswered q (answer_of given q s) r × GivesUntilTime (left_of_source given q s) es
log_goes_on_no_step Private r s b es other h = (tt, h)
log_goes_on_no_step (Env Clock) r s b es other h = absurd (other refl)
log_goes_on_no_step (Env Random) r s b es other h = h
log_goes_on_no_step (Env Input) r s b es other h = h
log_goes_on_no_step (Enter o Reading) r s b es other h = (tt, h)
log_goes_on_no_step (Enter o Writing) r s b es other h = (tt, h)
log_goes_on_no_step (Try o) zero s b es other h = (tt, h)
log_goes_on_no_step (Try o) (suc zero) s b es other h = (tt, h)
log_goes_on_no_step (Try o) (suc (suc r)) s b es other h = (tt, h)
log_goes_on_no_step (Leave o a) r s b es other h = (tt, h)
log_goes_on_no_step (Get o i) r s b es other h = (tt, h)
log_goes_on_no_step (Put o i w) r s b es other h = (tt, h)
log_goes_on_no_step Done r s b es other h = (tt, h)

time_is_later_than_step : (q : Ask) (r : ℕ) (b : Object) (es : List Label) → q ≢ Env Clock → HasTime (logged (emitted (act_of q r) b) es) → HasTime es
time_is_later_than_step Private r b es other h = h
time_is_later_than_step (Env Clock) r b es other h = absurd (other refl)
time_is_later_than_step (Env Random) r b es other h = h
time_is_later_than_step (Env Input) r b es other h = h
time_is_later_than_step (Enter o Reading) r b es other h = h
time_is_later_than_step (Enter o Writing) r b es other h = h
time_is_later_than_step (Try o) zero b es other h = h
time_is_later_than_step (Try o) (suc zero) b es other h = h
time_is_later_than_step (Try o) (suc (suc r)) b es other h = h
time_is_later_than_step (Leave o a) r b es other h = h
time_is_later_than_step (Get o i) r b es other h = h
time_is_later_than_step (Put o i w) r b es other h = h
time_is_later_than_step Done r b es other h = h

time_stays_after_step : (q : Ask) (r : ℕ) (b : Object) (es : List Label) → HasTime es → HasTime (logged (emitted (act_of q r) b) es)
time_stays_after_step Private r b es h = h
time_stays_after_step (Env Clock) r b es h = tt
time_stays_after_step (Env Random) r b es h = h
time_stays_after_step (Env Input) r b es h = h
time_stays_after_step (Enter o Reading) r b es h = h
time_stays_after_step (Enter o Writing) r b es h = h
time_stays_after_step (Try o) zero b es h = h
time_stays_after_step (Try o) (suc zero) b es h = h
time_stays_after_step (Try o) (suc (suc r)) b es h = h
time_stays_after_step (Leave o a) r b es h = h
time_stays_after_step (Get o i) r b es h = h
time_stays_after_step (Put o i w) r b es h = h
time_stays_after_step Done r b es h = h

ticks_stay_untimed : (q : Ask) (s : Source) → q ≢ Env Clock → s.ticks ≡ 0 → (left_of_source given q s).ticks ≡ 0
ticks_stay_untimed Private s other none = none
ticks_stay_untimed (Env Clock) s other none = absurd (other refl)
ticks_stay_untimed (Env Random) s other none = none
ticks_stay_untimed (Env Input) s other none = none
ticks_stay_untimed (Enter o a) s other none = none
ticks_stay_untimed (Try o) s other none = none
ticks_stay_untimed (Leave o a) s other none = none
ticks_stay_untimed (Get o i) s other none = none
ticks_stay_untimed (Put o i w) s other none = none
ticks_stay_untimed Done s other none = none

asks_time_or_not : (q : Ask) → (q ≡ Env Clock) ⊎ (q ≢ Env Clock)
asks_time_or_not Private = inr (λ e. absurd (cc e))
asks_time_or_not (Env Clock) = inl refl
asks_time_or_not (Env Random) = inr (λ e. absurd (cc e))
asks_time_or_not (Env Input) = inr (λ e. absurd (cc e))
asks_time_or_not (Enter o a) = inr (λ e. absurd (cc e))
asks_time_or_not (Try o) = inr (λ e. absurd (cc e))
asks_time_or_not (Leave o a) = inr (λ e. absurd (cc e))
asks_time_or_not (Get o i) = inr (λ e. absurd (cc e))
asks_time_or_not (Put o i w) = inr (λ e. absurd (cc e))
asks_time_or_not Done = inr (λ e. absurd (cc e))

module _ (code : List ℕ) where
  abbrev m : Machine ThreadState
  m = thread_machine code

  abbrev full : Machine (ThreadState × Source)
  full = sourced (thread_machine code) given

  source_after_own_step : (s : State (ThreadState × Source)) (e : Step)
      → ((after full s e).now e.0).1 ≡ left_of_source given (m.ask (s.now e.0).0) (s.now e.0).1
  unfolding after
  source_after_own_step s e = ap (λ x. x.1) (upd_at_own_place s.now e.0 _)

  -- the thread's own log begins with what its step logs, another's doesn't change
  own_log : (s : State ThreadState) (e : Step) (run : List Step)
      → log m s (e ∷ run) e.0 ≡ logged (label m s e) (log m (after m s e) run e.0)
  own_log s e run =
      ap (λ b. events (join_if b (s.now e.0, label m s e) (trail m (after m s e) run e.0))) (eq-eqb e.0 e.0 refl)

  other_log : (s : State ThreadState) (e : Step) (run : List Step) (t : ℕ) → t ≢ e.0 → log m s (e ∷ run) t ≡ log m (after m s e) run t
  other_log s e run t other =
      ap (λ b. events (join_if b (s.now t, label m s e) (trail m (after m s e) run t))) (ne_eqb t e.0 other)

  -- a run that counts, by the count at its first call for the time
  record TimedPrefix (s : State (ThreadState × Source)) : Type 0 where
    steps : List Step
    counts : RunCounts full (by_source m given) s steps
    live : IsLiveRun m (IsLive code) (plain_source s) steps
    thread : ℕ
    has : HasTime (log m (plain_source s) steps thread)

  here_is_timed : (s : State (ThreadState × Source)) → ((t : ℕ) → (s.now t).1.ticks ≡ 0) → (e : Step) → asked m (plain_source s) e.0 ≡ Env Clock
      → IsLive code (s.now e.0).0 → TimedPrefix s
  here_is_timed s none e asks live = record {
    steps = first ∷ [];
    counts = (subst counted_call (sym asks) (subst (λ n. m.fits Clock n ≡ true) (sym (none e.0)) refl, refl), tt);
    live = (live, tt);
    thread = e.0;
    has = subst HasTime (sym (own_log (plain_source s) first []))
        (subst (λ q. HasTime (logged (emitted (act_of q count) (s.objects (target (act_of q count)))) [])) (sym asks) tt);
  }
    where
      count : ℕ
      count = (given Clock (s.now e.0).1).0

      first : Step
      first = (e.0, count)

      counted_call : Ask → Type 0
      counted_call q = Admits full (act_of q count) (s.objects (target (act_of q count))) × IsAnswered q (answer_of given q (s.now e.0).1) count

  timed_prefix_if_log_has_time : (s : State (ThreadState × Source)) → ((t : ℕ) → (s.now t).1.ticks ≡ 0) → (run : List Step) → IsRun m (plain_source s) run
      → ((t : ℕ) → GivesUntilTime (s.now t).1 (log m (plain_source s) run t)) → IsLiveRun m (IsLive code) (plain_source s) run
      → (t : ℕ) → HasTime (log m (plain_source s) run t) → TimedPrefix s
  timed_prefix_if_log_has_time s none [] ok gives live t has = absurd has
  timed_prefix_if_log_has_time s none (e ∷ run) ok gives live t has = elim (asks_time_or_not (asked m (plain_source s) e.0)) [
    | inl asks ↦ here_is_timed s none e asks live.0
    | inr other ↦
        let q : Ask = asked m (plain_source s) e.0 in
        let b : Object = s.objects (target (act m (plain_source s) e)) in
        let next : State (ThreadState × Source) = after full s e in
        let same : plain_source next ≡ after m (plain_source s) e = plain_end m given s (e ∷ []) in
        let own = log_goes_on_no_step q e.1 (s.now e.0).1 b (log m (after m (plain_source s) e) run e.0) other
        (subst (GivesUntilTime (s.now e.0).1) (own_log (plain_source s) e run) (gives e.0)) in
        let later : TimedPrefix next = timed_prefix_if_log_has_time next
        (λ u. elim (cases_eq u e.0) [
          | inl is ↦ subst (λ z. (next.now z).1.ticks ≡ 0) (sym is)
              (ap (λ (z : Source). z.ticks) (source_after_own_step s e) ∙ ticks_stay_untimed q (s.now e.0).1 other (none e.0))
          | inr ne ↦ ap (λ (x : ThreadState × Source). x.1.ticks) (thread_after_other full s e u ne) ∙ none u
        ])
        run (subst (λ z. IsRun m z run) (sym same) ok.1)
        (λ u. subst (λ z. GivesUntilTime (next.now u).1 (log m z run u)) (sym same) (elim (cases_eq u e.0) [
          | inl is ↦ subst (λ z. GivesUntilTime (next.now z).1 (log m (after m (plain_source s) e) run z)) (sym is)
              (subst (λ z. GivesUntilTime z (log m (after m (plain_source s) e) run e.0)) (sym (source_after_own_step s e)) own.1)
          | inr ne ↦
              subst (λ (x : ThreadState × Source). GivesUntilTime x.1 (log m (after m (plain_source s) e) run u)) (sym (thread_after_other full s e u ne))
              (subst (GivesUntilTime (s.now u).1) (other_log (plain_source s) e run u ne) (gives u))
        ]))
        (subst (λ z. IsLiveRun m (IsLive code) z run) (sym same) live.1) t
        (subst (λ z. HasTime (log m z run t)) (sym same) (elim (cases_eq t e.0) [
          | inl is ↦ subst (λ z. HasTime (log m (after m (plain_source s) e) run z)) (sym is)
              (time_is_later_than_step q e.1 b (log m (after m (plain_source s) e) run e.0) other
              (subst HasTime (own_log (plain_source s) e run) (subst (λ z. HasTime (log m (plain_source s) (e ∷ run) z)) is has)))
          | inr ne ↦ subst HasTime (other_log (plain_source s) e run t ne) has
        ])) in
        let there : HasTime (log m (after m (plain_source s) e) later.steps later.thread) = subst (λ z. HasTime (log m z later.steps later.thread)) same later.has in
        record {
          steps = e ∷ later.steps;
          counts = ((ok.0, own.0), later.counts);
          live = (live.0, subst (λ z. IsLiveRun m (IsLive code) z later.steps) same later.live);
          thread = later.thread;
          has = elim (cases_eq later.thread e.0) [
            | inl is ↦ subst (λ z. HasTime (log m (plain_source s) (e ∷ later.steps) z)) (sym is) (subst HasTime (sym (own_log (plain_source s) e later.steps))
                (time_stays_after_step q e.1 b (log m (after m (plain_source s) e) later.steps e.0)
                (subst (λ z. HasTime (log m (after m (plain_source s) e) later.steps z)) is there)))
            | inr ne ↦ subst HasTime (sym (other_log (plain_source s) e later.steps later.thread ne)) there
          ];
        }
  ]

-- where a run that is answered by the sources up to its first call for the time makes one, a run that counts does
pub log_time_timed_run : (x : Setup) (budget : ℕ) (run : List Step) → IsRun (thread_machine x.guest.code) (tables (start_flat x.guest budget x.profile)) run
    → ((t : ℕ) → GivesUntilTime (first_source x t) (log (thread_machine x.guest.code) (tables (start_flat x.guest budget x.profile)) run t))
    → IsUnspoilt (IsSpoilt x.guest.code) (end (thread_machine x.guest.code) (tables (start_flat x.guest budget x.profile)) run)
    → (t : ℕ) → HasTime (log (thread_machine x.guest.code) (tables (start_flat x.guest budget x.profile)) run t) → HasTimedRun x
log_time_timed_run x budget run ok gives unspoilt t has =
    let code = x.guest.code in
    let spoils = live_or_next_spoils code in
    let s : State ThreadState = tables (start_flat x.guest budget x.profile) in
    let beginning : State (ThreadState × Source) = beside s (first_source x) in
    let live = unspoilt_run_is_live (thread_machine code) (IsLive code) (IsSpoilt code) spoils s run unspoilt in
    let p = timed_prefix_if_log_has_time code beginning (first_source_no_ticks x) run ok gives live t has in
    let counts = (sourced_counts (thread_machine code) given beginning p.steps).0 p.counts in (
      budget,
      p.steps,
      record {
        runs = counts.0;
        answered = counts.1;
        unspoilt = stays_unspoilt_live (thread_machine code) (IsLive code) (IsSpoilt code) spoils s p.steps p.live
            (start_state_is_unspoilt x.guest budget x.profile);
      },
      (p.thread, p.has),
    )

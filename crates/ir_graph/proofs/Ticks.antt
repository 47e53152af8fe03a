-- What is left of a thread's source after a run, and how many calls for the time it has answered.
use Rattle.std.proofs.Common.{◌≡◌, ◌⊎◌, ℕ, zero, suc, ◌<◌, ◌≤◌, List, [], ◌∷◌, inl, inr, refl, sym, ap, ◌∙◌, subst, arith, eq-eqb, ne_eqb, length}
use Rattle.std.proofs.lemmas.Bool.{cases_eq, cases_lt}
use Rattle.std.proofs.lemmas.List.{get_or_past}
use Rattle.std.proofs.lemmas.List.FromFn.{get_or-map-range_with_len}
use Rattle.ir_runs.specs.Machine.{Ask, Private, Env, Enter, Try, Leave, Get, Put, Done, Object, act_of, emitted, target, Label, Quiet, Answer, EnteredAt, FailedTry, LeftAt, logged, Machine, upd}
use Rattle.ir_runs.specs.declared.access.Access.TheVariants.{Reading, Writing}
use Rattle.ir_runs.specs.declared.env_kind.EnvKind.TheVariants.{Clock, Random, Input}
use Rattle.ir_runs.specs.Run.{State, Step, asked, act, after, label, end, join_if, trail, events, log}
use Rattle.ir_runs.proofs.CallerLemmas.{upd_at_own_place, upd_at_other_place}
use Rattle.ir_search_laws.specs.Sources.{left_of_source, sourced}
use Rattle.ir_search_laws.specs.Views.{beside}
use Rattle.ir_world.specs.Sources.{Source, source, given, seed_of}
use Rattle.ir_state_store.specs.Table.{no_source}
use Rattle.ir_graph.specs.Setup.{Setup, first_source, first_sources}
use Rattle.ir_graph.specs.Times.{HasTime}
use Rattle.ir_graph.proofs.Forms.{each_has_first_source}
use Rattle.ir_graph.proofs.Full.{sourced_step_beside}

-- what is left of a source that answers the calls of this log
abbrev pub left_after : Source → List Label → Source
left_after s [] = s
left_after s (Quiet ∷ es) = left_after s es
left_after s (Answer k v ∷ es) = left_after (given k s).1 es
left_after s (EnteredAt o a v l ∷ es) = left_after s es
left_after s (FailedTry o ∷ es) = left_after s es
left_after s (LeftAt o a v ∷ es) = left_after s es

pub ticks_never_fall : (s : Source) (es : List Label) → s.ticks ≤ (left_after s es).ticks
ticks_never_fall s [] = omega arith
ticks_never_fall s (Quiet ∷ es) = ticks_never_fall s es
ticks_never_fall s (Answer Clock v ∷ es) = let l = ticks_never_fall (given Clock s).1 es in omega (arith, l)
ticks_never_fall s (Answer Random v ∷ es) = ticks_never_fall (given Random s).1 es
ticks_never_fall s (Answer Input v ∷ es) = ticks_never_fall (given Input s).1 es
ticks_never_fall s (EnteredAt o a v l ∷ es) = ticks_never_fall s es
ticks_never_fall s (FailedTry o ∷ es) = ticks_never_fall s es
ticks_never_fall s (LeftAt o a v ∷ es) = ticks_never_fall s es

pub ticks_rise_with_time : (s : Source) (es : List Label) → HasTime es → s.ticks < (left_after s es).ticks
ticks_rise_with_time s [] h = absurd h
ticks_rise_with_time s (Quiet ∷ es) h = ticks_rise_with_time s es h
ticks_rise_with_time s (Answer Clock v ∷ es) h = let l = ticks_never_fall (given Clock s).1 es in omega (arith, l)
ticks_rise_with_time s (Answer Random v ∷ es) h = ticks_rise_with_time (given Random s).1 es h
ticks_rise_with_time s (Answer Input v ∷ es) h = ticks_rise_with_time (given Input s).1 es h
ticks_rise_with_time s (EnteredAt o a v l ∷ es) h = ticks_rise_with_time s es h
ticks_rise_with_time s (FailedTry o ∷ es) h = ticks_rise_with_time s es h
ticks_rise_with_time s (LeftAt o a v ∷ es) h = ticks_rise_with_time s es h

-- a log has an answer to a call for the time, or no tick is added
time_or_same_ticks : (s : Source) (es : List Label) → HasTime es ⊎ ((left_after s es).ticks ≡ s.ticks)
time_or_same_ticks s [] = inr refl
time_or_same_ticks s (Quiet ∷ es) = time_or_same_ticks s es
time_or_same_ticks s (Answer Clock v ∷ es) = inl tt
time_or_same_ticks s (Answer Random v ∷ es) = time_or_same_ticks (given Random s).1 es
time_or_same_ticks s (Answer Input v ∷ es) = time_or_same_ticks (given Input s).1 es
time_or_same_ticks s (EnteredAt o a v l ∷ es) = time_or_same_ticks s es
time_or_same_ticks s (FailedTry o ∷ es) = time_or_same_ticks s es
time_or_same_ticks s (LeftAt o a v ∷ es) = time_or_same_ticks s es

pub risen_ticks_have_time : (s : Source) (es : List Label) → s.ticks ≡ 0 → 0 < (left_after s es).ticks → HasTime es
risen_ticks_have_time s es none some = elim (time_or_same_ticks s es) [
  | inl has ↦ has
  | inr same ↦ absurd (omega (arith, same, none, some))
]

-- a step leaves of its thread's source what its log does
left_after_logged_step : (q : Ask) (r : ℕ) (s : Source) (b : Object) (es : List Label)
    → left_after (left_of_source given q s) es ≡ left_after s (logged (emitted (act_of q r) b) es)
left_after_logged_step Private r s b es = refl
left_after_logged_step (Env k) r s b es = refl
left_after_logged_step (Enter o Reading) r s b es = refl
left_after_logged_step (Enter o Writing) r s b es = refl
left_after_logged_step (Try o) zero s b es = refl
left_after_logged_step (Try o) (suc zero) s b es = refl
left_after_logged_step (Try o) (suc (suc r)) s b es = refl
left_after_logged_step (Leave o a) r s b es = refl
left_after_logged_step (Get o i) r s b es = refl
left_after_logged_step (Put o i w) r s b es = refl
left_after_logged_step Done r s b es = refl

-- a run leaves of each thread's source what the thread's log does
pub source_left_after_log : {T : Type 0} (m : Machine T) (s : State T) (sources : ℕ → Source) (run : List Step) (t : ℕ)
    → ((end (sourced m given) (beside s sources) run).now t).1 ≡ left_after (sources t) (log m s run t)
source_left_after_log m s sources [] t = refl
source_left_after_log m s sources (e ∷ run) t =
    ap (λ z. ((end (sourced m given) z run).now t).1) (sourced_step_beside m given s sources e)
    ∙ source_left_after_log m (after m s e) next run t ∙ here
  where
    next : ℕ → Source
    next = upd sources e.0 (left_of_source given (asked m s e.0) (sources e.0))

    later : ℕ → List Label
    later u = log m (after m s e) run u

    here : left_after (next t) (later t) ≡ left_after (sources t) (log m s (e ∷ run) t)
    here = elim (cases_eq t e.0) [
      | inl is ↦ subst (λ z. left_after (next z) (later z) ≡ left_after (sources z) (log m s (e ∷ run) z)) (sym is)
          (ap (λ z. left_after z (later e.0)) (upd_at_own_place sources e.0 (left_of_source given (asked m s e.0) (sources e.0)))
          ∙ left_after_logged_step (asked m s e.0) e.1 (sources e.0) (s.objects (target (act m s e))) (later e.0)
          ∙ ap (λ b. left_after (sources e.0) (events (join_if b (s.now e.0, label m s e) (trail m (after m s e) run e.0)))) (sym (eq-eqb e.0 e.0 refl)))
      | inr other ↦
          ap (λ z. left_after z (later t)) (upd_at_other_place sources e.0 t (left_of_source given (asked m s e.0) (sources e.0)) other)
          ∙ ap (λ b. left_after (sources t) (events (join_if b (s.now t, label m s e) (trail m (after m s e) run t)))) (sym (ne_eqb t e.0 other))
    ]

-- so no run takes ticks away
pub ticks_never_fall_in_run : {T : Type 0} (m : Machine T) (s : State (T × Source)) (run : List Step) (t : ℕ)
    → (s.now t).1.ticks ≤ ((end (sourced m given) s run).now t).1.ticks
ticks_never_fall_in_run m s run t =
    let plain_state : State _ = record { now = λ u. (s.now u).0; objects = s.objects } in
    subst (λ (z : Source). (s.now t).1.ticks ≤ z.ticks) (sym (source_left_after_log m plain_state (λ u. (s.now u).1) run t))
    (ticks_never_fall (s.now t).1 (log m plain_state run t))

-- at first none was answered
pub first_source_no_ticks : (x : Setup) (t : ℕ) → (first_source x t).ticks ≡ 0
first_source_no_ticks x t = elim (cases_lt t (length x.guest.entries)) [
  | inl l ↦ ap (λ (z : Source). z.ticks)
      (get_or-map-range_with_len (λ u. source (seed_of x.random u) x.input) 0 (length x.guest.entries) t t no_source l (omega arith))
  | inr l ↦ ap (λ (z : Source). z.ticks) (get_or_past (first_sources x) t no_source (let e = each_has_first_source x in omega (arith, e, l)))
]

-- Private steps that are taken together.
use Rattle.std.proofs.Common.{◌≡◌, ℕ, zero, suc, ◌+◌, ◌<◌, List, ◌++◌, length, replicate, refl, sym, ap, ◌∙◌, arith, inl, inr, append-nil}
use Rattle.std.proofs.lemmas.Bool.{cases_lt}
use Rattle.std.proofs.lemmas.List.{get_or_past, length-replicate}
use Rattle.ir_thread.specs.State.{shared_ask}
use Rattle.ir_runs.specs.Machine.{Machine, Private}
use Rattle.ir_flat.specs.Alone.{WentAlone}
use Rattle.ir_flat.specs.Flat.{Flat, thread_of, tables, machine, idle, IsFlat}
use Rattle.ir_runs.specs.Run.{State, Step, after, IsRun, end}
use Rattle.ir_runs.specs.Orders.{InTurn}
use Rattle.ir_log.specs.Logged.{Logged}
use Rattle.ir_record.specs.Progress.{TookSteps, HasLogs, log_at, labels_at, all_left}
use Rattle.ir_record.specs.Worlds.{answers_at, AnsweredCall, answers_in}
use Rattle.ir_flat.proofs.CallerLemmas.{tallies_along_run}
use Rattle.ir_record.proofs.Profiles.{events_of_equal_counts, profile_after_run}
use Rattle.ir_record.proofs.Tally.{HoldFewObjects, steps_lower_all_left}

-- steps of one thread are its turns
private_steps_in_turn : {T : Type 0} (m : Machine T) (t k : ℕ) (s : State T) → IsRun m s (replicate k (t, 0))
    → ((j : ℕ) → j < k → m.ask ((end m s (replicate j (t, 0))).now t) ≡ Private) → InTurn m s (replicate k t) (replicate k (t, 0))
private_steps_in_turn m t zero s ok each = refl
private_steps_in_turn m t (suc k) s ok each = inr (
  0,
  replicate k (t, 0),
  refl,
  ok.0,
  λ o tries can. absurd (let private = each 0 (omega arith) in cc (private, tries)),
  private_steps_in_turn m t k (after m s (t, 0)) ok.1 (λ j l. each (suc j) (omega (arith, l))),
)

pub flat_holds_few : (f : Flat) → IsFlat f → HoldFewObjects (tables f)
flat_holds_few f flat t = elim (cases_lt t (length f.threads)) [
  | inl l ↦ omega (arith, flat.places t l, flat.few_objects)
  | inr past ↦ let none : length (thread_of f t).held ≡ 0 = ap (λ x. length x.held) (get_or_past f.threads t idle past) in
      omega (arith, none)
]

pub took_private_steps : (f g : Flat) (logs : List Logged) (t k : ℕ) → IsFlat f → t < length f.threads → WentAlone f g t k
    → (answers : List (List AnsweredCall))
    → TookSteps (replicate k t) (record { flat = f; logs = logs; answers = answers }) (record { flat = g; logs = logs; answers = answers })
took_private_steps f g logs t k flat l w answers = record {
  run = replicate k (t, 0);
  turns = private_steps_in_turn (machine f) t k (tables f) w.runs (λ j l. ap shared_ask (w.each j l));
  ends = w.ends;
  code = w.code;
  threads = w.threads;
  objects = w.objects;
  logs = λ u below. sym (append-nil (labels_at logs u)) ∙ ap (λ z. labels_at logs u ++ z) (sym (w.quiet u));
  answers = λ u below. sym (append-nil (answers_at answers u)) ∙ ap (λ z. answers_at answers u ++ answers_in z) (sym (w.quiet u));
  fewer =
      let step : Step = (t, 0) in
      let size : length (replicate k step) ≡ k = length-replicate k step in
      let less = steps_lower_all_left f.code (length f.threads) t k (tables f) (flat_holds_few f flat) l w.runs in
      let same : all_left (length f.threads) (tables g).now ≡ all_left (length f.threads)
      (end (machine f) (tables f) (replicate k (t, 0))).now = ap (λ s. all_left (length f.threads) s.now) w.ends in
      omega (arith, size, less, same);
}

pub has_logs_private_steps : (f g : Flat) (logs : List Logged) (t k : ℕ) → WentAlone f g t k → HasLogs f logs → HasLogs g logs
has_logs_private_steps f g logs t k w has_logs = record {
  one_each = has_logs.one_each ∙ sym w.threads;
  rooms = λ u l. has_logs.rooms u (omega (arith, l, w.threads));
  counts = λ u l. has_logs.counts u (omega (arith, l, w.threads)) ∙ sym (
      ap (λ s. (s.now u).events) w.ends ∙ (tallies_along_run f.code (tables f) (replicate k (t, 0)) w.runs u).events
      ∙ ap (λ z. (thread_of f u).events + length z) (w.quiet u)
      ∙ (let e : (thread_of f u).events + 0 ≡ (thread_of f u).events = omega arith in e));
  events_fit = λ u l. events_of_equal_counts (thread_of f u).profile (thread_of g u).profile (length f.objects) (length g.objects) (log_at logs u).events
      (ap (λ s. (s.now u).profile) w.ends ∙ profile_after_run f.code (tables f) (replicate k (t, 0)) u) w.objects
      (has_logs.events_fit u (omega (arith, l, w.threads)));
}

-- Turns of threads that are some private steps ahead.
use Rattle.std.proofs.Common.{◌≡◌, ℕ, zero, suc, ◌+◌, ◌<◌, ◌≤◌, true, false, Bool, eqb, List, [], ◌∷◌, ◌++◌, length, set, get_or, replicate}
use Rattle.std.proofs.Common.{refl, sym, ap, ◌∙◌, subst, arith, inl, inr, append-nil, append_assoc, length-append}
use Rattle.std.proofs.lemmas.Bool.{cases_eq, cases_lt}
use Rattle.std.proofs.lemmas.List.{get_or-replicate, get_or_past, length-replicate}
use Rattle.std.specs.List.{range_with_len}
use Rattle.ir_thread.specs.State.{shared_ask, thread_machine}
use Rattle.ir_runs.specs.Machine.{Machine, Private, Quiet}
use Rattle.ir_thread.specs.State as thread
use Rattle.ir_flat.specs.Alone.{WentAlone}
use Rattle.ir_flat.specs.Flat.{Flat, tables, machine, IsFlat}
use Rattle.ir_runs.specs.Run.{State, Step, Can, after, label, end, join_if, events, log, EntersIfFree, rounds, HasNone}
use Rattle.ir_runs.specs.Orders.{InTurn}
use Rattle.ir_runs.proofs.CallerLemmas.{log_append, end_append, in_turn_of_append}
use Rattle.ir_record.specs.Ahead.{lead_of_thread, IsThreadAhead, all_threads_ahead, NoneAhead, Went, WentIf}
use Rattle.ir_record.specs.Progress.{Progress, TookSteps, TookIf, all_left, labels_at}
use Rattle.ir_record.specs.Worlds.{answers_at, answers_in}
use Rattle.ir_record.proofs.Joining.{range_with_last_number, rounds_with_round_added, append_nonempty_first, append_nonempty_second, no_steps_in_empty_turns}
use Rattle.ir_record.proofs.Leading.{private_can_step, private_step_is_quiet, ahead_lead_lowered, can_step_from_ahead, enters_if_free_ahead}
use Rattle.ir_record.proofs.Leading.{private_enters_if_free, no_step_if_none_ahead, label_same_ahead, ahead_after_both}
use Rattle.ir_record.proofs.Leading.{lead_set_after_private, zero_leads_ahead, ahead_by_none_is_same}
use Rattle.ir_record.proofs.Running.{flat_holds_few}
use Rattle.ir_record.proofs.Steps.{answers_in_append}
use Rattle.ir_record.proofs.Tally.{steps_lower_all_left}

-- ---- how many steps all are ahead

pub all_ahead_after_set : (xs : List ℕ) (t k : ℕ) → t < length xs → all_threads_ahead (set xs t k) + lead_of_thread xs t ≡ all_threads_ahead xs + k
all_ahead_after_set [] t k l = absurd (omega (arith, l))
all_ahead_after_set (x ∷ xs) zero k l = omega arith
all_ahead_after_set (x ∷ xs) (suc t) k l = let rest = all_ahead_after_set xs t k (omega (arith, l)) in omega (arith, rest)

-- a place that is read, whatever the default is
pub lead_is_element : (xs : List ℕ) (t v : ℕ) → t < length xs → v ≡ get_or xs t v → lead_of_thread xs t ≡ v
lead_is_element [] t v l is = absurd (omega (arith, l))
lead_is_element (x ∷ xs) zero v l is = sym is
lead_is_element (x ∷ xs) (suc t) v l is = lead_is_element xs t v (omega (arith, l)) is

-- ---- what one step logs

quiet_step_no_log : {T : Type 0} (m : Machine T) (s : State T) (t r u : ℕ) → label m s (t, r) ≡ Quiet → log m s ((t, r) ∷ []) u ≡ []
quiet_step_no_log m s t r u is = ap (λ k. events (join_if (eqb u t) (s.now u, k) [])) is ∙ none (eqb u t)
  where
    none : (b : Bool) → events (join_if b (s.now u, Quiet) []) ≡ []
    none true = refl
    none false = refl

log_same_if_label_same : {T : Type 0} (m : Machine T) (s later : State T) (t r u : ℕ) → label m later (t, r) ≡ label m s (t, r)
    → log m later ((t, r) ∷ []) u ≡ log m s ((t, r) ∷ []) u
log_same_if_label_same m s later t r u is = by_case (eqb u t)
  where
    by_case : (b : Bool) → events (join_if b (later.now u, label m later (t, r)) []) ≡ events (join_if b (s.now u, label m s (t, r)) [])
    by_case true = ap (λ k. events ((later.now u, k) ∷ [])) is
    by_case false = refl

-- ---- one turn

-- a thread that is ahead has already taken its step
pub ahead_turn_lowers_lead : (s : State thread.ThreadState) (a : Progress) (c : List ℕ) (t k : ℕ) → t < length c → lead_of_thread c t ≡ suc k
    → IsThreadAhead (machine a.flat) c s (tables a.flat) → WentIf true (t ∷ []) s a c a (set c t k)
ahead_turn_lowers_lead s a c t k l is h =
    let private = h.each t 0 (omega (arith, is)) in
    let quiet : (u : ℕ) → log (machine a.flat) s ((t, 0) ∷ []) u ≡ [] =
    λ u. quiet_step_no_log (machine a.flat) s t 0 u (private_step_is_quiet (machine a.flat) s t private) in
    record {
      went = record {
        run = (t, 0) ∷ [];
        turns = inr (0, [], refl, private_can_step (machine a.flat) s t private, private_enters_if_free (machine a.flat) s t private, refl);
        ahead = ahead_lead_lowered (machine a.flat) c s (tables a.flat) t k l is h;
        code = refl;
        threads = refl;
        objects = refl;
        logs = λ u below. sym (append-nil (labels_at a.logs u)) ∙ ap (λ z. labels_at a.logs u ++ z) (sym (quiet u));
        answers = λ u below. sym (append-nil (answers_at a.answers u)) ∙ ap (λ z. answers_at a.answers u ++ answers_in z) (sym (quiet u));
        fewer = let less = all_ahead_after_set c t k l in omega (arith, less, is);
      };
      some = λ e. (let one : 0 < suc zero = omega arith in one);
      none = λ e. absurd cc;
    }

-- a turn in which nothing is taken
no_step_in_empty_turn : {T : Type 0} (m : Machine T) (s : State T) (t : ℕ) (run : List Step) → InTurn m s (t ∷ []) run → run ≡ [] → HasNone m s t
no_step_in_empty_turn m s t run (inl none) z = none.0
no_step_in_empty_turn m s t run (inr some) z = absurd (cc (some.2, z))

pub passed_changes_nothing : (a b : Progress) (t : ℕ) (moved : Bool) → moved ≡ false → TookIf moved (t ∷ []) a b → tables b.flat ≡ tables a.flat
passed_changes_nothing a b t moved e k = k.took.ends ∙ ap (end (machine a.flat) (tables a.flat)) (k.none e)

pub passed_leaves_no_step : (a b : Progress) (t : ℕ) (moved : Bool) → moved ≡ false → TookIf moved (t ∷ []) a b
    → HasNone (machine b.flat) (tables b.flat) t
passed_leaves_no_step a b t moved e k =
    let before : HasNone (machine a.flat) (tables a.flat) t =
    no_step_in_empty_turn (machine a.flat) (tables a.flat) t k.took.run k.took.turns (k.none e) in
    subst (λ s. HasNone (machine b.flat) s t) (sym (passed_changes_nothing a b t moved e k))
    (subst (λ code. HasNone (thread_machine code) (tables a.flat) t) (sym k.took.code) before)

-- a thread that is not ahead has no step
pub went_passed_turn : (s : State thread.ThreadState) (a b : Progress) (c : List ℕ) (t : ℕ) (moved : Bool) → moved ≡ false → lead_of_thread c t ≡ 0
    → IsThreadAhead (machine a.flat) c s (tables a.flat) → TookIf moved (t ∷ []) a b → WentIf false (t ∷ []) s a c b c
went_passed_turn s a b c t moved e is h k =
    let none : k.took.run ≡ [] = k.none e in
    record {
      went = record {
        run = [];
        turns = inl (
          no_step_if_none_ahead (machine a.flat) c s (tables a.flat) t is h
              (no_step_in_empty_turn (machine a.flat) (tables a.flat) t k.took.run k.took.turns none),
          refl,
        );
        ahead = subst (IsThreadAhead (machine a.flat) c s) (sym (passed_changes_nothing a b t moved e k)) h;
        code = k.took.code;
        threads = k.took.threads;
        objects = k.took.objects;
        logs = λ u l. k.took.logs u l ∙ ap (λ z. labels_at a.logs u ++ log (machine a.flat) (tables a.flat) z u) none;
        answers = λ u l. k.took.answers u l ∙ ap (λ z. answers_at a.answers u ++ answers_in (log (machine a.flat) (tables a.flat) z u))
            none;
        fewer = let less = k.took.fewer in omega (arith, less);
      };
      some = λ m. absurd cc;
      none = λ m. (refl, refl, (is, tt));
    }

-- its step, and private steps after it
pub went_turn_and_private : (s : State thread.ThreadState) (a b : Progress) (g : Flat) (c : List ℕ) (t k : ℕ) → t < length c → t < length a.flat.threads
    → IsFlat b.flat → lead_of_thread c t ≡ 0 → IsThreadAhead (machine a.flat) c s (tables a.flat) → TookIf true (t ∷ []) a b
    → WentAlone b.flat g t k → WentIf true (t ∷ []) s a c (record b { flat = g }) (set c t k)
went_turn_and_private s a b g c t k l below flat is h took w = by_turn took.took.turns
  where
    here : (r : ℕ) (rest : List Step) → took.took.run ≡ (t, r) ∷ rest → Can (machine a.flat) (tables a.flat) (t, r)
        → EntersIfFree (machine a.flat) (tables a.flat) (t, r) → rest ≡ []
        → WentIf true (t ∷ []) s a c (record b { flat = g }) (set c t k)
    here r rest e can enters last =
        let m = machine a.flat in
        let one : took.took.run ≡ (t, r) ∷ [] = e ∙ ap (λ z. (t, r) ∷ z) last in
        let is_after : tables b.flat ≡ after m (tables a.flat) (t, r) = took.took.ends ∙ ap (end m (tables a.flat)) one in
        let same_machine : machine b.flat ≡ m = ap thread_machine took.took.code in
        let h' : IsThreadAhead m c (after m s (t, r)) (tables b.flat) =
        subst (IsThreadAhead m c (after m s (t, r))) (sym is_after) (ahead_after_both m c s (tables a.flat) t r is h) in
        let emitted : (u : ℕ) → log m (tables a.flat) took.took.run u ≡ log m s ((t, r) ∷ []) u = λ u. ap (λ z. log m (tables a.flat) z u) one
        ∙ log_same_if_label_same m s (tables a.flat) t r u (label_same_ahead m c s (tables a.flat) t r is h) in
        record {
          went = record {
            run = (t, r) ∷ [];
            turns = inr (
              r,
              [],
              refl,
              can_step_from_ahead m c s (tables a.flat) t r is h can,
              enters_if_free_ahead m c s (tables a.flat) t r is h enters,
              refl,
            );
            ahead = subst (IsThreadAhead m (set c t k) (after m s (t, r)))
                (sym (w.ends ∙ ap (λ n. end n (tables b.flat) (replicate k (t, 0))) same_machine))
                (lead_set_after_private m c (after m s (t, r)) (tables b.flat) t k l is h'
                (λ j less. subst (λ n. n.ask ((end n (tables b.flat) (replicate j (t, 0))).now t) ≡ Private) same_machine
                (ap shared_ask (w.each j less))));
            code = w.code ∙ took.took.code;
            threads = w.threads ∙ took.took.threads;
            objects = w.objects ∙ took.took.objects;
            logs = λ u less. took.took.logs u less ∙ ap (λ z. labels_at a.logs u ++ z) (emitted u);
            answers = λ u less. took.took.answers u less ∙ ap (λ z. answers_at a.answers u ++ answers_in z) (emitted u);
            fewer =
                let n : ℕ = length a.flat.threads in
                let first = took.took.fewer in
                let size : length took.took.run ≡ 1 = ap length one in
                let alone_fewer = steps_lower_all_left b.flat.code n t k (tables b.flat) (flat_holds_few b.flat flat) below w.runs in
                let ended : all_left n (tables g).now ≡ all_left n (end (machine b.flat) (tables b.flat) (replicate k (t, 0))).now =
                ap (λ z. all_left n z.now) w.ends in
                let lead_set = all_ahead_after_set c t k l in
                omega (arith, first, size, alone_fewer, ended, lead_set, is);
          };
          some = λ e. (let one : 0 < suc zero = omega arith in one);
          none = λ e. absurd cc;
        }

    by_turn : InTurn (machine a.flat) (tables a.flat) (t ∷ []) took.took.run
        → WentIf true (t ∷ []) s a c (record b { flat = g }) (set c t k)
    by_turn (inl none) = absurd (let some = took.some refl in let size : length took.took.run ≡ 0 = ap length none.1 in
        omega (arith, some, size))
    by_turn (inr some) = here some.0 some.1 some.2 some.3 some.4 some.5

-- t numbers and the next one
pub range_from_zero_push : (t : ℕ) → range_with_len 0 t ++ t ∷ [] ≡ range_with_len 0 (t + 1)
range_from_zero_push t = ap (λ k. range_with_len 0 t ++ k ∷ []) (let e : t ≡ 0 + t = omega arith in e) ∙ range_with_last_number 0 t
    ∙ ap (range_with_len 0) (let e : suc t ≡ t + 1 = omega arith in e)

-- ---- turns one after the other

unfoldable pub went_by_no_turns_changes_nothing : (s : State thread.ThreadState) (a : Progress) (c : List ℕ) → IsThreadAhead (machine a.flat) c s (tables a.flat)
    → Went [] s a c a c
went_by_no_turns_changes_nothing s a c h = record {
  run = [];
  turns = refl;
  ahead = h;
  code = refl;
  threads = refl;
  objects = refl;
  logs = λ u l. sym (append-nil (labels_at a.logs u));
  answers = λ u l. sym (append-nil (answers_at a.answers u));
  fewer = omega arith;
}

-- where the first turns lead, by the machine on which they begin
abbrev pub reached : {order : List ℕ} {s : State thread.ThreadState} {a b : Progress} {c d : List ℕ} → Went order s a c b d → State thread.ThreadState
reached {order} {s} {a} p = end (machine a.flat) s p.run

-- they are ahead of it on the machine that they lead to
pub ahead_of_reached_state : (order : List ℕ) (s : State thread.ThreadState) (a b : Progress) (c d : List ℕ) (p : Went order s a c b d)
    → IsThreadAhead (machine b.flat) d (reached p) (tables b.flat)
ahead_of_reached_state order s a b c d p = subst (λ k. IsThreadAhead (thread_machine k) d (end (machine a.flat) s p.run) (tables b.flat)) (sym p.code)
    p.ahead

unfoldable pub went_through_append_of_orders : (order more : List ℕ) (s : State thread.ThreadState) (a b e : Progress) (c d f : List ℕ) (p : Went order s a c b d)
    → Went more (reached p) b d e f → Went (order ++ more) s a c e f
went_through_append_of_orders order more s a b e c d f p q =
    let there : (u : ℕ) → log (machine b.flat) (reached p) q.run u ≡ log (machine a.flat) (reached p) q.run u =
    λ u. ap (λ k. log (thread_machine k) (reached p) q.run u) p.code in
    let logs_of : (u : ℕ) → log (machine a.flat) s (p.run ++ q.run) u ≡ log (machine a.flat) s p.run u ++ log (machine b.flat) (reached p)
    q.run u =
    λ u. log_append (machine a.flat) s p.run q.run u ∙ ap (λ z. log (machine a.flat) s p.run u ++ z) (sym (there u)) in
    record {
      run = p.run ++ q.run;
      turns = in_turn_of_append (machine a.flat) s order more p.run q.run p.turns
          (subst (λ k. InTurn (thread_machine k) (reached p) more q.run) p.code q.turns);
      ahead = subst (λ z. IsThreadAhead (machine a.flat) f z (tables e.flat)) (sym (end_append (machine a.flat) s p.run q.run))
          (subst (λ k. IsThreadAhead (thread_machine k) f (end (thread_machine k) (reached p) q.run) (tables e.flat)) p.code q.ahead);
      code = q.code ∙ p.code;
      threads = q.threads ∙ p.threads;
      objects = q.objects ∙ p.objects;
      logs = λ u l. q.logs u (omega (arith, l, p.threads)) ∙ ap (λ z. z ++ log (machine b.flat) (reached p) q.run u) (p.logs u l)
          ∙ append_assoc (labels_at a.logs u) (log (machine a.flat) s p.run u) (log (machine b.flat) (reached p) q.run u)
          ∙ ap (λ z. labels_at a.logs u ++ z) (sym (logs_of u));
      answers = λ u l. q.answers u (omega (arith, l, p.threads))
          ∙ ap (λ z. z ++ answers_in (log (machine b.flat) (reached p) q.run u)) (p.answers u l)
          ∙ append_assoc (answers_at a.answers u) (answers_in (log (machine a.flat) s p.run u))
          (answers_in (log (machine b.flat) (reached p) q.run u))
          ∙ ap (λ z. answers_at a.answers u ++ z)
          (sym (answers_in_append (log (machine a.flat) s p.run u) (log (machine b.flat) (reached p) q.run u))
          ∙ ap answers_in (sym (logs_of u)));
      fewer = let more_left = subst (λ n. all_left n (tables e.flat).now + all_threads_ahead f + length q.run ≤ all_left n (tables b.flat).now +
          all_threads_ahead d) p.threads q.fewer in
          let first_left = p.fewer in
          let both = length-append p.run q.run in
          omega (arith, more_left, first_left, both);
    }

-- no turn of no thread
pub went_no_turns : (s : State thread.ThreadState) (a : Progress) (c : List ℕ) → IsThreadAhead (machine a.flat) c s (tables a.flat) → WentIf false [] s a c a c
unfolding went_by_no_turns_changes_nothing
went_no_turns s a c h = record { went = went_by_no_turns_changes_nothing s a c h; some = λ e. absurd cc; none = λ e. (refl, refl, tt) }

none_ahead_of_append : (order more ahead : List ℕ) → NoneAhead order ahead → NoneAhead more ahead → NoneAhead (order ++ more) ahead
none_ahead_of_append [] more ahead h g = g
none_ahead_of_append (t ∷ order) more ahead h g = (h.0, none_ahead_of_append order more ahead h.1 g)

-- turns, and one that takes a step
pub went_last_turn_step : (moved : Bool) (order more : List ℕ) (s : State thread.ThreadState) (a b e : Progress) (c d f : List ℕ)
    (p : WentIf moved order s a c b d) → WentIf true more (reached p.went) b d e f → WentIf true (order ++ more) s a c e f
unfolding went_through_append_of_orders
went_last_turn_step moved order more s a b e c d f p q = record {
  went = went_through_append_of_orders order more s a b e c d f p.went q.went;
  some = λ _. append_nonempty_second p.went.run q.went.run (q.some refl);
  none = λ m. absurd cc;
}

-- turns, and one that takes none
pub went_last_turn_none : (moved : Bool) (order more : List ℕ) (s : State thread.ThreadState) (a b e : Progress) (c d f : List ℕ)
    (p : WentIf moved order s a c b d) → WentIf false more (reached p.went) b d e f → WentIf moved (order ++ more) s a c e f
unfolding went_through_append_of_orders
went_last_turn_none moved order more s a b e c d f p q = record {
  went = went_through_append_of_orders order more s a b e c d f p.went q.went;
  some = λ m. append_nonempty_first p.went.run q.went.run (p.some m);
  none = λ m.
      let first = p.none m in
      let last = q.none refl in (
        ap (λ z. z ++ q.went.run) first.0 ∙ last.0,
        last.1
            ∙ first.1,
        none_ahead_of_append order more c first.2 (subst (NoneAhead more) first.1 last.2),
      );
}

-- one turn more of a round
pub went_round_turn_added : (was now ahead : Bool) (t : ℕ) (s : State thread.ThreadState) (a b e : Progress) (c d f : List ℕ)
    (p : WentIf was (range_with_len 0 t) s a c b d) → WentIf ahead (t ∷ []) (reached p.went) b d e f → (ahead ≡ true → now ≡ true)
    → (ahead ≡ false → now ≡ was) → WentIf now (range_with_len 0 (t + 1)) s a c e f
went_round_turn_added was now true t s a b e c d f p q taken same =
    subst (λ z. WentIf z (range_with_len 0 (t + 1)) s a c e f) (sym (taken refl))
    (subst (λ order. WentIf true order s a c e f) (range_from_zero_push t) (went_last_turn_step was (range_with_len 0 t) (t ∷ []) s a b e c d f p q))
went_round_turn_added was now false t s a b e c d f p q taken same =
    subst (λ z. WentIf z (range_with_len 0 (t + 1)) s a c e f) (sym (same refl))
    (subst (λ order. WentIf was order s a c e f) (range_from_zero_push t) (went_last_turn_none was (range_with_len 0 t) (t ∷ []) s a b e c d f p q))

-- ---- rounds

-- what some rounds make of a recording
abbrev pub WentRounds : ℕ → Progress → Progress → List ℕ → Type 0
WentRounds n a b ahead = (count : ℕ) × Went (rounds n count) (tables a.flat) a (replicate n 0) b ahead

lead_of_zeros_is_zero : (n t : ℕ) → lead_of_thread (replicate n 0) t ≡ 0
lead_of_zeros_is_zero n t = elim (cases_lt t n) [
  | inl l ↦ get_or-replicate n t 0 0 l
  | inr past ↦ get_or_past (replicate n 0) t 0
      (let size : length (replicate n 0) ≡ n = length-replicate {A = ℕ} n 0 in omega (arith, size, past))
]

all_ahead_of_zeros : (n : ℕ) → all_threads_ahead (replicate n 0) ≡ 0
all_ahead_of_zeros zero = refl
all_ahead_of_zeros (suc n) = let rest = all_ahead_of_zeros n in omega (arith, rest)

pub no_rounds_change_nothing : (n : ℕ) (a : Progress) → WentRounds n a a (replicate n 0)
no_rounds_change_nothing n a = (0, went_by_no_turns_changes_nothing (tables a.flat) a (replicate n 0) (zero_leads_ahead (machine a.flat) (replicate n 0) (tables a.flat) (lead_of_zeros_is_zero n)))

lead_zero_if_none_ahead : (from n : ℕ) (ahead : List ℕ) → NoneAhead (range_with_len from n) ahead → (t : ℕ) → from ≤ t → t < from + n → lead_of_thread ahead t ≡ 0
lead_zero_if_none_ahead from zero ahead h t low high = absurd (omega (arith, low, high))
lead_zero_if_none_ahead from (suc n) ahead h t low high = elim (cases_eq t from) [
  | inl e ↦ ap (lead_of_thread ahead) e ∙ h.0
  | inr ne ↦ lead_zero_if_none_ahead (from + 1) n ahead h.1 t (omega (arith, low, ne)) (omega (arith, high))
]

-- rounds, and one more, which takes a step if moved
pub record OneMoreRound (moved : Bool) (a b e : Progress) (d f : List ℕ) : Type 0 where
  pub first : WentRounds (length a.flat.threads) a b d
  pub places : length d ≡ length b.flat.threads
  pub next : WentIf moved (range_with_len 0 (length a.flat.threads)) (reached first.1) b d e f

-- the round that was taken leads on from where the rounds before it lead
pub one_more_round : {moved : Bool} {a b e : Progress} {d f : List ℕ} → WentRounds (length a.flat.threads) a b d → length d ≡ length b.flat.threads
    → ((s : State thread.ThreadState) → IsThreadAhead (machine b.flat) d s (tables b.flat)
    → WentIf moved (range_with_len 0 (length b.flat.threads)) s b d e f) → OneMoreRound moved a b e d f
one_more_round {moved} {a} {b} {e} {d} {f} p places q = record {
  first = p;
  places = places;
  next = subst (λ n. WentIf moved (range_with_len 0 n) (reached p.1) b d e f) p.1.threads (q (reached p.1)
      (ahead_of_reached_state (rounds (length a.flat.threads) p.0) (tables a.flat) a b (replicate (length a.flat.threads) 0) d p.1));
}

module _ {moved : Bool} {a b e : Progress} {d f : List ℕ} (r : OneMoreRound moved a b e d f) where
  pub round_more : WentRounds (length a.flat.threads) a e f
  round_more = (
    suc r.first.0,
    subst (λ order. Went order (tables a.flat) a (replicate (length a.flat.threads) 0) e f) (rounds_with_round_added (length a.flat.threads) r.first.0)
        (went_through_append_of_orders (rounds (length a.flat.threads) r.first.0) (range_with_len 0 (length a.flat.threads)) (tables a.flat) a b e
        (replicate (length a.flat.threads) 0) d f r.first.1 r.next.went),
  )

  -- no thread is ahead after a round in which no thread took a step
  none_ahead : moved ≡ false → (t : ℕ) → lead_of_thread f t ≡ 0
  none_ahead is t =
      let h = r.next.none is in
      let size : length d ≡ length a.flat.threads = r.places ∙ r.first.1.threads in
      ap (λ z. lead_of_thread z t) h.1 ∙ elim (cases_lt t (length a.flat.threads)) [
        | inl l ↦ lead_zero_if_none_ahead 0 (length a.flat.threads) d h.2 t (omega arith) (omega (arith, l))
        | inr past ↦ get_or_past d t 0 (omega (arith, size, past))
      ]

  -- then what was recorded is that of the rounds
  pub caught : moved ≡ false → (count : ℕ) × TookSteps (rounds (length a.flat.threads) count) a e
  caught is =
      let p : WentRounds (length a.flat.threads) a e f = round_more in (
        p.0,
        record {
          run = p.1.run;
          turns = p.1.turns;
          ends = ahead_by_none_is_same (machine a.flat) f (reached p.1) (tables e.flat) (none_ahead is) p.1.ahead;
          code = p.1.code;
          threads = p.1.threads;
          objects = p.1.objects;
          logs = p.1.logs;
          answers = p.1.answers;
          fewer = let less = p.1.fewer in let zeros = all_ahead_of_zeros (length a.flat.threads) in omega (arith, less, zeros);
        },
      )

  -- and no thread has a step
  pub all_over : moved ≡ false → (t : ℕ) → t < length e.flat.threads → HasNone (machine e.flat) (tables e.flat) t
  all_over is t l =
      let n : ℕ = length a.flat.threads in
      let s : State thread.ThreadState = reached r.first.1 in
      let w = r.next.went in
      let nothing = (r.next.none is).0 in
      let nobody : InTurn (machine b.flat) s (range_with_len 0 n) [] =
      subst (InTurn (machine b.flat) s (range_with_len 0 n)) nothing w.turns in
      let there : HasNone (machine b.flat) s t =
      no_steps_in_empty_turns (machine b.flat) s 0 n nobody t (omega arith) (omega (arith, l, w.threads, r.first.1.threads)) in
      let same : tables e.flat ≡ s = ahead_by_none_is_same (machine b.flat) f (reached w) (tables e.flat) (none_ahead is) w.ahead
      ∙ ap (end (machine b.flat) s) nothing in
      subst (λ z. HasNone (machine e.flat) z t) (sym same) (subst (λ k. HasNone (thread_machine k) s t) (sym w.code) there)

  -- a round that takes a step leaves fewer
  pub fewer_left : moved ≡ true → all_left (length b.flat.threads) (tables e.flat).now + all_threads_ahead f
      < all_left (length b.flat.threads) (tables b.flat).now + all_threads_ahead d
  fewer_left is = let some = r.next.some is in let less = r.next.went.fewer in omega (arith, some, less)

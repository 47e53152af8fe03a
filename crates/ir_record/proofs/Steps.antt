-- Steps that are recorded.
use Rattle.std.proofs.Common.{◌≡◌, ◌≢◌, ℕ, zero, suc, ◌+◌, ◌<◌, ◌≤◌, true, false, Bool, List, [], ◌∷◌, ◌++◌, length, refl, sym, ap, ◌∙◌}
use Rattle.std.proofs.Common.{subst, arith, inl, inr, eq-eqb, ne_eqb, append-nil, append_assoc, length-append}
use Rattle.std.proofs.lemmas.Bool.{cases_eq}
use Rattle.ir_thread.specs.State.{ask_of, shared_ask, thread_machine}
use Rattle.ir_thread.specs.declared.ask.Ask.{Ask}
use Rattle.ir_runs.specs.Machine as machine
use Rattle.ir_runs.specs.Machine.{Label, Quiet, Answer, EnteredAt, LeftAt, FailedTry, logged}
use Rattle.ir_flat.specs.Flat.{Flat, thread_of, tables, machine}
use Rattle.ir_runs.specs.Run.{Step, Can, asked, after, label, end, join_if, events, log, EntersIfFree, HasNone}
use Rattle.ir_runs.specs.Orders.{InTurn}
use Rattle.ir_runs.proofs.CallerLemmas.{log_append, end_append, in_turn_of_append}
use Rattle.ir_record.specs.Progress.{Progress, Moved, TookSteps, TookIf, TookTurns, all_left, labels_at}
use Rattle.ir_record.specs.Refusing.{Turn, plain_turns, InTurns}
use Rattle.ir_record.specs.Worlds.{answers_at, answers_in}
use Rattle.ir_record.proofs.Refusing.{plain_turns_of_order, in_turns_of_append}
use Rattle.ir_record.proofs.Tally.{HoldFewObjects, step_lowers_all_left}

-- ---- what a step logs

pub own_log_is_logged : (f : Flat) (t r : ℕ) → log (machine f) (tables f) ((t, r) ∷ []) t ≡ logged (label (machine f) (tables f) (t, r)) []
own_log_is_logged f t r = ap (λ b. events (join_if b (thread_of f t, label (machine f) (tables f) (t, r)) [])) (eq-eqb t t refl)

pub other_log_is_empty : (f : Flat) (t r u : ℕ) → u ≢ t → log (machine f) (tables f) ((t, r) ∷ []) u ≡ []
other_log_is_empty f t r u ne = ap (λ b. events (join_if b (thread_of f u, label (machine f) (tables f) (t, r)) [])) (ne_eqb u t ne)

-- ---- turns that were taken

-- what is no try enters nothing
pub no_try_enters_if_free : (f : Flat) (t r : ℕ) (q : Ask) → ask_of f.code (thread_of f t) ≡ q → ((o : ℕ) → shared_ask q ≢ machine.Try o)
    → EntersIfFree (machine f) (tables f) (t, r)
no_try_enters_if_free f t r q is never o tries can = absurd (never o (sym (ap shared_ask is) ∙ tries))

-- nothing happens in the turn of a thread that has no step
pub took_none_if_same : (t : ℕ) (a b : Progress) → HasNone (machine a.flat) (tables a.flat) t → b ≡ a → TookIf false (t ∷ []) a b
took_none_if_same t a b none same = subst (TookIf false (t ∷ []) a) (sym same) (record {
  took = record {
    run = [];
    turns = inl (none, refl);
    ends = refl;
    code = refl;
    threads = refl;
    objects = refl;
    logs = λ u l. sym (append-nil (labels_at a.logs u));
    answers = λ u l. sym (append-nil (answers_at a.answers u));
    fewer = omega arith;
  };
  some = λ e. absurd cc;
  none = λ e. refl;
})

-- a step of thread t that emits k
pub record OneStep (t r : ℕ) (k : Label) (a b : Progress) : Type 0 where
  pub below : t < length a.flat.threads
  pub few : HoldFewObjects (tables a.flat)
  pub can : Can (machine a.flat) (tables a.flat) (t, r)
  pub taken : tables b.flat ≡ after (machine a.flat) (tables a.flat) (t, r)
  pub code : b.flat.code ≡ a.flat.code
  pub threads : length b.flat.threads ≡ length a.flat.threads
  pub objects : length b.flat.objects ≡ length a.flat.objects
  pub emits : label (machine a.flat) (tables a.flat) (t, r) ≡ k
  pub own_log : labels_at b.logs t ≡ labels_at a.logs t ++ logged k []
  pub own_answers : answers_at b.answers t ≡ answers_at a.answers t ++ answers_in (logged k [])
  pub other_logs : (u : ℕ) → u ≢ t → labels_at b.logs u ≡ labels_at a.logs u
  pub other_answers : (u : ℕ) → u ≢ t → answers_at b.answers u ≡ answers_at a.answers u

unfoldable pub moved_if_one_step : (t r : ℕ) (k : Label) (a b : Progress) → OneStep t r k a b → Moved ((t, r) ∷ []) a b
moved_if_one_step t r k a b s = record {
  ends = s.taken;
  code = s.code;
  threads = s.threads;
  objects = s.objects;
  logs = λ u l. elim (cases_eq u t) [
    | inl e ↦ subst (λ z. labels_at b.logs z ≡ labels_at a.logs z ++ log (machine a.flat) (tables a.flat) ((t, r) ∷ []) z) (sym e)
        (s.own_log ∙ ap (λ z. labels_at a.logs t ++ z) (sym (own_log_is_logged a.flat t r ∙ ap (λ z. logged z []) s.emits)))
    | inr ne ↦ s.other_logs u ne ∙ sym (append-nil (labels_at a.logs u))
        ∙ ap (λ z. labels_at a.logs u ++ z) (sym (other_log_is_empty a.flat t r u ne))
  ];
  answers = λ u l. elim (cases_eq u t) [
    | inl e ↦ subst (λ z. answers_at b.answers z ≡ answers_at a.answers z ++ answers_in
        (log (machine a.flat) (tables a.flat) ((t, r) ∷ []) z)) (sym e)
        (s.own_answers ∙ ap (λ z. answers_at a.answers t ++ answers_in z) (sym (own_log_is_logged a.flat t r ∙ ap (λ z. logged z []) s.emits)))
    | inr ne ↦ s.other_answers u ne ∙ sym (append-nil (answers_at a.answers u))
        ∙ ap (λ z. answers_at a.answers u ++ answers_in z) (sym (other_log_is_empty a.flat t r u ne))
  ];
  fewer = subst (λ z. all_left (length a.flat.threads) z.now + 1 ≤ all_left (length a.flat.threads) (thread_of a.flat)) (sym s.taken)
      (step_lowers_all_left a.flat.code (length a.flat.threads) (tables a.flat) (t, r) s.few s.below s.can);
}

unfoldable pub took_turn_by_step : (t r : ℕ) (k : Label) (a b : Progress) → OneStep t r k a b → EntersIfFree (machine a.flat) (tables a.flat) (t, r)
    → TookSteps (t ∷ []) a b
took_turn_by_step t r k a b s enters =
    let m : Moved ((t, r) ∷ []) a b = moved_if_one_step t r k a b s in
    record {
      run = (t, r) ∷ [];
      turns = inr (r, [], refl, s.can, enters, refl);
      ends = m.ends;
      code = m.code;
      threads = m.threads;
      objects = m.objects;
      logs = m.logs;
      answers = m.answers;
      fewer = m.fewer;
    }

pub turn_taken_by_step : (t r : ℕ) (k : Label) (a b : Progress) → OneStep t r k a b → EntersIfFree (machine a.flat) (tables a.flat) (t, r)
    → TookIf true (t ∷ []) a b
unfolding took_turn_by_step
turn_taken_by_step t r k a b s enters = record {
  took = took_turn_by_step t r k a b s enters;
  some = λ e. (let one : 0 < suc zero = omega arith in one);
  none =
      λ e. absurd cc;
}

-- in a turn in which a try is refused
pub took_refused_turn : (t : ℕ) (k : Label) (a b : Progress) → OneStep t 0 k a b → TookTurns ((t, true) ∷ []) a b
took_refused_turn t k a b s = record {
  run = (t, 0) ∷ [];
  in_turns = inr (0, [], refl, s.can, (λ o tries. refl), refl);
  moved = moved_if_one_step t 0 k a b s;
}

pub answers_in-logged : (k : Label) (ys : List Label) → answers_in (logged k ys) ≡ answers_in (logged k []) ++ answers_in ys
answers_in-logged Quiet ys = refl
answers_in-logged (Answer i v) ys = refl
answers_in-logged (EnteredAt o a v l) ys = refl
answers_in-logged (FailedTry o) ys = refl
answers_in-logged (LeftAt o a v) ys = refl

pub answers_in_append : (xs ys : List Label) → answers_in (xs ++ ys) ≡ answers_in xs ++ answers_in ys
answers_in_append [] ys = refl
answers_in_append (Quiet ∷ xs) ys = answers_in_append xs ys
answers_in_append (Answer i v ∷ xs) ys = ap (λ z. (i, v) ∷ z) (answers_in_append xs ys)
answers_in_append (EnteredAt o a v l ∷ xs) ys = answers_in_append xs ys
answers_in_append (FailedTry o ∷ xs) ys = answers_in_append xs ys
answers_in_append (LeftAt o a v ∷ xs) ys = answers_in_append xs ys

-- ---- turns one after the other

unfoldable pub took_no_turns : (a : Progress) → TookSteps [] a a
took_no_turns a = record {
  run = [];
  turns = refl;
  ends = refl;
  code = refl;
  threads = refl;
  objects = refl;
  logs = λ u l. sym (append-nil (labels_at a.logs u));
  answers = λ u l. sym (append-nil (answers_at a.answers u));
  fewer = omega arith;
}

-- the same run on the machine and state at which it begins
pub log_on_later_machine : (a b : Progress) (first : List Step) (run : List Step) (t : ℕ) → b.flat.code ≡ a.flat.code
    → tables b.flat ≡ end (machine a.flat) (tables a.flat) first
    → log (machine b.flat) (tables b.flat) run t ≡ log (machine a.flat) (end (machine a.flat) (tables a.flat) first) run t
log_on_later_machine a b first run t code ends = ap (λ c. log (thread_machine c) (tables b.flat) run t) code
    ∙ ap (λ s. log (machine a.flat) s run t) ends

unfoldable pub moved_by_append_of_runs : (first next : List Step) (a b c : Progress) → Moved first a b → Moved next b c → Moved (first ++ next) a c
moved_by_append_of_runs first next a b c p q =
    let logs_of : (t : ℕ) → log (machine a.flat) (tables a.flat) (first ++ next) t ≡ log (machine a.flat) (tables a.flat) first t ++ log
    (machine b.flat) (tables b.flat) next t =
    λ t. log_append (machine a.flat) (tables a.flat) first next t
    ∙ ap (λ z. log (machine a.flat) (tables a.flat) first t ++ z) (sym (log_on_later_machine a b first next t p.code p.ends)) in
    record {
      ends = q.ends ∙ ap (λ k. end (thread_machine k) (tables b.flat) next) p.code ∙ ap (λ s. end (machine a.flat) s next) p.ends
          ∙ sym (end_append (machine a.flat) (tables a.flat) first next);
      code = q.code ∙ p.code;
      threads = q.threads ∙ p.threads;
      objects = q.objects ∙ p.objects;
      logs = λ t l. q.logs t (omega (arith, l, p.threads)) ∙ ap (λ z. z ++ log (machine b.flat) (tables b.flat) next t) (p.logs t l)
          ∙ append_assoc (labels_at a.logs t) (log (machine a.flat) (tables a.flat) first t) (log (machine b.flat) (tables b.flat) next t)
          ∙ ap (λ z. labels_at a.logs t ++ z) (sym (logs_of t));
      answers = λ t l. q.answers t (omega (arith, l, p.threads))
          ∙ ap (λ z. z ++ answers_in (log (machine b.flat) (tables b.flat) next t)) (p.answers t l)
          ∙ append_assoc (answers_at a.answers t) (answers_in (log (machine a.flat) (tables a.flat) first t))
          (answers_in (log (machine b.flat) (tables b.flat) next t))
          ∙ ap (λ z. answers_at a.answers t ++ z)
          (sym (answers_in_append (log (machine a.flat) (tables a.flat) first t) (log (machine b.flat) (tables b.flat) next t))
          ∙ ap answers_in (sym (logs_of t)));
      fewer = let more_left = subst (λ n. all_left n (tables c.flat).now + length next ≤ all_left n (tables b.flat).now) p.threads
          q.fewer in
          let first_left = p.fewer in
          let both = length-append first next in
          omega (arith, more_left, first_left, both);
    }

-- the steps of turns
pub moved_if_took : {order : List ℕ} {a b : Progress} (k : TookSteps order a b) → Moved k.run a b
moved_if_took k = record {
  ends = k.ends;
  code = k.code;
  threads = k.threads;
  objects = k.objects;
  logs = k.logs;
  answers = k.answers;
  fewer = k.fewer;
}

unfoldable pub took_append_of_orders : (order more : List ℕ) (a b c : Progress) → TookSteps order a b → TookSteps more b c → TookSteps (order ++ more) a c
took_append_of_orders order more a b c p q =
    let m : Moved (p.run ++ q.run) a c = moved_by_append_of_runs p.run q.run a b c (moved_if_took p) (moved_if_took q) in
    record {
      run = p.run ++ q.run;
      turns = in_turn_of_append (machine a.flat) (tables a.flat) order more p.run q.run p.turns
          (subst (λ s. InTurn (machine a.flat) s more q.run) p.ends
          (subst (λ k. InTurn (thread_machine k) (tables b.flat) more q.run) p.code q.turns));
      ends = m.ends;
      code = m.code;
      threads = m.threads;
      objects = m.objects;
      logs = m.logs;
      answers = m.answers;
      fewer = m.fewer;
    }

-- ---- turns in which tries may be refused

-- turns in which no try is refused that may enter
pub took_plain_turns : (order : List ℕ) (a b : Progress) → TookSteps order a b → TookTurns (plain_turns order) a b
took_plain_turns order a b k = record {
  run = k.run;
  in_turns = plain_turns_of_order (machine a.flat) (tables a.flat) order k.run k.turns;
  moved = moved_if_took k;
}

-- where the thread asks no try, refusing its tries changes nothing
pub refused_no_try_turn : (t : ℕ) (a b : Progress) → ((o : ℕ) → asked (machine a.flat) (tables a.flat) t ≢ machine.Try o) → TookSteps (t ∷ []) a b
    → TookTurns ((t, true) ∷ []) a b
refused_no_try_turn t a b never k = record { run = k.run; in_turns = refusing k.run k.turns; moved = moved_if_took k }
  where
    refusing : (run : List Step) → InTurn (machine a.flat) (tables a.flat) (t ∷ []) run
        → InTurns (machine a.flat) (tables a.flat) ((t, true) ∷ []) run
    refusing run (inl none) = inl none
    refusing run (inr some) = inr (some.0, some.1, some.2, some.3, (λ o tries. absurd (never o tries)), some.5)

pub took_turns_of_empty : (a : Progress) → TookTurns [] a a
took_turns_of_empty a = took_plain_turns [] a a (took_no_turns a)

-- a turn of what has no step
pub took_turn_without_step : (t : ℕ) (refused : Bool) (a : Progress) → HasNone (machine a.flat) (tables a.flat) t → TookTurns ((t, refused) ∷ []) a a
took_turn_without_step t refused a none = record { run = []; in_turns = inl (none, refl); moved = still }
  where
    still : Moved [] a a
    still = record {
      ends = refl;
      code = refl;
      threads = refl;
      objects = refl;
      logs = λ u l. sym (append-nil (labels_at a.logs u));
      answers = λ u l. sym (append-nil (answers_at a.answers u));
      fewer = omega arith;
    }

pub took_turns_of_append : (turns more : List Turn) (a b c : Progress) → TookTurns turns a b → TookTurns more b c → TookTurns (turns ++ more) a c
took_turns_of_append turns more a b c p q = record {
  run = p.run ++ q.run;
  in_turns = in_turns_of_append (machine a.flat) (tables a.flat) turns more p.run q.run p.in_turns
      (subst (λ s. InTurns (machine a.flat) s more q.run) p.moved.ends
      (subst (λ k. InTurns (thread_machine k) (tables b.flat) more q.run) p.moved.code q.in_turns));
  moved = moved_by_append_of_runs p.run q.run a b c p.moved q.moved;
}

-- Turns that end at a world that fails.
use Rattle.ir_thread.specs.declared.profile.Profile.{Profile}
use Rattle.std.proofs.Common.{◌≡◌, ℕ, zero, suc, ◌+◌, ◌-◌, ◌<◌, ◌≤◌, Bool, false, List, [], ◌∷◌, ◌++◌, length, replicate, Some, Result, Ok}
use Rattle.std.proofs.Common.{Err, IfErr, IsErrAnd, refl, sym, ap, ◌∙◌, subst, arith, append-nil, append_assoc}
use Rattle.std.proofs.lemmas.List.{replicate-append-replicate}
use Rattle.std.proofs.lemmas.Option.{slice_get-get_or}
use Rattle.std.specs.List.{range_with_len}
use Rattle.ir_image.specs.Guest.{Guest}
use Rattle.ir_thread.specs.State.{ask_of, shared_ask, thread_machine}
use Rattle.ir_thread.specs.State as thread
use Rattle.ir_runs.specs.Machine as machine
use Rattle.ir_flat.specs.Flat.{Flat, thread_of, tables, machine, start_flat}
use Rattle.ir_flat.proofs.CallerLemmas.{length_of_start_threads}
use Rattle.ir_runs.specs.Run.{State, Step, asked, end, log, rounds}
use Rattle.ir_runs.specs.Orders.{InTurn}
use Rattle.ir_runs.proofs.CallerLemmas.{log_append, end_append, in_turn_of_append}
use Rattle.ir_log.specs.Logged.{Logged}
use Rattle.ir_record.specs.Ahead.{Went}
use Rattle.ir_record.specs.Failures.{IsUnanswered, StoppedAt, StoppedTurns}
use Rattle.ir_record.specs.Progress.{Progress, TookSteps, TookTurns, IsReadyToRecord}
use Rattle.ir_record.specs.Refusing.{Turn, plain_turns, InTurns}
use Rattle.ir_record.specs.Worlds.{answers_at, AnsweredCall, answers_in}
use Rattle.ir_record.specs.Recording.{StoppedInTurns}
use Rattle.ir_record.proofs.Ended.{start, new_is_start_progress, new_log}
use Rattle.ir_record.proofs.Going.{reached, range_from_zero_push}
use Rattle.ir_record.proofs.Refusing.{plain_turns_of_append, in_turns_of_append, plain_turns_of_order}
use Rattle.ir_record.proofs.Steps.{log_on_later_machine, answers_in_append}

-- the error that a `?` hands on
pub if_err_of_its_error : {A E : Type 0} (P : E → Type 0) (r : Result A E) (e : E) → IsErrAnd r (λ x. x ≡ e) → P e → IfErr r P
if_err_of_its_error P (Ok x) e h p = tt
if_err_of_its_error P (Err x) e h p = subst P (sym h) p

-- a turn in which the thread asks its world, in any state in which it is the same
pub stopped_at_unanswered : (t : ℕ) (s : State thread.ThreadState) (p : Progress) (named : ℕ) (answers : List (List AnsweredCall)) (failed : List Bool)
    → IsReadyToRecord p failed → s.now t ≡ thread_of p.flat t → IsUnanswered t p named answers → StoppedAt (t ∷ []) s p named answers
stopped_at_unanswered t s p named answers failed ready same h = record {
  taken = [];
  left = [];
  so_far = ap (λ z. z ∷ []) (sym h.named_is);
  run = [];
  turns = refl;
  kind = h.kind;
  asks = ap (λ z. shared_ask (ask_of p.flat.code (s.now z))) h.named_is ∙ ap (λ x. shared_ask (ask_of p.flat.code x)) same
      ∙ ap shared_ask h.asks;
  worlds = ap (λ z. length z) h.no_more ∙ ready.worlds;
  answered = λ u l. ap (λ z. answers_at z u) h.no_more ∙ sym (append-nil (answers_at p.answers u));
}

-- the turns of a longer order
pub stopped_in_longer_order : (order more whole : List ℕ) (s : State thread.ThreadState) (p : Progress) (named : ℕ) (answers : List (List AnsweredCall))
    → order ++ more ≡ whole → StoppedAt order s p named answers → StoppedAt whole s p named answers
stopped_in_longer_order order more whole s p named answers e h = record {
  taken = h.taken;
  left = h.left ++ more;
  so_far = sym e ∙ ap (λ z. z ++ more) h.so_far ∙ append_assoc h.taken (named ∷ h.left) more;
  run = h.run;
  turns = h.turns;
  kind = h.kind;
  asks = h.asks;
  worlds = h.worlds;
  answered = h.answered;
}

-- turns by a first order, and those of a next one
stopped_after_order : (order more : List ℕ) (s : State thread.ThreadState) (a b : Progress) (run : List Step) (named : ℕ) (answers : List (List AnsweredCall))
    → InTurn (machine a.flat) s order run → b.flat.code ≡ a.flat.code → length b.flat.threads ≡ length a.flat.threads
    → ((t : ℕ) → t < length a.flat.threads → answers_at b.answers t ≡ answers_at a.answers t ++ answers_in (log (machine a.flat) s run t))
    → StoppedAt more (end (machine a.flat) s run) b named answers → StoppedAt (order ++ more) s a named answers
stopped_after_order order more s a b run named answers turns code threads given h =
    let mid : State thread.ThreadState = end (machine a.flat) s run in
    let logs_of : (t : ℕ) → log (machine a.flat) s (run ++ h.run) t ≡ log (machine a.flat) s run t ++ log (machine b.flat) mid h.run t =
    λ t. log_append (machine a.flat) s run h.run t
    ∙ ap (λ z. log (machine a.flat) s run t ++ z) (sym (ap (λ k. log (thread_machine k) mid h.run t) code)) in
    record {
      taken = order ++ h.taken;
      left = h.left;
      so_far = ap (λ z. order ++ z) h.so_far ∙ sym (append_assoc order h.taken (named ∷ h.left));
      run = run ++ h.run;
      turns = in_turn_of_append (machine a.flat) s order h.taken run h.run turns
          (subst (λ k. InTurn (thread_machine k) mid h.taken h.run) code h.turns);
      kind = h.kind;
      asks = ap (λ z. asked (machine a.flat) z named) (end_append (machine a.flat) s run h.run)
          ∙ subst (λ k. asked (thread_machine k) (end (thread_machine k) mid h.run) named ≡ machine.Env h.kind) code h.asks;
      worlds = h.worlds ∙ threads;
      answered = λ t l. h.answered t (omega (arith, l, threads))
          ∙ ap (λ z. z ++ answers_in (log (machine b.flat) mid h.run t)) (given t l)
          ∙ append_assoc (answers_at a.answers t) (answers_in (log (machine a.flat) s run t)) (answers_in (log (machine b.flat) mid h.run t))
          ∙ ap (λ z. answers_at a.answers t ++ z)
          (sym (answers_in_append (log (machine a.flat) s run t) (log (machine b.flat) mid h.run t)) ∙ ap answers_in (sym (logs_of t)));
    }

pub stopped_after_turns : (order more : List ℕ) (a b : Progress) (named : ℕ) (answers : List (List AnsweredCall)) → TookSteps order a b
    → StoppedAt more (tables b.flat) b named answers → StoppedAt (order ++ more) (tables a.flat) a named answers
stopped_after_turns order more a b named answers p h = stopped_after_order order more (tables a.flat) a b p.run named answers p.turns p.code p.threads
    p.answers (subst (λ s. StoppedAt more s b named answers) p.ends h)

-- the same where threads are ahead
pub stopped_past_turns : (order more : List ℕ) (s : State thread.ThreadState) (a b : Progress) (c d : List ℕ) (named : ℕ)
    (answers : List (List AnsweredCall)) (p : Went order s a c b d) → StoppedAt more (reached p) b named answers
    → StoppedAt (order ++ more) s a named answers
stopped_past_turns order more s a b c d named answers p h =
    stopped_after_order order more s a b p.run named answers p.turns p.code p.threads p.answers h

-- n numbers, and then the others
pub range_splits_in_two : (from n more : ℕ) → range_with_len from n ++ range_with_len (from + n) more ≡ range_with_len from (n + more)
range_splits_in_two from zero more = ap (λ k. range_with_len k more) (let e : from + 0 ≡ from = omega arith in e)
    ∙ ap (range_with_len from) (let e : more ≡ 0 + more = omega arith in e)
range_splits_in_two from (suc n) more = ap (λ xs. from ∷ xs)
    (ap (λ k. range_with_len (from + 1) n ++ range_with_len k more) (let e : from + suc n ≡ from + 1 + n = omega arith in e)
    ∙ range_splits_in_two (from + 1) n more)
    ∙ ap (range_with_len from) (let e : suc (n + more) ≡ suc n + more = omega arith in e)

-- the numbers below t, t, and those after it
pub range_splits_at_number : (t n : ℕ) → t < n → (range_with_len 0 t ++ t ∷ []) ++ range_with_len (t + 1) (n - (t + 1)) ≡ range_with_len 0 n
range_splits_at_number t n l = ap (λ z. z ++ range_with_len (t + 1) (n - (t + 1))) (range_from_zero_push t)
    ∙ ap (λ k. range_with_len 0 (t + 1) ++ range_with_len k (n - (t + 1))) (let e : t + 1 ≡ 0 + (t + 1) = omega arith in e)
    ∙ range_splits_in_two 0 (t + 1) (n - (t + 1)) ∙ ap (range_with_len 0) (let e : t + 1 + (n - (t + 1)) ≡ n = omega (arith, l) in e)

-- the turns of one thread before the last one that was taken, that one, and those after it
pub replicate_around_later : (t count left ran : ℕ) → left ≤ count → 0 < left → ran ≤ left - 1
    → (replicate (count - left + ran) t ++ t ∷ []) ++ replicate (left - (ran + 1)) t ≡ replicate count t
replicate_around_later t count left ran l some few = ap (λ z. z ++ replicate (left - (ran + 1)) t) (replicate-append-replicate (count - left + ran) 1 t)
    ∙ replicate-append-replicate (count - left + ran + 1) (left - (ran + 1)) t
    ∙ ap (λ k. replicate k t) (let e : count - left + ran + 1 + (left - (ran + 1)) ≡ count = omega (arith, l, some, few) in e)

-- ---- turns in which tries may be refused

-- turns in which no try is refused that may enter
pub stopped_plain_turns : (order : List ℕ) (p : Progress) (named : ℕ) (answers : List (List AnsweredCall)) → StoppedAt order (tables p.flat) p named answers
    → StoppedTurns (plain_turns order) p named answers
stopped_plain_turns order p named answers h = record {
  taken = plain_turns h.taken;
  refused = false;
  left = plain_turns h.left;
  so_far = ap plain_turns h.so_far ∙ plain_turns_of_append h.taken (named ∷ h.left);
  run = h.run;
  in_turns = plain_turns_of_order (machine p.flat) (tables p.flat) h.taken h.run h.turns;
  kind = h.kind;
  asks = h.asks;
  worlds = h.worlds;
  answered = h.answered;
}

-- a turn in which the thread asks its world
pub stopped_turns_unanswered : (t : ℕ) (refused : Bool) (p : Progress) (named : ℕ) (answers : List (List AnsweredCall)) (failed : List Bool) → IsReadyToRecord p failed
    → IsUnanswered t p named answers → StoppedTurns ((t, refused) ∷ []) p named answers
stopped_turns_unanswered t refused p named answers failed ready h =
    let s : StoppedAt (t ∷ []) (tables p.flat) p named answers = stopped_at_unanswered t (tables p.flat) p named answers failed ready refl h in
    record {
      taken = [];
      refused = refused;
      left = [];
      so_far = ap (λ z. (z, refused) ∷ []) (sym h.named_is);
      run = [];
      in_turns = refl;
      kind = h.kind;
      asks = ap (λ z. shared_ask (ask_of p.flat.code (thread_of p.flat z))) h.named_is ∙ ap shared_ask h.asks;
      worlds = s.worlds;
      answered = λ u l. ap (λ z. answers_at z u) h.no_more ∙ sym (append-nil (answers_at p.answers u));
    }

-- more turns
pub stopped_in_longer_turns : (turns more whole : List Turn) (p : Progress) (named : ℕ) (answers : List (List AnsweredCall)) → turns ++ more ≡ whole
    → StoppedTurns turns p named answers → StoppedTurns whole p named answers
stopped_in_longer_turns turns more whole p named answers e h = record {
  taken = h.taken;
  refused = h.refused;
  left = h.left ++ more;
  so_far = sym e ∙ ap (λ z. z ++ more) h.so_far ∙ append_assoc h.taken ((named, h.refused) ∷ h.left) more;
  run = h.run;
  in_turns = h.in_turns;
  kind = h.kind;
  asks = h.asks;
  worlds = h.worlds;
  answered = h.answered;
}

-- turns, and then others
pub stopped_turns_after : (turns more : List Turn) (a b : Progress) (named : ℕ) (answers : List (List AnsweredCall)) → TookTurns turns a b
    → StoppedTurns more b named answers → StoppedTurns (turns ++ more) a named answers
stopped_turns_after turns more a b named answers p h =
    let both : (t : ℕ) → log (machine a.flat) (tables a.flat) (p.run ++ h.run) t ≡ log (machine a.flat) (tables a.flat) p.run t
    ++ log (machine b.flat) (tables b.flat) h.run t =
    λ t. log_append (machine a.flat) (tables a.flat) p.run h.run t
    ∙ ap (λ z. log (machine a.flat) (tables a.flat) p.run t ++ z) (sym (log_on_later_machine a b p.run h.run t p.moved.code p.moved.ends)) in
    record {
      taken = turns ++ h.taken;
      refused = h.refused;
      left = h.left;
      so_far = ap (λ z. turns ++ z) h.so_far ∙ sym (append_assoc turns h.taken ((named, h.refused) ∷ h.left));
      run = p.run ++ h.run;
      in_turns = in_turns_of_append (machine a.flat) (tables a.flat) turns h.taken p.run h.run p.in_turns
          (subst (λ s. InTurns (machine a.flat) s h.taken h.run) p.moved.ends
          (subst (λ k. InTurns (thread_machine k) (tables b.flat) h.taken h.run) p.moved.code h.in_turns));
      kind = h.kind;
      asks = ap (λ z. asked (machine a.flat) z named) (end_append (machine a.flat) (tables a.flat) p.run h.run)
          ∙ ap (λ s. asked (machine a.flat) (end (machine a.flat) s h.run) named) (sym p.moved.ends)
          ∙ subst (λ k. asked (thread_machine k) (end (thread_machine k) (tables b.flat) h.run) named ≡ machine.Env h.kind) p.moved.code h.asks;
      worlds = h.worlds ∙ p.moved.threads;
      answered = λ t l. h.answered t (omega (arith, l, p.moved.threads))
          ∙ ap (λ z. z ++ answers_in (log (machine b.flat) (tables b.flat) h.run t)) (p.moved.answers t l)
          ∙ append_assoc (answers_at a.answers t) (answers_in (log (machine a.flat) (tables a.flat) p.run t))
          (answers_in (log (machine b.flat) (tables b.flat) h.run t))
          ∙ ap (λ z. answers_at a.answers t ++ z)
          (sym (answers_in_append (log (machine a.flat) (tables a.flat) p.run t) (log (machine b.flat) (tables b.flat) h.run t))
          ∙ ap answers_in (sym (both t)));
    }

-- the turns from the guest's start
pub recording_stopped : {guest : Guest} {budget : ℕ} {profile : Profile} {turns : List Turn} {before answers : List (List AnsweredCall)}
    {f : Flat} {logs : List Logged} {named : ℕ} → f ≡ start_flat guest budget profile → logs ≡ replicate (length guest.entries) new_log
    → ((count : ℕ) × StoppedTurns (turns ++ plain_turns (rounds (length f.threads) count)) (record { flat = f; logs = logs; answers = before })
    named answers) → StoppedInTurns guest budget profile turns named before answers
recording_stopped {guest} {budget} {profile} {turns} {before} {answers} {f} {logs} {named} p q k =
    let size : length (start_flat guest budget profile).threads ≡ length guest.entries =
    length_of_start_threads guest budget profile 0 (length guest.entries) in
    let h : StoppedTurns (turns ++ plain_turns (rounds (length f.threads) k.0)) (start guest budget profile before) named answers =
    subst (λ z. StoppedTurns (turns ++ plain_turns (rounds (length f.threads) k.0)) z named answers)
    (new_is_start_progress guest budget profile before p q) k.1 in
    record {
      count = k.0;
      taken = h.taken;
      refused = h.refused;
      left = h.left;
      so_far = ap (λ n. turns ++ plain_turns (rounds n k.0)) (sym (ap (λ z. length z.threads) p ∙ size)) ∙ h.so_far;
      run = h.run;
      in_turns = h.in_turns;
      kind = h.kind;
      asks = h.asks;
      answered = record {
        threads = h.worlds ∙ size;
        each = λ t l. slice_get-get_or answers t [] (omega (arith, l, h.worlds, size)) ∙ ap Some (h.answered t (omega (arith, l, size)));
      };
    }

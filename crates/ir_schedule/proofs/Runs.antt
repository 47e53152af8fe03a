-- Runs by a chooser, one after the other.
use Rattle.std.proofs.Common.{◌≡◌, ◌≢◌, ℕ, zero, suc, ◌+◌, ◌<◌, ◌≤◌, Bool, true, false, List, [], ◌∷◌, ◌++◌, length, map, replicate, set}
use Rattle.std.proofs.Common.{refl, sym, ap, ◌∙◌, subst, arith, inl, inr, append-nil, append_assoc, get_or-set_same, get_or-set_other}
use Rattle.std.proofs.lemmas.Bool.{cases_eq}
use Rattle.std.proofs.lemmas.List.{map-append, length-map}
use Rattle.ir_flat.specs.Alone.{WentAlone}
use Rattle.ir_flat.specs.Flat.{Flat, IsFlat, tables, machine, thread_of}
use Rattle.ir_record.specs.Progress.{all_left}
use Rattle.ir_record.specs.Worlds.{answers_at, AnsweredCall, answers_in, NoneFailed}
use Rattle.ir_record.specs.Recording.{order_of_turns}
use Rattle.ir_record.specs.declared.turns.Turns.{Turns}
use Rattle.ir_runs.proofs.CallerLemmas.{end_append, log_append}
use Rattle.ir_runs.specs.Machine.{Answer, logged, Machine, Private, Try, act_of, Object, Admits, emitted, target}
use Rattle.ir_runs.specs.Machine as machine
use Rattle.ir_runs.specs.Run.{State, Step, asked, Can, after, label, IsRun, end, log, EntersIfFree}
use Rattle.ir_runs.specs.declared.access.Access.TheVariants.{Reading, Writing}
use Rattle.ir_runs.specs.declared.env_kind.EnvKind.{EnvKind}
use Rattle.ir_thread.specs.State.{ask_of, shared_ask, is_result, thread_machine}
use Rattle.ir_thread.specs.State as thread
use Rattle.ir_thread.specs.declared.ask.Ask.{Ask}
use Rattle.ir_thread.specs.declared.ask.Ask.TheVariants as asks
use Rattle.ir_record.proofs.CallerLemmas.{flat_holds_few, step_lowers_all_left, steps_lower_all_left, own_log_is_logged, other_log_is_empty}
use Rattle.ir_record.proofs.CallerLemmas.{other_step_same_thread, repeats_keep_others, answers_in_append}
use Rattle.ir_schedule.specs.Moments.{Moment, moment_of, IsReady, Moved, Gained, TookStep, Ran, IsAtRest, OthersRest, TookSome, IsNoTry, IsNoCall}
use Rattle.ir_schedule.specs.Schedules.{is_rest, rests, IsChosen, ChoosesSteps, chosen_threads}
use Rattle.ir_schedule.specs.declared.chooser.Chooser.{Chooser}
use Rattle.ir_schedule.specs.declared.runner.Runner.{Runner}
use Rattle.ir_flat.proofs.CallerLemmas.{zero_is_result}

-- ---- one after the other

leads_by_append_of_runs : {T : Type 0} (tries : Bool) (m : Machine T) (n : ℕ) (s : State T) (c d e : Chooser) (run more : List Step)
    → ChoosesSteps tries m n s c run d → ChoosesSteps tries m n (end m s run) d more e → ChoosesSteps tries m n s c (run ++ more) e
leads_by_append_of_runs tries m n s c d e [] more h k = subst (λ z. ChoosesSteps tries m n s z more e) h k
leads_by_append_of_runs tries m n s c d e (x ∷ run) more h k = (h.0, h.1, leads_by_append_of_runs tries m n (after m s x) h.0 d e run more h.2 k)

-- the same run on the machine and state at which it begins
log_after_gained_run : (a b : Moment) (first more : List Step) (t : ℕ) → Gained first a b
    → log (machine b.flat) (tables b.flat) more t ≡ log (machine a.flat) (end (machine a.flat) (tables a.flat) first) more t
log_after_gained_run a b first more t g = ap (λ c. log (thread_machine c) (tables b.flat) more t) g.code
    ∙ ap (λ s. log (machine a.flat) s more t) g.ends

gained_by_no_steps : (a : Moment) → Gained [] a a
gained_by_no_steps a = record {
  ends = refl;
  code = refl;
  threads = refl;
  objects = refl;
  order = sym (append-nil (order_of_turns a.turns));
  answers = λ t l. sym (append-nil (answers_at a.answers t));
}

gained_append : (run more : List Step) (a b c : Moment) → Gained run a b → Gained more b c → Gained (run ++ more) a c
gained_append run more a b c p q =
    let logs_of : (t : ℕ) → log (machine a.flat) (tables a.flat) (run ++ more) t ≡ log (machine a.flat) (tables a.flat) run t ++ log
    (machine b.flat) (tables b.flat) more t =
    λ t. log_append (machine a.flat) (tables a.flat) run more t
    ∙ ap (λ z. log (machine a.flat) (tables a.flat) run t ++ z) (sym (log_after_gained_run a b run more t p)) in
    record {
      ends = q.ends ∙ ap (λ k. end (thread_machine k) (tables b.flat) more) p.code ∙ ap (λ s. end (machine a.flat) s more) p.ends
          ∙ sym (end_append (machine a.flat) (tables a.flat) run more);
      code = q.code ∙ p.code;
      threads = q.threads ∙ p.threads;
      objects = q.objects ∙ p.objects;
      order = q.order ∙ ap (λ z. z ++ chosen_threads more) p.order
          ∙ append_assoc (order_of_turns a.turns) (chosen_threads run) (chosen_threads more)
          ∙ ap (λ z. order_of_turns a.turns ++ z) (sym (map-append (λ (e : Step). e.0) run more));
      answers = λ t l. q.answers t (omega (arith, l, p.threads))
          ∙ ap (λ z. z ++ answers_in (log (machine b.flat) (tables b.flat) more t)) (p.answers t l)
          ∙ append_assoc (answers_at a.answers t) (answers_in (log (machine a.flat) (tables a.flat) run t))
          (answers_in (log (machine b.flat) (tables b.flat) more t))
          ∙ ap (λ z. answers_at a.answers t ++ z)
          (sym (answers_in_append (log (machine a.flat) (tables a.flat) run t) (log (machine b.flat) (tables b.flat) more t))
          ∙ ap answers_in (sym (logs_of t)));
    }

pub ran_reflexive : (tries : Bool) (a : Moment) (c : Chooser) → Ran tries a c a c
ran_reflexive tries a c = record { run = []; leads = refl; gained = gained_by_no_steps a }

-- what leads on from where a run leads
leads_after_gained : (tries : Bool) (a b : Moment) (c d : Chooser) (run more : List Step) → Gained run a b
    → ChoosesSteps tries (machine b.flat) (length b.flat.threads) (tables b.flat) c more d
    → ChoosesSteps tries (machine a.flat) (length a.flat.threads) (end (machine a.flat) (tables a.flat) run) c more d
leads_after_gained tries a b c d run more g h =
    subst (λ s. ChoosesSteps tries (machine a.flat) (length a.flat.threads) s c more d) g.ends
    (subst (λ k. ChoosesSteps tries (thread_machine k) (length a.flat.threads) (tables b.flat) c more d) g.code
    (subst (λ n. ChoosesSteps tries (machine b.flat) n (tables b.flat) c more d) g.threads h))

pub ran_transitive : (tries : Bool) (a b e : Moment) (c d x : Chooser) → Ran tries a c b d → Ran tries b d e x → Ran tries a c e x
ran_transitive tries a b e c d x p q = record {
  run = p.run ++ q.run;
  leads = leads_by_append_of_runs tries (machine a.flat) (length a.flat.threads) (tables a.flat) c d x p.run q.run p.leads
      (leads_after_gained tries a b d x p.run q.run p.gained q.leads);
  gained = gained_append p.run q.run a b e p.gained q.gained;
}

-- ---- one step

-- thread t is under way, and each lower thread rests
pub ran_by_thread_under_way : (tries : Bool) (a b : Moment) (t : ℕ) (c : Chooser) → t < length a.flat.threads
    → rests tries (machine a.flat) (tables a.flat) t ≡ false → ((u : ℕ) → u < t → IsAtRest tries a.flat u) → TookStep t a b
    → Ran tries a c b c
ran_by_thread_under_way tries a b t c l under lower s = record {
  run = (t, s.result) ∷ [];
  leads = (c, (l, s.can, s.enters, inl ((under, lower), refl)), refl);
  gained = s.gained;
}

-- thread t is chosen
pub ran_by_chosen_thread : (tries : Bool) (a b : Moment) (t : ℕ) (c d : Chooser) → t < length a.flat.threads
    → IsChosen tries (machine a.flat) (length a.flat.threads) (tables a.flat) c t d → TookStep t a b → Ran tries a c b d
ran_by_chosen_thread tries a b t c d l chosen s = record {
  run = (t, s.result) ∷ [];
  leads = (d, (l, s.can, s.enters, inr chosen), refl);
  gained = s.gained;
}

-- nothing is answered at a step that is no call of the environment
no_answer_unless_call : (q : Ask) (r : ℕ) (b : Object) → IsNoCall q → answers_in (logged (emitted (act_of (shared_ask q) r) b) []) ≡ []
no_answer_unless_call asks.Private r b h = refl
no_answer_unless_call (asks.Env kind) r b h = absurd h
no_answer_unless_call (asks.Enter o Reading) r b h = refl
no_answer_unless_call (asks.Enter o Writing) r b h = refl
no_answer_unless_call (asks.Try o) zero b h = refl
no_answer_unless_call (asks.Try o) (suc zero) b h = refl
no_answer_unless_call (asks.Try o) (suc (suc r)) b h = refl
no_answer_unless_call (asks.Leave o a) r b h = refl
no_answer_unless_call (asks.Get o i) r b h = refl
no_answer_unless_call (asks.Put o i w) r b h = refl
no_answer_unless_call asks.Print r b h = refl
no_answer_unless_call (asks.End e) r b h = refl
no_answer_unless_call asks.Done r b h = refl

-- thread t of the guest took a step, and its world answered it if it was a call of the environment
pub record Acted {W : Type 0} (answers : W → List AnsweredCall) (broken : W → Bool) (t : ℕ) (old new : Runner W) : Type 0 where
  pub result : ℕ
  pub moved : Moved t result old.flat new.flat
  pub turns : new.turns ≡ old.turns
  pub own : answers_at (map answers new.worlds.items) t ≡ answers_at (map answers old.worlds.items) t ++ answers_in
      (logged (label (machine old.flat) (tables old.flat) (t, result)) [])
  pub others : (u : ℕ) → u ≢ t → answers_at (map answers new.worlds.items) u ≡ answers_at (map answers old.worlds.items) u
  pub ready : IsReady broken new

-- no world is asked
pub acted_if_ask_is_no_call : {W : Type 0} (answers : W → List AnsweredCall) (broken : W → Bool) (t r : ℕ) (q : Ask) (old new : Runner W)
    → IsReady broken old → Moved t r old.flat new.flat → q ≡ ask_of old.flat.code (thread_of old.flat t) → IsNoCall q
    → new.turns ≡ old.turns → new.worlds ≡ old.worlds → Acted answers broken t old new
acted_if_ask_is_no_call answers broken t r q old new ready s is quiet turns same = record {
  result = r;
  moved = s;
  turns = turns;
  own = ap (λ z. answers_at (map answers z.items) t) same ∙ sym (append-nil (answers_at (map answers old.worlds.items) t))
      ∙ ap (λ z. answers_at (map answers old.worlds.items) t ++ z)
      (sym (no_answer_unless_call (ask_of old.flat.code (thread_of old.flat t)) r
      ((tables old.flat).objects (target (act_of (shared_ask (ask_of old.flat.code (thread_of old.flat t))) r))) (subst IsNoCall is quiet)));
  others = λ u ne. ap (λ z. answers_at (map answers z.items) u) same;
  ready = record {
    worlds = ap (λ z. length z.items) same ∙ ready.worlds ∙ sym s.threads;
    works = subst (λ z. NoneFailed (map broken z.items)) (sym same) ready.works;
  };
}

call_label_is_answer : (f : Flat) (t r : ℕ) (kind : EnvKind) → asks.Env kind ≡ ask_of f.code (thread_of f t)
    → label (machine f) (tables f) (t, r) ≡ Answer kind r
call_label_is_answer f t r kind is =
    ap (λ (z : Ask). emitted (act_of (shared_ask z) r) ((tables f).objects (target (act_of (shared_ask z) r)))) (sym is)

-- its world answers
pub acted_by_answered_call : {W : Type 0} (answers : W → List AnsweredCall) (broken : W → Bool) (t r : ℕ) (kind : EnvKind) (old new : Runner W)
    → IsReady broken old → t < length old.flat.threads → Moved t r old.flat new.flat
    → asks.Env kind ≡ ask_of old.flat.code (thread_of old.flat t) → new.turns ≡ old.turns
    → map answers new.worlds.items ≡ set (map answers old.worlds.items) t (answers_at (map answers old.worlds.items) t ++ (kind, r) ∷ [])
    → length new.worlds.items ≡ length old.worlds.items → NoneFailed (map broken new.worlds.items)
    → Acted answers broken t old new
acted_by_answered_call answers broken t r kind old new ready l s is turns gained each works = record {
  result = r;
  moved = s;
  turns = turns;
  own = ap (λ z. answers_at z t) gained
      ∙ get_or-set_same (map answers old.worlds.items) t (answers_at (map answers old.worlds.items) t ++ (kind, r) ∷ []) []
      (let n = length-map old.worlds.items answers in let m = ready.worlds in omega (arith, n, m, l))
      ∙ ap (λ z. answers_at (map answers old.worlds.items) t ++ answers_in (logged z [])) (sym (call_label_is_answer old.flat t r kind is));
  others = λ u ne. ap (λ z. answers_at z u) gained
      ∙ get_or-set_other (map answers old.worlds.items) t u (answers_at (map answers old.worlds.items) t ++ (kind, r) ∷ []) [] ne;
  ready = record { worlds = each ∙ ready.worlds ∙ sym s.threads; works = works };
}

-- it is noted
pub took_if_acted_and_noted : {W : Type 0} (answers : W → List AnsweredCall) (broken : W → Bool) (t : ℕ) (old new : Runner W) (turns : List Turns)
    → Acted answers broken t old new → order_of_turns turns ≡ order_of_turns new.turns.items ++ replicate 1 t
    → TookStep t (moment_of answers old) (record (moment_of answers new) { turns = turns })
took_if_acted_and_noted answers broken t old new turns a order = record {
  result = a.result;
  can = a.moved.can;
  enters = a.moved.enters;
  gained = record {
    ends = a.moved.taken;
    code = a.moved.code;
    threads = a.moved.threads;
    objects = a.moved.objects;
    order = order ∙ ap (λ z. order_of_turns z.items ++ t ∷ []) a.turns;
    answers = λ u l. elim (cases_eq u t) [
      | inl e ↦ subst (λ z. answers_at (map answers new.worlds.items) z ≡ answers_at (map answers old.worlds.items) z ++ answers_in
          (log (machine old.flat) (tables old.flat) ((t, a.result) ∷ []) z)) (sym e)
          (a.own ∙ ap (λ z. answers_at (map answers old.worlds.items) t ++ answers_in z) (sym (own_log_is_logged old.flat t a.result)))
      | inr ne ↦ a.others u ne ∙ sym (append-nil (answers_at (map answers old.worlds.items) u))
          ∙ ap (λ z. answers_at (map answers old.worlds.items) u ++ answers_in z) (sym (other_log_is_empty old.flat t a.result u ne))
    ];
  };
}

-- a step that was taken leaves fewer
pub took_step_took_one : (a b : Moment) (t : ℕ) → IsFlat a.flat → t < length a.flat.threads → TookStep t a b → TookSome 1 a.flat b.flat
took_step_took_one a b t flat l s = subst (λ z. all_left (length a.flat.threads) z.now + 1 ≤ all_left (length a.flat.threads) (tables a.flat).now)
    (sym s.gained.ends) (step_lowers_all_left a.flat.code (length a.flat.threads) (tables a.flat) (t, s.result) (flat_holds_few a.flat flat) l s.can)

pub took_some_of_sum : (i j : ℕ) (f g h : Flat) → length g.threads ≡ length f.threads → TookSome i f g → TookSome j g h → TookSome (i + j) f h
took_some_of_sum i j f g h same p q =
    let more = subst (λ n. all_left n (tables h).now + j ≤ all_left n (tables g).now) same q in
    omega (arith, p, more)

-- ---- private steps of one thread

lower_rest_after_step : {T : Type 0} (tries : Bool) (m : Machine T) (s : State T) (t r : ℕ) → ((u : ℕ) → u < t → rests tries m s u ≡ true)
    → (u : ℕ) → u < t → rests tries m (after m s (t, r)) u ≡ true
lower_rest_after_step tries m s t r lower u l = ap (λ x. is_rest tries (m.ask x)) (other_step_same_thread m s t r u (λ e. omega (arith, e, l))) ∙ lower u l

leads_by_private_steps : {T : Type 0} (tries : Bool) (m : Machine T) (n t k : ℕ) (s : State T) (c : Chooser) → t < n → IsRun m s (replicate k (t, 0))
    → ((j : ℕ) → j < k → m.ask ((end m s (replicate j (t, 0))).now t) ≡ Private) → ((u : ℕ) → u < t → rests tries m s u ≡ true)
    → ChoosesSteps tries m n s c (replicate k (t, 0)) c
leads_by_private_steps tries m n t zero s c l ok each lower = refl
leads_by_private_steps tries m n t (suc k) s c l ok each lower =
    let private : asked m s t ≡ Private = each 0 (omega arith) in (
      c,
      (l, ok.0, λ o tried can. absurd (cc (private, tried)), inl ((ap (is_rest tries) private, lower), refl)),
      leads_by_private_steps tries m n t k (after m s (t, 0)) c l ok.1 (λ j less. each (suc j) (omega (arith, less)))
          (lower_rest_after_step tries m s t 0 lower),
    )

threads_of_repeated : (k t : ℕ) → chosen_threads (replicate k (t, 0)) ≡ replicate k t
threads_of_repeated zero t = refl
threads_of_repeated (suc k) t = ap (λ z. t ∷ z) (threads_of_repeated k t)

-- so many private steps of thread t
pub ran_by_private_steps : (tries : Bool) (a b : Moment) (t k : ℕ) (c : Chooser) → t < length a.flat.threads
    → ((u : ℕ) → u < t → IsAtRest tries a.flat u) → WentAlone a.flat b.flat t k
    → order_of_turns b.turns ≡ order_of_turns a.turns ++ replicate k t → b.answers ≡ a.answers → Ran tries a c b c
ran_by_private_steps tries a b t k c l lower w order same = record {
  run = replicate k (t, 0);
  leads = leads_by_private_steps tries (machine a.flat) (length a.flat.threads) t k (tables a.flat) c l w.runs
      (λ j less. ap shared_ask (w.each j less)) lower;
  gained = record {
    ends = w.ends;
    code = w.code;
    threads = w.threads;
    objects = w.objects;
    order = order ∙ ap (λ z. order_of_turns a.turns ++ z) (sym (threads_of_repeated k t));
    answers = λ u below. ap (λ z. answers_at z u) same ∙ sym (append-nil (answers_at a.answers u))
        ∙ ap (λ z. answers_at a.answers u ++ answers_in z) (sym (w.quiet u));
  };
}

-- ---- who rests

-- a thread that is left alone asks what it asked
rests_by_equal_thread : (tries : Bool) (f g : Flat) (u : ℕ) → g.code ≡ f.code → (tables g).now u ≡ (tables f).now u
    → rests tries (machine g) (tables g) u ≡ rests tries (machine f) (tables f) u
rests_by_equal_thread tries f g u code now = ap (λ c. is_rest tries ((thread_machine c).ask ((tables g).now u))) code
    ∙ ap (λ x. is_rest tries ((machine f).ask x)) now

pub others_rest_after_step : (tries : Bool) (a b : Moment) (t : ℕ) → TookStep t a b → OthersRest tries t a.flat b.flat
others_rest_after_step tries a b t s u ne = rests_by_equal_thread tries a.flat b.flat u s.gained.code
    (ap (λ z. z.now u) s.gained.ends ∙ other_step_same_thread (machine a.flat) (tables a.flat) t s.result u ne)

pub others_rest_by_private : (tries : Bool) (f g : Flat) (t k : ℕ) → WentAlone f g t k → OthersRest tries t f g
others_rest_by_private tries f g t k w u ne = rests_by_equal_thread tries f g u w.code
    (ap (λ z. z.now u) w.ends ∙ repeats_keep_others (machine f) t k u ne (tables f))

pub others_rest_transitive : (tries : Bool) (t : ℕ) (f g h : Flat) → OthersRest tries t f g → OthersRest tries t g h → OthersRest tries t f h
others_rest_transitive tries t f g h p q u ne = q u ne ∙ p u ne

-- the lower threads rest where they did
pub lower_rest_if_others : (tries : Bool) (t : ℕ) (f g : Flat) → OthersRest tries t f g → ((u : ℕ) → u < t → IsAtRest tries f u)
    → (u : ℕ) → u < t → IsAtRest tries g u
lower_rest_if_others tries t f g others lower u l = others u (λ e. omega (arith, e, l)) ∙ lower u l

-- what the thread asks says whether it rests
pub rests_is_rest_of_ask : (tries : Bool) (f : Flat) (t : ℕ) (q : Ask) (b : Bool) → q ≡ ask_of f.code (thread_of f t) → b ≡ is_rest tries (shared_ask q)
    → rests tries (machine f) (tables f) t ≡ b
rests_is_rest_of_ask tries f t q b is e = ap (λ (z : Ask). is_rest tries (shared_ask z)) (sym is) ∙ sym e

not_at_rest_is_admitted : (tries : Bool) (m : Machine thread.ThreadState) (q : machine.Ask) (objects : ℕ → Object)
    → ((kind : EnvKind) → m.fits kind 0 ≡ true) → is_rest tries q ≡ false → Admits m (act_of q 0) (objects (target (act_of q 0)))
not_at_rest_is_admitted tries m machine.Private objects fits e = tt
not_at_rest_is_admitted tries m (machine.Env kind) objects fits e = fits kind
not_at_rest_is_admitted tries m (machine.Enter o a) objects fits e = absurd (cc e)
not_at_rest_is_admitted tries m (machine.Try o) objects fits e = absurd (cc e)
not_at_rest_is_admitted tries m (machine.Leave o a) objects fits e = tt
not_at_rest_is_admitted tries m (machine.Get o i) objects fits e = tt
not_at_rest_is_admitted tries m (machine.Put o i w) objects fits e = tt
not_at_rest_is_admitted tries m machine.Done objects fits e = absurd (cc e)

-- a thread that is not at rest has a step
pub can_step_unless_at_rest : (tries : Bool) (f : Flat) (t : ℕ) → rests tries (machine f) (tables f) t ≡ false → Can (machine f) (tables f) (t, 0)
can_step_unless_at_rest tries f t e = not_at_rest_is_admitted tries (machine f) (asked (machine f) (tables f) t) (tables f).objects zero_is_result e

-- ---- steps that are taken

-- what is no try enters nothing
pub no_try_enters_free : (f : Flat) (t r : ℕ) (q : Ask) → q ≡ ask_of f.code (thread_of f t) → IsNoTry q
    → EntersIfFree (machine f) (tables f) (t, r)
no_try_enters_free f t r q is h o tried can = absurd (never q h (ap shared_ask is ∙ tried))
  where
    never : (z : Ask) → IsNoTry z → shared_ask z ≡ Try o → ⊥
    never asks.Private h e = cc e
    never (asks.Env kind) h e = cc e
    never (asks.Enter i a) h e = cc e
    never (asks.Try i) h e = h
    never (asks.Leave i a) h e = cc e
    never (asks.Get i j) h e = cc e
    never (asks.Put i j w) h e = cc e
    never asks.Print h e = cc e
    never (asks.End k) h e = cc e
    never asks.Done h e = cc e

-- there is the call of the environment, with a result that suits it
pub can_answer_call : (f : Flat) (t value : ℕ) (kind : EnvKind) → asks.Env kind ≡ ask_of f.code (thread_of f t) → is_result kind value ≡ true
    → Can (machine f) (tables f) (t, value)
can_answer_call f t value kind is fits = subst (λ (q : Ask). Admits (machine f) (act_of (shared_ask q) value)
    ((tables f).objects (target (act_of (shared_ask q) value)))) is fits

-- private steps leave no more
pub alone_keeps_steps_left : (f g : Flat) (t k : ℕ) → IsFlat f → t < length f.threads → WentAlone f g t k → TookSome 0 f g
alone_keeps_steps_left f g t k flat l w =
    let less = steps_lower_all_left f.code (length f.threads) t k (tables f) (flat_holds_few f flat) l w.runs in
    let same : all_left (length f.threads) (tables g).now ≡ all_left (length f.threads)
    (end (machine f) (tables f) (replicate k (t, 0))).now = ap (λ s. all_left (length f.threads) s.now) w.ends in
    omega (arith, less, same)

-- whatever is no call of the environment
pub other_ask_is_no_call : (q : Ask) → ((kind : EnvKind) → q ≡ asks.Env kind → ⊥) → IsNoCall q
other_ask_is_no_call asks.Private h = tt
other_ask_is_no_call (asks.Env kind) h = h kind refl
other_ask_is_no_call (asks.Enter o a) h = tt
other_ask_is_no_call (asks.Try o) h = tt
other_ask_is_no_call (asks.Leave o a) h = tt
other_ask_is_no_call (asks.Get o i) h = tt
other_ask_is_no_call (asks.Put o i w) h = tt
other_ask_is_no_call asks.Print h = tt
other_ask_is_no_call (asks.End e) h = tt
other_ask_is_no_call asks.Done h = tt

-- a measure that falls
pub took_one_lowers_left : (f g : Flat) → length g.threads ≡ length f.threads → TookSome 1 f g
    → all_left (length g.threads) (tables g).now < all_left (length f.threads) (tables f).now
took_one_lowers_left f g same h = subst (λ n. all_left n (tables g).now < all_left (length f.threads) (tables f).now) (sym same) (omega (arith, h))

-- a step and more
pub took_one_is_took_zero : (f g : Flat) → TookSome 1 f g → TookSome 0 f g
took_one_is_took_zero f g h = omega (arith, h)

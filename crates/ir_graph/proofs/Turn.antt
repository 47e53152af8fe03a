-- One thread that goes on alone.
use Rattle.std.proofs.Common.{◌≡◌, ℕ, zero, suc, ◌+◌, Bool, true, false, cond, List, [], ◌∷◌, ◌++◌, map, length, length-append, inl, inr, refl, sym, ap, ◌∙◌, subst, arith}
use Rattle.std.specs.Prelude.{replicate}
use Rattle.std.proofs.lemmas.List.{length-replicate}
use Rattle.ir_record.specs.Refusing.{Turn, Tries, InTurns}
use Rattle.ir_runs.specs.Machine as machines
use Rattle.ir_runs.specs.Machine.{Machine, Admits, target, act_of}
use Rattle.ir_runs.specs.Run.{State, Step, asked, act, Can, after, end, IsRun}
use Rattle.ir_runs.proofs.CallerLemmas.{end_append}
use Rattle.ir_search_laws.specs.Counting.{AnswersCall, IsAnswered, is_own, GoesAhead, entering}
use Rattle.ir_search_laws.specs.Views.{beside}
use Rattle.ir_search_laws.specs.Orders.{IsStepAlone, is_refusal}
use Rattle.ir_search_laws.specs.Sources.{Giving, answer_of, sourced, plain_source}
use Rattle.ir_search_laws.proofs.CallerLemmas.{counting_run_is_run, plain_end}
use Rattle.ir_thread.specs.State.{ask_of, shared_ask}
use Rattle.ir_world.specs.Sources.{Source, given}
use Rattle.ir_flat.specs.Alone.{WentAlone}
use Rattle.ir_flat.specs.Flat.{Flat, tables, machine, thread_of}
use Rattle.ir_state_store.specs.Nodes.{SourcedFlat, source_of}
use Rattle.ir_graph.specs.Plain.{full_by, sources_by, full_of, sourced_flat, IsAnsweredRun, IsPlainRun, IsFair, MayGo, Rests, LooksAlike, result_by}
use Rattle.ir_graph.specs.Turn.{EachTries, GoesAlone, ways_taken}
use Rattle.ir_graph.proofs.Full.{answered_run_append, plain_run_is_answered}
use Rattle.ir_graph.proofs.Leads.{refusal_is_its_way}
use Rattle.ir_graph.proofs.Plain.{rest_takes_step, rest_step_is_answered, rest_ask_is_not_own, TakesStep, fair_step_is_plain_run, private_is_plain_run, run_flat_is_like}

replicate-sum : {A : Type 0} (x : A) (n k : ℕ) → replicate (n + k) x ≡ replicate n x ++ replicate k x
replicate-sum x zero k = let e : zero + k ≡ k = omega arith in ap (λ z. replicate z x) e
replicate-sum x (suc n) k =
    let e : suc n + k ≡ suc (n + k) = omega arith in
    ap (λ z. replicate z x) e ∙ (λ i. x ∷ replicate-sum x n k i)

is_alone_append : (t : ℕ) (run more : List Step) → IsStepAlone t run → IsStepAlone t more → IsStepAlone t (run ++ more)
is_alone_append t [] more a b = b
is_alone_append t (e ∷ run) more a b = (a.0, is_alone_append t run more a.1 b)

each_tries_append : {T : Type 0} (m : Machine T) (refused : Bool) (s : State T) (run more : List Step) → EachTries m refused s run
    → EachTries m refused (end m s run) more → EachTries m refused s (run ++ more)
each_tries_append m refused s [] more a b = b
each_tries_append m refused s (e ∷ run) more a b = (a.0, each_tries_append m refused (after m s e) run more a.1 b)

-- ---- the ways of a run

pub ways_taken-append : {T : Type 0} (m : Machine T) (s : State T) (run more : List Step)
    → ways_taken m s (run ++ more) ≡ ways_taken m s run ++ ways_taken m (end m s run) more
ways_taken-append m s [] more = refl
ways_taken-append {T} m s (e ∷ run) more =
    ap (λ z. cond (is_own (asked m s e.0)) z ((e.0, is_refusal (act m s e)) ∷ z)) (ways_taken-append m (after m s e) run more)
    ∙ join (is_own (asked m s e.0)) (ways_taken m (after m s e) run)
  where
    later : List (ℕ × Bool)
    later = ways_taken m (end m (after m s e) run) more

    join : (b : Bool) (ways : List (ℕ × Bool)) → cond b (ways ++ later) ((e.0, is_refusal (act m s e)) ∷ (ways ++ later))
        ≡ cond b ways ((e.0, is_refusal (act m s e)) ∷ ways) ++ later
    join true ways = refl
    join false ways = refl

-- steps that concern no other thread go no way
ahead_takes_no_ways : {T : Type 0} (m : Machine T) (answers : AnswersCall T) (s : State T) (run : List Step) → GoesAhead m answers s run
    → ways_taken m s run ≡ []
ahead_takes_no_ways m answers s [] ok = refl
ahead_takes_no_ways m answers s (e ∷ run) ok =
    ap (λ b. cond b (ways_taken m (after m s e) run) ((e.0, is_refusal (act m s e)) ∷ ways_taken m (after m s e) run)) ok.0
    ∙ ahead_takes_no_ways m answers (after m s e) run ok.2

-- their threads are those that enter
pub ways_taken_threads : {T : Type 0} (m : Machine T) (s : State T) (run : List Step)
    → map (λ (w : ℕ × Bool). w.0) (ways_taken m s run) ≡ entering m s run
ways_taken_threads m s [] = refl
ways_taken_threads m s (e ∷ run) = by (is_own (asked m s e.0)) (ways_taken_threads m (after m s e) run)
  where
    by : (b : Bool) → map (λ (w : ℕ × Bool). w.0) (ways_taken m (after m s e) run) ≡ entering m (after m s e) run
        → map (λ (w : ℕ × Bool). w.0) (cond b (ways_taken m (after m s e) run) ((e.0, is_refusal (act m s e)) ∷ ways_taken m (after m s e) run))
        ≡ cond b (entering m (after m s e) run) (e.0 ∷ entering m (after m s e) run)
    by true rest = rest
    by false rest = ap (λ z. e.0 ∷ z) rest

-- ---- a thread alone

pub goes_alone_no_steps : (s : SourcedFlat) (t : ℕ) (refused : Bool) → GoesAlone s s t refused 0 0
goes_alone_no_steps s t refused = record {
  run = [];
  many = refl;
  alone = tt;
  answered = (tt, tt);
  tries = tt;
  ends = refl;
  ways = refl;
  code = refl;
  threads = refl;
  objects = refl;
  sources = refl;
}

pub goes_alone_append : (s u w : SourcedFlat) (t : ℕ) (refused : Bool) (n k e d : ℕ) → GoesAlone s u t refused n e → GoesAlone u w t refused k d
    → GoesAlone s w t refused (n + k) (e + d)
goes_alone_append s u w t refused n k e d a b =
    let m = full_by s.flat.code in
    let there : State _ = end (full_by s.flat.code) (full_of s) a.run in
    let answered : IsAnsweredRun s.flat.code (end (full_by s.flat.code) (full_of s) a.run) b.run =
    subst (λ z. IsAnsweredRun s.flat.code z b.run) a.ends (subst (λ z. IsAnsweredRun z (full_of u) b.run) a.code b.answered) in
    let tries : EachTries (full_by s.flat.code) refused (end (full_by s.flat.code) (full_of s) a.run) b.run =
    subst (λ z. EachTries (full_by s.flat.code) refused z b.run) a.ends (subst (λ z. EachTries (full_by z) refused (full_of u) b.run) a.code b.tries) in
    record {
      run = a.run ++ b.run;
      many = length-append a.run b.run ∙ (λ i. a.many i + b.many i);
      alone = is_alone_append t a.run b.run a.alone b.alone;
      answered = answered_run_append s.flat.code (full_of s) a.run b.run a.answered answered;
      tries = each_tries_append (full_by s.flat.code) refused (full_of s) a.run b.run a.tries tries;
      ends = b.ends ∙ ap (λ z. end (full_by z) (full_of u) b.run) a.code ∙ ap (λ z. end (full_by s.flat.code) z b.run) a.ends
          ∙ sym (end_append (full_by s.flat.code) (full_of s) a.run b.run);
      ways = ways_taken-append (full_by s.flat.code) (full_of s) a.run b.run
          ∙ (λ i. a.ways i ++ (ap (λ z. ways_taken (full_by s.flat.code) z b.run) (sym a.ends)
          ∙ ap (λ z. ways_taken (full_by z) (full_of u) b.run) (sym a.code) ∙ b.ways) i)
          ∙ sym (replicate-sum (t, refused) e d);
      code = b.code ∙ a.code;
      threads = b.threads ∙ a.threads;
      objects = b.objects ∙ a.objects;
      sources = b.sources ∙ a.sources;
    }

-- steps that concern no other thread are no tries
ahead_tries_any_way : (code : List ℕ) (refused : Bool) (s : State _) (run : List Step) → GoesAhead (full_by code) (sources_by code) s run
    → EachTries (full_by code) refused s run
ahead_tries_any_way code refused s [] goes = tt
ahead_tries_any_way code refused s (e ∷ run) goes = (
  λ o is. absurd (cc (sym goes.0 ∙ ap is_own is)),
  ahead_tries_any_way code refused (after (full_by code) s e) run goes.2,
)

-- steps of one thread that concern no other
pub goes_alone_by_plain_run : (s u : SourcedFlat) (t : ℕ) (refused : Bool) (run : List Step) → IsPlainRun s.flat.code (full_of s) run → IsStepAlone t run
    → full_of u ≡ end (full_by s.flat.code) (full_of s) run → u.flat.code ≡ s.flat.code → length u.flat.threads ≡ length s.flat.threads
    → length u.flat.objects ≡ length s.flat.objects → length u.sources ≡ length s.sources → GoesAlone s u t refused (length run) 0
goes_alone_by_plain_run s u t refused run plain_source alone ends code threads objects sources = record {
  run = run;
  many = refl;
  alone = alone;
  answered = plain_run_is_answered s.flat.code (full_of s) run plain_source;
  tries = ahead_tries_any_way s.flat.code refused (full_of s) run plain_source.0;
  ends = ends;
  ways = ahead_takes_no_ways (full_by s.flat.code) (sources_by s.flat.code) (full_of s) run plain_source.0;
  code = code;
  threads = threads;
  objects = objects;
  sources = sources;
}

-- one step of a thread that may go on
pub goes_alone_by_fair_step : (s u : SourcedFlat) (t r : ℕ) (refused : Bool) → IsFair (ask_of s.flat.code (thread_of s.flat t))
    → IsAnswered (shared_ask (ask_of s.flat.code (thread_of s.flat t)))
    (answer_of given (shared_ask (ask_of s.flat.code (thread_of s.flat t))) (source_of s t)) r
    → TakesStep s u t r → GoesAlone s u t refused 1 0
goes_alone_by_fair_step s u t r refused fair answered step =
    goes_alone_by_plain_run s u t refused ((t, r) ∷ []) (fair_step_is_plain_run s t r fair step.can answered) (refl, tt) step.is step.code step.threads
    step.objects step.sources

repeated_steps_alone : (t r n : ℕ) → IsStepAlone t (replicate n (t, r))
repeated_steps_alone t r zero = tt
repeated_steps_alone t r (suc n) = (refl, repeated_steps_alone t r n)

-- private steps
pub goes_alone_by_private : (f g : Flat) (sources : List Source) (t : ℕ) (refused : Bool) (n : ℕ) → WentAlone f g t n
    → GoesAlone (sourced_flat f sources) (sourced_flat g sources) t refused n 0
goes_alone_by_private f g sources t refused n w =
    let p = private_is_plain_run f.code (tables f) (source_of (sourced_flat f sources)) t n w.runs w.each in
    subst (λ z. GoesAlone (sourced_flat f sources) (sourced_flat g sources) t refused z 0) (length-replicate {A = Step} n (t, 0))
    (goes_alone_by_plain_run (sourced_flat f sources) (sourced_flat g sources) t refused (replicate n (t, 0)) p.0 (repeated_steps_alone t 0 n)
    (ap (λ z. beside z (source_of (sourced_flat f sources))) w.ends ∙ sym p.1) w.code w.threads w.objects refl)

-- one step of a thread that rests, by a way that it has
pub goes_alone_by_entry : (f g : Flat) (sources : List Source) (t : ℕ) (refused : Bool) → Rests (ask_of f.code (thread_of f t))
    → MayGo refused (ask_of f.code (thread_of f t))
    → Can (machine f) (tables f) (t, result_by refused) → tables g ≡ after (machine f) (tables f) (t, result_by refused) → g.code ≡ f.code
    → length g.threads ≡ length f.threads → length g.objects ≡ length f.objects
    → GoesAlone (sourced_flat f sources) (sourced_flat g sources) t refused 1 1
goes_alone_by_entry f g sources t refused rests may can is code threads objects =
    let s = sourced_flat f sources in
    let u = sourced_flat g sources in
    let step = rest_takes_step f g sources t (result_by refused) rests can is code threads objects in record {
      run = (t, result_by refused) ∷ [];
      many = refl;
      alone = (refl, tt);
      answered = rest_step_is_answered (sourced_flat f sources) (sourced_flat g sources) t (result_by refused) rests step;
      tries = (λ o tries. refl, tt);
      ends = step.is;
      ways = let q = ask_of f.code (thread_of f t) in
          ap (λ b. cond b [] ((t, is_refusal (act_of (shared_ask q) (result_by refused))) ∷ [])) (rest_ask_is_not_own q rests)
          ∙ ap (λ b. (t, b) ∷ []) (refusal_is_its_way q refused rests may);
      code = code;
      threads = threads;
      objects = objects;
      sources = refl;
    }

-- the guest stays the same
pub alone_flat_is_like : (s u : SourcedFlat) (t : ℕ) (refused : Bool) (n e : ℕ) → GoesAlone s u t refused n e → LooksAlike s.flat u.flat
alone_flat_is_like s u t refused n e a = run_flat_is_like s u a.run a.ends a.code a.threads a.objects

-- ---- turns

tries_by_way : {T : Type 0} (m : Machine T) (s : State T) (refused : Bool) (e : Step)
    → ((o : ℕ) → asked m s e.0 ≡ machines.Try o → e.1 ≡ result_by refused) → Tries m s refused e
tries_by_way m s true e tries = tries
tries_by_way m s false e tries = λ o is enters. tries o is

-- a run of one thread goes by its turns
pub alone_run_in_turns : {T : Type 0} (m : Machine T) (s : State T) (t : ℕ) (refused : Bool) (run : List Step) → IsRun m s run → IsStepAlone t run
    → EachTries m refused s run → InTurns m s (replicate (length run) (t, refused)) run
alone_run_in_turns m s t refused [] ok alone tries = refl
alone_run_in_turns m s t refused ((u, r) ∷ run) ok alone tries = inr (
  r,
  run,
  (λ i. (sym alone.0 i, r) ∷ run),
  subst (λ z. Can m s (z, r)) (sym alone.0) ok.0,
  tries_by_way m s refused (t, r) (subst (λ z. (o : ℕ) → asked m s z ≡ machines.Try o → r ≡ result_by refused) (sym alone.0) tries.0),
  subst (λ z. InTurns m (after m s (z, r)) (replicate (length run) (t, refused)) run) (sym alone.0)
      (alone_run_in_turns m (after m s (u, r)) t refused run ok.1 alone.1 tries.1),
)

pub going_alone_in_turns : (s u : SourcedFlat) (t : ℕ) (refused : Bool) (n e : ℕ) → (a : GoesAlone s u t refused n e)
    → InTurns (full_by s.flat.code) (full_of s) (replicate n (t, refused)) a.run
going_alone_in_turns s u t refused n e a =
    subst (λ z. InTurns (full_by s.flat.code) (full_of s) (replicate z (t, refused)) a.run) a.many
    (alone_run_in_turns (full_by s.flat.code) (full_of s) t refused a.run
    (counting_run_is_run (full_by s.flat.code) (sources_by s.flat.code) (full_of s) a.run a.answered.0) a.alone a.tries)

plain_tries_as_sourced : {T S : Type 0} (m : Machine T) (giving : Giving S) (s : State (T × S)) (refused : Bool) (e : Step)
    → Tries (sourced m giving) s refused e → Tries m (plain_source s) refused e
plain_tries_as_sourced m giving s true e h = h
plain_tries_as_sourced m giving s false e h = h

-- turns of threads beside their sources are turns of the threads
pub plain_turns_as_sourced : {T S : Type 0} (m : Machine T) (giving : Giving S) (s : State (T × S)) (turns : List Turn) (run : List Step)
    → InTurns (sourced m giving) s turns run → InTurns m (plain_source s) turns run
plain_turns_as_sourced m giving s [] run is = is
plain_turns_as_sourced m giving s ((t, refused) ∷ turns) run (inl none) = inl (none.0, plain_turns_as_sourced m giving s turns run none.1)
plain_turns_as_sourced m giving s ((t, refused) ∷ turns) run (inr some) = inr (
  some.0,
  some.1,
  some.2,
  some.3,
  plain_tries_as_sourced m giving s refused (t, some.0) some.4,
  subst (λ z. InTurns m z turns some.1) (plain_end m giving s ((t, some.0) ∷ []))
      (plain_turns_as_sourced m giving (after (sourced m giving) s (t, some.0)) turns some.1 some.5),
)

-- Runs of steps that concern no other thread.
use Rattle.std.proofs.Common.{◌≡◌, ◌≢◌, ℕ, zero, suc, ◌<◌, Bool, true, false, List, [], ◌∷◌, ◌++◌, inl, inr, Some, None, refl, sym, ap, ◌∙◌, subst, arith, length, length-set, cond, set}
use Rattle.std.specs.Prelude.{◌==◌, replicate}
use Rattle.ir_runs.specs.Machine as machine
use Rattle.ir_runs.specs.Machine.{target, reply, upd}
use Rattle.ir_runs.specs.Run.{State, Step, act, Can, after, end, IsRun}
use Rattle.ir_runs.proofs.CallerLemmas.{upd_by_cases, upd_with_old_value, thread_after_other, end_append}
use Rattle.ir_search_laws.specs.Counting.{IsAnswered, is_own}
use Rattle.ir_search_laws.specs.Sources.{answer_of, left_of_source}
use Rattle.ir_search_laws.specs.Views.{beside}
use Rattle.ir_thread.specs.State.{ask_of, after_ask, after_reply, held_after_try, thread_machine, shared_ask, reply_of}
use Rattle.ir_thread.specs.State as thread
use Rattle.ir_thread.specs.declared.ask.Ask.{Ask}
use Rattle.ir_thread.specs.declared.ask.Ask.TheVariants as ask
use Rattle.ir_thread.specs.declared.ask.Reply.{Reply}
use Rattle.ir_thread.specs.declared.ask.Reply.TheVariants.{Go, Value}
use Rattle.ir_runs.specs.declared.access.Access.TheVariants.{Writing}
use Rattle.ir_world.specs.Sources.{Source, given}
use Rattle.ir_thread_bytes.specs.Twins.{AreTwins}
use Rattle.ir_likeness.specs.Seen.{IsLive}
use Rattle.ir_likeness.proofs.CallerLemmas.{view_asks_same_or_spent}
use Rattle.ir_flat.specs.Alone.{WentAlone}
use Rattle.ir_flat.specs.Flat.{Flat, tables, machine, thread_of}
use Rattle.ir_state_store.specs.Nodes.{SourcedFlat, source_of}
use Rattle.ir_graph.specs.Plain.{full_by, full_of, sourced_flat, IsAnsweredRun, IsPlainRun, GoesPlain, OthersStay, LooksAlike, Rests, IsFair}
use Rattle.ir_graph.proofs.Full.{sourced_step_beside, sourced_step_same_sources, source_set_is_upd, tables_of_full_end, plain_run_append}

-- what a step of a thread makes of a guest's state
pub record TakesStep (s u : SourcedFlat) (t r : ℕ) : Type 0 where
  pub can : Can (machine s.flat) (tables s.flat) (t, r)
  pub is : full_of u ≡ after (full_by s.flat.code) (full_of s) (t, r)
  pub code : u.flat.code ≡ s.flat.code
  pub threads : length u.flat.threads ≡ length s.flat.threads
  pub objects : length u.flat.objects ≡ length s.flat.objects
  pub sources : length u.sources ≡ length s.sources

-- the state after it, each thread beside its source
pub full_is_after_step : (s u : SourcedFlat) (t r : ℕ) → tables u.flat ≡ after (machine s.flat) (tables s.flat) (t, r)
    → source_of u ≡ upd (source_of s) t (left_of_source given (shared_ask (ask_of s.flat.code (thread_of s.flat t))) (source_of s t))
    → full_of u ≡ after (full_by s.flat.code) (full_of s) (t, r)
full_is_after_step s u t r is left =
    ap (λ z. beside z (source_of u)) is
    ∙ ap (beside (after (machine s.flat) (tables s.flat) (t, r))) left
    ∙ sym (sourced_step_beside (machine s.flat) given (tables s.flat) (source_of s) (t, r))

-- ---- what threads ask

-- a thread that may go on is live
pub fair_thread_is_live : (code : List ℕ) (s : thread.ThreadState) → IsFair (ask_of code s) → IsLive code s
fair_thread_is_live code s fair = elim (view_asks_same_or_spent code s) [
  | inl live ↦ live
  | inr (inl full) ↦ absurd (subst IsFair full fair)
  | inr (inr spent) ↦ absurd (subst IsFair spent fair)
]

-- so is one that rests
pub resting_thread_is_live : (code : List ℕ) (s : thread.ThreadState) → Rests (ask_of code s) → IsLive code s
resting_thread_is_live code s rests = elim (view_asks_same_or_spent code s) [
  | inl live ↦ live
  | inr (inl full) ↦ absurd (subst Rests full rests)
  | inr (inr spent) ↦ absurd (subst Rests spent rests)
]

pub fair_ask_is_own : (q : Ask) → IsFair q → is_own (shared_ask q) ≡ true
fair_ask_is_own ask.Private h = refl
fair_ask_is_own (ask.Env k) h = refl
fair_ask_is_own (ask.Enter o a) h = absurd h
fair_ask_is_own (ask.Try o) h = absurd h
fair_ask_is_own (ask.Leave o a) h = refl
fair_ask_is_own (ask.Get o i) h = refl
fair_ask_is_own (ask.Put o i v) h = refl
fair_ask_is_own ask.Print h = refl
fair_ask_is_own (ask.End e) h = refl
fair_ask_is_own ask.Done h = absurd h

-- the answer of the source answers each ask
pub ask_answered_by_source : (q : machine.Ask) (source : Source) (r : ℕ) → r ≡ answer_of given q source → IsAnswered q (answer_of given q source) r
ask_answered_by_source machine.Private source r is = tt
ask_answered_by_source (machine.Env k) source r is = is
ask_answered_by_source (machine.Enter o a) source r is = tt
ask_answered_by_source (machine.Try o) source r is = tt
ask_answered_by_source (machine.Leave o a) source r is = tt
ask_answered_by_source (machine.Get o i) source r is = tt
ask_answered_by_source (machine.Put o i v) source r is = tt
ask_answered_by_source machine.Done source r is = tt

-- what a thread that rests asks of others
pub rest_ask_is_not_own : (q : Ask) → Rests q → is_own (shared_ask q) ≡ false
rest_ask_is_not_own ask.Private h = absurd h
rest_ask_is_not_own (ask.Env k) h = absurd h
rest_ask_is_not_own (ask.Enter o a) h = refl
rest_ask_is_not_own (ask.Try o) h = refl
rest_ask_is_not_own (ask.Leave o a) h = absurd h
rest_ask_is_not_own (ask.Get o i) h = absurd h
rest_ask_is_not_own (ask.Put o i v) h = absurd h
rest_ask_is_not_own ask.Print h = absurd h
rest_ask_is_not_own (ask.End e) h = absurd h
rest_ask_is_not_own ask.Done h = refl

rest_ask_keeps_source : (q : Ask) (source : Source) → Rests q → left_of_source given (shared_ask q) source ≡ source
rest_ask_keeps_source ask.Private source h = absurd h
rest_ask_keeps_source (ask.Env k) source h = absurd h
rest_ask_keeps_source (ask.Enter o a) source h = refl
rest_ask_keeps_source (ask.Try o) source h = refl
rest_ask_keeps_source (ask.Leave o a) source h = absurd h
rest_ask_keeps_source (ask.Get o i) source h = absurd h
rest_ask_keeps_source (ask.Put o i v) source h = absurd h
rest_ask_keeps_source ask.Print source h = absurd h
rest_ask_keeps_source (ask.End e) source h = absurd h
rest_ask_keeps_source ask.Done source h = refl

pub rest_ask_any_result : (q : Ask) (answer r : ℕ) → Rests q → IsAnswered (shared_ask q) answer r
rest_ask_any_result ask.Private answer r h = absurd h
rest_ask_any_result (ask.Env k) answer r h = absurd h
rest_ask_any_result (ask.Enter o a) answer r h = tt
rest_ask_any_result (ask.Try o) answer r h = tt
rest_ask_any_result (ask.Leave o a) answer r h = absurd h
rest_ask_any_result (ask.Get o i) answer r h = absurd h
rest_ask_any_result (ask.Put o i v) answer r h = absurd h
rest_ask_any_result ask.Print answer r h = absurd h
rest_ask_any_result (ask.End e) answer r h = absurd h
rest_ask_any_result ask.Done answer r h = tt

-- ---- steps of a guest's state

-- a thread that rests takes a step, which leaves the sources
pub rest_takes_step : (f g : Flat) (sources : List Source) (t r : ℕ) → Rests (ask_of f.code (thread_of f t)) → Can (machine f) (tables f) (t, r)
    → tables g ≡ after (machine f) (tables f) (t, r) → g.code ≡ f.code → length g.threads ≡ length f.threads
    → length g.objects ≡ length f.objects → TakesStep (sourced_flat f sources) (sourced_flat g sources) t r
rest_takes_step f g sources t r rests can is code threads objects = record {
  can = can;
  is = full_is_after_step (sourced_flat f sources) (sourced_flat g sources) t r is
      (sym (upd_with_old_value (source_of (sourced_flat f sources)) t
      (left_of_source given (shared_ask (ask_of f.code (thread_of f t))) (source_of (sourced_flat f sources) t))
      (sym (rest_ask_keeps_source (ask_of f.code (thread_of f t)) (source_of (sourced_flat f sources) t) rests))));
  code = code;
  threads = threads;
  objects = objects;
  sources = refl;
}

-- a thread takes a step, which leaves this of its source
pub takes_step_beside : (f g : Flat) (sources : List Source) (a : Source) (t r : ℕ) → t < length sources → Can (machine f) (tables f) (t, r)
    → tables g ≡ after (machine f) (tables f) (t, r)
    → a ≡ left_of_source given (shared_ask (ask_of f.code (thread_of f t))) (source_of (sourced_flat f sources) t)
    → g.code ≡ f.code → length g.threads ≡ length f.threads → length g.objects ≡ length f.objects
    → TakesStep (sourced_flat f sources) (sourced_flat g (set sources t a)) t r
takes_step_beside f g sources a t r less can is left code threads objects = record {
  can = can;
  is = full_is_after_step (sourced_flat f sources) (sourced_flat g (set sources t a)) t r is
      (source_set_is_upd sources t a less ∙ ap (upd (source_of (sourced_flat f sources)) t) left);
  code = code;
  threads = threads;
  objects = objects;
  sources = length-set sources t a;
}

-- a step of a thread that rests is an answered run
pub rest_step_is_answered : (s u : SourcedFlat) (t r : ℕ) → Rests (ask_of s.flat.code (thread_of s.flat t)) → TakesStep s u t r
    → IsAnsweredRun s.flat.code (full_of s) ((t, r) ∷ [])
rest_step_is_answered s u t r rests step = (
  ((step.can, rest_ask_any_result (ask_of s.flat.code (thread_of s.flat t)) _ r rests), tt),
  (resting_thread_is_live s.flat.code (thread_of s.flat t) rests, tt),
)

-- ---- steps ahead

pub goes_plain_reflexive : (s : SourcedFlat) → GoesPlain s s
goes_plain_reflexive s =
    record { ahead = []; plain = (tt, tt); ends = refl; code = refl; threads = refl; objects = refl; sources = refl }

pub goes_plain_transitive : (s u w : SourcedFlat) → GoesPlain s u → GoesPlain u w → GoesPlain s w
goes_plain_transitive s u w a b = record {
  ahead = a.ahead ++ b.ahead;
  plain = plain_run_append s.flat.code (full_of s) a.ahead b.ahead a.plain
      (subst (λ z. IsPlainRun s.flat.code z b.ahead) a.ends (subst (λ z. IsPlainRun z (full_of u) b.ahead) a.code b.plain));
  ends = b.ends ∙ ap (λ z. end (full_by z) (full_of u) b.ahead) a.code ∙ ap (λ z. end (full_by s.flat.code) z b.ahead) a.ends
      ∙ sym (end_append (full_by s.flat.code) (full_of s) a.ahead b.ahead);
  code = b.code ∙ a.code;
  threads = b.threads ∙ a.threads;
  objects = b.objects ∙ a.objects;
  sources = b.sources ∙ a.sources;
}

-- one step of a thread that may go on is such a run
pub fair_step_is_plain_run : (s : SourcedFlat) (t r : ℕ) → IsFair (ask_of s.flat.code (thread_of s.flat t)) → Can (machine s.flat) (tables s.flat) (t, r)
    → IsAnswered (shared_ask (ask_of s.flat.code (thread_of s.flat t)))
    (answer_of given (shared_ask (ask_of s.flat.code (thread_of s.flat t))) (source_of s t)) r
    → IsPlainRun s.flat.code (full_of s) ((t, r) ∷ [])
fair_step_is_plain_run s t r fair can answered = (
  (fair_ask_is_own (ask_of s.flat.code (thread_of s.flat t)) fair, (can, answered), tt),
  (fair_thread_is_live s.flat.code (thread_of s.flat t) fair, tt),
)

pub goes_plain_by_fair_step : (s u : SourcedFlat) (t r : ℕ) → IsFair (ask_of s.flat.code (thread_of s.flat t))
    → IsAnswered (shared_ask (ask_of s.flat.code (thread_of s.flat t)))
    (answer_of given (shared_ask (ask_of s.flat.code (thread_of s.flat t))) (source_of s t)) r
    → Can (machine s.flat) (tables s.flat) (t, r) → full_of u ≡ after (full_by s.flat.code) (full_of s) (t, r) → u.flat.code ≡ s.flat.code
    → length u.flat.threads ≡ length s.flat.threads → length u.flat.objects ≡ length s.flat.objects → length u.sources ≡ length s.sources
    → GoesPlain s u
goes_plain_by_fair_step s u t r fair answered can is code threads objects sources = record {
  ahead = (t, r) ∷ [];
  plain = fair_step_is_plain_run s t r fair can answered;
  ends = is;
  code = code;
  threads = threads;
  objects = objects;
  sources = sources;
}

-- private steps, whatever the sources
pub private_is_plain_run : (code : List ℕ) (s : State thread.ThreadState) (sources : ℕ → Source) (t n : ℕ)
    → IsRun (thread_machine code) s (replicate n (t, 0))
    → ((k : ℕ) → k < n → ask_of code ((end (thread_machine code) s (replicate k (t, 0))).now t) ≡ ask.Private)
    → IsPlainRun code (beside s sources) (replicate n (t, 0))
    × (end (full_by code) (beside s sources) (replicate n (t, 0)) ≡ beside (end (thread_machine code) s (replicate n (t, 0))) sources)
private_is_plain_run code s sources t zero run each = ((tt, tt), refl)
private_is_plain_run code s sources t (suc n) run each =
    let first : ask_of code (s.now t) ≡ ask.Private = each 0 (omega arith) in
    let fair : IsFair (ask_of code (s.now t)) = subst IsFair (sym first) tt in
    let answered : IsAnswered (shared_ask (ask_of code (s.now t))) (answer_of given (shared_ask (ask_of code (s.now t))) (sources t)) 0 =
    subst (λ q. IsAnswered (shared_ask q) (answer_of given (shared_ask q) (sources t)) 0) (sym first) tt in
    let left : left_of_source given (shared_ask (ask_of code (s.now t))) (sources t) ≡ sources t = ap (λ q. left_of_source given (shared_ask q) (sources t)) first in
    let one : after (full_by code) (beside s sources) (t, 0) ≡ beside (after (thread_machine code) s (t, 0)) sources =
    sourced_step_same_sources (thread_machine code) given s sources (t, 0) left in
    let more = private_is_plain_run code (after (thread_machine code) s (t, 0)) sources t n run.1 (λ k l. each (suc k) (omega (arith, l))) in
    let rest = subst (λ z. IsPlainRun code z (replicate n (t, 0))) (sym one) more.0 in (
      (
        (fair_ask_is_own (ask_of code (s.now t)) fair, (run.0, answered), rest.0),
        (fair_thread_is_live code (s.now t) fair, rest.1),
      ),
      ap (λ z. end (full_by code) z (replicate n (t, 0))) one ∙ more.1,
    )

pub goes_plain_by_private : (f g : Flat) (sources : List Source) (t n : ℕ) → WentAlone f g t n
    → GoesPlain (sourced_flat f sources) (sourced_flat g sources)
goes_plain_by_private f g sources t n w =
    let p = private_is_plain_run f.code (tables f) (source_of (sourced_flat f sources)) t n w.runs w.each in record {
      ahead = replicate n (t, 0);
      plain = p.0;
      ends = ap (λ z. beside z (source_of (sourced_flat f sources))) w.ends ∙ sym p.1;
      code = w.code;
      threads = w.threads;
      objects = w.objects;
      sources = refl;
    }

-- ---- steps of one thread leave the others

pub others_stay_after_step : (s u : SourcedFlat) (t r : ℕ) → full_of u ≡ after (full_by s.flat.code) (full_of s) (t, r) → OthersStay s u t
others_stay_after_step s u t r is =
    let same : (v : ℕ) → v ≢ t → (full_of u).now v ≡ (full_of s).now v =
    λ v ne. ap (λ z. z.now v) is ∙ thread_after_other (full_by s.flat.code) (full_of s) (t, r) v ne in record {
      threads = λ v ne. ap (λ z. z.0) (same v ne);
      sources = λ v ne. ap (λ z. z.1) (same v ne);
    }

repeats_keep_other : (code : List ℕ) (s : State thread.ThreadState) (t n u : ℕ) → u ≢ t
    → (end (thread_machine code) s (replicate n (t, 0))).now u ≡ s.now u
repeats_keep_other code s t zero u ne = refl
repeats_keep_other code s t (suc n) u ne =
    repeats_keep_other code (after (thread_machine code) s (t, 0)) t n u ne ∙ thread_after_other (thread_machine code) s (t, 0) u ne

pub others_stay_by_private : (f g : Flat) (sources : List Source) (t n : ℕ) → WentAlone f g t n
    → OthersStay (sourced_flat f sources) (sourced_flat g sources) t
others_stay_by_private f g sources t n w = record {
  threads = λ u ne. ap (λ z. z.now u) w.ends ∙ repeats_keep_other f.code (tables f) t n u ne;
  sources = λ u ne. refl;
}

pub others_stay_reflexive : (s : SourcedFlat) (t : ℕ) → OthersStay s s t
others_stay_reflexive s t = record { threads = λ u ne. refl; sources = λ u ne. refl }

pub others_stay_transitive : (s u w : SourcedFlat) (t : ℕ) → OthersStay s u t → OthersStay u w t → OthersStay s w t
others_stay_transitive s u w t a b = record {
  threads = λ v ne. b.threads v ne ∙ a.threads v ne;
  sources = λ v ne. b.sources v ne ∙ a.sources v ne;
}

-- a step leaves what never changes of a thread
pub twin_after_ask : (code : List ℕ) (s : thread.ThreadState) (q : Ask) (r : Reply) → AreTwins s (after_ask code s q r)
twin_after_ask code s ask.Private r = record { number = refl; profile = refl; form = refl; objects = refl }
twin_after_ask code s (ask.Env kind) r = record { number = refl; profile = refl; form = refl; objects = refl }
twin_after_ask code s (ask.Enter object access) r =
    record { number = refl; profile = refl; form = refl; objects = sym (length-set s.held object (Some access)) }
twin_after_ask code s (ask.Try object) r = record { number = refl; profile = refl; form = refl; objects = by r }
  where
    by : (r : Reply) → length s.held ≡ length (held_after_try r object s.held)
    by Go = refl
    by (Value value) = by_test (value == 1)
      where
        by_test : (b : Bool) → length s.held ≡ length (cond b (set s.held object (Some Writing)) s.held)
        by_test true = sym (length-set s.held object (Some Writing))
        by_test false = refl
twin_after_ask code s (ask.Leave object access) r =
    record { number = refl; profile = refl; form = refl; objects = sym (length-set s.held object None) }
twin_after_ask code s (ask.Get object index) r = record { number = refl; profile = refl; form = refl; objects = refl }
twin_after_ask code s (ask.Put object index value) r = record { number = refl; profile = refl; form = refl; objects = refl }
twin_after_ask code s ask.Print r = record { number = refl; profile = refl; form = refl; objects = refl }
twin_after_ask code s (ask.End e) r = record { number = refl; profile = refl; form = refl; objects = refl }
twin_after_ask code s ask.Done r = record { number = refl; profile = refl; form = refl; objects = refl }

pub twins_reflexive : (s : thread.ThreadState) → AreTwins s s
twins_reflexive s = record { number = refl; profile = refl; form = refl; objects = refl }

pub twins_transitive : (x y z : thread.ThreadState) → AreTwins x y → AreTwins y z → AreTwins x z
twins_transitive x y z a b = record {
  number = a.number ∙ b.number;
  profile = a.profile ∙ b.profile;
  form = a.form ∙ b.form;
  objects = a.objects ∙ b.objects;
}

pub twins_symmetric : (x y : thread.ThreadState) → AreTwins x y → AreTwins y x
twins_symmetric x y a = record { number = sym a.number; profile = sym a.profile; form = sym a.form; objects = sym a.objects }

twin_after_step : (code : List ℕ) (s : State thread.ThreadState) (e : Step) (u : ℕ) → AreTwins (s.now u) ((after (thread_machine code) s e).now u)
unfolding after after_reply
twin_after_step code s e u =
    upd_by_cases s.now e.0 _ u (λ x. AreTwins (s.now u) x)
    (λ same. subst (λ z. AreTwins (s.now z) (after_reply code (s.now e.0) (reply_of (ask_of code (s.now e.0))
    (reply (act (thread_machine code) s e) (s.objects (target (act (thread_machine code) s e))))))) (sym same)
    (twin_after_ask code (s.now e.0) (ask_of code (s.now e.0)) _))
    (λ other. twins_reflexive (s.now u))

pub twin_after_run : (code : List ℕ) (s : State thread.ThreadState) (run : List Step) (u : ℕ) → AreTwins (s.now u) ((end (thread_machine code) s run).now u)
twin_after_run code s [] u = twins_reflexive (s.now u)
twin_after_run code s (e ∷ run) u =
    twins_transitive (s.now u) ((after (thread_machine code) s e).now u) ((end (thread_machine code) (after (thread_machine code) s e) run).now u)
    (twin_after_step code s e u) (twin_after_run code (after (thread_machine code) s e) run u)

-- a run leaves what never changes
pub run_flat_is_like : (s u : SourcedFlat) (run : List Step) → full_of u ≡ end (full_by s.flat.code) (full_of s) run → u.flat.code ≡ s.flat.code
    → length u.flat.threads ≡ length s.flat.threads → length u.flat.objects ≡ length s.flat.objects → LooksAlike s.flat u.flat
run_flat_is_like s u run ends code threads objects = record {
  code = code;
  threads = threads;
  objects = objects;
  twins = λ v. subst (AreTwins (thread_of s.flat v)) (ap (λ z. z.now v) (sym (tables_of_full_end s u run ends)))
      (twin_after_run s.flat.code (tables s.flat) run v);
}

pub step_flat_is_like : (s u : SourcedFlat) (t r : ℕ) → TakesStep s u t r → LooksAlike s.flat u.flat
step_flat_is_like s u t r step = run_flat_is_like s u ((t, r) ∷ []) step.is step.code step.threads step.objects

pub plain_flat_is_like : (s u : SourcedFlat) → GoesPlain s u → LooksAlike s.flat u.flat
plain_flat_is_like s u p = run_flat_is_like s u p.ahead p.ends p.code p.threads p.objects

pub like_transitive : (f g h : Flat) → LooksAlike f g → LooksAlike g h → LooksAlike f h
like_transitive f g h a b = record {
  code = b.code ∙ a.code;
  threads = b.threads ∙ a.threads;
  objects = b.objects ∙ a.objects;
  twins = λ u. twins_transitive (thread_of f u) (thread_of g u) (thread_of h u) (a.twins u) (b.twins u);
}

pub like_symmetric : (f g : Flat) → LooksAlike f g → LooksAlike g f
like_symmetric f g a = record {
  code = sym a.code;
  threads = sym a.threads;
  objects = sym a.objects;
  twins = λ u. twins_symmetric (thread_of f u) (thread_of g u) (a.twins u);
}

pub like_reflexive : (f : Flat) → LooksAlike f f
like_reflexive f = record { code = refl; threads = refl; objects = refl; twins = λ u. twins_reflexive (thread_of f u) }

-- A step of one thread, and what its world answers.
use Rattle.std.proofs.Common.{◌≡◌, ◌≢◌, ℕ, zero, suc, ◌<◌, Bool, true, false, List, [], ◌∷◌, ◌++◌, length, map, set}
use Rattle.std.proofs.Common.{refl, sym, ap, ◌∙◌, subst, arith, inl, inr, append-nil, get_or-set_same, get_or-set_other}
use Rattle.std.proofs.lemmas.Bool.{cases_eq}
use Rattle.std.proofs.lemmas.List.{length-map}
use Rattle.ir_flat.specs.Flat.{Flat, tables, machine, thread_of}
use Rattle.ir_record.specs.Recording.{turns_of_items}
use Rattle.ir_record.specs.Refusing.{Tries}
use Rattle.ir_record.specs.Worlds.{answers_at, AnsweredCall, answers_in, NoneFailed}
use Rattle.ir_record.proofs.CallerLemmas.{own_log_is_logged, other_log_is_empty}
use Rattle.ir_runs.specs.Machine.{logged, Machine, Object, Admits, act_of, emitted, target}
use Rattle.ir_runs.specs.Machine as machine
use Rattle.ir_runs.specs.Run.{Can, after, label, log, HasNone}
use Rattle.std.specs.Prelude.{Result, Ok, Err, OnOk, OnErr}
use Rattle.std.specs.Result.{is_ok}
use Rattle.ir_runs.specs.declared.access.Access.TheVariants.{Reading, Writing}
use Rattle.ir_runs.specs.declared.env_kind.EnvKind.{EnvKind}
use Rattle.ir_shrink.specs.Moments.{IsReady, IsTurn, moment_of}
use Rattle.ir_shrink.specs.Steps.{MovedBy, GoesOn, IsOwnAsk}
use Rattle.ir_shrink.specs.declared.mover.Mover.{Mover}
use Rattle.ir_thread.specs.State.{ask_of, shared_ask, is_result}
use Rattle.ir_thread.specs.State as thread
use Rattle.ir_thread.specs.declared.ask.Ask.{Ask}
use Rattle.ir_thread.specs.declared.ask.Ask.TheVariants as asks

-- ---- what can be taken

-- a call of the environment, with a result that suits it
pub suited_call_can_step : (f : Flat) (t value : ℕ) (kind : EnvKind) → ask_of f.code (thread_of f t) ≡ asks.Env kind → is_result kind value ≡ true
    → Can (machine f) (tables f) (t, value)
suited_call_can_step f t value kind is fits = subst (λ (q : Ask). Admits (machine f) (act_of (shared_ask q) value)
    ((tables f).objects (target (act_of (shared_ask q) value)))) (sym is) fits

-- a call of the environment is no try
pub call_tries_nothing : (f : Flat) (t value : ℕ) (kind : EnvKind) (refused : Bool) → ask_of f.code (thread_of f t) ≡ asks.Env kind
    → Tries (machine f) (tables f) refused (t, value)
call_tries_nothing f t value kind true is = λ o tried. let e : machine.Env kind ≡ machine.Try o = sym (ap shared_ask is) ∙ tried in absurd (cc e)
call_tries_nothing f t value kind false is = λ o tried can. let e : machine.Env kind ≡ machine.Try o = sym (ap shared_ask is) ∙ tried in absurd (cc e)

-- a try that is refused
pub try_can_be_refused : (f : Flat) (t o : ℕ) (q : Ask) → ask_of f.code (thread_of f t) ≡ q → q ≡ asks.Try o → Can (machine f) (tables f) (t, 0)
try_can_be_refused f t o q is try = subst (λ (z : Ask). Admits (machine f) (act_of (shared_ask z) 0) ((tables f).objects (target (act_of (shared_ask z) 0))))
    (sym (is ∙ try)) tt

no_own_try : (q : Ask) (o : ℕ) → IsOwnAsk q → shared_ask q ≡ machine.Try o → ⊥
no_own_try asks.Private o own e = cc e
no_own_try (asks.Env kind) o own e = own
no_own_try (asks.Enter i a) o own e = cc e
no_own_try (asks.Try i) o own e = own
no_own_try (asks.Leave i a) o own e = cc e
no_own_try (asks.Get i j) o own e = cc e
no_own_try (asks.Put i j w) o own e = cc e
no_own_try asks.Print o own e = cc e
no_own_try (asks.End k) o own e = cc e
no_own_try asks.Done o own e = cc e

-- a thread that asks neither tries nothing
own_tries_nothing : (f : Flat) (t r : ℕ) (q : Ask) (refused : Bool) → q ≡ ask_of f.code (thread_of f t) → IsOwnAsk q
    → Tries (machine f) (tables f) refused (t, r)
own_tries_nothing f t r q true is own = λ o tried. absurd (no_own_try q o own (ap shared_ask is ∙ tried))
own_tries_nothing f t r q false is own = λ o tried can. absurd (no_own_try q o own (ap shared_ask is ∙ tried))

-- it has a step with one result if it has one with another
own_result_is_free : (m : Machine thread.ThreadState) (q : Ask) (objects : ℕ → Object) (r : ℕ) → IsOwnAsk q
    → Admits m (act_of (shared_ask q) r) (objects (target (act_of (shared_ask q) r))) → Admits m (act_of (shared_ask q) 0) (objects (target (act_of (shared_ask q) 0)))
own_result_is_free m asks.Private objects r own can = can
own_result_is_free m (asks.Env kind) objects r own can = absurd own
own_result_is_free m (asks.Enter o a) objects r own can = can
own_result_is_free m (asks.Try o) objects r own can = absurd own
own_result_is_free m (asks.Leave o a) objects r own can = can
own_result_is_free m (asks.Get o i) objects r own can = can
own_result_is_free m (asks.Put o i w) objects r own can = can
own_result_is_free m asks.Print objects r own can = can
own_result_is_free m (asks.End k) objects r own can = can
own_result_is_free m asks.Done objects r own can = can

own_step_or_none : (f : Flat) (t : ℕ) (q : Ask) → q ≡ ask_of f.code (thread_of f t) → IsOwnAsk q → (Can (machine f) (tables f) (t, 0) → ⊥)
    → HasNone (machine f) (tables f) t
own_step_or_none f t q is own none r can = none (subst (λ (z : Ask). Admits (machine f) (act_of (shared_ask z) 0) ((tables f).objects (target (act_of (shared_ask z) 0)))) is
    (own_result_is_free (machine f) q (tables f).objects r own
    (subst (λ (z : Ask). Admits (machine f) (act_of (shared_ask z) r) ((tables f).objects (target (act_of (shared_ask z) r)))) (sym is) can)))

-- what a step of such a thread came to
pub own_step_goes_on : (f g : Flat) (t : ℕ) (q : Ask) (refused : Bool) → q ≡ ask_of f.code (thread_of f t)
    → ((tries : Tries (machine f) (tables f) refused (t, 0)) → MovedBy refused t 0 f g) → GoesOn true q refused t f g
own_step_goes_on f g t q refused is moved own = moved (own_tries_nothing f t 0 q refused is own)

pub no_step_stays : (f g : Flat) (t : ℕ) (q : Ask) (refused : Bool) → q ≡ ask_of f.code (thread_of f t) → g ≡ f → (Can (machine f) (tables f) (t, 0) → ⊥)
    → GoesOn false q refused t f g
no_step_stays f g t q refused is same none = (same, λ own. own_step_or_none f t q is own none)

-- what the result of taking a step says
pub taken_step_goes_on : {A E : Type 0} (f g : Flat) (t : ℕ) (q : Ask) (refused : Bool) (result : Result A E) → q ≡ ask_of f.code (thread_of f t)
    → OnOk result (Can (machine f) (tables f) (t, 0)) → OnOk result (tables g ≡ after (machine f) (tables f) (t, 0)) → g.code ≡ f.code
    → length g.threads ≡ length f.threads → length g.objects ≡ length f.objects
    → OnErr result (Can (machine f) (tables f) (t, 0) → ⊥) → OnErr result (g ≡ f) → GoesOn (is_ok result) q refused t f g
taken_step_goes_on f g t q refused (Ok x) is can taken code threads objects none same = own_step_goes_on f g t q refused is
    (λ tries. record { can = can; tries = tries; taken = taken; code = code; threads = threads; objects = objects })
taken_step_goes_on f g t q refused (Err e) is can taken code threads objects none same = no_step_stays f g t q refused is same none

-- whatever is neither a call of the environment nor a try
pub other_ask_is_own : (q : Ask) → ((kind : EnvKind) → q ≡ asks.Env kind → ⊥) → ((o : ℕ) → q ≡ asks.Try o → ⊥) → IsOwnAsk q
other_ask_is_own asks.Private call try = tt
other_ask_is_own (asks.Env kind) call try = call kind refl
other_ask_is_own (asks.Enter o a) call try = tt
other_ask_is_own (asks.Try o) call try = try o refl
other_ask_is_own (asks.Leave o a) call try = tt
other_ask_is_own (asks.Get o i) call try = tt
other_ask_is_own (asks.Put o i w) call try = tt
other_ask_is_own asks.Print call try = tt
other_ask_is_own (asks.End e) call try = tt
other_ask_is_own asks.Done call try = tt

-- ---- what worlds answer

-- what is asked is no call of the environment
abbrev pub IsUnanswered : Ask → Type 0
IsUnanswered (asks.Env kind) = ⊥
IsUnanswered _ = Unit {0}

own_is_unanswered : (q : Ask) → IsOwnAsk q → IsUnanswered q
own_is_unanswered asks.Private own = tt
own_is_unanswered (asks.Env kind) own = own
own_is_unanswered (asks.Enter o a) own = tt
own_is_unanswered (asks.Try o) own = tt
own_is_unanswered (asks.Leave o a) own = tt
own_is_unanswered (asks.Get o i) own = tt
own_is_unanswered (asks.Put o i w) own = tt
own_is_unanswered asks.Print own = tt
own_is_unanswered (asks.End e) own = tt
own_is_unanswered asks.Done own = tt

unanswered_logs_none : (q : Ask) (r : ℕ) (b : Object) → IsUnanswered q → answers_in (logged (emitted (act_of (shared_ask q) r) b) []) ≡ []
unanswered_logs_none asks.Private r b h = refl
unanswered_logs_none (asks.Env kind) r b h = absurd h
unanswered_logs_none (asks.Enter o Reading) r b h = refl
unanswered_logs_none (asks.Enter o Writing) r b h = refl
unanswered_logs_none (asks.Try o) zero b h = refl
unanswered_logs_none (asks.Try o) (suc zero) b h = refl
unanswered_logs_none (asks.Try o) (suc (suc r)) b h = refl
unanswered_logs_none (asks.Leave o a) r b h = refl
unanswered_logs_none (asks.Get o i) r b h = refl
unanswered_logs_none (asks.Put o i w) r b h = refl
unanswered_logs_none asks.Print r b h = refl
unanswered_logs_none (asks.End e) r b h = refl
unanswered_logs_none asks.Done r b h = refl

-- thread t of the guest took a step, and its world answered it if it was a call of the environment
pub record Acted {W : Type 0} (answers : W → List AnsweredCall) (broken : W → Bool) (refused : Bool) (t : ℕ) (old new : Mover W) : Type 0 where
  pub result : ℕ
  pub moved : MovedBy refused t result old.flat new.flat
  pub items : new.items ≡ old.items
  pub own : answers_at (map answers new.worlds.items) t ≡ answers_at (map answers old.worlds.items) t ++ answers_in
      (logged (label (machine old.flat) (tables old.flat) (t, result)) [])
  pub others : (u : ℕ) → u ≢ t → answers_at (map answers new.worlds.items) u ≡ answers_at (map answers old.worlds.items) u
  pub ready : IsReady broken new

-- no world is asked
pub acted_unanswered : {W : Type 0} (answers : W → List AnsweredCall) (broken : W → Bool) (refused : Bool) (t r : ℕ) (q : Ask) (old new : Mover W)
    → IsReady broken old → MovedBy refused t r old.flat new.flat → q ≡ ask_of old.flat.code (thread_of old.flat t) → IsUnanswered q
    → new.items ≡ old.items → new.worlds ≡ old.worlds → Acted answers broken refused t old new
acted_unanswered answers broken refused t r q old new ready s is quiet items same = record {
  result = r;
  moved = s;
  items = items;
  own = ap (λ z. answers_at (map answers z.items) t) same ∙ sym (append-nil (answers_at (map answers old.worlds.items) t))
      ∙ ap (λ z. answers_at (map answers old.worlds.items) t ++ z)
      (sym (unanswered_logs_none (ask_of old.flat.code (thread_of old.flat t)) r
      ((tables old.flat).objects (target (act_of (shared_ask (ask_of old.flat.code (thread_of old.flat t))) r))) (subst IsUnanswered is quiet)));
  others = λ u ne. ap (λ z. answers_at (map answers z.items) u) same;
  ready = record {
    worlds = ap (λ z. length z.items) same ∙ ready.worlds ∙ sym s.threads;
    works = subst (λ z. NoneFailed (map broken z.items)) (sym same) ready.works;
  };
}

called_label_is_answer : (f : Flat) (t r : ℕ) (kind : EnvKind) → ask_of f.code (thread_of f t) ≡ asks.Env kind
    → label (machine f) (tables f) (t, r) ≡ machine.Answer kind r
called_label_is_answer f t r kind is =
    ap (λ (z : Ask). emitted (act_of (shared_ask z) r) ((tables f).objects (target (act_of (shared_ask z) r)))) is

-- its world answers
pub acted_answered : {W : Type 0} (answers : W → List AnsweredCall) (broken : W → Bool) (refused : Bool) (t r : ℕ) (kind : EnvKind) (old new : Mover W)
    → IsReady broken old → t < length old.flat.threads → MovedBy refused t r old.flat new.flat
    → ask_of old.flat.code (thread_of old.flat t) ≡ asks.Env kind → new.items ≡ old.items
    → map answers new.worlds.items ≡ set (map answers old.worlds.items) t (answers_at (map answers old.worlds.items) t ++ (kind, r) ∷ [])
    → length new.worlds.items ≡ length old.worlds.items → NoneFailed (map broken new.worlds.items) → Acted answers broken refused t old new
acted_answered answers broken refused t r kind old new ready l s is items gained each works = record {
  result = r;
  moved = s;
  items = items;
  own = ap (λ z. answers_at z t) gained
      ∙ get_or-set_same (map answers old.worlds.items) t (answers_at (map answers old.worlds.items) t ++ (kind, r) ∷ []) []
      (let n = length-map old.worlds.items answers in let m = ready.worlds in omega (arith, n, m, l))
      ∙ ap (λ z. answers_at (map answers old.worlds.items) t ++ answers_in (logged z [])) (sym (called_label_is_answer old.flat t r kind is));
  others = λ u ne. ap (λ z. answers_at z u) gained
      ∙ get_or-set_other (map answers old.worlds.items) t u (answers_at (map answers old.worlds.items) t ++ (kind, r) ∷ []) [] ne;
  ready = record { worlds = each ∙ ready.worlds ∙ sym s.threads; works = works };
}

-- ---- turns

pub acted_is_turn : {W : Type 0} (answers : W → List AnsweredCall) (broken : W → Bool) (refused : Bool) (t : ℕ) (old new : Mover W)
    → t < length old.flat.threads → Acted answers broken refused t old new → IsTurn true t refused (moment_of answers old) (moment_of answers new)
acted_is_turn answers broken refused t old new l a = record {
  run = (t, a.result) ∷ [];
  in_turns = inr (a.result, [], refl, a.moved.can, a.moved.tries, refl);
  of_threads = (l, tt);
  each = (refl, a.moved.can, a.moved.tries, tt);
  ends = a.moved.taken;
  code = a.moved.code;
  threads = a.moved.threads;
  objects = a.moved.objects;
  answers = λ u below. elim (cases_eq u t) [
    | inl e ↦ subst (λ z. answers_at (map answers new.worlds.items) z ≡ answers_at (map answers old.worlds.items) z ++ answers_in
        (log (machine old.flat) (tables old.flat) ((t, a.result) ∷ []) z)) (sym e)
        (a.own ∙ ap (λ z. answers_at (map answers old.worlds.items) t ++ answers_in z) (sym (own_log_is_logged old.flat t a.result)))
    | inr ne ↦ a.others u ne ∙ sym (append-nil (answers_at (map answers old.worlds.items) u))
        ∙ ap (λ z. answers_at (map answers old.worlds.items) u ++ answers_in z) (sym (other_log_is_empty old.flat t a.result u ne))
  ];
}

-- a thread that asks neither took its step, or it has none
pub own_turn_is_turn : {W : Type 0} (answers : W → List AnsweredCall) (broken : W → Bool) (moved refused : Bool) (t : ℕ) (q : Ask) (old new : Mover W)
    → IsReady broken old → t < length old.flat.threads → q ≡ ask_of old.flat.code (thread_of old.flat t) → IsOwnAsk q
    → GoesOn moved q refused t old.flat new.flat → new.items ≡ old.items → new.worlds ≡ old.worlds
    → IsTurn moved t refused (moment_of answers old) (moment_of answers new) × IsReady broken new
own_turn_is_turn answers broken true refused t q old new ready l is own goes items same =
    let acted = acted_unanswered answers broken refused t 0 q old new ready (goes own) is (own_is_unanswered q own) items same in
    (acted_is_turn answers broken refused t old new l acted, acted.ready)
own_turn_is_turn answers broken false refused t q old new ready l is own goes items same = (
  (goes.1 own, λ i. record { flat = goes.0 i; turns = turns_of_items (items i).items; answers = map answers (same i).items }),
  record {
    worlds = ap (λ z. length z.items) same ∙ ready.worlds ∙ sym (ap (λ (f : Flat). length f.threads) goes.0);
    works = subst (λ z. NoneFailed (map broken z.items)) (sym same) ready.works;
  },
)

-- Where a thread leads from a state at rest.
use Rattle.std.proofs.Common.{◌≡◌, ℕ, zero, suc, ◌≤◌, Bool, true, false, List, [], ◌∷◌, inl, inr, refl, sym, ap, ◌∙◌, subst, length}
use Rattle.std.proofs.lemmas.Bool.{cases_lt}
use Rattle.ir_runs.specs.Machine as machines
use Rattle.ir_runs.specs.Machine.{act_of, Never, Admits, target}
use Rattle.ir_runs.specs.Run.{State, Step, act, Can, after, end}
use Rattle.ir_search_laws.specs.Counting.{IsAnswered, is_own, IsAtRest, GoesAhead}
use Rattle.ir_search_laws.specs.Nodes.{LeadsToNode}
use Rattle.ir_search_laws.specs.Orders.{is_refusal}
use Rattle.ir_search_laws.specs.Outcomes.{Begins}
use Rattle.ir_search_laws.specs.Sources.{answer_of}
use Rattle.ir_search_laws.proofs.CallerLemmas.{leads_to_by_equal_act}
use Rattle.ir_thread.specs.State.{ThreadState, ask_of, shared_ask}
use Rattle.ir_thread.specs.declared.ask.Ask.{Ask}
use Rattle.ir_thread.specs.declared.ask.Ask.TheVariants as ask
use Rattle.ir_world.specs.Sources.{Source, given}
use Rattle.ir_likeness.proofs.CallerLemmas.{seen_machine_is_view}
use Rattle.ir_flat.specs.Flat.{Flat, tables, machine, thread_of, idle}
use Rattle.ir_state_store.specs.Nodes.{SourcedFlat, source_of}
use Rattle.ir_state_store.specs.Table.{HaveNoTicks}
use Rattle.ir_graph.specs.Nodes.{seen_by, answered_by, Alike, seen_of, LookAlike, AllRest, IsStepBy, HasStepBy}
use Rattle.ir_graph.specs.Times.{AlikeTickless}
use Rattle.ir_graph.specs.Plain.{full_of, GoesPlain, MayGo, Rests, result_by}
use Rattle.ir_graph.proofs.Alike.{slice_index_past_length}
use Rattle.ir_graph.proofs.Full.{seen_state, end_of_live_run_seen, counts_of_live_run_seen, counts_if_seen, plain_run_seen}
use Rattle.ir_graph.proofs.Plain.{TakesStep, resting_thread_is_live, rest_ask_is_not_own, rest_ask_any_result, rest_step_is_answered}

-- a thread that rests does one thing by one way
rest_act_by_way : (q : Ask) (r : ℕ) (refused : Bool) → Rests q → is_refusal (act_of (shared_ask q) r) ≡ refused
    → ((act_of (shared_ask q) r ≡ Never) → ⊥) → act_of (shared_ask q) (result_by refused) ≡ act_of (shared_ask q) r
rest_act_by_way ask.Private r refused h by may = absurd h
rest_act_by_way (ask.Env k) r refused h by may = absurd h
rest_act_by_way (ask.Enter o a) r refused h by may = refl
rest_act_by_way (ask.Try o) zero refused h by may = ap (λ z. act_of (machines.Try o) (result_by z)) (sym by)
rest_act_by_way (ask.Try o) (suc zero) refused h by may = ap (λ z. act_of (machines.Try o) (result_by z)) (sym by)
rest_act_by_way (ask.Try o) (suc (suc r)) refused h by may = absurd (may refl)
rest_act_by_way (ask.Leave o a) r refused h by may = absurd h
rest_act_by_way (ask.Get o i) r refused h by may = absurd h
rest_act_by_way (ask.Put o i v) r refused h by may = absurd h
rest_act_by_way ask.Print r refused h by may = absurd h
rest_act_by_way (ask.End e) r refused h by may = absurd h
rest_act_by_way ask.Done r refused h by may = refl

-- the step by this way of a thread that has one
pub refusal_is_its_way : (q : Ask) (refused : Bool) → Rests q → MayGo refused q → is_refusal (act_of (shared_ask q) (result_by refused)) ≡ refused
refusal_is_its_way ask.Private refused h may = absurd h
refusal_is_its_way (ask.Env k) refused h may = absurd h
refusal_is_its_way (ask.Enter o a) true h may = absurd may
refusal_is_its_way (ask.Enter o a) false h may = refl
refusal_is_its_way (ask.Try o) true h may = refl
refusal_is_its_way (ask.Try o) false h may = refl
refusal_is_its_way (ask.Leave o a) refused h may = absurd h
refusal_is_its_way (ask.Get o i) refused h may = absurd h
refusal_is_its_way (ask.Put o i v) refused h may = absurd h
refusal_is_its_way ask.Print refused h may = absurd h
refusal_is_its_way (ask.End e) refused h may = absurd h
refusal_is_its_way ask.Done true h may = absurd may
refusal_is_its_way ask.Done false h may = refl

-- who doesn't try is never refused
no_refusal_unless_try : (q : Ask) (r : ℕ) → (MayGo true q → ⊥) → is_refusal (act_of (shared_ask q) r) ≡ true → ⊥
no_refusal_unless_try ask.Private r h by = absurd (cc by)
no_refusal_unless_try (ask.Env k) r h by = absurd (cc by)
no_refusal_unless_try (ask.Enter o a) r h by = absurd (cc by)
no_refusal_unless_try (ask.Try o) r h by = h tt
no_refusal_unless_try (ask.Leave o a) r h by = absurd (cc by)
no_refusal_unless_try (ask.Get o i) r h by = absurd (cc by)
no_refusal_unless_try (ask.Put o i v) r h by = absurd (cc by)
no_refusal_unless_try ask.Print r h by = absurd (cc by)
no_refusal_unless_try (ask.End e) r h by = absurd (cc by)
no_refusal_unless_try ask.Done r h by = absurd (cc by)

-- a number that is no thread's asks nothing
pub past_threads_ask_done : (f : Flat) (t : ℕ) → length f.threads ≤ t → ask_of f.code (thread_of f t) ≡ ask.Done
past_threads_ask_done f t l = ap (ask_of f.code) (slice_index_past_length f.threads t idle l)

pub every_number_rests : (f : Flat) → AllRest f → (t : ℕ) → Rests (ask_of f.code (thread_of f t))
every_number_rests f all t = elim (cases_lt t (length f.threads)) [
  | inl l ↦ all t l
  | inr l ↦ subst Rests (sym (past_threads_ask_done f t l)) tt
]

pub seen_is_at_rest : (s : SourcedFlat) → AllRest s.flat → IsAtRest (seen_by s.flat.code) (seen_of s)
seen_is_at_rest s all t =
    let rests = every_number_rests s.flat all t in
    ap is_own ((seen_machine_is_view s.flat.code).asks (thread_of s.flat t) (resting_thread_is_live s.flat.code (thread_of s.flat t) rests))
    ∙ rest_ask_is_not_own (ask_of s.flat.code (thread_of s.flat t)) rests

-- what a thread that rests does is what it is seen to do
seen_act_is_real_act : (s : SourcedFlat) (t r : ℕ) → Rests (ask_of s.flat.code (thread_of s.flat t))
    → act (seen_by s.flat.code) (seen_of s) (t, r) ≡ act_of (shared_ask (ask_of s.flat.code (thread_of s.flat t))) r
seen_act_is_real_act s t r rests =
    ap (λ q. act_of q r) ((seen_machine_is_view s.flat.code).asks (thread_of s.flat t) (resting_thread_is_live s.flat.code (thread_of s.flat t) rests))

-- a step that is seen is one
can_step_if_seen_can : (s : SourcedFlat) (t r : ℕ) → Rests (ask_of s.flat.code (thread_of s.flat t))
    → Can (seen_by s.flat.code) (seen_of s) (t, r) → Can (machine s.flat) (tables s.flat) (t, r)
can_step_if_seen_can s t r rests can =
    let q : Ask = ask_of s.flat.code (thread_of s.flat t) in
    let live = resting_thread_is_live s.flat.code (thread_of s.flat t) rests in
    let answered = subst (λ z. IsAnswered z (answer_of given z (source_of s t)) r)
    (sym ((seen_machine_is_view s.flat.code).asks (thread_of s.flat t) live))
    (rest_ask_any_result q (answer_of given (shared_ask q) (source_of s t)) r rests) in
    (counts_if_seen s.flat.code (full_of s) ((t, r) ∷ []) (live, tt) ((can, answered), tt)).0.0

taken_is_not_never : (f : Flat) (t r : ℕ) → Can (machine f) (tables f) (t, r) → act_of (shared_ask (ask_of f.code (thread_of f t))) r ≡ Never → ⊥
taken_is_not_never f t r can is = subst (λ q. Admits (machine f) q ((tables f).objects (target q))) is can

-- each step of a thread that rests, by one way, does the same
seen_act_by_way : (s : SourcedFlat) (t r : ℕ) (refused : Bool) → Rests (ask_of s.flat.code (thread_of s.flat t))
    → IsStepBy s refused (t, r) → Can (seen_by s.flat.code) (seen_of s) (t, r)
    → act_of (shared_ask (ask_of s.flat.code (thread_of s.flat t))) (result_by refused) ≡ act_of (shared_ask (ask_of s.flat.code (thread_of s.flat t))) r
seen_act_by_way s t r refused rests by can =
    rest_act_by_way (ask_of s.flat.code (thread_of s.flat t)) r refused rests (ap is_refusal (sym (seen_act_is_real_act s t r rests)) ∙ by)
    (taken_is_not_never s.flat t r (can_step_if_seen_can s t r rests can))

-- where there is no such step there is none seen
pub no_seen_step_if_no_step : (s : SourcedFlat) (t : ℕ) (refused : Bool) → Rests (ask_of s.flat.code (thread_of s.flat t))
    → (Can (machine s.flat) (tables s.flat) (t, result_by refused) → ⊥) → (e : Step) → e.0 ≡ t → IsStepBy s refused e
    → Can (seen_by s.flat.code) (seen_of s) e → ⊥
no_seen_step_if_no_step s t refused rests never (u, r) same by can =
    let here : Can (seen_by s.flat.code) (seen_of s) (t, r) = subst (λ z. Can (seen_by s.flat.code) (seen_of s) (z, r)) same can in
    let way : IsStepBy s refused (t, r) = subst (λ z. IsStepBy s refused (z, r)) same by in
    let real : Can (machine s.flat) (tables s.flat) (t, r) = can_step_if_seen_can s t r rests here in
    never (subst (λ q. Admits (machine s.flat) q ((tables s.flat).objects (target q))) (sym (seen_act_by_way s t r refused rests way here)) real)

-- who doesn't try is never seen refused
pub no_seen_refusal : (s : SourcedFlat) (t : ℕ) → Rests (ask_of s.flat.code (thread_of s.flat t))
    → (MayGo true (ask_of s.flat.code (thread_of s.flat t)) → ⊥) → (e : Step) → e.0 ≡ t → IsStepBy s true e → ⊥
no_seen_refusal s t rests none (u, r) same by =
    no_refusal_unless_try (ask_of s.flat.code (thread_of s.flat t)) r none
    (ap is_refusal (sym (seen_act_is_real_act s t r rests)) ∙ subst (λ z. IsStepBy s true (z, r)) same by)

-- who is done has no step
pub no_seen_step_if_done : (s : SourcedFlat) (t : ℕ) → ask_of s.flat.code (thread_of s.flat t) ≡ ask.Done → (e : Step) → e.0 ≡ t
    → Can (seen_by s.flat.code) (seen_of s) e → ⊥
no_seen_step_if_done s t done (u, r) same can =
    let rests : Rests (ask_of s.flat.code (thread_of s.flat t)) = subst Rests (sym done) tt in
    let here : Can (seen_by s.flat.code) (seen_of s) (t, r) = subst (λ z. Can (seen_by s.flat.code) (seen_of s) (z, r)) same can in
    let real : Can (machine s.flat) (tables s.flat) (t, r) = can_step_if_seen_can s t r rests here in
    subst (λ q. Admits (machine s.flat) (act_of (shared_ask q) r) ((tables s.flat).objects (target (act_of (shared_ask q) r)))) done real

-- A thread that rests takes a step, and runs on to w, which is to k as R says.
step_leads_to_related : (R : State (ThreadState × Source) → State (ThreadState × Source) → Type 0) (s u w k : SourcedFlat) (t r : ℕ)
    → Rests (ask_of s.flat.code (thread_of s.flat t)) → TakesStep s u t r → GoesPlain u w → R (seen_of w) (seen_of k)
    → LeadsToNode (seen_by s.flat.code) (answered_by s.flat.code) R (seen_of s) (t, r) (seen_of k)
step_leads_to_related R s u w k t r rests step goes related =
    let run = rest_step_is_answered s u t r rests step in
    let takes = counts_of_live_run_seen s.flat.code (full_of s) ((t, r) ∷ []) run.1 run.0 in
    let one : after (seen_by s.flat.code) (seen_of s) (t, r) ≡ seen_of u =
    end_of_live_run_seen s.flat.code (full_of s) ((t, r) ∷ []) run.1 ∙ ap seen_state (sym step.is) in
    let ahead = plain_run_seen u.flat.code (full_of u) goes.ahead goes.plain in
    let ends : end (seen_by u.flat.code) (seen_of u) goes.ahead ≡ seen_of w =
    end_of_live_run_seen u.flat.code (full_of u) goes.ahead goes.plain.1 ∙ ap seen_state (sym goes.ends) in
    let moved : GoesAhead (seen_by s.flat.code) (answered_by s.flat.code) (seen_of u) goes.ahead =
    subst (λ z. GoesAhead (seen_by z) (answered_by z) (seen_of u) goes.ahead) step.code ahead in
    let there : end (seen_by s.flat.code) (seen_of u) goes.ahead ≡ seen_of w =
    subst (λ z. end (seen_by z) (seen_of u) goes.ahead ≡ seen_of w) step.code ends in record {
      can = takes.0.0;
      ahead = goes.ahead;
      goes = subst (λ z. GoesAhead (seen_by s.flat.code) (answered_by s.flat.code) z goes.ahead) (sym one) moved;
      alike = subst (λ z. R z (seen_of k)) (sym (ap (λ z. end (seen_by s.flat.code) z goes.ahead) one ∙ there)) related;
    }

-- So does each step of the same way, and there is one.
pub way_leads_to_related : (R : State (ThreadState × Source) → State (ThreadState × Source) → Type 0) (s u w k : SourcedFlat) (t : ℕ) (refused : Bool)
    → Rests (ask_of s.flat.code (thread_of s.flat t)) → MayGo refused (ask_of s.flat.code (thread_of s.flat t)) → TakesStep s u t (result_by refused)
    → GoesPlain u w → R (seen_of w) (seen_of k)
    → HasStepBy s t refused × ((e : Step) → e.0 ≡ t → IsStepBy s refused e → Can (seen_by s.flat.code) (seen_of s) e
    → LeadsToNode (seen_by s.flat.code) (answered_by s.flat.code) R (seen_of s) e (seen_of k))
way_leads_to_related R s u w k t refused rests may step goes related =
    let base = step_leads_to_related R s u w k t (result_by refused) rests step goes related in (
      (
        result_by refused,
        base.can,
        ap is_refusal (seen_act_is_real_act s t (result_by refused) rests) ∙ refusal_is_its_way (ask_of s.flat.code (thread_of s.flat t)) refused rests may,
      ),
      λ e same by there.
          let here : Can (seen_by s.flat.code) (seen_of s) (t, e.1) = subst (λ z. Can (seen_by s.flat.code) (seen_of s) (z, e.1)) same there in
          let way : IsStepBy s refused (t, e.1) = subst (λ z. IsStepBy s refused (z, e.1)) same by in
          subst (λ z. LeadsToNode (seen_by s.flat.code) (answered_by s.flat.code) R (seen_of s) (z, e.1) (seen_of k)) (sym same)
          (leads_to_by_equal_act (seen_by s.flat.code) (answered_by s.flat.code) R (seen_of s) t (result_by refused) e.1 (seen_of k)
          (seen_act_is_real_act s t (result_by refused) rests ∙ seen_act_by_way s t e.1 refused rests way here
          ∙ sym (seen_act_is_real_act s t e.1 rests)) base),
    )

-- so it does to what looks the same
pub way_leads_to_alike_node : (s u w k : SourcedFlat) (t : ℕ) (refused : Bool) → Rests (ask_of s.flat.code (thread_of s.flat t))
    → MayGo refused (ask_of s.flat.code (thread_of s.flat t)) → TakesStep s u t (result_by refused) → GoesPlain u w → LookAlike w k
    → HasStepBy s t refused × ((e : Step) → e.0 ≡ t → IsStepBy s refused e → Can (seen_by s.flat.code) (seen_of s) e
    → LeadsToNode (seen_by s.flat.code) (answered_by s.flat.code) (Alike s.flat.code) (seen_of s) e (seen_of k))
way_leads_to_alike_node s u w k t refused rests may step goes alike =
    way_leads_to_related (Alike s.flat.code) s u w k t refused rests may step goes
    (subst (λ z. Alike z (seen_of w) (seen_of k)) (goes.code ∙ step.code) alike)

-- and where no source has answered a call for the time, it leads there so
pub way_leads_to_tickless : (s u w k : SourcedFlat) (t : ℕ) (refused : Bool) → Rests (ask_of s.flat.code (thread_of s.flat t))
    → MayGo refused (ask_of s.flat.code (thread_of s.flat t)) → TakesStep s u t (result_by refused) → GoesPlain u w → LookAlike w k → HaveNoTicks w.sources
    → (e : Step) → e.0 ≡ t → IsStepBy s refused e → Can (seen_by s.flat.code) (seen_of s) e
    → LeadsToNode (seen_by s.flat.code) (answered_by s.flat.code) (AlikeTickless s.flat.code) (seen_of s) e (seen_of k)
way_leads_to_tickless s u w k t refused rests may step goes alike none =
    (way_leads_to_related (AlikeTickless s.flat.code) s u w k t refused rests may step goes
    (subst (λ z. Alike z (seen_of w) (seen_of k)) (goes.code ∙ step.code) alike, none)).1

pub look_alike_reflexive : (s : SourcedFlat) → LookAlike s s
look_alike_reflexive s = record { threads = λ t. inl refl; inside = λ o t. refl; words = λ o. refl }

-- from the start the threads go on alone to what is at rest
begins_related : (R : State (ThreadState × Source) → State (ThreadState × Source) → Type 0) (s u : SourcedFlat) → GoesPlain s u → R (seen_of u) (seen_of u)
    → Begins (seen_by s.flat.code) (answered_by s.flat.code) R (seen_of s) (seen_of u)
begins_related R s u goes related = record {
  ahead = goes.ahead;
  goes = plain_run_seen s.flat.code (full_of s) goes.ahead goes.plain;
  alike = subst (λ z. R z (seen_of u)) (sym (end_of_live_run_seen s.flat.code (full_of s) goes.ahead goes.plain.1 ∙ ap seen_state (sym goes.ends))) related;
}

alike_refl : (code : List ℕ) (s : State (ThreadState × Source)) → Alike code s s
alike_refl code s = record { threads = λ t. inl refl; inside = λ o t. refl; words = λ o. refl }

pub begins_by_plain_steps : (s u : SourcedFlat) → GoesPlain s u
    → Begins (seen_by s.flat.code) (answered_by s.flat.code) (Alike s.flat.code) (seen_of s) (seen_of u)
begins_by_plain_steps s u goes = begins_related (Alike s.flat.code) s u goes (alike_refl s.flat.code (seen_of u))

pub begins_tickless : (s u : SourcedFlat) → GoesPlain s u → HaveNoTicks u.sources
    → Begins (seen_by s.flat.code) (answered_by s.flat.code) (AlikeTickless s.flat.code) (seen_of s) (seen_of u)
begins_tickless s u goes none = begins_related (AlikeTickless s.flat.code) s u goes (alike_refl s.flat.code (seen_of u), none)

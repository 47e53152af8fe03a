-- A thread that goes on beside some objects.
use Rattle.std.proofs.Common.{◌≡◌, ℕ, zero, suc, ◌+◌, ◌<◌, Bool, true, false, List, length, length-set, set, refl, sym, ap, ◌∙◌, subst, arith, get_or, get_or-set_same}
use Rattle.std.proofs.lemmas.List.{set-get_or, set-set}
use Rattle.std.specs.Prelude.{slice_set}
use Rattle.ir_object.specs.Cell.{Cell}
use Rattle.ir_object.specs.Empty.{empty}
use Rattle.ir_object.specs.Standing.{Admitted, CanLeave}
use Rattle.ir_object.specs.Word.{IsFields, entered_word, left_by}
use Rattle.ir_object.specs.declared.fields.Fields.{Fields}
use Rattle.ir_runs.specs.Run.{Can, after}
use Rattle.ir_search_laws.specs.Counting.{IsAnswered}
use Rattle.ir_search_laws.specs.Sources.{answer_of, left_of_source}
use Rattle.ir_search_laws.specs.Views.{beside}
use Rattle.ir_thread.specs.Permitted.{run_of, step_of, Permits}
use Rattle.ir_thread.specs.Private.{PrivateSteps}
use Rattle.ir_thread.specs.State.{ThreadState, held_at, ask_of, after_reply, after_ask, shared_ask, thread_machine}
use Rattle.ir_thread.specs.declared.ask.Ask.{Ask}
use Rattle.ir_thread.specs.declared.ask.Ask.TheVariants as ask
use Rattle.ir_thread.specs.declared.ask.Reply.TheVariants.{Go, Value}
use Rattle.ir_world.specs.Sources.{Source, given}
use Rattle.ir_flat.specs.Flat.{Flat, IsFlat, thread_of, cell_of, tables, machine, idle}
use Rattle.ir_flat.specs.Next.{with_thread, with_object, next, MayStep, MayTry}
use Rattle.ir_flat.proofs.CallerLemmas.{next_is_flat, tables_of_next, may_step_iff_can_ask, entered_fields_fit, left_fields_fit, flat_inside_can_leave}
use Rattle.ir_thread.proofs.CallerLemmas.{ask_of_permitted}
use Rattle.ir_runs.specs.declared.access.Access.{Access}
use Rattle.ir_runs.specs.declared.access.Access.TheVariants.{Writing}
use Rattle.ir_state_store.specs.Nodes.{SourcedFlat, source_of, sourced_thread, with_turn, IsSourced}
use Rattle.ir_state_store.specs.Table.{no_source}
use Rattle.ir_graph.specs.Hand.{with_hand, EachOnce, IsHandOf}
use Rattle.ir_graph.specs.Lone.{IsAbout, IsGiven, answer_from, cell_after, lone_thread, lone_cell, GoesAmong, MayBegin, MustWait, TakesTurn, AreAmong, AreBeside, MayTake}
use Rattle.ir_graph.specs.Plain.{full_by, full_of, IsFair, GoesPlain, MayGo, OthersStay, Rests, result_by, result_of_plain}
use Rattle.ir_graph.proofs.Hand.{with_items_over_set, number_at_place_satisfies, with_own_hand_is_same, length-hand, object_at_hand_place, hand_after_set}
use Rattle.ir_graph.proofs.Full.{sourced_step_beside, source_set_is_upd}
use Rattle.ir_graph.proofs.Plain.{goes_plain_reflexive, goes_plain_transitive, goes_plain_by_fair_step, others_stay_after_step, others_stay_transitive, twin_after_ask}

-- the flat with another thread and another object
abbrev pub with_thread_and_object : Flat → ℕ → ThreadState → ℕ → Cell → Flat
with_thread_and_object f t y o d = with_object (with_thread f t y) o d

same_object_set : (f : Flat) (t o : ℕ) (y : ThreadState) → with_thread f t y ≡ with_thread_and_object f t y o (cell_of f o)
same_object_set f t o y i = record { code = f.code; threads = set f.threads t y; objects = sym (set-get_or f.objects o empty) i }

-- a step that is about one object changes the thread and that object alone
pub next_sets_thread_and_object : (f : Flat) (t o : ℕ) (refused : Bool) (source : Source) (q : Ask) → IsAbout o q
    → next f t (result_of_plain refused q source) q
    ≡ with_thread_and_object f t (after_ask f.code (thread_of f t) q (answer_from refused (cell_of f o) source q)) o (cell_after refused (cell_of f o) q)
next_sets_thread_and_object f t o refused source ask.Private h = same_object_set f t o (after_ask f.code (thread_of f t) ask.Private Go)
next_sets_thread_and_object f t o refused source (ask.Env kind) h =
    same_object_set f t o (after_ask f.code (thread_of f t) (ask.Env kind) (Value (given kind source).0))
next_sets_thread_and_object f t o refused source (ask.Enter p access) h =
    ap (λ z. with_thread_and_object f t (after_ask f.code (thread_of f t) (ask.Enter p access) Go) z
    (record (cell_of f z) { fields = entered_word access (cell_of f z).fields })) h
next_sets_thread_and_object f t o true source (ask.Try p) h = same_object_set f t o (after_ask f.code (thread_of f t) (ask.Try p) (Value 0))
next_sets_thread_and_object f t o false source (ask.Try p) h =
    ap (λ z. with_thread_and_object f t (after_ask f.code (thread_of f t) (ask.Try p) (Value 1)) z
    (record (cell_of f z) { fields = entered_word Writing (cell_of f z).fields })) h
next_sets_thread_and_object f t o refused source (ask.Leave p access) h =
    ap (λ z. with_thread_and_object f t (after_ask f.code (thread_of f t) (ask.Leave p access) Go) z
    (record (cell_of f z) { fields = left_by access (cell_of f z).fields })) h
next_sets_thread_and_object f t o refused source (ask.Get p index) h =
    ap (λ z. with_thread f t (after_ask f.code (thread_of f t) (ask.Get p index) (answer_from refused (cell_of f z) source (ask.Get p index)))) h
    ∙ same_object_set f t o (after_ask f.code (thread_of f t) (ask.Get p index) (answer_from refused (cell_of f o) source (ask.Get p index)))
next_sets_thread_and_object f t o refused source (ask.Put p index value) h =
    ap (λ z. with_thread_and_object f t (after_ask f.code (thread_of f t) (ask.Put p index value) Go) z
    (record (cell_of f z) { words = slice_set (cell_of f z).words index value })) h
next_sets_thread_and_object f t o refused source ask.Print h = same_object_set f t o (after_ask f.code (thread_of f t) ask.Print Go)
next_sets_thread_and_object f t o refused source (ask.End e) h = same_object_set f t o (after_ask f.code (thread_of f t) (ask.End e) Go)
next_sets_thread_and_object f t o refused source ask.Done h = absurd h

-- a step of the thread about one of the objects, and then another hand
with_hand_over_turn : (s : SourcedFlat) (t : ℕ) (x y : ThreadState × Source) (numbers : List ℕ) (cells : List Cell) (p : ℕ) (c : Cell) → EachOnce numbers
    → p < length numbers → length cells ≡ length numbers
    → with_hand (with_turn s t x (get_or numbers p 0) c) t y numbers cells ≡ with_hand s t y numbers cells
with_hand_over_turn s t x y numbers cells p c once less each i = record {
  flat = record {
    code = s.flat.code;
    threads = set-set s.flat.threads t x.0 y.0 i;
    objects = with_items_over_set s.flat.objects numbers cells p c once less each i;
  };
  sources = set-set s.sources t x.1 y.1 i;
}

-- a state of which the flat part is as after the step, and the source of its thread too, is that after the step
pub full_after_step : (s u : SourcedFlat) (t r : ℕ) → t < length s.sources → tables u.flat ≡ after (machine s.flat) (tables s.flat) (t, r)
    → u.sources ≡ set s.sources t (left_of_source given (shared_ask (ask_of s.flat.code (thread_of s.flat t))) (source_of s t))
    → full_of u ≡ after (full_by s.flat.code) (full_of s) (t, r)
full_after_step s u t r less flat sources =
    let source : Source = left_of_source given (shared_ask (ask_of s.flat.code (thread_of s.flat t))) (source_of s t) in
    (λ i. beside (flat i) (λ v. get_or (sources i) v no_source))
    ∙ (λ i. beside (after (machine s.flat) (tables s.flat) (t, r)) (source_set_is_upd s.sources t source less i))
    ∙ sym (sourced_step_beside (thread_machine s.flat.code) given (tables s.flat) (source_of s) (t, r))

-- ---- one step

fair_ask_may_step : (f : Flat) (source : Source) (q : Ask) → IsFair q → IsGiven source q → MayStep f (result_of_plain false q source) q
fair_ask_may_step f source ask.Private fair suits = tt
fair_ask_may_step f source (ask.Env k) fair suits = suits
fair_ask_may_step f source (ask.Enter p a) fair suits = absurd fair
fair_ask_may_step f source (ask.Try p) fair suits = absurd fair
fair_ask_may_step f source (ask.Leave p a) fair suits = tt
fair_ask_may_step f source (ask.Get p i) fair suits = tt
fair_ask_may_step f source (ask.Put p i v) fair suits = tt
fair_ask_may_step f source ask.Print fair suits = tt
fair_ask_may_step f source (ask.End e) fair suits = tt
fair_ask_may_step f source ask.Done fair suits = absurd fair

fair_ask_is_answered : (source : Source) (q : Ask) → IsFair q → IsAnswered (shared_ask q) (answer_of given (shared_ask q) source) (result_of_plain false q source)
fair_ask_is_answered source ask.Private fair = tt
fair_ask_is_answered source (ask.Env k) fair = refl
fair_ask_is_answered source (ask.Enter p a) fair = absurd fair
fair_ask_is_answered source (ask.Try p) fair = absurd fair
fair_ask_is_answered source (ask.Leave p a) fair = tt
fair_ask_is_answered source (ask.Get p i) fair = tt
fair_ask_is_answered source (ask.Put p i v) fair = tt
fair_ask_is_answered source ask.Print fair = tt
fair_ask_is_answered source (ask.End e) fair = tt
fair_ask_is_answered source ask.Done fair = absurd fair

-- what a step that is about one object makes of a state
pub record IsLoneStep (s : SourcedFlat) (t r : ℕ) (u : SourcedFlat) : Type 0 where
  pub state : IsSourced u
  pub can : Can (machine s.flat) (tables s.flat) (t, r)
  pub is : full_of u ≡ after (full_by s.flat.code) (full_of s) (t, r)
  pub code : u.flat.code ≡ s.flat.code
  pub threads : length u.flat.threads ≡ length s.flat.threads
  pub objects : length u.flat.objects ≡ length s.flat.objects
  pub sources : length u.sources ≡ length s.sources

-- what more of such steps make of it
pub record IsLoneRun (s : SourcedFlat) (t : ℕ) (u : SourcedFlat) : Type 0 where
  pub state : IsSourced u
  pub goes : GoesPlain s u
  pub others : OthersStay s u t

module _ (s : SourcedFlat) (t o : ℕ) (refused : Bool) (state : IsSourced s) (less : t < length s.flat.threads) where
  -- the state after the step, where it is about the object
  abbrev pub after_lone_step : SourcedFlat
  after_lone_step = with_turn s t (lone_thread s.flat.code refused (sourced_thread s t) (cell_of s.flat o)) o
      (lone_cell s.flat.code refused (sourced_thread s t) (cell_of s.flat o))

  pub lone_step : IsAbout o (ask_of s.flat.code (thread_of s.flat t))
      → MayStep s.flat (result_of_plain refused (ask_of s.flat.code (thread_of s.flat t)) (source_of s t)) (ask_of s.flat.code (thread_of s.flat t))
      → IsLoneStep s t (result_of_plain refused (ask_of s.flat.code (thread_of s.flat t)) (source_of s t)) after_lone_step
  lone_step about may =
      let f = s.flat in
      let q = ask_of f.code (thread_of f t) in
      let r = result_of_plain refused q (source_of s t) in
      let made : next f t r q ≡ after_lone_step.flat = next_sets_thread_and_object f t o refused (source_of s t) q about in
      let each : t < length s.sources = (let a = state.each in omega (arith, a, less)) in
      record {
        state = record {
          flat = subst IsFlat made (next_is_flat f t r q refl state.flat less may);
          each = length-set s.sources t (left_of_source given (shared_ask q) (source_of s t)) ∙ state.each
              ∙ sym (length-set f.threads t (after_ask f.code (thread_of f t) q (answer_from refused (cell_of f o) (source_of s t) q)));
        };
        can = (may_step_iff_can_ask f t r q state.flat less refl).0 may;
        is = full_after_step s after_lone_step t r each (ap tables (sym made) ∙ tables_of_next f t r q state.flat less refl may) refl;
        code = refl;
        threads = length-set f.threads t (after_ask f.code (thread_of f t) q (answer_from refused (cell_of f o) (source_of s t) q));
        objects = length-set f.objects o (cell_after refused (cell_of f o) q);
        sources = length-set s.sources t (left_of_source given (shared_ask q) (source_of s t));
      }

-- a step that can't be refused
lone_run_by_fair_step : (s : SourcedFlat) (t o : ℕ) → IsSourced s → t < length s.flat.threads → IsFair (ask_of s.flat.code (thread_of s.flat t))
    → IsAbout o (ask_of s.flat.code (thread_of s.flat t)) → IsGiven (source_of s t) (ask_of s.flat.code (thread_of s.flat t))
    → IsLoneRun s t (with_turn s t (lone_thread s.flat.code false (sourced_thread s t) (cell_of s.flat o)) o
    (lone_cell s.flat.code false (sourced_thread s t) (cell_of s.flat o)))
lone_run_by_fair_step s t o state less fair about suits =
    let q = ask_of s.flat.code (thread_of s.flat t) in
    let r = result_of_plain false q (source_of s t) in
    let u = with_turn s t (lone_thread s.flat.code false (sourced_thread s t) (cell_of s.flat o)) o
    (lone_cell s.flat.code false (sourced_thread s t) (cell_of s.flat o)) in
    let one : IsLoneStep s t r u = lone_step s t o false state less about (fair_ask_may_step s.flat (source_of s t) q fair suits) in
    record {
      state = one.state;
      goes = goes_plain_by_fair_step s u t r fair (fair_ask_is_answered (source_of s t) q fair) one.can one.is one.code one.threads one.objects one.sources;
      others = others_stay_after_step s u t r one.is;
    }

-- so many objects stay so many
pub run_keeps_cell_count : (code numbers : List ℕ) (k : ℕ) (x y : ThreadState × Source) (cells later : List Cell) → GoesAmong code numbers k x cells y later
    → length later ≡ length cells
run_keeps_cell_count code numbers zero x y cells later (same, too) = ap length (sym too)
run_keeps_cell_count code numbers (suc k) x y cells later (p, less, fair, about, suits, more) =
    let c = get_or cells p empty in
    run_keeps_cell_count code numbers k (lone_thread code false x c) y (set cells p (lone_cell code false x c)) later more
    ∙ length-set cells p (lone_cell code false x c)

pub lone_run_if_goes_among : (k : ℕ) (s : SourcedFlat) (t : ℕ) (numbers : List ℕ) (x y : ThreadState × Source) (cells later : List Cell) → IsSourced s
    → t < length s.flat.threads → IsHandOf s.flat.objects numbers cells → sourced_thread s t ≡ x → GoesAmong s.flat.code numbers k x cells y later
    → IsLoneRun s t (with_hand s t y numbers later)
lone_run_if_goes_among zero s t numbers x y cells later state less hand here (same, too) =
    subst (IsLoneRun s t) (sym (with_own_hand_is_same s t numbers cells hand) ∙ (λ i. with_hand s t ((here ∙ same) i) numbers (too i)))
    (record {
      state = state;
      goes = goes_plain_reflexive s;
      others = record { threads = λ v ne. refl; sources = λ v ne. refl };
    })
lone_run_if_goes_among (suc k) s t numbers x y cells later state less hand here (p, few, fair, about, suits, more) =
    let code = s.flat.code in
    let o = get_or numbers p 0 in
    let c = get_or cells p empty in
    let there : cell_of s.flat o ≡ c = object_at_hand_place s.flat.objects numbers cells p hand few in
    let d = lone_cell code false x c in
    let u = with_turn s t (lone_thread code false x c) o d in
    let first : IsLoneRun s t u =
    subst (IsLoneRun s t) (λ i. with_turn s t (lone_thread code false (here i) (there i)) o (lone_cell code false (here i) (there i)))
    (lone_run_by_fair_step s t o state less (subst (λ (z : ThreadState × Source). IsFair (ask_of code z.0)) (sym here) fair)
    (subst (λ (z : ThreadState × Source). IsAbout o (ask_of code z.0)) (sym here) about)
    (subst (λ (z : ThreadState × Source). IsGiven z.1 (ask_of code z.0)) (sym here) suits)) in
    let each : t < length s.sources = (let a = state.each in omega (arith, a, less)) in
    let less_u : t < length u.flat.threads = (let a = first.goes.threads in omega (arith, a, less)) in
    let here_u : sourced_thread u t ≡ lone_thread code false x c = λ i. (
      get_or-set_same s.flat.threads t (lone_thread code false x c).0 idle less i,
      get_or-set_same s.sources t (lone_thread code false x c).1 no_source each i,
    ) in
    let rest : IsLoneRun u t (with_hand u t y numbers later) =
    lone_run_if_goes_among k u t numbers (lone_thread code false x c) y (set cells p d) later first.state less_u
    (hand_after_set s.flat.objects numbers cells p d hand few) here_u more in
    let many : length later ≡ length numbers =
    run_keeps_cell_count code numbers k (lone_thread code false x c) y (set cells p d) later more ∙ length-set cells p d
    ∙ length-hand s.flat.objects numbers cells hand in
    subst (IsLoneRun s t) (with_hand_over_turn s t (lone_thread code false x c) y numbers later p d hand.once few many) (record {
      state = rest.state;
      goes = goes_plain_transitive s u (with_hand u t y numbers later) first.goes rest.goes;
      others = others_stay_transitive s u (with_hand u t y numbers later) t first.others rest.others;
    })

-- a turn: the entry or try, and where the thread rests then
pub record IsLoneTurn (s : SourcedFlat) (t : ℕ) (refused : Bool) (u w : SourcedFlat) : Type 0 where
  pub enters : IsLoneStep s t (result_by refused) u
  pub goes : IsLoneRun u t w
  pub rests : Rests (ask_of w.flat.code (thread_of w.flat t))

-- what begins a turn is about its object
turn_ask_about_object : (o : ℕ) (refused : Bool) (fields : Fields) (q : Ask) → MayBegin refused o fields q → IsAbout o q
turn_ask_about_object o refused fields ask.Private h = absurd h
turn_ask_about_object o refused fields (ask.Env k) h = absurd h
turn_ask_about_object o refused fields (ask.Enter p a) h = h.1
turn_ask_about_object o refused fields (ask.Try p) h = h.0
turn_ask_about_object o refused fields (ask.Leave p a) h = absurd h
turn_ask_about_object o refused fields (ask.Get p i) h = absurd h
turn_ask_about_object o refused fields (ask.Put p i v) h = absurd h
turn_ask_about_object o refused fields ask.Print h = absurd h
turn_ask_about_object o refused fields (ask.End e) h = absurd h
turn_ask_about_object o refused fields ask.Done h = absurd h

-- and there is such a step
turn_ask_may_step : (f : Flat) (o : ℕ) (refused : Bool) (q : Ask) → MayBegin refused o (cell_of f o).fields q → MayStep f (result_by refused) q
turn_ask_may_step f o refused ask.Private h = absurd h
turn_ask_may_step f o refused (ask.Env k) h = absurd h
turn_ask_may_step f o refused (ask.Enter p a) h = subst (λ z. Admitted a (cell_of f z).fields) (sym h.1) h.2
turn_ask_may_step f o refused (ask.Try p) h = subst (λ z. MayTry (cell_of f z).fields (result_by refused)) (sym h.0) h.1
turn_ask_may_step f o refused (ask.Leave p a) h = absurd h
turn_ask_may_step f o refused (ask.Get p i) h = absurd h
turn_ask_may_step f o refused (ask.Put p i v) h = absurd h
turn_ask_may_step f o refused ask.Print h = absurd h
turn_ask_may_step f o refused (ask.End e) h = absurd h
turn_ask_may_step f o refused ask.Done h = absurd h

-- a thread that has to wait has no step
pub waiting_may_not_step : (f : Flat) (o : ℕ) (refused : Bool) (q : Ask) → MustWait refused o (cell_of f o).fields q
    → MayStep f (result_by refused) q → ⊥
waiting_may_not_step f o refused ask.Private h may = absurd h
waiting_may_not_step f o refused (ask.Env k) h may = absurd h
waiting_may_not_step f o refused (ask.Enter p a) h may = h.2 (subst (λ z. Admitted a (cell_of f z).fields) h.1 may)
waiting_may_not_step f o true (ask.Try p) h may = absurd (cc h.0)
waiting_may_not_step f o false (ask.Try p) h may = h.2 (subst (λ z. Admitted Writing (cell_of f z).fields) h.1 may)
waiting_may_not_step f o refused (ask.Leave p a) h may = absurd h
waiting_may_not_step f o refused (ask.Get p i) h may = absurd h
waiting_may_not_step f o refused (ask.Put p i v) h may = absurd h
waiting_may_not_step f o refused ask.Print h may = absurd h
waiting_may_not_step f o refused (ask.End e) h may = absurd h
waiting_may_not_step f o refused ask.Done h may = absurd h

-- a turn is by its way
pub turn_ask_may_go : (o : ℕ) (refused : Bool) (fields : Fields) (q : Ask) → MayBegin refused o fields q → MayGo refused q
turn_ask_may_go o refused fields ask.Private h = absurd h
turn_ask_may_go o refused fields (ask.Env k) h = absurd h
turn_ask_may_go o refused fields (ask.Enter p a) h = subst (λ z. MayGo z (ask.Enter p a)) (sym h.0) tt
turn_ask_may_go o true fields (ask.Try p) h = tt
turn_ask_may_go o false fields (ask.Try p) h = tt
turn_ask_may_go o refused fields (ask.Leave p a) h = absurd h
turn_ask_may_go o refused fields (ask.Get p i) h = absurd h
turn_ask_may_go o refused fields (ask.Put p i v) h = absurd h
turn_ask_may_go o refused fields ask.Print h = absurd h
turn_ask_may_go o refused fields (ask.End e) h = absurd h
turn_ask_may_go o refused fields ask.Done h = absurd h

-- the result of such a step
turn_result_by_way : (o : ℕ) (refused : Bool) (fields : Fields) (source : Source) (q : Ask) → MayBegin refused o fields q
    → result_of_plain refused q source ≡ result_by refused
turn_result_by_way o refused fields source ask.Private h = absurd h
turn_result_by_way o refused fields source (ask.Env k) h = absurd h
turn_result_by_way o refused fields source (ask.Enter p a) h = refl
turn_result_by_way o refused fields source (ask.Try p) h = refl
turn_result_by_way o refused fields source (ask.Leave p a) h = absurd h
turn_result_by_way o refused fields source (ask.Get p i) h = absurd h
turn_result_by_way o refused fields source (ask.Put p i v) h = absurd h
turn_result_by_way o refused fields source ask.Print h = absurd h
turn_result_by_way o refused fields source (ask.End e) h = absurd h
turn_result_by_way o refused fields source ask.Done h = absurd h

pub lone_turn_if_takes_turn : (s : SourcedFlat) (t : ℕ) (numbers : List ℕ) (refused : Bool) (x y : ThreadState × Source) (cells later : List Cell)
    → IsSourced s → t < length s.flat.threads → 0 < length numbers → IsHandOf s.flat.objects numbers cells → sourced_thread s t ≡ x
    → TakesTurn s.flat.code numbers refused x cells y later → (u : SourcedFlat) × IsLoneTurn s t refused u (with_hand s t y numbers later)
lone_turn_if_takes_turn s t numbers refused x y cells later state less few hand here turn =
    let code = s.flat.code in
    let o = get_or numbers 0 0 in
    let c = get_or cells 0 empty in
    let there : cell_of s.flat o ≡ c = object_at_hand_place s.flat.objects numbers cells 0 hand few in
    let d = lone_cell code refused x c in
    let q = ask_of code (thread_of s.flat t) in
    let begins : MayBegin refused o (cell_of s.flat o).fields q =
    subst (λ (z : Cell). MayBegin refused o z.fields q) (sym there)
    (subst (λ (z : ThreadState × Source). MayBegin refused o c.fields (ask_of code z.0)) (sym here) turn.begins) in
    let result : result_of_plain refused q (source_of s t) ≡ result_by refused =
    turn_result_by_way o refused (cell_of s.flat o).fields (source_of s t) q begins in
    let u = with_turn s t (lone_thread code refused x c) o d in
    let one : IsLoneStep s t (result_by refused) u =
    subst (IsLoneStep s t (result_by refused))
    (λ i. with_turn s t (lone_thread code refused (here i) (there i)) o (lone_cell code refused (here i) (there i)))
    (subst (λ r. IsLoneStep s t r (after_lone_step s t o refused state less)) result
    (lone_step s t o refused state less (turn_ask_about_object o refused (cell_of s.flat o).fields q begins)
    (subst (λ r. MayStep s.flat r q) (sym result) (turn_ask_may_step s.flat o refused q begins)))) in
    let each : t < length s.sources = (let a = state.each in omega (arith, a, less)) in
    let less_u : t < length u.flat.threads = (let a = one.threads in omega (arith, a, less)) in
    let here_u : sourced_thread u t ≡ lone_thread code refused x c = λ i. (
      get_or-set_same s.flat.threads t (lone_thread code refused x c).0 idle less i,
      get_or-set_same s.sources t (lone_thread code refused x c).1 no_source each i,
    ) in
    let rest : IsLoneRun u t (with_hand u t y numbers later) =
    lone_run_if_goes_among turn.steps u t numbers (lone_thread code refused x c) y (set cells 0 d) later one.state less_u
    (hand_after_set s.flat.objects numbers cells 0 d hand few) here_u turn.goes in
    let many : length later ≡ length numbers =
    run_keeps_cell_count code numbers turn.steps (lone_thread code refused x c) y (set cells 0 d) later turn.goes ∙ length-set cells 0 d
    ∙ length-hand s.flat.objects numbers cells hand in (
      u,
      record {
        enters = one;
        goes = subst (IsLoneRun u t) (with_hand_over_turn s t (lone_thread code refused x c) y numbers later 0 d hand.once few many) rest;
        rests = subst (λ z. Rests (ask_of code z)) (sym (get_or-set_same s.flat.threads t y.0 idle less)) turn.rests;
      },
    )

-- after a turn there are as many objects as before
pub turn_keeps_cell_count : (code numbers : List ℕ) (refused : Bool) (x y : ThreadState × Source) (cells later : List Cell)
    → TakesTurn code numbers refused x cells y later → length later ≡ length cells
turn_keeps_cell_count code numbers refused x y cells later turn =
    let c = get_or cells 0 empty in
    run_keeps_cell_count code numbers turn.steps (lone_thread code refused x c) y (set cells 0 (lone_cell code refused x c)) later turn.goes
    ∙ length-set cells 0 (lone_cell code refused x c)

-- steps one after the other
pub goes_among_append : (code numbers : List ℕ) (k j : ℕ) (x y z : ThreadState × Source) (cells mid later : List Cell)
    → GoesAmong code numbers k x cells y mid → GoesAmong code numbers j y mid z later → GoesAmong code numbers (k + j) x cells z later
goes_among_append code numbers zero j x y z cells mid later (same, too) more =
    let n : zero + j ≡ j = omega arith in
    subst (λ m. GoesAmong code numbers m x cells z later) (sym n)
    (subst (λ s. GoesAmong code numbers j s cells z later) (sym same) (subst (λ s. GoesAmong code numbers j y s z later) (sym too) more))
goes_among_append code numbers (suc k) j x y z cells mid later (p, less, fair, about, suits, first) more =
    let n : suc k + j ≡ suc (k + j) = omega arith in
    let c = get_or cells p empty in
    subst (λ m. GoesAmong code numbers m x cells z later) (sym n) (
      p,
      less,
      fair,
      about,
      suits,
      goes_among_append code numbers k j (lone_thread code false x c) y z (set cells p (lone_cell code false x c)) mid later first more,
    )

-- private steps
pub goes_among_private_asks : (code numbers : List ℕ) (n : ℕ) (x : ThreadState) (source : Source) (cells : List Cell) → 0 < length numbers
    → ((k : ℕ) → k < n → ask_of code (run_of code k x) ≡ ask.Private)
    → GoesAmong code numbers n (x, source) cells (run_of code n x, source) cells
unfolding run_of step_of after_reply
goes_among_private_asks code numbers zero x source cells some each = (refl, refl)
goes_among_private_asks code numbers (suc n) x source cells some each =
    let y = run_of code n x in
    let c = get_or cells 0 empty in
    let last : ask_of code y ≡ ask.Private = each n (omega arith) in
    let one : GoesAmong code numbers 1 (y, source) cells (after_ask code y (ask_of code y) Go, source) cells = (
      0,
      some,
      subst IsFair (sym last) tt,
      subst (IsAbout (get_or numbers 0 0)) (sym last) tt,
      subst (IsGiven source) (sym last) tt,
      (
        (λ i. (after_ask code y (ask_of code y) (answer_from false c source (last i)), left_of_source given (shared_ask (last i)) source)),
        ap (λ z. set cells 0 (cell_after false c z)) last ∙ set-get_or cells 0 empty,
      ),
    ) in
    let e : n + 1 ≡ suc n = omega arith in
    subst (λ z. GoesAmong code numbers z (x, source) cells (after_ask code y (ask_of code y) Go, source) cells) e
    (goes_among_append code numbers n 1 (x, source) (y, source) (after_ask code y (ask_of code y) Go, source) cells cells cells
    (goes_among_private_asks code numbers n x source cells some (λ k l. each k (omega (arith, l)))) one)

-- a thread among some objects is beside each of them
pub beside_cell_at_place : (code numbers : List ℕ) (x : ThreadState) (cells : List Cell) (p : ℕ) → AreAmong code numbers x cells → p < length numbers
    → AreBeside code (get_or numbers p 0) x (get_or cells p empty)
beside_cell_at_place code numbers x cells p b less = record {
  flat = b.flat;
  thread = b.thread;
  is = b.is;
  runs = b.runs;
  has_thread = b.has_thread;
  has_object = number_at_place_satisfies (λ o. o < length b.flat.objects) numbers p b.hand.within less;
  here = b.here;
  there = object_at_hand_place b.flat.objects numbers cells p b.hand less;
}

pub among_cell_count : (code numbers : List ℕ) (x : ThreadState) (cells : List Cell) → AreAmong code numbers x cells → length cells ≡ length numbers
among_cell_count code numbers x cells b = length-hand b.flat.objects numbers cells b.hand

-- a thread that is among some objects is so after a step that is about one of them
pub are_among_after_ask : (code numbers : List ℕ) (refused : Bool) (x : ThreadState) (source : Source) (cells : List Cell) (p : ℕ) (asks : Ask)
    → AreAmong code numbers x cells → p < length numbers → ask_of code x ≡ asks → IsAbout (get_or numbers p 0) asks
    → ((f : Flat) → cell_of f (get_or numbers p 0) ≡ get_or cells p empty → MayStep f (result_of_plain refused asks source) asks)
    → AreAmong code numbers (after_ask code x asks (answer_from refused (get_or cells p empty) source asks))
    (set cells p (cell_after refused (get_or cells p empty) asks))
are_among_after_ask code numbers refused x source cells p asks b few is about may =
    let f = b.flat in
    let t = b.thread in
    let o = get_or numbers p 0 in
    let there : cell_of f o ≡ get_or cells p empty = object_at_hand_place f.objects numbers cells p b.hand few in
    let q = ask_of f.code (thread_of f t) in
    let same : q ≡ asks = (λ i. ask_of (b.runs i) (b.here i)) ∙ is in
    let y = after_ask f.code (thread_of f t) q (answer_from refused (cell_of f o) source q) in
    let d = cell_after refused (cell_of f o) q in
    let g = with_thread_and_object f t y o d in
    record {
      flat = g;
      thread = t;
      is = subst IsFlat (next_sets_thread_and_object f t o refused source q (subst (IsAbout o) (sym same) about))
          (next_is_flat f t (result_of_plain refused q source) q refl b.is b.has_thread
          (subst (λ z. MayStep f (result_of_plain refused z source) z) (sym same) (may f there)));
      runs = b.runs;
      has_thread = let a = length-set f.threads t y in let l = b.has_thread in omega (arith, a, l);
      here = get_or-set_same f.threads t y idle b.has_thread
          ∙ (λ i. after_ask (b.runs i) (b.here i) (same i) (answer_from refused (there i) source (same i)));
      hand = subst (λ z. IsHandOf g.objects numbers (set cells p z)) (λ i. cell_after refused (there i) (same i))
          (hand_after_set f.objects numbers cells p d b.hand few);
    }

-- and after more of them
pub are_among_after_run : (code numbers : List ℕ) (k : ℕ) (x y : ThreadState × Source) (cells later : List Cell) → AreAmong code numbers x.0 cells
    → GoesAmong code numbers k x cells y later → AreAmong code numbers y.0 later
are_among_after_run code numbers zero x y cells later b (same, too) =
    subst (λ (z : ThreadState × Source). AreAmong code numbers z.0 later) same (subst (AreAmong code numbers x.0) too b)
are_among_after_run code numbers (suc k) x y cells later b (p, less, fair, about, suits, more) =
    let c = get_or cells p empty in
    are_among_after_run code numbers k (lone_thread code false x c) y (set cells p (lone_cell code false x c)) later
    (are_among_after_ask code numbers false x.0 x.1 cells p (ask_of code x.0) b less refl about
    (λ f there. fair_ask_may_step f x.1 (ask_of code x.0) fair suits)) more

-- the object may be asked what a thread beside it asks
pub may_take_fair_ask : (code : List ℕ) (o : ℕ) (x : ThreadState) (c : Cell) (q : Ask) → AreBeside code o x c → ask_of code x ≡ q → IsFair q → IsAbout o q
    → MayTake false c q
may_take_fair_ask code o x c q b is fair about = by q (subst (Permits x) is (ask_of_permitted code x)) fair about
  where
    by : (q : Ask) → Permits x q → IsFair q → IsAbout o q → MayTake false c q
    by ask.Private p fair about = tt
    by (ask.Env k) p fair about = tt
    by (ask.Enter r a) p fair about = absurd fair
    by (ask.Try r) p fair about = absurd fair
    by (ask.Leave r a) p fair about = (
      subst (λ (z : Cell). CanLeave a z.fields) b.there
          (flat_inside_can_leave b.flat b.thread o a b.is b.has_thread b.has_object ((λ i. held_at (b.here i).held (sym about i)) ∙ p.2)),
      subst (λ (z : Cell). IsFields (left_by a z.fields)) b.there (left_fields_fit b.flat o a b.is b.has_object),
    )
    by (ask.Get r i) p fair about = p.2
    by (ask.Put r i v) p fair about = p.2
    by ask.Print p fair about = tt
    by (ask.End e) p fair about = tt
    by ask.Done p fair about = absurd fair

-- so it may where a turn begins
pub turn_may_take_ask : (code : List ℕ) (o : ℕ) (refused : Bool) (x : ThreadState) (c : Cell) (q : Ask) → AreBeside code o x c
    → MayBegin refused o c.fields q → MayTake refused c q
turn_may_take_ask code o refused x c q b begins = by refused q begins
  where
    fits : (a : Access) → IsFields (entered_word a c.fields)
    fits a = subst (λ (z : Cell). IsFields (entered_word a z.fields)) b.there (entered_fields_fit b.flat o a b.is b.has_object)

    by : (refused : Bool) (q : Ask) → MayBegin refused o c.fields q → MayTake refused c q
    by refused ask.Private h = absurd h
    by refused (ask.Env k) h = absurd h
    by refused (ask.Enter p a) h = (h.2, fits a)
    by true (ask.Try p) h = tt
    by false (ask.Try p) h = (h.1, fits Writing)
    by refused (ask.Leave p a) h = absurd h
    by refused (ask.Get p i) h = absurd h
    by refused (ask.Put p i v) h = absurd h
    by refused ask.Print h = absurd h
    by refused (ask.End e) h = absurd h
    by refused ask.Done h = absurd h

pub goes_among_by_private : (code numbers : List ℕ) (n : ℕ) (x y : ThreadState) (source : Source) (cells : List Cell) → 0 < length numbers
    → PrivateSteps code n x y → GoesAmong code numbers n (x, source) cells (y, source) cells
goes_among_by_private code numbers n x y source cells some went =
    subst (λ z. GoesAmong code numbers n (x, source) cells (z, source) cells) (sym went.steps)
    (goes_among_private_asks code numbers n x source cells some went.each)

-- private steps, and then one that is asked so
pub goes_among_by_next_ask : (code numbers : List ℕ) (n : ℕ) (x y z : ThreadState) (source left : Source) (cells : List Cell) (p : ℕ) (e : Cell) (q : Ask)
    → 0 < length numbers → PrivateSteps code n x y → q ≡ ask_of code y → p < length numbers → IsFair q → IsAbout (get_or numbers p 0) q → IsGiven source q
    → z ≡ after_ask code y q (answer_from false (get_or cells p empty) source q) → left ≡ left_of_source given (shared_ask q) source
    → e ≡ cell_after false (get_or cells p empty) q → GoesAmong code numbers (n + 1) (x, source) cells (z, left) (set cells p e)
goes_among_by_next_ask code numbers n x y z source left cells p e q some went asked few fair about suits is gives too =
    let c = get_or cells p empty in
    let one : GoesAmong code numbers 1 (y, source) cells (z, left) (set cells p e) = (
      p,
      few,
      subst IsFair asked fair,
      subst (IsAbout (get_or numbers p 0)) asked about,
      subst (IsGiven source) asked suits,
      (
        (λ i. (
          sym (is ∙ (λ j. after_ask code y (asked j) (answer_from false c source (asked j)))) i,
          sym (gives ∙ (λ j. left_of_source given (shared_ask (asked j)) source)) i,
        )),
        ap (set cells p) (sym (too ∙ (λ i. cell_after false c (asked i)))),
      ),
    ) in
    goes_among_append code numbers n 1 (x, source) (y, source) (z, left) cells cells (set cells p e)
    (goes_among_by_private code numbers n x y source cells some went) one

pub takes_turn_then_runs : (code numbers : List ℕ) (refused : Bool) (x z : ThreadState) (source left : Source) (y : ThreadState × Source)
    (cells : List Cell) (e : Cell) (later : List Cell) (q : Ask) → ask_of code x ≡ q
    → MayBegin refused (get_or numbers 0 0) (get_or cells 0 empty).fields q
    → z ≡ after_ask code x q (answer_from refused (get_or cells 0 empty) source q) → left ≡ left_of_source given (shared_ask q) source
    → e ≡ cell_after refused (get_or cells 0 empty) q → (k : ℕ) × GoesAmong code numbers k (z, left) (set cells 0 e) y later → Rests (ask_of code y.0)
    → TakesTurn code numbers refused (x, source) cells y later
takes_turn_then_runs code numbers refused x z source left y cells e later q asks begins is gives too goes rests =
    let c = get_or cells 0 empty in
    record {
      begins = subst (MayBegin refused (get_or numbers 0 0) c.fields) (sym asks) begins;
      steps = goes.0;
      goes = subst (λ s. GoesAmong code numbers goes.0 s (set cells 0 (lone_cell code refused (x, source) c)) y later)
          (λ i. (
            (is ∙ (λ j. after_ask code x (sym asks j) (answer_from refused c source (sym asks j)))) i,
            (gives ∙ (λ j. left_of_source given (shared_ask (sym asks j)) source)) i,
          ))
          (subst (λ s. GoesAmong code numbers goes.0 (z, left) (set cells 0 s) y later) (too ∙ (λ i. cell_after refused c (sym asks i))) goes.1);
      rests = rests;
    }

-- among the objects the thread is after that too
pub among_after_turn : (code numbers : List ℕ) (refused : Bool) (x z : ThreadState) (source : Source) (cells : List Cell) (e : Cell) (q : Ask)
    → AreAmong code numbers x cells → 0 < length numbers → ask_of code x ≡ q → MayBegin refused (get_or numbers 0 0) (get_or cells 0 empty).fields q
    → z ≡ after_ask code x q (answer_from refused (get_or cells 0 empty) source q) → e ≡ cell_after refused (get_or cells 0 empty) q
    → AreAmong code numbers z (set cells 0 e)
among_after_turn code numbers refused x z source cells e q b some asks begins is too =
    let o = get_or numbers 0 0 in
    let c = get_or cells 0 empty in
    subst (λ s. AreAmong code numbers s (set cells 0 e)) (sym is)
    (subst (λ s. AreAmong code numbers (after_ask code x q (answer_from refused c source q)) (set cells 0 s)) (sym too)
    (are_among_after_ask code numbers refused x source cells 0 q b some asks (turn_ask_about_object o refused c.fields q begins)
    (λ f there. subst (λ r. MayStep f r q) (sym (turn_result_by_way o refused c.fields source q begins))
    (turn_ask_may_step f o refused q (subst (λ (s : Cell). MayBegin refused o s.fields q) (sym there) begins)))))

-- the form of the image stays
form_kept_by_run : (code numbers : List ℕ) (k : ℕ) (x y : ThreadState × Source) (cells later : List Cell) → GoesAmong code numbers k x cells y later
    → x.0.form ≡ y.0.form
form_kept_by_run code numbers zero x y cells later (same, too) = ap (λ (s : ThreadState × Source). s.0.form) same
form_kept_by_run code numbers (suc k) x y cells later (p, less, fair, about, suits, more) =
    let c = get_or cells p empty in
    (twin_after_ask code x.0 (ask_of code x.0) (answer_from false c x.1 (ask_of code x.0))).form
    ∙ form_kept_by_run code numbers k (lone_thread code false x c) y (set cells p (lone_cell code false x c)) later more

pub form_kept_by_turn : (code numbers : List ℕ) (refused : Bool) (x y : ThreadState × Source) (cells later : List Cell)
    → TakesTurn code numbers refused x cells y later → x.0.form ≡ y.0.form
form_kept_by_turn code numbers refused x y cells later turn =
    let c = get_or cells 0 empty in
    (twin_after_ask code x.0 (ask_of code x.0) (answer_from refused c x.1 (ask_of code x.0))).form
    ∙ form_kept_by_run code numbers turn.steps (lone_thread code refused x c) y (set cells 0 (lone_cell code refused x c)) later turn.goes

-- The first outcome that is outside, and its run.
use Rattle.std.proofs.Common.{◌≡◌, ◌<◌, ◌≤◌, ℕ, zero, suc, Bool, true, false, List, [], ◌∷◌, ◌++◌, Option, Some, None, length, map, refl, sym, ap, ◌∙◌, subst, arith, inl, inr}
use Rattle.std.specs.List.{AllByRecursion}
use Rattle.std.specs.Prelude.{Ok, Err, slice_get}
use Rattle.std.proofs.lemmas.Bool.{cases_lt}
use Rattle.std.proofs.lemmas.List.FromFn.{get_or-map-range_with_len}
use Rattle.ir_lemmas.proofs.CallerLemmas.{element_below_length, same_head, same_tail}
use Rattle.ir_explore.specs.Plan.{ExplorePlan, setup_of}
use Rattle.ir_explore.specs.Texts.{Known, AreKnown}
use Rattle.ir_explore.specs.Until.{recording}
use Rattle.ir_flat.proofs.CallerLemmas.{guest_start_is_idle}
use Rattle.ir_flat.specs.Flat.{start_flat, tables}
use Rattle.ir_graph.specs.Outcomes.{run_outcome}
use Rattle.ir_graph.specs.Setup.{first_source}
use Rattle.ir_image.specs.Guest.{Guest}
use Rattle.ir_order.proofs.CallerLemmas.{complete_have_steps, list_recordings_of_run, nonempty_list_spells}
use Rattle.ir_order.specs.Spelling.{IsListOf, SpellsTurns}
use Rattle.ir_outcomes.specs.Again.{TakesEach}
use Rattle.ir_outcomes.specs.Explored.{AreExplored, ShowsState}
use Rattle.ir_outcomes.specs.Shown.{IsShown}
use Rattle.ir_outcomes.specs.declared.shown.Shown.{Shown}
use Rattle.ir_record.specs.Recording.{turns_of_items}
use Rattle.ir_record.specs.Refusing.{Turn}
use Rattle.ir_record.specs.Worlds.{answers_in}
use Rattle.ir_record_command.specs.Recording.{IsRecordedOf}
use Rattle.ir_runs.proofs.CallerLemmas.{later_threads_stay_done}
use Rattle.ir_runs.specs.Bounds.{IsIdle}
use Rattle.ir_runs.specs.Machine.{Admits, Machine, Label, Quiet, Answer, EnteredAt, FailedTry, LeftAt, act_of, target}
use Rattle.ir_runs.specs.Run.{State, Step, IsRun, after, log}
use Rattle.ir_search.specs.declared.search.Ended.{Ended}
use Rattle.ir_search_laws.specs.Sources.{Gives}
use Rattle.ir_state_store.specs.Nodes.{SourcedFlat}
use Rattle.ir_state_store.specs.Table.{no_source}
use Rattle.ir_thread.specs.State.{most_budget, thread_machine}
use Rattle.ir_trace.specs.Recorded.{Recorded}
use Rattle.ir_world.specs.Sources.{Source, Gave, given, seed_of, source}
use Rattle.ir_within.specs.Aspects.{Aspects}
use Rattle.ir_within.specs.Faults.{Comparison, IsAnswerFor}
use Rattle.ir_within.specs.Laws.{RecordedIsOutside}
use Rattle.ir_within.specs.Outside.{IsFirstMarked, IsListOfFirst, IsListedAnswer, IsListedFor, IsOutsideAnswer, IsOutsideFor, IsOutsideRecorded, LeadsToOutcome}
use Rattle.ir_within.specs.Within.{IsCompared, IsWithinAnswer, ending, marked_count, verdict_of, verdict_status}
use Rattle.ir_within.specs.declared.verdict.Verdict.{Verdict}
use Rattle.ir_within.specs.declared.verdict.Verdict.TheVariants.{Outside, Unknown}
use Rattle.ir_within.proofs.Meaning.{among_if_like, outside_mark, some_are_outside}

-- ---- marks

count_if_marked : (marks : List Bool) (place : ℕ) → slice_get marks place ≡ Some true → (n : ℕ) × (marked_count marks ≡ suc n)
count_if_marked [] place at = absurd (cc at)
count_if_marked (true ∷ marks) place at = (marked_count marks, refl)
count_if_marked (false ∷ marks) zero at = absurd (cc at)
count_if_marked (false ∷ marks) (suc place) at = count_if_marked marks place at

outside_if_marked : (ended : Ended) (marks : List Bool) (place : ℕ) → slice_get marks place ≡ Some true
    → (many : ℕ) × (verdict_of ended (marked_count marks) ≡ Outside many)
outside_if_marked ended marks place at = let n = count_if_marked marks place at in (suc n.0, ap (verdict_of ended) n.1)

-- ---- the run

-- the thread of each turn that takes a step is one of the first n, where no other has one
turns_of_steps_below : {T : Type 0} (m : Machine T) (n : ℕ) (s : State T) (turns : List Turn) (steps : List Step) → IsIdle m s n → IsRun m s steps
    → TakesEach turns steps → AllByRecursion (λ t. t.0 < n) turns
turns_of_steps_below m n s [] steps rest ok taken = tt
turns_of_steps_below m n s (t ∷ turns) [] rest ok taken = absurd (cc taken)
turns_of_steps_below m n s (t ∷ turns) (e ∷ steps) rest ok taken =
    let own : e.0 ≡ t.0 = same_head e.0 t.0 (map (λ (e : Step). e.0) steps) (map (λ (t : Turn). t.0) turns) taken in
    let less : e.0 < n = elim (cases_lt e.0 n) [
      | inl l ↦ l
      | inr g ↦ absurd (subst (λ q. Admits m (act_of q e.1) (s.objects (target (act_of q e.1)))) (rest e.0 g) ok.0)
    ] in (
      subst (λ z. z < n) own less,
      turns_of_steps_below m n (after m s e) turns steps (later_threads_stay_done m s n rest e ok.0) ok.1
          (same_tail e.0 t.0 (map (λ (e : Step). e.0) steps) (map (λ (t : Turn). t.0) turns) taken),
    )

-- what a source has left after the calls of a log
abbrev left_by : Source → List Label → Source
left_by s [] = s
left_by s (Quiet ∷ log) = left_by s log
left_by s (Answer kind value ∷ log) = left_by (given kind s).1 log
left_by s (EnteredAt o a v l ∷ log) = left_by s log
left_by s (FailedTry o ∷ log) = left_by s log
left_by s (LeftAt o a v ∷ log) = left_by s log

-- a source that gives the answers of a log gave them
gave_until_left : (s : Source) (log : List Label) → Gives given s log → Gave s (answers_in log) (left_by s log)
gave_until_left s [] all = refl
gave_until_left s (Quiet ∷ log) all = gave_until_left s log all
gave_until_left s (Answer kind value ∷ log) all = (all.0, gave_until_left (given kind s).1 log all.1)
gave_until_left s (EnteredAt o a v l ∷ log) all = gave_until_left s log all
gave_until_left s (FailedTry o ∷ log) all = gave_until_left s log all
gave_until_left s (LeftAt o a v ∷ log) all = gave_until_left s log all

-- a list of the turns of an outcome leads there
leads_if_shown : (guest : Guest) (plan : ExplorePlan) (flats : List SourcedFlat) (outcomes : List Shown) (levels place : ℕ) (x : Shown) (s : SourcedFlat)
    (list : List ℕ) → 1 ≤ length guest.entries → AreExplored (setup_of guest plan) flats levels outcomes → ShowsState flats outcomes place x s
    → IsListOf list (turns_of_items x.turns.items) → LeadsToOutcome guest plan (run_outcome (tables s.flat)) x.level list
leads_if_shown guest plan flats outcomes levels place x s list some e at listed =
    let setup = setup_of guest plan in
    let turns = turns_of_items x.turns.items in
    let shown : IsShown setup s x.level turns = e.shown place x s at in
    let first = tables (start_flat guest most_budget plan.profile) in
    let least = e.fewest place x s at most_budget shown.steps shown.counted shown.same in
    let few = shown.few in
    let spells : SpellsTurns list turns = nonempty_list_spells list turns listed (λ none.
    complete_have_steps guest most_budget plan.profile shown.steps some shown.counted.complete.1
    (shown.taken ∙ ap (λ o. map (λ (t : Turn). t.0) o) none)) in record {
      turns = turns;
      spelled = spells (length guest.entries)
          (turns_of_steps_below (thread_machine guest.code) (length guest.entries) first turns shown.steps
          (guest_start_is_idle guest most_budget plan.profile) shown.counted.complete.0 shown.taken);
      run = shown.steps;
      counted = shown.counted;
      planned = record {
        by_turns = shown.by_turns;
        answered = λ t less.
            let own = source (seed_of plan.random t) plan.input in
            let events = log (thread_machine guest.code) first shown.steps t in
            let is : first_source setup t ≡ own =
            get_or-map-range_with_len (λ u. source (seed_of plan.random u) plan.input) 0 (length guest.entries) t t no_source less (omega arith) in
            (left_by own events, gave_until_left own events (subst (λ z. Gives given z events) is (shown.counted.answered t)));
      };
      same = shown.same;
      switched = omega (arith, least, few);
      fewest = e.fewest place x s at;
    }

first_if_listed : (guest : Guest) (plan : ExplorePlan) (k : Known) (marks : List Bool) (list : List ℕ) → 1 ≤ length guest.entries → AreKnown guest plan k
    → IsListOfFirst k marks (Some list) → IsFirstMarked guest plan k marks list
first_if_listed guest plan k marks list some are is =
    let place = is.0 in
    let x = is.1 in
    let state = element_below_length k.flats x.node (are.explored.nodes place x is.2) in record {
      place = place;
      shown = x;
      state = state.0;
      at = (is.2, state.1);
      first = is.3;
      listed = is.4;
      leads = leads_if_shown guest plan k.flats k.outcomes k.levels place x state.0 list some are.explored (is.2, state.1) is.4;
    }

-- ---- answers

-- outcomes that are compared, and the list of the first that is outside
pub listed_if_compared : (a : Aspects) (guest other : Guest) (plan : ExplorePlan) (list : Option (List ℕ)) (verdict : Verdict) (text : List ℕ)
    → 1 ≤ length guest.entries → (c : IsCompared a guest other plan verdict text) → IsListOfFirst c.known c.outside list
    → IsListedAnswer a guest other plan list verdict text
listed_if_compared a guest other plan None verdict text some c is = (
  inr (inr c),
  λ many e.
      let marked = outside_mark c.outside (some_are_outside c.known.ended (marked_count c.outside) many (sym e ∙ c.found)) in is marked.0 marked.1,
)
listed_if_compared a guest other plan (Some list) verdict text some c is =
    let out = outside_if_marked c.known.ended c.outside is.0 is.3.0 in
    let e : verdict ≡ Outside out.0 = c.found ∙ out.1 in (
      out.0,
      e,
      record {
        compared = record {
          known = c.known;
          are = c.are;
          other_known = c.other_known;
          other_are = c.other_are;
          finished = c.finished;
          outside = c.outside;
          judged = c.judged;
          lines = c.lines;
          texts = c.texts;
          found = sym out.1;
          whole = c.whole ∙ ap (λ v. c.lines ++ ending (Ok c.known) (Ok c.other_known) v) e;
        };
        first = first_if_listed guest plan c.known c.outside list some c.are is;
      },
    )

-- what isn't known has no list
pub unlisted_if_unknown : (a : Aspects) (guest other : Guest) (plan : ExplorePlan) (list : Option (List ℕ)) (verdict : Verdict) (text : List ℕ)
    → list ≡ None → verdict ≡ Unknown → IsWithinAnswer a guest other plan verdict text → IsListedAnswer a guest other plan list verdict text
unlisted_if_unknown a guest other plan list verdict text none unknown is =
    subst (λ z. IsListedAnswer a guest other plan z verdict text) (sym none) (is, λ many e. absurd (cc (sym unknown ∙ e)))

-- an answer with a list is one
pub answer_if_listed : (a : Aspects) (guest other : Guest) (plan : ExplorePlan) (list : Option (List ℕ)) (verdict : Verdict) (text : List ℕ)
    → IsListedAnswer a guest other plan list verdict text → IsWithinAnswer a guest other plan verdict text
answer_if_listed a guest other plan None verdict text is = is.0
answer_if_listed a guest other plan (Some list) verdict text is =
    subst (λ v. IsWithinAnswer a guest other plan v text) (sym is.1) (inr (inr is.2.compared))

-- the same of images
pub answer_for_listed : (c : Comparison) (list : Option (List ℕ)) (verdict : Verdict) (text : List ℕ) → IsListedFor c list verdict text
    → IsAnswerFor c verdict text
answer_for_listed c list verdict text is = record {
  guest = is.guest;
  other = is.other;
  is = is.is;
  other_is = is.other_is;
  answer = answer_if_listed c.aspects is.guest is.other c.plan list verdict text is.answer;
}

-- what is written, with the list or the exit status
pub outside_if_listed : (c : Comparison) (list : List ℕ) (verdict : Verdict) (text : List ℕ) → IsListedFor c (Some list) verdict text → IsOutsideFor c list text
outside_if_listed c list verdict text is = record {
  guest = is.guest;
  other = is.other;
  is = is.is;
  other_is = is.other_is;
  many = is.answer.0;
  told = is.answer.2;
}

pub none_if_unlisted : (c : Comparison) (verdict : Verdict) (text : List ℕ) → IsListedFor c None verdict text
    → IsOutsideAnswer c (Err (verdict_status verdict)) text
none_if_unlisted c verdict text is = (verdict, answer_for_listed c None verdict text is, refl, is.answer.1)

-- ---- the recording

-- a recording by the list is of the run that leads to the outcome
pub recorded_if_by_list : (c : Comparison) (list text : List ℕ) (trace : Recorded) (outputs : List (List ℕ)) → IsOutsideFor c list text
    → IsRecordedOf c.image (recording c.plan (Some list)) trace outputs → IsOutsideRecorded c list text trace outputs
recorded_if_by_list c list text trace outputs found r = let leads = found.told.first.leads in record {
  found = found;
  recorded = list_recordings_of_run c.image found.guest (recording c.plan (Some list)) list leads.turns leads.run trace outputs found.is.0 refl leads.spelled
      leads.planned r;
}

-- no outcome of the other guest is the same
pub recorded_is_outside : RecordedIsOutside
recorded_is_outside c list text trace outputs r =
    let found = r.found in
    let told = found.told in
    let first = told.first in
    let x = run_outcome (tables first.state.flat) in (
      x,
      (first.leads.run, r.recorded, first.leads.same),
      (most_budget, first.leads.run, first.leads.counted, first.leads.same),
      λ like. told.compared.judged.none first.place first.shown first.state first.at first.first.0
          (among_if_like c.aspects found.guest found.other c.plan told.compared.other_known x (told.compared.other_are.all told.compared.finished) like),
    )

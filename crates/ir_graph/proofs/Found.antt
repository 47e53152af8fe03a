-- Nodes that are found.
use Rattle.std.proofs.Common.{◌≡◌, ℕ, ◌<◌, Bool, true, Some, None, List, [], ◌∷◌, ◌++◌, inl, inr, length, sym, ◌∙◌, subst, arith}
use Rattle.std.specs.Prelude.{slice_get}
use Rattle.std.proofs.lemmas.Bool.{cases_eq}
use Rattle.std.proofs.lemmas.Option.{same_Some}
use Rattle.ir_search.proofs.CallerLemmas.{slice_get-push_cases, slice_get_some_below}
use Rattle.ir_runs.specs.Run.{Step, Can}
use Rattle.ir_search_laws.specs.Nodes.{LeadsToNode}
use Rattle.ir_thread.specs.State.{ask_of}
use Rattle.ir_flat.specs.Flat.{tables, machine, thread_of}
use Rattle.ir_state_store.specs.Nodes.{SourcedFlat}
use Rattle.ir_state_store.specs.Others.{HasOthersOf}
use Rattle.ir_state_store.specs.Table.{HaveNoTicks}
use Rattle.ir_graph.specs.Nodes.{Alike, seen_by, answered_by, seen_of, LookAlike, AllRest, AreNodes, NodesStay, LeadsFrom, IsStepBy, HasStepBy}
use Rattle.ir_graph.specs.Plain.{GoesPlain, LooksAlike, MayGo, OthersStay, Rests, result_by}
use Rattle.ir_graph.specs.Times.{AlikeTickless, LeadsTickless}
use Rattle.ir_graph.proofs.Alike.{look_alike_symmetric}
use Rattle.ir_graph.proofs.Leads.{look_alike_reflexive, no_seen_step_if_no_step, no_seen_refusal, way_leads_to_alike_node, way_leads_to_tickless}
use Rattle.ir_graph.proofs.Plain.{TakesStep, like_reflexive, like_transitive, like_symmetric, plain_flat_is_like, step_flat_is_like, others_stay_after_step, others_stay_transitive}

pub nodes_push : (states : List SourcedFlat) (new : SourcedFlat) → AreNodes states → length new.sources ≡ length new.flat.threads
    → ((v : ℕ) (s : SourcedFlat) → slice_get states v ≡ Some s → LooksAlike new.flat s.flat) → AllRest new.flat
    → ((v : ℕ) (s : SourcedFlat) → slice_get states v ≡ Some s → LookAlike new s → ⊥) → AreNodes (states ++ new ∷ [])
nodes_push states new nodes each like rest unlike = record {
  each = λ v s is. elim (slice_get-push_cases states new v s is) [
    | inl old ↦ nodes.each v s old
    | inr p ↦ subst (λ (z : SourcedFlat). length z.sources ≡ length z.flat.threads) p.1 each
  ];
  rest = λ v s is. elim (slice_get-push_cases states new v s is) [
    | inl old ↦ nodes.rest v s old
    | inr p ↦ subst (λ (z : SourcedFlat). AllRest z.flat) p.1 rest
  ];
  like = λ v w s u a b. elim (slice_get-push_cases states new v s a) [
    | inl old ↦ elim (slice_get-push_cases states new w u b) [
      | inl too ↦ nodes.like v w s u old too
      | inr p ↦ subst (λ (z : SourcedFlat). LooksAlike s.flat z.flat) p.1 (like_symmetric new.flat s.flat (like v s old))
    ]
    | inr q ↦ elim (slice_get-push_cases states new w u b) [
      | inl too ↦ subst (λ (z : SourcedFlat). LooksAlike z.flat u.flat) q.1 (like w u too)
      | inr p ↦ subst (λ (z : SourcedFlat). LooksAlike z.flat u.flat) q.1
          (subst (λ (z : SourcedFlat). LooksAlike new.flat z.flat) p.1 (like_reflexive new.flat))
    ]
  ];
  apart = λ v w s u a b same. elim (slice_get-push_cases states new v s a) [
    | inl old ↦ elim (slice_get-push_cases states new w u b) [
      | inl too ↦ nodes.apart v w s u old too same
      | inr p ↦ absurd (unlike v s old (look_alike_symmetric s new (like v s old).code (subst (LookAlike s) (sym p.1) same)))
    ]
    | inr q ↦ elim (slice_get-push_cases states new w u b) [
      | inl too ↦ absurd (unlike w u too (subst (λ (z : SourcedFlat). LookAlike z u) (sym q.1) same))
      | inr p ↦ q.0 ∙ sym p.0
    ]
  ];
}

pub pushed_node_looks_alike : (states : List SourcedFlat) (new s : SourcedFlat) (w : ℕ) → w ≡ length states → slice_get (states ++ new ∷ []) w ≡ Some s
    → LookAlike new s
pushed_node_looks_alike states new s w here is = elim (slice_get-push_cases states new w s is) [
  | inl old ↦ absurd (let l = slice_get_some_below states w s old in omega (arith, l, here))
  | inr p ↦ subst (LookAlike new) p.1 (look_alike_reflexive new)
]

pub no_step_leads_nowhere : (states : List SourcedFlat) (s : SourcedFlat) (t : ℕ) (refused : Bool) (v : ℕ) → AreNodes states
    → slice_get states v ≡ Some s → t < length s.flat.threads → (Can (machine s.flat) (tables s.flat) (t, result_by refused) → ⊥)
    → LeadsFrom states t refused v None
no_step_leads_nowhere states s t refused v nodes at less never u is e same =
    subst (λ z. IsStepBy z refused e → Can (seen_by z.flat.code) (seen_of z) e → ⊥) (same_Some s u (sym at ∙ is))
    (no_seen_step_if_no_step s t refused (nodes.rest v s at t less) never e same)

-- only a thread that tries is refused
pub refused_no_try_nowhere : (states : List SourcedFlat) (t v : ℕ) → AreNodes states
    → ((s : SourcedFlat) → slice_get states v ≡ Some s
    → Rests (ask_of s.flat.code (thread_of s.flat t)) × (MayGo true (ask_of s.flat.code (thread_of s.flat t)) → ⊥))
    → LeadsFrom states t true v None
refused_no_try_nowhere states t v nodes none s is e same by can =
    let here = none s is in no_seen_refusal s t here.0 here.1 e same by

-- where all threads rest, they do again once one of them had its turn
pub all_rest_after_turn : (s u w : SourcedFlat) (t r : ℕ) → AllRest s.flat → TakesStep s u t r → GoesPlain u w → OthersStay u w t
    → Rests (ask_of w.flat.code (thread_of w.flat t)) → AllRest w.flat
all_rest_after_turn s u w t r rest step goes others rests p few = elim (cases_eq p t) [
  | inl same ↦ subst (λ z. Rests (ask_of w.flat.code (thread_of w.flat z))) (sym same) rests
  | inr other ↦
      let stays : thread_of w.flat p ≡ thread_of s.flat p =
      others.threads p other ∙ (others_stay_after_step s u t r step.is).threads p other in
      let size = goes.threads in
      let threads = step.threads in
      subst (λ z. Rests (ask_of z (thread_of w.flat p))) (sym (goes.code ∙ step.code))
      (subst (λ z. Rests (ask_of s.flat.code z)) (sym stays) (rest p (omega (arith, few, size, threads))))
]

-- s at a node, u after the step of thread t, w where it comes to rest
module _ (states : List SourcedFlat) (s u w : SourcedFlat) (t r v : ℕ) (nodes : AreNodes states) (at : slice_get states v ≡ Some s)
    (less : t < length s.flat.threads) (step : TakesStep s u t r) (goes : GoesPlain u w) where
  pub reached_like : (p : ℕ) (k : SourcedFlat) → slice_get states p ≡ Some k → LooksAlike w.flat k.flat
  reached_like p k there =
      like_transitive w.flat s.flat k.flat
      (like_symmetric s.flat w.flat (like_transitive s.flat u.flat w.flat (step_flat_is_like s u t r step) (plain_flat_is_like u w goes)))
      (nodes.like v p s k at there)

  pub reached_each : length w.sources ≡ length w.flat.threads
  reached_each = goes.sources ∙ step.sources ∙ nodes.each v s at ∙ sym step.threads ∙ sym goes.threads

  pub reached_thread : t < length w.flat.threads
  reached_thread = subst (λ k. t < k) (sym (goes.threads ∙ step.threads)) less

  pub reached_others : OthersStay u w t → HasOthersOf s w t
  reached_others others =
      let stay = others_stay_transitive s u w t (others_stay_after_step s u t r step.is) others in record {
        each = goes.threads ∙ step.threads;
        others = λ p ne i. (stay.threads p ne i, stay.sources p ne i);
      }

  pub reached_rests : OthersStay u w t → Rests (ask_of w.flat.code (thread_of w.flat t)) → AllRest w.flat
  reached_rests = all_rest_after_turn s u w t r (nodes.rest v s at) step goes

pub leads_tickless : (states : List SourcedFlat) (s u w : SourcedFlat) (t : ℕ) (refused : Bool) (v : ℕ) → AreNodes states
    → slice_get states v ≡ Some s → t < length s.flat.threads → MayGo refused (ask_of s.flat.code (thread_of s.flat t)) → TakesStep s u t (result_by refused)
    → GoesPlain u w → (new : List SourcedFlat) (p : ℕ) → NodesStay states new → ((k : SourcedFlat) → slice_get new p ≡ Some k → LookAlike w k)
    → HaveNoTicks w.sources → LeadsTickless new t refused v p
leads_tickless states s u w t refused v nodes at less may step goes new p stay alike none s' k here there =
    subst (λ z. (e : Step) → e.0 ≡ t → IsStepBy z refused e → Can (seen_by z.flat.code) (seen_of z) e
    → LeadsToNode (seen_by z.flat.code) (answered_by z.flat.code) (AlikeTickless z.flat.code) (seen_of z) e (seen_of k))
    (same_Some s s' (sym (stay v s at) ∙ here))
    (way_leads_to_tickless s u w k t refused (nodes.rest v s at t less) may step goes (alike k there) none)

pub leads_to_alike_node : (states : List SourcedFlat) (s u w : SourcedFlat) (t : ℕ) (refused : Bool) (v : ℕ) → AreNodes states → slice_get states v ≡ Some s
    → t < length s.flat.threads → MayGo refused (ask_of s.flat.code (thread_of s.flat t)) → TakesStep s u t (result_by refused) → GoesPlain u w
    → (new : List SourcedFlat) (p : ℕ) → NodesStay states new → ((k : SourcedFlat) → slice_get new p ≡ Some k → LookAlike w k)
    → LeadsFrom new t refused v (Some p)
leads_to_alike_node states s u w t refused v nodes at less may step goes new p stay alike s' k here there =
    subst (λ z. HasStepBy z t refused
    × ((e : Step) → e.0 ≡ t → IsStepBy z refused e → Can (seen_by z.flat.code) (seen_of z) e
    → LeadsToNode (seen_by z.flat.code) (answered_by z.flat.code) (Alike z.flat.code) (seen_of z) e (seen_of k)))
    (same_Some s s' (sym (stay v s at) ∙ here))
    (way_leads_to_alike_node s u w k t refused (nodes.rest v s at t less) may step goes (alike k there))

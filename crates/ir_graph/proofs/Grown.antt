-- The graph, once it has grown.
use Rattle.std.proofs.Common.{◌≡◌, ℕ, zero, suc, ◌<◌, ◌≤◌, Bool, true, false, Option, Some, None, List, [], ◌∷◌, ◌⊎◌, inl, inr, length, refl, sym, ap, ◌∙◌, subst, arith}
use Rattle.std.specs.Prelude.{slice_get}
use Rattle.std.specs.List.{slice_index_or}
use Rattle.std.specs.Global.{Vec}
use Rattle.std.proofs.lemmas.Bool.{cases_lt}
use Rattle.std.proofs.lemmas.Option.{same_Some}
use Rattle.ir_lemmas.proofs.CallerLemmas.{element_below_length}
use Rattle.ir_image.specs.Guest.{Guest}
use Rattle.ir_search.specs.Following.{BothWays}
use Rattle.ir_search_laws.specs.Outcomes.{Begins}
use Rattle.ir_search_laws.specs.Views.{beside}
use Rattle.ir_thread.specs.Permitted.{Permits}
use Rattle.ir_thread.specs.State.{ask_of, most_budget}
use Rattle.ir_thread.specs.declared.ask.Ask.{Ask}
use Rattle.ir_thread.specs.declared.ask.Ask.TheVariants as ask
use Rattle.ir_thread.specs.declared.profile.Profile.{Profile}
use Rattle.ir_thread.specs.declared.profile.Profile.TheVariants.{One, Two}
use Rattle.ir_thread.proofs.CallerLemmas.{ask_of_permitted}
use Rattle.ir_likeness.specs.Seen.{seen_start}
use Rattle.ir_likeness.proofs.CallerLemmas.{start_view_any_budget}
use Rattle.ir_flat.specs.Flat.{idle, start_threads, thread_of}
use Rattle.ir_state_store.specs.Nodes.{SourcedFlat}
use Rattle.ir_graph.specs.Setup.{Setup, setup_start, first_source}
use Rattle.ir_graph.specs.Graph.{IsGraph}
use Rattle.ir_graph.specs.Nodes.{seen_by, answered_by, Alike, seen_of, AllRest, AreNodes, NodesStay, LeadsFrom}
use Rattle.ir_graph.specs.Notes.{noted_by, noted_in}
use Rattle.ir_graph.specs.Reached.{IsReached, AllReached}
use Rattle.ir_graph.specs.Plain.{GoesPlain, LooksAlike, MayGo}
use Rattle.ir_graph.proofs.Found.{refused_no_try_nowhere}
use Rattle.ir_graph.proofs.Leads.{begins_by_plain_steps, every_number_rests}
use Rattle.ir_graph.proofs.Plain.{like_reflexive}
use Rattle.ir_graph.proofs.Reached.{plain_start_is_reached}

-- a node that was there before is what it was
pub old_node_is_unchanged : (flats new : List SourcedFlat) (v : ℕ) (f : SourcedFlat) → NodesStay flats new → v < length flats → slice_get new v ≡ Some f → slice_get flats v ≡ Some f
old_node_is_unchanged flats new v f stay l is =
    let old = element_below_length flats v l in
    subst (λ z. slice_get flats v ≡ Some z) (same_Some old.0 f (sym (stay v old.0 old.1) ∙ is)) old.1

leads_after_nodes : (flats new : List SourcedFlat) (t : ℕ) (refused : Bool) (v : ℕ) (next : Option ℕ) → NodesStay flats new → v < length flats
    → ((w : ℕ) → next ≡ Some w → w < length flats) → LeadsFrom flats t refused v next → LeadsFrom new t refused v next
leads_after_nodes flats new t refused v None stay l within h = λ f is. h f (old_node_is_unchanged flats new v f stay l is)
leads_after_nodes flats new t refused v (Some w) stay l within h = λ f g is there.
    h f g (old_node_is_unchanged flats new v f stay l is) (old_node_is_unchanged flats new w g stay (within w refl) there)

-- the threads of a start have its profile
start_in_first_profile : (guest : Guest) (from n t : ℕ) → (slice_index_or (start_threads guest most_budget One from n) t idle).profile ≡ One
start_in_first_profile guest from zero t = refl
start_in_first_profile guest from (suc n) zero = refl
start_in_first_profile guest from (suc n) (suc t) = start_in_first_profile guest (suc from) n t

-- a thread of the first profile doesn't try
no_try_in_first_profile : (x : Setup) (s : SourcedFlat) (t : ℕ) → x.profile ≡ One → IsReached x s
    → MayGo true (ask_of s.flat.code (thread_of s.flat t)) → ⊥
no_try_in_first_profile x s t one reached = by (ask_of s.flat.code (thread_of s.flat t)) (ask_of_permitted s.flat.code (thread_of s.flat t))
  where
    first : (thread_of s.flat t).profile ≡ One
    first = sym (reached.like.twins t).profile
        ∙ ap (λ z. (slice_index_or (start_threads x.guest most_budget z 0 (length x.guest.entries)) t idle).profile) one
        ∙ start_in_first_profile x.guest 0 (length x.guest.entries) t

    by : (q : Ask) → Permits (thread_of s.flat t) q → MayGo true q → ⊥
    by ask.Private p may = may
    by (ask.Env k) p may = may
    by (ask.Enter o a) p may = may
    by (ask.Try o) p may = absurd (cc (sym first ∙ p.4))
    by (ask.Leave o a) p may = may
    by (ask.Get o i) p may = may
    by (ask.Put o i v) p may = may
    by ask.Print p may = may
    by (ask.End e) p may = may
    by ask.Done p may = may

-- so none is refused there
first_profile_no_refusal : (x : Setup) (flats : List SourcedFlat) (t v : ℕ) → x.profile ≡ One → AreNodes flats
    → AllReached x flats → LeadsFrom flats t true v None
first_profile_no_refusal x flats t v one nodes reached = refused_no_try_nowhere flats t v nodes (λ f is. (
  every_number_rests f.flat (nodes.rest v f is) t,
  no_try_in_first_profile x f t one (reached v f is),
))

-- nodes were added
pub graph_after_nodes : (x : Setup) (flats new : List SourcedFlat) (noted : ℕ → BothWays) (threads : ℕ)
    → IsGraph x flats noted threads → NodesStay flats new → AreNodes new → AllReached x new → length flats ≤ length new
    → IsGraph x new noted threads
graph_after_nodes x flats new noted threads g stay nodes reached more = record {
  nodes = nodes;
  some = let a = g.some in omega (arith, a, more);
  number = g.number;
  code = λ f is. g.code f (old_node_is_unchanged flats new 0 f stay g.some is);
  many = λ f is. g.many f (old_node_is_unchanged flats new 0 f stay g.some is);
  begins = λ f is. g.begins f (old_node_is_unchanged flats new 0 f stay g.some is);
  past = g.past;
  untried = g.untried;
  asked = λ t refused v next few is. elim (g.asked t refused v next few is) [
    | inl a ↦ inl (omega (arith, a, more))
    | inr first ↦ inr first
  ];
  within = λ t refused v w few is. let a = g.within t refused v w few is in omega (arith, a, more);
  reached = reached;
  leads = λ t refused v next few is. elim (g.asked t refused v next few is) [
    | inl l ↦
        leads_after_nodes flats new t refused v next stay l (λ w e. g.within t refused v w few (is ∙ ap Some e))
        (g.leads t refused v next few is)
    | inr first ↦
        let none : None ≡ next =
        same_Some None next (sym (g.untried first.0 t v) ∙ subst (λ z. noted t z v ≡ Some next) first.1 is) in
        subst (LeadsFrom new t refused v) none
        (subst (λ z. LeadsFrom new t z v None) (sym first.1) (first_profile_no_refusal x new t v first.0 nodes reached))
  ];
}

-- one more was noted, at most
pub graph_after_note : (x : Setup) (flats : List SourcedFlat) (old new : ℕ → BothWays) (threads thread : ℕ) (way : Bool)
    (node : ℕ) (to : Option ℕ) → IsGraph x flats old threads
    → ((t : ℕ) (refused : Bool) (v : ℕ) → (new t refused v ≡ old t refused v)
    ⊎ ((t ≡ thread) × (refused ≡ way) × (v ≡ node) × (new t refused v ≡ Some to)))
    → old thread way node ≡ None → node < length flats → ((w : ℕ) → to ≡ Some w → w < length flats) → LeadsFrom flats thread way node to
    → IsGraph x flats new threads
graph_after_note x flats old new threads thread way node to g only fresh inside within leads = record {
  nodes = g.nodes;
  some = g.some;
  number = g.number;
  code = g.code;
  many = g.many;
  begins = g.begins;
  past = λ t refused v l. elim (only t refused v) [
    | inl same ↦ same ∙ g.past t refused v l
    | inr p ↦ absurd (cc (sym (was t refused v p.0 p.1 p.2) ∙ g.past t refused v l))
  ];
  untried = λ one t v. elim (only t true v) [
    | inl same ↦ same ∙ g.untried one t v
    | inr p ↦ absurd (cc (sym (was t true v p.0 p.1 p.2) ∙ g.untried one t v))
  ];
  asked = λ t refused v next few is. elim (only t refused v) [
    | inl same ↦ g.asked t refused v next few (sym same ∙ is)
    | inr p ↦ inl (subst (λ z. z < length flats) (sym p.2) inside)
  ];
  within = λ t refused v w few is. elim (only t refused v) [
    | inl same ↦ g.within t refused v w few (sym same ∙ is)
    | inr p ↦ within w (same_Some to (Some w) (sym p.3 ∙ is))
  ];
  reached = g.reached;
  leads = λ t refused v next few is. elim (only t refused v) [
    | inl same ↦ g.leads t refused v next few (sym same ∙ is)
    | inr p ↦
        subst (LeadsFrom flats t refused v) (same_Some to next (sym p.3 ∙ is))
        (subst (λ z. LeadsFrom flats t refused z to) (sym p.2)
        (subst (λ z. LeadsFrom flats t z node to) (sym p.1) (subst (λ z. LeadsFrom flats z way node to) (sym p.0) leads)))
  ];
}
  where
    was : (t : ℕ) (refused : Bool) (v : ℕ) → t ≡ thread → refused ≡ way → v ≡ node → old t refused v ≡ None
    was t refused v a b c = (λ i. old (a i) (b i) (c i)) ∙ fresh

-- so is a graph that has grown, once more is noted of the rows of its ways
pub graph_after_both : (x : Setup) (old flats : List SourcedFlat) (rows refused_rows new tries : List (Vec (Option (Option ℕ))))
    (thread : ℕ) (way : Bool) (node : ℕ) (to : Option ℕ) → IsGraph x old (noted_by rows refused_rows) (length rows) → NodesStay old flats
    → AreNodes flats → AllReached x flats → length old ≤ length flats
    → ((t : ℕ) (refused : Bool) (v : ℕ) → (noted_by new tries t refused v ≡ noted_by rows refused_rows t refused v)
    ⊎ ((t ≡ thread) × (refused ≡ way) × (v ≡ node) × (noted_by new tries t refused v ≡ Some to)))
    → length new ≡ length rows → noted_by rows refused_rows thread way node ≡ None → node < length old → ((w : ℕ) → to ≡ Some w → w < length flats)
    → LeadsFrom flats thread way node to → IsGraph x flats (noted_by new tries) (length new)
graph_after_both x old flats rows refused_rows new tries thread way node to g stay nodes reached grown only same fresh inside within leads =
    subst (IsGraph x flats (noted_by new tries)) (sym same)
    (graph_after_note x flats (noted_by rows refused_rows) (noted_by new tries) (length rows) thread way node to
    (graph_after_nodes x old flats (noted_by rows refused_rows) (length rows) g stay nodes reached grown) only fresh
    (omega (arith, inside, grown)) within leads)

-- each node has all threads
pub node_thread_count : (x : Setup) (flats : List SourcedFlat) (noted : ℕ → BothWays) (threads v : ℕ) (f : SourcedFlat)
    → IsGraph x flats noted threads → slice_get flats v ≡ Some f → length f.flat.threads ≡ threads
node_thread_count x flats noted threads v f g is =
    let first = element_below_length flats 0 g.some in
    (g.nodes.like 0 v first.0 f first.1 is).threads ∙ g.many first.0 first.1

-- where nothing is noted of it, a number is a thread's
pub unnoted_thread_exists : (x : Setup) (flats : List SourcedFlat) (noted : ℕ → BothWays) (threads t : ℕ) (refused : Bool)
    (v w : ℕ) (f : SourcedFlat) → IsGraph x flats noted threads → noted t refused v ≡ None → slice_get flats w ≡ Some f → t < length f.flat.threads
unnoted_thread_exists x flats noted threads t refused v w f g free is = elim (cases_lt t threads) [
  | inl l ↦ subst (λ n. t < n) (sym (node_thread_count x flats noted threads w f g is)) l
  | inr l ↦ absurd (cc (sym free ∙ g.past t refused v l))
]

-- what is so of rows is so of equal ones
pub is_graph_of_equal_rows : (x : Setup) (flats : List SourcedFlat) (new tries : List (Vec (Option (Option ℕ))))
    {rows refused_rows : List (Vec (Option (Option ℕ)))} → rows ≡ new → refused_rows ≡ tries
    → IsGraph x flats (noted_by new tries) (length new) → IsGraph x flats (noted_by rows refused_rows) (length rows)
is_graph_of_equal_rows x flats new tries {rows} {refused_rows} same also g =
    subst (λ z. IsGraph x flats (noted_by z refused_rows) (length z)) (sym same)
    (subst (λ z. IsGraph x flats (noted_by new z) (length new)) (sym also) g)

-- each node has the guest's code
pub node_code_is_guest_code : (x : Setup) (flats : List SourcedFlat) (noted : ℕ → BothWays) (threads v : ℕ) (f : SourcedFlat)
    → IsGraph x flats noted threads → slice_get flats v ≡ Some f → f.flat.code ≡ x.guest.code
node_code_is_guest_code x flats noted threads v f g is =
    let first = element_below_length flats 0 g.some in
    (g.nodes.like 0 v first.0 f first.1 is).code ∙ g.code first.0 first.1

-- a number that is no thread's leads nowhere, as far as it is noted
pub past_threads_nowhere : (rows : List (Vec (Option (Option ℕ)))) (t v : ℕ) → length rows ≤ t → noted_in rows t v ≡ Some None
past_threads_nowhere [] t v l = refl
past_threads_nowhere (row ∷ rows) zero v l = absurd (omega (arith, l))
past_threads_nowhere (row ∷ rows) (suc t) v l = past_threads_nowhere rows t v (omega (arith, l))

-- so where nothing is noted it is a thread's
pub unnoted_row_exists : (rows : List (Vec (Option (Option ℕ)))) (t v : ℕ) → noted_in rows t v ≡ None → t < length rows
unnoted_row_exists rows t v free = elim (cases_lt t (length rows)) [
  | inl l ↦ l
  | inr l ↦ absurd (cc (sym free ∙ past_threads_nowhere rows t v l))
]

-- nothing is noted of the refused way: in the first profile that it leads nowhere, and in the second it is free
pub data FreeToTry (profile : Profile) (threads : ℕ) (noted : ℕ → BothWays) : Type 0 where
  Untried : profile ≡ One → ((t v : ℕ) → noted t true v ≡ Some None) → FreeToTry profile threads noted
  Tried : (profile ≡ One → ⊥) → ((t v : ℕ) → t < threads → noted t true v ≡ None) → FreeToTry profile threads noted

pub free_to_try_unnoted : (profile : Profile) (threads : ℕ) (rows refused_rows : List (Vec (Option (Option ℕ)))) → (profile ≡ One → refused_rows ≡ [])
    → (profile ≡ Two → (t v : ℕ) → t < threads → noted_in refused_rows t v ≡ None) → FreeToTry profile threads (noted_by rows refused_rows)
free_to_try_unnoted One threads rows refused_rows none free = Untried refl (λ t v. ap (λ z. noted_in z t v) (none refl))
free_to_try_unnoted Two threads rows refused_rows none free = Tried (λ e. absurd (cc e)) (free refl)

pub past_threads_no_lead : (rows refused_rows : List (Vec (Option (Option ℕ)))) → length refused_rows ≤ length rows → (t : ℕ) (refused : Bool) (v : ℕ)
    → length rows ≤ t → noted_by rows refused_rows t refused v ≡ Some None
past_threads_no_lead rows refused_rows less t true v l = past_threads_nowhere refused_rows t v (omega (arith, less, l))
past_threads_no_lead rows refused_rows less t false v l = past_threads_nowhere rows t v l

-- the graph at first
pub start_is_graph : (x : Setup) (h : SourcedFlat) (noted : ℕ → BothWays) (threads : ℕ)
    → GoesPlain (setup_start x) h → AllRest h.flat → length h.sources ≡ length h.flat.threads → length h.flat.threads ≡ threads
    → threads ≡ length x.guest.entries → ((t v : ℕ) → t < threads → noted t false v ≡ None) → FreeToTry x.profile threads noted
    → ((t : ℕ) (refused : Bool) (v : ℕ) → threads ≤ t → noted t refused v ≡ Some None) → IsGraph x (h ∷ []) noted threads
start_is_graph x h noted threads goes rest sourced many number free tries past =
    record {
      nodes = nodes;
      some = omega arith;
      number = number;
      code = λ s is. ap (λ (z : SourcedFlat). z.flat.code) (sym (only 0 s is)) ∙ goes.code;
      many = λ s is. ap (λ (z : SourcedFlat). length z.flat.threads) (sym (only 0 s is)) ∙ many;
      begins = λ s is.
          subst (λ z. Begins (seen_by x.guest.code) (answered_by x.guest.code) (Alike x.guest.code) (seen_start x.guest x.profile (first_source x)) (seen_of z))
          (only 0 s is)
          (subst (λ z. Begins (seen_by x.guest.code) (answered_by x.guest.code) (Alike x.guest.code) (beside z (first_source x)) (seen_of h))
          (start_view_any_budget x.guest most_budget 1 x.profile) (begins_by_plain_steps (setup_start x) h goes));
      past = past;
      untried = λ one t v. untried tries one t v;
      asked = λ t refused v next few is. inr (first tries t refused v next few is);
      within = λ t refused v w few is.
          let one = first tries t refused v (Some w) few is in
          absurd (cc (sym (untried tries one.0 t v) ∙ subst (λ z. noted t z v ≡ Some (Some w)) one.1 is));
      reached = each;
      leads = λ t refused v next few is.
          let one = first tries t refused v next few is in
          subst (LeadsFrom (h ∷ []) t refused v)
          (same_Some None next (sym (untried tries one.0 t v) ∙ subst (λ z. noted t z v ≡ Some next) one.1 is))
          (subst (λ z. LeadsFrom (h ∷ []) t z v None) (sym one.1) (first_profile_no_refusal x (h ∷ []) t v one.0 nodes each));
    }
  where
    only : (v : ℕ) (s : SourcedFlat) → slice_get (h ∷ []) v ≡ Some s → h ≡ s
    only zero s is = same_Some h s is
    only (suc v) s is = absurd (cc is)

    place : (v : ℕ) (s : SourcedFlat) → slice_get (h ∷ []) v ≡ Some s → v ≡ 0
    place zero s is = refl
    place (suc v) s is = absurd (cc is)

    nodes : AreNodes (h ∷ [])
    nodes = record {
      each = λ v s is. subst (λ (z : SourcedFlat). length z.sources ≡ length z.flat.threads) (only v s is) sourced;
      rest = λ v s is. subst (λ (z : SourcedFlat). AllRest z.flat) (only v s is) rest;
      like = λ v w s u a b. subst (λ (z : SourcedFlat). LooksAlike z.flat u.flat) (only v s a)
          (subst (λ (z : SourcedFlat). LooksAlike h.flat z.flat) (only w u b) (like_reflexive h.flat));
      apart = λ v w s u a b same. place v s a ∙ sym (place w u b);
    }

    each : AllReached x (h ∷ [])
    each v s is = subst (IsReached x) (only v s is) (plain_start_is_reached x h goes)

    untried : FreeToTry x.profile threads noted → x.profile ≡ One → (t v : ℕ) → noted t true v ≡ Some None
    untried (Untried is none) one = none
    untried (Tried never none) one = absurd (never one)

    first : FreeToTry x.profile threads noted → (t : ℕ) (refused : Bool) (v : ℕ) (next : Option ℕ) → t < threads → noted t refused v ≡ Some next
        → (x.profile ≡ One) × (refused ≡ true)
    first tries t false v next few is = absurd (cc (sym (free t v few) ∙ is))
    first (Untried one none) t true v next few is = (one, refl)
    first (Tried never none) t true v next few is = absurd (cc (sym (none t v few) ∙ is))

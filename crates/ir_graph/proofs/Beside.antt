-- A thread that runs on beside its source.
use Rattle.std.proofs.Common.{◌≡◌, ◌≢◌, ℕ, ◌+◌, ◌<◌, Bool, List, Some, length, refl, sym, ap, ◌∙◌, subst, set}
use Rattle.std.specs.Prelude.{slice_get}
use Rattle.std.proofs.lemmas.List.{get_or-set_same, get_or-set_other, set-get_or, set-set}
use Rattle.std.proofs.lemmas.Option.{get_or_from_slice_get, slice_get_within, slice_get-get_or}
use Rattle.std.proofs.Common.{length-set}
use Rattle.ir_runs.specs.Run.{Can, after}
use Rattle.ir_runs.proofs.CallerLemmas.{thread_after_other}
use Rattle.ir_search_laws.specs.Sources.{answer_of, left_of_source}
use Rattle.ir_thread.specs.State.{ask_of, shared_ask}
use Rattle.ir_world.specs.Sources.{Source, given}
use Rattle.ir_flat.specs.Alone.{WentAlone}
use Rattle.ir_flat.specs.Flat.{Flat, tables, machine, thread_of}
use Rattle.ir_state_store.specs.Nodes.{source_of}
use Rattle.ir_state_store.specs.Table.{no_source}
use Rattle.ir_graph.specs.Plain.{sourced_flat, IsFair, GoesPlain, OthersStay}
use Rattle.ir_graph.specs.Turn.{GoesAlone}
use Rattle.ir_graph.specs.Stops.{IsNotFollowed, IsSpent, StopsFollowing}
use Rattle.ir_graph.proofs.Stops.{stops_at_refused_ask}
use Rattle.ir_search.specs.declared.stop.Stop.{Stop}
use Rattle.ir_search.specs.declared.stop.Stop.TheVariants.{Log}
use Rattle.ir_thread.specs.declared.ask.Ask.{Ask}
use Rattle.ir_graph.proofs.Plain.{TakesStep, ask_answered_by_source, takes_step_beside, goes_plain_reflexive, goes_plain_transitive}
use Rattle.ir_graph.proofs.Plain.{goes_plain_by_private, goes_plain_by_fair_step, others_stay_by_private, others_stay_transitive}
use Rattle.ir_graph.proofs.Turn.{goes_alone_no_steps, goes_alone_append, goes_alone_by_private, goes_alone_by_fair_step}

-- f becomes g by so many steps of thread t that concern no other, and its source a becomes b, whatever the others' sources
pub record RunsBeside (f : Flat) (a : Source) (g : Flat) (b : Source) (t n : ℕ) : Type 0 where
  pub goes : (sources : List Source) → slice_get sources t ≡ Some a → GoesPlain (sourced_flat f sources) (sourced_flat g (set sources t b))
  pub alone : (sources : List Source) → slice_get sources t ≡ Some a → (refused : Bool)
      → GoesAlone (sourced_flat f sources) (sourced_flat g (set sources t b)) t refused n 0
  pub others : (sources : List Source) → OthersStay (sourced_flat f sources) (sourced_flat g (set sources t b)) t

set_with_own_element : (sources : List Source) (t : ℕ) (a : Source) → slice_get sources t ≡ Some a → set sources t a ≡ sources
set_with_own_element sources t a at = ap (set sources t) (sym (get_or_from_slice_get sources t a no_source at)) ∙ set-get_or sources t no_source

slice_get_set_own : (sources : List Source) (t : ℕ) (b : Source) → t < length sources → slice_get (set sources t b) t ≡ Some b
slice_get_set_own sources t b less =
    slice_get-get_or (set sources t b) t no_source (subst (λ n. t < n) (sym (length-set sources t b)) less)
    ∙ ap Some (get_or-set_same sources t b no_source less)

others_stay_source_set : (f g : Flat) (sources : List Source) (t : ℕ) (b : Source)
    → ((v : ℕ) → v ≢ t → thread_of g v ≡ thread_of f v) → OthersStay (sourced_flat f sources) (sourced_flat g (set sources t b)) t
others_stay_source_set f g sources t b same = record {
  threads = same;
  sources = λ v ne. get_or-set_other sources t v b no_source ne;
}

pub runs_beside_no_steps : (f : Flat) (a : Source) (t : ℕ) → RunsBeside f a f a t 0
runs_beside_no_steps f a t = record {
  goes = λ sources at. subst (λ z. GoesPlain (sourced_flat f sources) (sourced_flat f z)) (sym (set_with_own_element sources t a at))
      (goes_plain_reflexive (sourced_flat f sources));
  alone = λ sources at refused.
      subst (λ z. GoesAlone (sourced_flat f sources) (sourced_flat f z) t refused 0 0) (sym (set_with_own_element sources t a at))
      (goes_alone_no_steps (sourced_flat f sources) t refused);
  others = λ sources. others_stay_source_set f f sources t a (λ v ne. refl);
}

pub runs_beside_private : (f g : Flat) (a : Source) (t n : ℕ) → WentAlone f g t n → RunsBeside f a g a t n
runs_beside_private f g a t n w = record {
  goes = λ sources at. subst (λ z. GoesPlain (sourced_flat f sources) (sourced_flat g z)) (sym (set_with_own_element sources t a at))
      (goes_plain_by_private f g sources t n w);
  alone = λ sources at refused.
      subst (λ z. GoesAlone (sourced_flat f sources) (sourced_flat g z) t refused n 0) (sym (set_with_own_element sources t a at))
      (goes_alone_by_private f g sources t refused n w);
  others = λ sources. others_stay_source_set f g sources t a (others_stay_by_private f g sources t n w).threads;
}

-- one step of a thread that may go on
module _ (f g : Flat) (a b : Source) (t r : ℕ) (fair : IsFair (ask_of f.code (thread_of f t)))
    (answer : r ≡ answer_of given (shared_ask (ask_of f.code (thread_of f t))) a) (left : b ≡ left_of_source given (shared_ask (ask_of f.code (thread_of f t))) a)
    (can : Can (machine f) (tables f) (t, r)) (is : tables g ≡ after (machine f) (tables f) (t, r)) (code : g.code ≡ f.code)
    (threads : length g.threads ≡ length f.threads) (objects : length g.objects ≡ length f.objects) where
  own : (sources : List Source) → slice_get sources t ≡ Some a → source_of (sourced_flat f sources) t ≡ a
  own sources at = get_or_from_slice_get sources t a no_source at

  step : (sources : List Source) → slice_get sources t ≡ Some a → TakesStep (sourced_flat f sources) (sourced_flat g (set sources t b)) t r
  step sources at = takes_step_beside f g sources b t r (slice_get_within sources t a at) can is
      (left ∙ ap (left_of_source given (shared_ask (ask_of f.code (thread_of f t)))) (sym (own sources at))) code threads objects

  answered : (sources : List Source) → slice_get sources t ≡ Some a
      → r ≡ answer_of given (shared_ask (ask_of f.code (thread_of f t))) (source_of (sourced_flat f sources) t)
  answered sources at = answer ∙ ap (answer_of given (shared_ask (ask_of f.code (thread_of f t)))) (sym (own sources at))

  pub runs_beside_fair_step : RunsBeside f a g b t 1
  runs_beside_fair_step = record {
    goes = λ sources at. let one = step sources at in
        goes_plain_by_fair_step (sourced_flat f sources) (sourced_flat g (set sources t b)) t r fair
        (ask_answered_by_source (shared_ask (ask_of f.code (thread_of f t))) (source_of (sourced_flat f sources) t) r (answered sources at))
        can one.is code threads objects one.sources;
    alone = λ sources at refused.
        goes_alone_by_fair_step (sourced_flat f sources) (sourced_flat g (set sources t b)) t r refused fair
        (ask_answered_by_source (shared_ask (ask_of f.code (thread_of f t))) (source_of (sourced_flat f sources) t) r (answered sources at))
        (step sources at);
    others = λ sources. others_stay_source_set f g sources t b (λ v ne. ap (λ z. z.now v) is ∙ thread_after_other (machine f) (tables f) (t, r) v ne);
  }

pub runs_beside_append : (f g h : Flat) (a b c : Source) (t n k : ℕ) → RunsBeside f a g b t n → RunsBeside g b h c t k → RunsBeside f a h c t (n + k)
runs_beside_append f g h a b c t n k x y = record {
  goes = λ sources at.
      let at' = slice_get_set_own sources t b (slice_get_within sources t a at) in
      subst (λ z. GoesPlain (sourced_flat f sources) (sourced_flat h z)) (set-set sources t b c)
      (goes_plain_transitive (sourced_flat f sources) (sourced_flat g (set sources t b)) (sourced_flat h (set (set sources t b) t c))
      (x.goes sources at) (y.goes (set sources t b) at'));
  alone = λ sources at refused.
      let at' = slice_get_set_own sources t b (slice_get_within sources t a at) in
      subst (λ z. GoesAlone (sourced_flat f sources) (sourced_flat h z) t refused (n + k) 0) (set-set sources t b c)
      (goes_alone_append (sourced_flat f sources) (sourced_flat g (set sources t b)) (sourced_flat h (set (set sources t b) t c)) t refused n k 0 0
      (x.alone sources at refused) (y.alone (set sources t b) at' refused));
  others = λ sources.
      subst (λ z. OthersStay (sourced_flat f sources) (sourced_flat h z) t) (set-set sources t b c)
      (others_stay_transitive (sourced_flat f sources) (sourced_flat g (set sources t b)) (sourced_flat h (set (set sources t b) t c)) t
      (x.others sources) (y.others (set sources t b)));
}

-- the source of the thread that ran on
pub source_after_set : (g : Flat) (sources : List Source) (t : ℕ) (a b : Source) → slice_get sources t ≡ Some a
    → source_of (sourced_flat g (set sources t b)) t ≡ b
source_after_set g sources t a b at = get_or-set_same sources t b no_source (slice_get_within sources t a at)

-- why the thread is not followed on from there
pub stops_at_refused_source : (f g : Flat) (sources : List Source) (t limit : ℕ) (a b : Source) (stop : Stop) → slice_get sources t ≡ Some a
    → IsNotFollowed t (ask_of g.code (thread_of g t)) b stop → StopsFollowing (sourced_flat f sources) (sourced_flat g (set sources t b)) t limit stop
stops_at_refused_source f g sources t limit a b stop at h =
    stops_at_refused_ask (sourced_flat f sources) (sourced_flat g (set sources t b)) t limit stop
    (subst (λ z. IsNotFollowed t (ask_of g.code (thread_of g t)) z stop) (sym (source_after_set g sources t a b at)) h)

pub spent_ask_is_refused : (t : ℕ) (asked : Ask) (source : Source) (stop : Stop) → stop ≡ Log t → IsSpent asked → IsNotFollowed t asked source stop
spent_ask_is_refused t asked source stop is spent = subst (IsNotFollowed t asked source) (sym is) (refl, spent)

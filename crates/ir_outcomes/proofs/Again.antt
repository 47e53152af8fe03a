-- Runs of a guest by turns.
use Rattle.std.proofs.Common.{◌≡◌, ℕ, zero, suc, List, [], ◌∷◌, ◌++◌, Bool, true, false, length, map, replicate, append_assoc, ◌-◌, ◌≤◌, arith, refl, sym, ap, ◌∙◌, subst}
use Rattle.ir_runs.specs.Run.{Step, end}
use Rattle.ir_runs.proofs.CallerLemmas.{end_append}
use Rattle.ir_search_laws.specs.Outcomes.{switches}
use Rattle.ir_search_laws.specs.Orders.{IsStepAlone}
use Rattle.ir_state_store.specs.Nodes.{SourcedFlat}
use Rattle.ir_graph.specs.Plain.{full_by, full_of, IsAnsweredRun}
use Rattle.ir_graph.specs.Reached.{beginning}
use Rattle.ir_graph.specs.Setup.{Setup, setup_start}
use Rattle.ir_graph.specs.Turn.{GoesAlone, ways_taken}
use Rattle.ir_graph.proofs.CallerLemmas.{ways_taken-append, like_reflexive, like_transitive, alone_flat_is_like, answered_run_append, going_alone_in_turns}
use Rattle.ir_search.specs.declared.origin.Origin.{Origin}
use Rattle.ir_search.specs.declared.origin.Refusal.{Refusal}
use Rattle.ir_search.specs.Origins.{AreWaysOf}
use Rattle.ir_search.proofs.CallerLemmas.{repeat_switches_le_suc, switches_of_repeated}
use Rattle.ir_record.specs.Recording.{turns_of_items}
use Rattle.ir_record.specs.Refusing.{Turn, InTurns}
use Rattle.ir_record.specs.declared.item.Item.{Item}
use Rattle.ir_flat.proofs.CallerLemmas.{length_of_start_threads}
use Rattle.ir_world.specs.Sources.{source, seed_of}
use Rattle.ir_thread.specs.State.{most_budget}
use Rattle.std.proofs.lemmas.List.{flat_map_more, append-nil, map-append}
use Rattle.std.proofs.lemmas.List.FromFn.{length-map-range_with_len}
use Rattle.ir_outcomes.specs.Again.{IsAgain, IsAgainBy, AreWaysBack, ways_by}
use Rattle.ir_record.proofs.CallerLemmas.{in_turns_of_append}

-- ---- runs by turns

-- the threads of steps
alone_run_threads : (t : ℕ) (run : List Step) → IsStepAlone t run → map (λ (e : Step). e.0) run ≡ replicate (length run) t
alone_run_threads t [] alone = refl
alone_run_threads t (e ∷ run) alone = λ i. sym alone.0 i ∷ alone_run_threads t run alone.1 i

threads_of_appended_run : (run more : List Step) → map (λ (e : Step). e.0) (run ++ more) ≡ map (λ (e : Step). e.0) run ++ map (λ (e : Step). e.0) more
threads_of_appended_run [] more = refl
threads_of_appended_run (e ∷ run) more = ap (λ z. e.0 ∷ z) (threads_of_appended_run run more)

turns_threads_append : (turns : List Turn) (t : ℕ) (refused : Bool) (n : ℕ)
    → map (λ (u : Turn). u.0) (turns ++ replicate n (t, refused)) ≡ map (λ (u : Turn). u.0) turns ++ replicate n t
turns_threads_append [] t refused zero = refl
turns_threads_append [] t refused (suc n) = ap (λ z. t ∷ z) (turns_threads_append [] t refused n)
turns_threads_append (u ∷ turns) t refused n = ap (λ z. u.0 ∷ z) (turns_threads_append turns t refused n)

-- the start is a run of no step
pub start_again_no_turns : (setup : Setup) → IsAgain setup [] [] (setup_start setup)
start_again_no_turns setup = record {
  like = like_reflexive (setup_start setup).flat;
  steps = [];
  answered = (tt, tt);
  in_turns = refl;
  taken = refl;
  ends = refl;
  goes = refl;
  each = length-map-range_with_len (λ t. source (seed_of setup.random t) setup.input) 0 (length setup.guest.entries)
      ∙ sym (length_of_start_threads setup.guest most_budget setup.profile 0 (length setup.guest.entries));
}

-- a thread goes on alone
pub again_after_alone : (setup : Setup) (turns : List Turn) (before : List (ℕ × Bool)) (s u : SourcedFlat) (t : ℕ) (refused : Bool) (n e : ℕ)
    → IsAgain setup turns before s → GoesAlone s u t refused n e
    → IsAgain setup (turns ++ replicate n (t, refused)) (before ++ replicate e (t, refused)) u
again_after_alone setup turns before s u t refused n e a goes =
    let code = setup.guest.code in
    let own = s.flat.code in
    let first = beginning setup in
    let there = end (full_by code) first a.steps in
    let same : own ≡ code = a.like.code in
    let answered : IsAnsweredRun code there goes.run =
    subst (λ z. IsAnsweredRun code z goes.run) a.ends (subst (λ z. IsAnsweredRun z (full_of s) goes.run) same goes.answered) in
    let in_turns : InTurns (full_by code) there (replicate n (t, refused)) goes.run =
    subst (λ z. InTurns (full_by code) z (replicate n (t, refused)) goes.run) a.ends
    (subst (λ z. InTurns (full_by z) (full_of s) (replicate n (t, refused)) goes.run) same (going_alone_in_turns s u t refused n e goes)) in
    let ends : full_of u ≡ end (full_by code) first (a.steps ++ goes.run) =
    goes.ends ∙ ap (λ z. end (full_by z) (full_of s) goes.run) same ∙ ap (λ z. end (full_by code) z goes.run) a.ends
    ∙ sym (end_append (full_by code) first a.steps goes.run) in
    let late : ways_taken (full_by code) there goes.run ≡ replicate e (t, refused) =
    ap (λ z. ways_taken (full_by code) z goes.run) (sym a.ends) ∙ ap (λ z. ways_taken (full_by z) (full_of s) goes.run) (sym same) ∙ goes.ways in record {
      like = like_transitive (setup_start setup).flat s.flat u.flat a.like (alone_flat_is_like s u t refused n e goes);
      steps = a.steps ++ goes.run;
      answered = answered_run_append code first a.steps goes.run a.answered answered;
      in_turns = in_turns_of_append (full_by code) first turns (replicate n (t, refused)) a.steps goes.run a.in_turns in_turns;
      taken = threads_of_appended_run a.steps goes.run
          ∙ (λ i. a.taken i ++ (alone_run_threads t goes.run goes.alone ∙ ap (λ k. replicate k t) goes.many) i)
          ∙ sym (turns_threads_append turns t refused n);
      ends = ends;
      goes = ways_taken-append (full_by code) first a.steps goes.run ∙ (λ i. a.goes i ++ late i);
      each = goes.sources ∙ a.each ∙ sym goes.threads;
    }

-- so it does with turns noted
pub again_after_noted : (setup : Setup) (items : List Item) (item : Item) (before : List (ℕ × Bool)) (f g : SourcedFlat) (e : ℕ)
    → IsAgain setup (turns_of_items items) before f → GoesAlone f g item.thread item.refused item.count e
    → IsAgain setup (turns_of_items (items ++ item ∷ [])) (before ++ replicate e (item.thread, item.refused)) g
again_after_noted setup items item before f g e a goes =
    subst (λ z. IsAgain setup z (before ++ replicate e (item.thread, item.refused)) g)
    (flat_map_more (λ (i : Item). replicate i.count (i.thread, i.refused)) [] items item)
    (again_after_alone setup (turns_of_items items) before f g item.thread item.refused item.count e a goes)

-- ---- the ways of a turn

pub ways_by-replicate : (t : ℕ) (refused : Bool) (n : ℕ) → ways_by t (replicate n refused) ≡ replicate n (t, refused)
ways_by-replicate t refused zero = refl
ways_by-replicate t refused (suc n) = ap (λ z. (t, refused) ∷ z) (ways_by-replicate t refused n)

ways_by_threads : (t : ℕ) (ways : List Bool) → map (λ (w : ℕ × Bool). w.0) (ways_by t ways) ≡ replicate (length ways) t
ways_by_threads t [] = refl
ways_by_threads t (w ∷ ways) = ap (λ z. t ∷ z) (ways_by_threads t ways)

-- so many ways of a thread after others of it
pub again_with_ways : (setup : Setup) (turns : List Turn) (before : List (ℕ × Bool)) (f : SourcedFlat) (t : ℕ) (ways : List Bool) (refused : Bool) (n : ℕ)
    → IsAgain setup turns ((before ++ ways_by t ways) ++ replicate n (t, refused)) f
    → IsAgain setup turns (before ++ ways_by t (ways ++ replicate n refused)) f
again_with_ways setup turns before f t ways refused n a =
    let joined : ways_by t ways ++ replicate n (t, refused) ≡ ways_by t (ways ++ replicate n refused) =
    ap (λ z. ways_by t ways ++ z) (sym (ways_by-replicate t refused n)) ∙ sym (map-append (λ (r : Bool). (t, r)) ways (replicate n refused)) in
    subst (λ z. IsAgain setup turns z f)
    (append_assoc before (ways_by t ways) (replicate n (t, refused)) ∙ ap (λ z. before ++ z) joined) a

-- so many that enter, and then a refused try
pub again_with_refused_try : (setup : Setup) (turns : List Turn) (before : List (ℕ × Bool)) (f : SourcedFlat) (t n : ℕ)
    → IsAgain setup turns ((before ++ replicate n (t, false)) ++ replicate 1 (t, true)) f
    → IsAgain setup turns (before ++ ways_by t (replicate n false ++ true ∷ [])) f
again_with_refused_try setup turns before f t n a =
    again_with_ways setup turns before f t (replicate n false) true 1
    (subst (λ z. IsAgain setup turns ((before ++ z) ++ replicate 1 (t, true)) f) (sym (ways_by-replicate t false n)) a)

-- some ways of a thread after others of it
pub again_with_turn_ways : (setup : Setup) (turns : List Turn) (before : List (ℕ × Bool)) (f : SourcedFlat) (t : ℕ) (ways more : List Bool)
    → IsAgain setup turns ((before ++ ways_by t ways) ++ ways_by t more) f → IsAgain setup turns (before ++ ways_by t (ways ++ more)) f
again_with_turn_ways setup turns before f t ways more a =
    subst (λ z. IsAgain setup turns z f)
    (append_assoc before (ways_by t ways) (ways_by t more) ∙ ap (λ z. before ++ z) (sym (map-append (λ (r : Bool). (t, r)) ways more))) a

-- no way
pub again_with_no_ways : (setup : Setup) (turns : List Turn) (before : List (ℕ × Bool)) (f : SourcedFlat)
    → IsAgain setup turns before f → IsAgain setup turns (before ++ []) f
again_with_no_ways setup turns before f a = subst (λ z. IsAgain setup turns z f) (sym (append-nil before)) a

pub again_without_no_ways : (setup : Setup) (turns : List Turn) (before : List (ℕ × Bool)) (f : SourcedFlat)
    → IsAgain setup turns (before ++ []) f → IsAgain setup turns before f
again_without_no_ways setup turns before f a = subst (λ z. IsAgain setup turns z f) (append-nil before) a

-- ---- the ways of a path

-- one turn more
pub again_by_longer_path : (setup : Setup) (turns turns' : List Turn) (table : List Refusal) (n : Origin) (path : List Origin) (f g : SourcedFlat)
    → IsAgainBy setup turns table path f
    → ((before : List (ℕ × Bool)) → IsAgain setup turns before f
    → (own : List Bool) × AreWaysOf table n own × IsAgain setup turns' (before ++ ways_by n.thread own) g)
    → IsAgainBy setup turns' table (n ∷ path) g
again_by_longer_path setup turns turns' table n path f g w more = let r = more w.ways w.again in record {
  ways = w.ways ++ ways_by n.thread r.0;
  back = (w.ways, w.back, r.0, r.1, refl);
  again = r.2;
}

-- the thread that enters or tries is switched less often than the path has turns
pub path_switches_below : (table : List Refusal) (path : List Origin) (ways : List (ℕ × Bool)) → AreWaysBack table path ways
    → switches (map (λ (w : ℕ × Bool). w.0) ways) ≤ length path - 1
path_switches_below table [] ways back = let l : switches (map (λ (w : ℕ × Bool). w.0) ways) ≤ 0 =
    subst (λ z. switches (map (λ (w : ℕ × Bool). w.0) z) ≤ 0) (sym back) (omega arith) in omega (arith, l)
path_switches_below table (n ∷ path) ways (before, back, own, are, is) =
    let t = n.thread in
    let us = map (λ (w : ℕ × Bool). w.0) before in
    let same : map (λ (w : ℕ × Bool). w.0) ways ≡ us ++ replicate (length own) t =
    ap (map (λ (w : ℕ × Bool). w.0)) is ∙ map-append (λ (w : ℕ × Bool). w.0) before (ways_by t own)
    ∙ ap (λ z. us ++ z) (ways_by_threads t own) in
    let few : switches (map (λ (w : ℕ × Bool). w.0) ways) ≤ length path =
    subst (λ z. switches z ≤ length path) (sym same) (by path back (path_switches_below table path before back)) in omega (arith, few)
  where
    by : (rest : List Origin) → AreWaysBack table rest before → switches (map (λ (w : ℕ × Bool). w.0) before) ≤ length rest - 1
        → switches (map (λ (w : ℕ × Bool). w.0) before ++ replicate (length own) n.thread) ≤ length rest
    by [] none l =
        subst (λ z. switches (map (λ (w : ℕ × Bool). w.0) z ++ replicate (length own) n.thread) ≤ 0) (sym none)
        (switches_of_repeated n.thread (length own))
    by (m ∷ rest) some l =
        let k = repeat_switches_le_suc (map (λ (w : ℕ × Bool). w.0) before) n.thread (length own) in
        omega (arith, l, k)

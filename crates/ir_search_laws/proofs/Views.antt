-- Runs of a machine are runs of its view.
use Rattle.std.proofs.Common.{◌≡◌, ◌↔◌, ℕ, true, cond, List, [], ◌∷◌, refl, sym, ap, ◌∙◌, subst, inl, inr}
use Rattle.std.proofs.lemmas.Bool.{cases_eq}
use Rattle.ir_runs.specs.Machine.{Act, Silent, Replied, Entered, TryFailed, Left, Got, Stored, Never, act_of, Machine, upd, Object, target, Admits, acted, reply}
use Rattle.ir_runs.specs.declared.access.Access.TheVariants.{Reading, Writing}
use Rattle.ir_runs.specs.Run.{State, Step, asked, act, Can, after_act, after, end}
use Rattle.ir_runs.proofs.CallerLemmas.{upd_at_own_place, thread_after_other}
use Rattle.ir_search_laws.specs.Counting.{AnswersCall, IsAnswered, Takes, RunCounts, is_own, entering}
use Rattle.ir_search_laws.specs.Sources.{Giving, left_of_source, sourced}
use Rattle.ir_search_laws.specs.Views.{IsView, Spoils, viewed, IsLiveRun, IsUnspoilt}
use Rattle.ir_search_laws.proofs.Maps.{map_of_upd}

-- a view is one beside sources too
pub sourced_view_is_view : {T V S : Type 0} (m : Machine T) (w : Machine V) (view : T → V) (Live : T → Type 0) (given : Giving S)
    → IsView m w view Live → IsView (sourced m given) (sourced w given) (λ x. (view x.0, x.1)) (λ x. Live x.0)
sourced_view_is_view m w view Live given is = record {
  asks = λ x live. is.asks x.0 live;
  takes = λ x live r. λ i. (is.takes x.0 live r i, left_of_source given (is.asks x.0 live i) x.1);
  fits = is.fits;
  done = λ x. is.done x.0;
}

pub sourced_spoils : {T S : Type 0} (m : Machine T) (Live Spoilt : T → Type 0) (given : Giving S) → Spoils m Live Spoilt
    → Spoils (sourced m given) (λ x. Live x.0) (λ x. Spoilt x.0)
sourced_spoils m Live Spoilt given spoils = record {
  decides = λ x. spoils.decides x.0;
  stays = λ x. spoils.stays x.0;
  spares = λ x. spoils.spares x.0;
}

-- which acts can be taken goes by which results suit a call alone
admits_by_equal_fits : {T V : Type 0} (m : Machine T) (w : Machine V) → m.fits ≡ w.fits → (q : Act) (b : Object) → Admits m q b → Admits w q b
admits_by_equal_fits m w same Silent b h = tt
admits_by_equal_fits m w same (Replied k v) b h = subst (λ f. f k v ≡ true) same h
admits_by_equal_fits m w same (Entered o Reading v) b h = h
admits_by_equal_fits m w same (Entered o Writing v) b h = h
admits_by_equal_fits m w same (TryFailed o) b h = tt
admits_by_equal_fits m w same (Left o a) b h = tt
admits_by_equal_fits m w same (Got o i) b h = tt
admits_by_equal_fits m w same (Stored o i x) b h = tt
admits_by_equal_fits m w same Never b h = h

module _ {T V : Type 0} (m : Machine T) (w : Machine V) (view : T → V) (Live : T → Type 0) (is : IsView m w view Live) where
  viewed_act : (s : State T) (e : Step) → Live (s.now e.0) → act w (viewed view s) e ≡ act m s e
  viewed_act s e live = ap (λ q. act_of q e.1) (is.asks (s.now e.0) live)

  viewed_after : (s : State T) (e : Step) → Live (s.now e.0) → after w (viewed view s) e ≡ viewed view (after m s e)
  unfolding after
  viewed_after s e live =
      ap (after_act w (viewed view s) e.0 (view (s.now e.0))) (viewed_act s e live)
      ∙ (λ i. record {
        now = (ap (upd (λ t. view (s.now t)) e.0) (is.takes (s.now e.0) live (reply (act m s e) (s.objects (target (act m s e)))))
            ∙ sym (map_of_upd view s.now e.0 (m.take (s.now e.0) (reply (act m s e) (s.objects (target (act m s e))))))) i;
        objects = upd s.objects (target (act m s e)) (acted (act m s e) e.0 (s.objects (target (act m s e))));
      })

  viewed_can : (s : State T) (e : Step) → Live (s.now e.0) → Can m s e ↔ Can w (viewed view s) e
  viewed_can s e live = (
    λ h. subst (λ q. Admits w q (s.objects (target q))) (sym (viewed_act s e live))
        (admits_by_equal_fits m w (sym is.fits) (act m s e) (s.objects (target (act m s e))) h),
    λ h. admits_by_equal_fits w m is.fits (act m s e) (s.objects (target (act m s e)))
        (subst (λ q. Admits w q (s.objects (target q))) (viewed_act s e live) h),
  )

  -- the end of a run of live threads, seen
  pub viewed_end : (s : State T) (run : List Step) → IsLiveRun m Live s run
      → end w (viewed view s) run ≡ viewed view (end m s run)
  viewed_end s [] live = refl
  viewed_end s (e ∷ run) live = ap (λ z. end w z run) (viewed_after s e live.0) ∙ viewed_end (after m s e) run live.1

  pub viewed_entering : (s : State T) (run : List Step) → IsLiveRun m Live s run
      → entering w (viewed view s) run ≡ entering m s run
  viewed_entering s [] live = refl
  viewed_entering s (e ∷ run) live =
      ap (λ z. cond (is_own (asked w (viewed view s) e.0)) (entering w z run) (e.0 ∷ entering w z run)) (viewed_after s e live.0)
      ∙ ap (λ z. cond (is_own (asked w (viewed view s) e.0)) z (e.0 ∷ z)) (viewed_entering (after m s e) run live.1)
      ∙ ap (λ q. cond (is_own q) (entering m (after m s e) run) (e.0 ∷ entering m (after m s e) run)) (is.asks (s.now e.0) live.0)

  module _ (real : AnswersCall T) (seen : AnswersCall V) (agree : (t : ℕ) (x : T) → Live x → seen t (view x) ≡ real t x) where
    viewed_takes : (s : State T) (e : Step) → Live (s.now e.0) → Takes m real s e ↔ Takes w seen (viewed view s) e
    viewed_takes s e live =
        let can = viewed_can s e live in
        let same : IsAnswered (asked w (viewed view s) e.0) (seen e.0 (view (s.now e.0))) e.1
        ≡ IsAnswered (asked m s e.0) (real e.0 (s.now e.0)) e.1 =
        λ i. IsAnswered (is.asks (s.now e.0) live i) (agree e.0 (s.now e.0) live i) e.1 in (
          λ h. (can.0 h.0, subst (λ A. A) (sym same) h.1),
          λ h. (can.1 h.0, subst (λ A. A) same h.1),
        )

    -- a run of live threads counts exactly where it counts for the view
    pub viewed_counts : (s : State T) (run : List Step) → IsLiveRun m Live s run
        → RunCounts m real s run ↔ RunCounts w seen (viewed view s) run
    viewed_counts s [] live = (λ _. tt, λ _. tt)
    viewed_counts s (e ∷ run) live =
        let step = viewed_takes s e live.0 in
        let more = viewed_counts (after m s e) run live.1 in (
          λ h. (step.0 h.0, subst (λ z. RunCounts w seen z run) (sym (viewed_after s e live.0)) (more.0 h.1)),
          λ h. (step.1 h.0, more.1 (subst (λ z. RunCounts w seen z run) (viewed_after s e live.0) h.1)),
        )

-- what is spoilt stays so
stays_spoilt_step : {T : Type 0} (m : Machine T) (Live Spoilt : T → Type 0) → Spoils m Live Spoilt → (s : State T) (e : Step) (t : ℕ)
    → Spoilt (s.now t) → Spoilt ((after m s e).now t)
unfolding after
stays_spoilt_step m Live Spoilt spoils s e t h = elim (cases_eq t e.0) [
  | inl same ↦ subst (λ z. Spoilt ((after m s e).now z)) (sym same) (subst Spoilt (sym (upd_at_own_place s.now e.0 _))
      (spoils.stays (s.now e.0) (subst (λ z. Spoilt (s.now z)) same h) (reply (act m s e) (s.objects (target (act m s e))))))
  | inr other ↦ subst Spoilt (sym (thread_after_other m s e t other)) h
]

stays_spoilt_run : {T : Type 0} (m : Machine T) (Live Spoilt : T → Type 0) → Spoils m Live Spoilt → (s : State T) (run : List Step) (t : ℕ)
    → Spoilt (s.now t) → Spoilt ((end m s run).now t)
stays_spoilt_run m Live Spoilt spoils s [] t h = h
stays_spoilt_run m Live Spoilt spoils s (e ∷ run) t h =
    stays_spoilt_run m Live Spoilt spoils (after m s e) run t (stays_spoilt_step m Live Spoilt spoils s e t h)

each_result_spoils : {T : Type 0} (m : Machine T) (Spoilt : T → Type 0) (s : State T) (e : Step) → ((r : ℕ) → Spoilt (m.take (s.now e.0) r))
    → Spoilt ((after m s e).now e.0)
unfolding after
each_result_spoils m Spoilt s e dead = subst Spoilt (sym (upd_at_own_place s.now e.0 _)) (dead (reply (act m s e) (s.objects (target (act m s e)))))

-- a run at whose end no thread is spoilt is one of live threads
pub unspoilt_run_is_live : {T : Type 0} (m : Machine T) (Live Spoilt : T → Type 0) → Spoils m Live Spoilt → (s : State T) (run : List Step)
    → ((t : ℕ) → Spoilt ((end m s run).now t) → ⊥) → IsLiveRun m Live s run
unspoilt_run_is_live m Live Spoilt spoils s [] none = tt
unspoilt_run_is_live m Live Spoilt spoils s (e ∷ run) none = elim (spoils.decides (s.now e.0)) [
  | inl live ↦ (live, unspoilt_run_is_live m Live Spoilt spoils (after m s e) run none)
  | inr dead ↦ absurd (none e.0 (stays_spoilt_run m Live Spoilt spoils (after m s e) run e.0 (each_result_spoils m Spoilt s e dead)))
]

take_spoils : {T : Type 0} (m : Machine T) (Spoilt : T → Type 0) (s : State T) (e : Step) → Spoilt ((after m s e).now e.0)
    → Spoilt (m.take (s.now e.0) (reply (act m s e) (s.objects (target (act m s e)))))
unfolding after
take_spoils m Spoilt s e h = subst Spoilt (upd_at_own_place s.now e.0 _) h

-- a run of live threads spoils none
pub stays_unspoilt_live : {T : Type 0} (m : Machine T) (Live Spoilt : T → Type 0) → Spoils m Live Spoilt → (s : State T) (run : List Step)
    → IsLiveRun m Live s run → IsUnspoilt Spoilt s → IsUnspoilt Spoilt (end m s run)
stays_unspoilt_live m Live Spoilt spoils s [] live none = none
stays_unspoilt_live m Live Spoilt spoils s (e ∷ run) live none =
    stays_unspoilt_live m Live Spoilt spoils (after m s e) run live.1 (λ t h. elim (cases_eq t e.0) [
      | inl same ↦ none e.0 (spoils.spares (s.now e.0) live.0 (reply (act m s e) (s.objects (target (act m s e))))
          (take_spoils m Spoilt s e (subst (λ z. Spoilt ((after m s e).now z)) same h)))
      | inr other ↦ none t (subst Spoilt (thread_after_other m s e t other) h)
    ])

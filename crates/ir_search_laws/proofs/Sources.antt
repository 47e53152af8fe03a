-- Runs of threads beside their sources are the runs whose logs the sources answer.
use Rattle.std.proofs.Common.{◌≡◌, ◌≢◌, ◌↔◌, ℕ, suc, zero, cond, List, [], ◌∷◌, refl, sym, ap, ◌∙◌, subst, inl, inr, eq-eqb, ne_eqb}
use Rattle.std.proofs.lemmas.Bool.{cases_eq}
use Rattle.ir_runs.specs.Machine.{Ask, Private, Env, Enter, Try, Leave, Get, Put, Done, act_of, Machine, upd, Object, target, emitted, reply, acted, Label, logged}
use Rattle.ir_runs.specs.Lawful.{IsLawful}
use Rattle.ir_runs.specs.declared.access.Access.TheVariants.{Reading, Writing}
use Rattle.ir_runs.specs.Run.{State, Step, asked, act, after, label, IsRun, end, join_if, trail, events, log}
use Rattle.ir_runs.proofs.CallerLemmas.{upd_at_own_place, thread_after_other}
use Rattle.ir_search_laws.specs.Counting.{IsAnswered, RunCounts, is_own, entering}
use Rattle.ir_search_laws.specs.Sources.{Giving, answer_of, left_of_source, sourced, by_source, plain_source, Gives}
use Rattle.ir_search_laws.specs.Views.{IsLiveRun}
use Rattle.ir_search_laws.proofs.Maps.{map_of_upd}

-- what holds of a machine holds of it beside sources
pub sourced_is_lawful : {T S : Type 0} (m : Machine T) (given : Giving S) → IsLawful m → IsLawful (sourced m given)
sourced_is_lawful m given law = record { holds = λ x. law.holds x.0; takes = λ x r o. law.takes x.0 r o }

-- a step is answered by the source exactly where the log with it is
gives_logged_iff : {S : Type 0} (given : Giving S) (q : Ask) (r : ℕ) (source : S) (b : Object) (es : List Label)
    → (IsAnswered q (answer_of given q source) r × Gives given (left_of_source given q source) es)
    ↔ Gives given source (logged (emitted (act_of q r) b) es)
gives_logged_iff given Private r source b es = (λ h. h.1, λ h. (tt, h))
gives_logged_iff given (Env k) r source b es = (λ h. h, λ h. h)
gives_logged_iff given (Enter o Reading) r source b es = (λ h. h.1, λ h. (tt, h))
gives_logged_iff given (Enter o Writing) r source b es = (λ h. h.1, λ h. (tt, h))
gives_logged_iff given (Try o) zero source b es = (λ h. h.1, λ h. (tt, h))
gives_logged_iff given (Try o) (suc zero) source b es = (λ h. h.1, λ h. (tt, h))
gives_logged_iff given (Try o) (suc (suc r)) source b es = (λ h. h.1, λ h. (tt, h))
gives_logged_iff given (Leave o a) r source b es = (λ h. h.1, λ h. (tt, h))
gives_logged_iff given (Get o i) r source b es = (λ h. h.1, λ h. (tt, h))
gives_logged_iff given (Put o i w) r source b es = (λ h. h.1, λ h. (tt, h))
gives_logged_iff given Done r source b es = (λ h. h.1, λ h. (tt, h))

module _ {T S : Type 0} (m : Machine T) (given : Giving S) where
  plain_after : (s : State (T × S)) (e : Step) → plain_source (after (sourced m given) s e) ≡ after m (plain_source s) e
  unfolding after
  plain_after s e = λ i. record {
    now = map_of_upd (λ x. x.0) s.now e.0 (
      m.take (s.now e.0).0 (reply (act m (plain_source s) e) (s.objects (target (act m (plain_source s) e)))),
      left_of_source given (m.ask (s.now e.0).0) (s.now e.0).1,
    ) i;
    objects = upd s.objects (target (act m (plain_source s) e)) (acted (act m (plain_source s) e) e.0 (s.objects (target (act m (plain_source s) e))));
  }

  -- the threads of the end
  pub plain_end : (s : State (T × S)) (run : List Step) → plain_source (end (sourced m given) s run) ≡ end m (plain_source s) run
  plain_end s [] = refl
  plain_end s (e ∷ run) = plain_end (after (sourced m given) s e) run ∙ ap (λ z. end m z run) (plain_after s e)

  source_after : (s : State (T × S)) (e : Step) → ((after (sourced m given) s e).now e.0).1 ≡ left_of_source given (m.ask (s.now e.0).0) (s.now e.0).1
  unfolding after
  source_after s e = ap (λ x. x.1) (upd_at_own_place s.now e.0 _)

  source_other : (s : State (T × S)) (e : Step) (t : ℕ) → t ≢ e.0 → ((after (sourced m given) s e).now t).1 ≡ (s.now t).1
  source_other s e t ne = ap (λ x. x.1) (thread_after_other (sourced m given) s e t ne)

  -- each thread's log is answered by its source
  abbrev pub AllGiven : State (T × S) → List Step → Type 0
  AllGiven s run = (t : ℕ) → Gives given (s.now t).1 (log m (plain_source s) run t)

  given_step : (s : State (T × S)) (e : Step) (run : List Step)
      → (IsAnswered (asked m (plain_source s) e.0) (by_source m given e.0 (s.now e.0)) e.1 × AllGiven (after (sourced m given) s e) run)
      ↔ AllGiven s (e ∷ run)
  given_step s e run =
      let x = s.now e.0 in
      let same : (t : ℕ) → log m (plain_source (after (sourced m given) s e)) run t ≡ log m (after m (plain_source s) e) run t =
      λ t. ap (λ z. log m z run t) (plain_after s e) in
      let own = gives_logged_iff given (m.ask x.0) e.1 x.1 (s.objects (target (act m (plain_source s) e))) (log m (after m (plain_source s) e) run e.0) in (
        λ h t. elim (cases_eq t e.0) [
          | inl is ↦ subst (λ z. Gives given (s.now z).1 (log m (plain_source s) (e ∷ run) z)) (sym is)
              (subst (λ b. Gives given x.1 (events (join_if b (x.0, label m (plain_source s) e) (trail m (after m (plain_source s) e) run e.0))))
              (sym (eq-eqb e.0 e.0 refl))
              (own.0 (
                h.0,
                subst (λ z. Gives given z (log m (after m (plain_source s) e) run e.0)) (source_after s e)
                    (subst (Gives given ((after (sourced m given) s e).now e.0).1) (same e.0) (h.1 e.0)),
              )))
          | inr other ↦
              subst (λ b. Gives given (s.now t).1 (events (join_if b ((s.now t).0, label m (plain_source s) e) (trail m (after m (plain_source s) e) run t))))
              (sym (ne_eqb t e.0 other))
              (subst (λ z. Gives given z (log m (after m (plain_source s) e) run t)) (source_other s e t other)
              (subst (Gives given ((after (sourced m given) s e).now t).1) (same t) (h.1 t)))
        ],
        λ h.
            let first = own.1 (subst (λ b. Gives given x.1 (events (join_if b (x.0, label m (plain_source s) e)
            (trail m (after m (plain_source s) e) run e.0)))) (eq-eqb e.0 e.0 refl) (h e.0)) in (
              first.0,
              λ t. subst (Gives given ((after (sourced m given) s e).now t).1) (sym (same t)) (elim (cases_eq t e.0) [
                | inl is ↦ subst (λ z. Gives given ((after (sourced m given) s e).now z).1 (log m (after m (plain_source s) e) run z)) (sym is)
                    (subst (λ z. Gives given z (log m (after m (plain_source s) e) run e.0)) (sym (source_after s e)) first.1)
                | inr other ↦ subst (λ z. Gives given z (log m (after m (plain_source s) e) run t)) (sym (source_other s e t other))
                    (subst (λ b. Gives given (s.now t).1 (events (join_if b ((s.now t).0, label m (plain_source s) e)
                    (trail m (after m (plain_source s) e) run t)))) (ne_eqb t e.0 other) (h t))
              ]),
            ),
      )

  -- a run counts, each thread answered by its source, exactly where it is a run and the sources answer its logs
  pub sourced_counts : (s : State (T × S)) (run : List Step)
      → RunCounts (sourced m given) (by_source m given) s run ↔ (IsRun m (plain_source s) run × AllGiven s run)
  sourced_counts s [] = (λ _. (tt, λ t. tt), λ _. tt)
  sourced_counts s (e ∷ run) =
      let more = sourced_counts (after (sourced m given) s e) run in
      let step = given_step s e run in (
        λ h. let k = more.0 h.1 in (
          (h.0.0, subst (λ z. IsRun m z run) (plain_after s e) k.0),
          step.0 (h.0.1, k.1),
        ),
        λ h. let k = step.1 h.1 in (
          (h.0.0, k.0),
          more.1 (subst (λ z. IsRun m z run) (sym (plain_after s e)) h.0.1, k.1),
        ),
      )

  -- the order of entries is the threads' own
  pub sourced_entering : (s : State (T × S)) (run : List Step) → entering (sourced m given) s run ≡ entering m (plain_source s) run
  sourced_entering s [] = refl
  sourced_entering s (e ∷ run) =
      ap (λ z. cond (is_own (asked m (plain_source s) e.0)) z (e.0 ∷ z))
      (sourced_entering (after (sourced m given) s e) run ∙ ap (λ z. entering m z run) (plain_after s e))

  -- live threads are so beside their sources
  pub sourced_live : (Live : T → Type 0) (s : State (T × S)) (run : List Step) → IsLiveRun m Live (plain_source s) run
      → IsLiveRun (sourced m given) (λ x. Live x.0) s run
  sourced_live Live s [] live = tt
  sourced_live Live s (e ∷ run) live = (
    live.0,
    sourced_live Live (after (sourced m given) s e) run (subst (λ z. IsLiveRun m Live z run) (sym (plain_after s e)) live.1),
  )

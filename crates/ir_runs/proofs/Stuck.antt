-- Nothing is stuck: who waits for an object waits for a thread that holds it, and that waits for a greater object at most.
use Rattle.std.proofs.Common.{true, ◌≡◌, ◌≢◌, ℕ, suc, zero, ◌+◌, ◌<◌, ◌≤◌, List, [], ◌∷◌, Option, Some, None, refl, sym, ap, ◌∙◌, subst, arith, inl, inr, ◌⊎◌}
use Rattle.std.proofs.lemmas.Bool.{cases_eq, cases_lt}
use Rattle.ir_runs.specs.Machine.{Ask, Private, Env, Enter, Try, Leave, Get, Put, Done, act_of, Machine, target, Admits}
use Rattle.ir_runs.specs.Lawful.{Holds, IsLawful}
use Rattle.ir_runs.specs.declared.access.Access.{Access}
use Rattle.ir_runs.specs.declared.env_kind.EnvKind.{EnvKind}
use Rattle.ir_runs.specs.declared.access.Access.TheVariants.{Reading, Writing}
use Rattle.ir_runs.proofs.Tables.{upd_at_other_place}
use Rattle.ir_runs.specs.Run.{State, Step, asked, Can, after, IsRun, end}
use Rattle.ir_runs.specs.Bounds.{IsIdle, IsBounded}
use Rattle.ir_runs.proofs.Good.{StateInvariant}

pub some_first_or_all_second : (P Q : Option Access → Type 0) → ((x : Option Access) → P x ⊎ Q x) → (f : ℕ → Option Access) (n : ℕ)
    → ((w : ℕ) × P (f w)) ⊎ ((w : ℕ) → w < n → Q (f w))
some_first_or_all_second P Q decide f zero = inr (λ w h. absurd (omega arith))
some_first_or_all_second P Q decide f (suc n) = elim (some_first_or_all_second P Q decide f n) [
  | inl p ↦ inl p
  | inr h ↦ elim (decide (f n)) [
    | inl p ↦ inl (n, p)
    | inr q ↦ inr (λ w l. elim (cases_eq w n) [ inl e ↦ subst (λ z. Q (f z)) (sym e) q | inr ne ↦ h w (omega arith) ])
  ]
]

pub writing_or_not : (x : Option Access) → (x ≡ Some Writing) ⊎ (x ≢ Some Writing)
writing_or_not None = inr (λ h. cc h)
writing_or_not (Some Reading) = inr (λ h. cc h)
writing_or_not (Some Writing) = inl refl

pub access_is_some_or_none : (x : Option Access) → (x ≢ None) ⊎ (x ≡ None)
access_is_some_or_none None = inr refl
access_is_some_or_none (Some a) = inl (λ h. cc h)

-- some thread has a step with result 0
abbrev pub SomeThreadCanStep : {T : Type 0} → Machine T → State T → Type 0
SomeThreadCanStep m s = (u : ℕ) × Can m s (u, 0)

pub done_is_not_inside : {T : Type 0} (m : Machine T) → IsLawful m → (s : State T) → StateInvariant m s → (t o : ℕ) → asked m s t ≡ Done
    → (s.objects o).inside t ≡ None
done_is_not_inside m law s good t o h = good.linked t o ∙ subst (λ q. Holds q (m.held (s.now t))) h (law.holds (s.now t)) o

-- who holds an object isn't done, and waits for none at or below it
holder_waits_for_greater : {T : Type 0} (m : Machine T) → IsLawful m → (s : State T) → StateInvariant m s → (w o : ℕ) → (s.objects o).inside w ≢ None
    → (asked m s w ≢ Done) × ((i : ℕ) (a : Access) → asked m s w ≡ Enter i a → o < i)
holder_waits_for_greater m law s good w o h = (
  λ e. h (done_is_not_inside m law s good w o e),
  λ i a e. elim (cases_lt o i) [
    | inl l ↦ l
    | inr g ↦
        absurd (h (good.linked w o ∙ subst (λ q. Holds q (m.held (s.now w))) e (law.holds (s.now w)) o g))
  ],
)

-- the step of a thread is decided by what it asks
can_step_if_ask_admits : {T : Type 0} (m : Machine T) (s : State T) (t : ℕ) (q : Ask) → asked m s t ≡ q
    → Admits m (act_of q 0) (s.objects (target (act_of q 0))) → Can m s (t, 0)
can_step_if_ask_admits m s t q is h = subst (λ z. Admits m (act_of z 0) (s.objects (target (act_of z 0)))) (sym is) h

some_can_step_by_bound : {T : Type 0} (m : Machine T) → IsLawful m → (s : State T) → StateInvariant m s → (n objects : ℕ) → IsIdle m s n → IsBounded m s objects
    → ((k : EnvKind) → m.fits k 0 ≡ true) → (d t : ℕ) → ((o : ℕ) (a : Access) → asked m s t ≡ Enter o a → objects ≤ o + d) → (q : Ask)
    → asked m s t ≡ q → q ≢ Done → SomeThreadCanStep m s
some_can_step_by_bound m law s good n objects rest low zero_fits d t bound Private is ne = (t, can_step_if_ask_admits m s t _ is tt)
some_can_step_by_bound m law s good n objects rest low zero_fits d t bound (Env k) is ne = (t, can_step_if_ask_admits m s t _ is (zero_fits k))
some_can_step_by_bound m law s good n objects rest low zero_fits d t bound (Try o) is ne = (t, can_step_if_ask_admits m s t _ is tt)
some_can_step_by_bound m law s good n objects rest low zero_fits d t bound (Leave o a) is ne = (t, can_step_if_ask_admits m s t _ is tt)
some_can_step_by_bound m law s good n objects rest low zero_fits d t bound (Get o j) is ne = (t, can_step_if_ask_admits m s t _ is tt)
some_can_step_by_bound m law s good n objects rest low zero_fits d t bound (Put o j w) is ne = (t, can_step_if_ask_admits m s t _ is tt)
some_can_step_by_bound m law s good n objects rest low zero_fits d t bound Done is ne = absurd (ne refl)
some_can_step_by_bound m law s good n objects rest low zero_fits zero t bound (Enter o a) is ne = absurd (omega (arith, bound o a is, low t o a is))
some_can_step_by_bound m law s good n objects rest low zero_fits (suc d) t bound (Enter o Reading) is ne =
    elim (some_first_or_all_second (λ x. x ≡ Some Writing) (λ x. x ≢ Some Writing) writing_or_not (s.objects o).inside n) [
      | inl w ↦ let h = holder_waits_for_greater m law s good w.0 o (λ e. cc (e, w.1)) in
          some_can_step_by_bound m law s good n objects rest low zero_fits d w.0 (λ i b e. omega (arith, bound o Reading is, h.1 i b e)) (asked m s w.0) refl h.0
      | inr none ↦ (
        t,
        can_step_if_ask_admits m s t _ is (λ u e. elim (cases_lt u n)
            [ inl l ↦ none u l e | inr g ↦ cc (done_is_not_inside m law s good u o (rest u g), e) ]),
      )
    ]
some_can_step_by_bound m law s good n objects rest low zero_fits (suc d) t bound (Enter o Writing) is ne =
    elim (some_first_or_all_second (λ x. x ≢ None) (λ x. x ≡ None) access_is_some_or_none (s.objects o).inside n) [
      | inl w ↦ let h = holder_waits_for_greater m law s good w.0 o w.1 in
          some_can_step_by_bound m law s good n objects rest low zero_fits d w.0 (λ i b e. omega (arith, bound o Writing is, h.1 i b e)) (asked m s w.0) refl h.0
      | inr none ↦ (t, can_step_if_ask_admits m s t _ is (λ u. elim (cases_lt u n) [ inl l ↦ none u l | inr g ↦ done_is_not_inside m law s good u o (rest u g) ]))
    ]

-- in a state in which the threads hold what they are inside of, one that isn't done shows one that has a step
pub some_thread_can_step : {T : Type 0} (m : Machine T) → IsLawful m → (s : State T) → StateInvariant m s → (n objects : ℕ) → IsIdle m s n
    → IsBounded m s objects → ((k : EnvKind) → m.fits k 0 ≡ true) → (t : ℕ) → asked m s t ≢ Done → SomeThreadCanStep m s
some_thread_can_step m law s good n objects rest low zero_fits t ne =
    some_can_step_by_bound m law s good n objects rest low zero_fits objects t (λ o a e. omega arith) (asked m s t) refl ne

-- the threads that are done stay so
pub later_threads_stay_done : {T : Type 0} (m : Machine T) (s : State T) (n : ℕ) → IsIdle m s n → (e : Step) → Can m s e → IsIdle m (after m s e) n
unfolding after
later_threads_stay_done m s n rest e can t h =
    ap m.ask (upd_at_other_place s.now e.0 t _ (λ p. subst (λ q. Admits m (act_of q e.1) (s.objects (target (act_of q e.1))))
    (rest e.0 (subst (λ z. n ≤ z) p h)) can)) ∙ rest t h

pub idle_after_run : {T : Type 0} (m : Machine T) (s : State T) (n : ℕ) → IsIdle m s n → (run : List Step) → IsRun m s run
    → IsIdle m (end m s run) n
idle_after_run m s n rest [] ok = rest
idle_after_run m s n rest (e ∷ run) ok = idle_after_run m (after m s e) n (later_threads_stay_done m s n rest e ok.0) run ok.1

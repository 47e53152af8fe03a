-- The words of an object stay while a thread is inside.
use Rattle.std.proofs.Common.{◌≡◌, ◌≢◌, ℕ, suc, zero, ◌-◌, ◌<◌, ◌≤◌, List, length, refl, sym, ap, ◌∙◌, subst, arith, inl, inr, min}
use Rattle.std.specs.Prelude.{◌⊎◌, Option, Some, None}
use Rattle.std.proofs.lemmas.Bool.{cases_eq, cases_lt}
use Rattle.ir_runs.specs.Machine.{Ask, Private, Env, Enter, Try, Leave, Get, Put, Done, act_of, Machine, Object, target, acted}
use Rattle.ir_runs.specs.Lawful.{Holds, IsLawful}
use Rattle.ir_runs.specs.declared.access.Access.{Access}
use Rattle.ir_runs.specs.declared.access.Access.TheVariants.{Reading, Writing}
use Rattle.ir_thread.specs.State as thread
use Rattle.ir_runs.specs.Run.{State, Step, asked, act, after, end, count, Cut, IsCut, Consistent, part, object_at}
use Rattle.ir_runs.specs.Admitted.{further, Admitted, AtCut}
use Rattle.ir_runs.specs.Verdicts.{sum_below}
use Rattle.ir_runs.proofs.CallerLemmas.{upd_by_cases, StateInvariant, state_at_consistent_cut, progress_to_consistent, min_is_consistent}
use Rattle.ir_runs.proofs.CallerLemmas.{sum_below_less, further_at_own_thread, further_at_other_thread, state_invariant_run}
use Rattle.ir_fit.specs.Fit.{FittedTrace, IsRunOf}
use Rattle.ir_cut.specs.Positions.{machine_of, start_of, thread_at}
use Rattle.ir_cut.proofs.CallerLemmas.{missing_has_no_trail}
use Rattle.ir_weave.proofs.CallerLemmas.{guest_machine_is_lawful, guest_start_invariant}

-- ---- one step

-- a step that isn't by a writer of the object writes no word of it
no_writer_keeps_words : (q : Ask) (r u : ℕ) (b : Object) (h : ℕ → Option Access) → Holds q h → (h (target (act_of q r)) ≡ Some Writing → ⊥)
    → (acted (act_of q r) u b).words ≡ b.words
no_writer_keeps_words Private r u b h k not = refl
no_writer_keeps_words (Env kind) r u b h k not = refl
no_writer_keeps_words (Enter o a) r u b h k not = refl
no_writer_keeps_words (Try o) zero u b h k not = refl
no_writer_keeps_words (Try o) (suc zero) u b h k not = refl
no_writer_keeps_words (Try o) (suc (suc r)) u b h k not = refl
no_writer_keeps_words (Leave o Reading) r u b h k not = refl
no_writer_keeps_words (Leave o Writing) r u b h k not = refl
no_writer_keeps_words (Get o i) r u b h k not = refl
no_writer_keeps_words (Put o i w) r u b h k not = absurd (not k)
no_writer_keeps_words Done r u b h k not = refl

-- a step of another thread than one that is inside
entered_words_kept_by_other : {T : Type 0} (m : Machine T) → IsLawful m → (s : State T) → StateInvariant m s → (t o : ℕ) → ((s.objects o).inside t ≡ None → ⊥)
    → (e : Step) → e.0 ≢ t → ((after m s e).objects o).words ≡ (s.objects o).words
unfolding after
entered_words_kept_by_other m guest_machine_is_lawful s guest_start_invariant t o inside e other =
    let q = act m s e in
    upd_by_cases s.objects (target q) (acted q e.0 (s.objects (target q))) o (λ b. b.words ≡ (s.objects o).words)
    (λ same. no_writer_keeps_words (asked m s e.0) e.1 e.0 (s.objects (target q)) (m.held (s.now e.0)) (guest_machine_is_lawful.holds (s.now e.0))
    (λ writes. inside (guest_start_invariant.exclusive o e.0 t other (subst (λ p. (s.objects p).inside e.0 ≡ Some Writing) (sym same)
    (guest_start_invariant.linked e.0 (target q) ∙ writes))))
    ∙ ap (λ p. (s.objects p).words) (sym same))
    (λ ne. refl)

-- ---- from cut to cut

-- no position is lower, or some is
lower_exists_or_none : (p q : Cut) (n : ℕ) → ((w : ℕ) → w < n → q w ≤ p w) ⊎ ((w : ℕ) × (p w < q w))
lower_exists_or_none p q zero = inl (λ w l. absurd (omega (arith, l)))
lower_exists_or_none p q (suc n) = elim (lower_exists_or_none p q n) [
  | inr found ↦ inr found
  | inl none ↦ elim (cases_lt (p n) (q n)) [
    | inl less ↦ inr (n, less)
    | inr le ↦ inl (λ w l. elim (cases_eq w n) [
      | inl same ↦ subst (λ z. q z ≤ p z) (sym same) le
      | inr ne ↦ none w (omega (arith, l, ne))
    ])
  ]
]

count_past_entries : (f : FittedTrace) (run : List Step) → IsRunOf f.guest f.recorded run → (w : ℕ) → length f.guest.entries ≤ w
    → count (machine_of f) (start_of f) run w ≡ 0
count_past_entries f run of w past = ap length (missing_has_no_trail f run of w past)

-- cuts with the same positions
equal_cuts_equal_words : (f : FittedTrace) (run : List Step) → IsRunOf f.guest f.recorded run → (o : ℕ) (p q : Cut)
    → IsCut (machine_of f) (start_of f) run q → ((w : ℕ) → p w ≤ q w) → ((w : ℕ) → w < length f.guest.entries → q w ≤ p w)
    → (object_at (machine_of f) (start_of f) run q o).words ≡ (object_at (machine_of f) (start_of f) run p o).words
equal_cuts_equal_words f run of o p q cut up none =
    ap (λ (c : Cut). (object_at (machine_of f) (start_of f) run c o).words) (λ i w. all w i)
  where
    all : (w : ℕ) → q w ≡ p w
    all w = elim (cases_lt w (length f.guest.entries)) [
      | inl l ↦ let a = none w l in let b = up w in omega (arith, a, b)
      | inr past ↦ let a = count_past_entries f run of w past in let b = cut w in let c = up w in omega (arith, a, b, c)
    ]

-- a thread that has a step is one that there is
stepping_is_of_guest : (f : FittedTrace) (run : List Step) → IsRunOf f.guest f.recorded run → (p q : Cut)
    → IsCut (machine_of f) (start_of f) run q → (u : ℕ) → p u < q u → u < length f.guest.entries
stepping_is_of_guest f run of p q cut u l = elim (cases_lt u (length f.guest.entries)) [
  | inl there ↦ there
  | inr past ↦ absurd (let a = count_past_entries f run of u past in let b = cut u in omega (arith, a, b, l))
]

-- from one cut to a later one while thread t, which is inside object o, stays
held_words_kept_later : (f : FittedTrace) (run : List Step) → IsRunOf f.guest f.recorded run → (t o n : ℕ) (p q : Cut)
    → Consistent (machine_of f) (start_of f) run p → Consistent (machine_of f) (start_of f) run q → IsCut (machine_of f) (start_of f) run q
    → ((w : ℕ) → p w ≤ q w) → p t ≡ q t → ((machine_of f).held (thread_at f run t (p t)) o ≡ None → ⊥)
    → sum_below (length f.guest.entries) (λ w. q w - p w) ≤ n
    → (object_at (machine_of f) (start_of f) run q o).words ≡ (object_at (machine_of f) (start_of f) run p o).words
held_words_kept_later f run of t o zero p q cp cq cut up same held sum = elim (lower_exists_or_none p q (length f.guest.entries)) [
  | inl none ↦ equal_cuts_equal_words f run of o p q cut up none
  | inr less ↦
      let zeros = sum_below_less (length f.guest.entries) less.0 (λ w. 0) (λ w. q w - p w) (stepping_is_of_guest f run of p q cut less.0 less.1)
      (let l = less.1 in omega (arith, l)) (λ w. omega arith) in
      absurd (omega (arith, zeros, sum))
]
held_words_kept_later f run of t o (suc n) p q cp cq cut up same held sum = elim (lower_exists_or_none p q (length f.guest.entries)) [
  | inl none ↦ equal_cuts_equal_words f run of o p q cut up none
  | inr less ↦
      let m = machine_of f in
      let s = start_of f in
      let cutp : IsCut m s run p = λ w. (let a = up w in let b = cut w in omega (arith, a, b)) in
      let g = progress_to_consistent m (guest_machine_is_lawful f) s (guest_start_invariant f) run of.1.runs p q cp cq cut less.0 less.1 in
      let u : ℕ = g.thread in
      let further_below : p u < q u = g.below in
      let other : (u ≢ t) = λ e. (let l : p t < q t = subst (λ z. p z < q z) e g.below in omega (arith, l, same)) in
      let at : AtCut m s run p = state_at_consistent_cut m (guest_machine_is_lawful f) s (guest_start_invariant f) run of.1.runs p cutp cp in
      let ad : Admitted m s run p u = ((let b = cut u in omega (arith, further_below, b)), g.consistent) in
      let step = at.steps u ad in
      let here = state_invariant_run m (guest_machine_is_lawful f) s (guest_start_invariant f) (part run p) at.runs in
      let inside : ((object_at m s run p o).inside t ≡ None → ⊥) =
      λ none. held (sym (here.linked t o ∙ ap (λ x. m.held x o) (at.threads t)) ∙ none) in
      let one : (object_at m s run (further p u) o).words ≡ (object_at m s run p o).words =
      ap (λ (z : State thread.ThreadState). (z.objects o).words) (sym step.2)
      ∙ entered_words_kept_by_other m (guest_machine_is_lawful f) (end m s (part run p)) here t o inside (u, step.0) other in
      let rise : ((w : ℕ) → further p u w ≤ q w) = λ w. elim (cases_eq w u) [
        | inl e ↦ subst (λ z. further p u z ≤ q z) (sym e) (let a = further_at_own_thread p u in omega (arith, a, further_below))
        | inr ne ↦ let a = further_at_other_thread p u w ne in let b = up w in omega (arith, a, b)
      ] in
      let fewer : sum_below (length f.guest.entries) (λ w. q w - further p u w) < sum_below (length f.guest.entries) (λ w. q w - p w) =
      sum_below_less (length f.guest.entries) u (λ w. q w - further p u w) (λ w. q w - p w) (stepping_is_of_guest f run of p q cut u further_below)
      (let a = further_at_own_thread p u in omega (arith, a, further_below))
      (λ w. elim (cases_eq w u) [
        | inl e ↦ subst (λ z. q z - further p u z ≤ q z - p z) (sym e) (let a = further_at_own_thread p u in omega (arith, a))
        | inr ne ↦ let a = further_at_other_thread p u w ne in omega (arith, a)
      ]) in
      let stays : further p u t ≡ p t = further_at_other_thread p u t (λ e. other (sym e)) in
      held_words_kept_later f run of t o n (further p u) q g.consistent cq cut rise (stays ∙ same)
      (λ none. held (ap (λ k. m.held (thread_at f run t k) o) (sym stays) ∙ none)) (omega (arith, fewer, sum)) ∙ one
]

-- at each consistent cut that has thread t, which is inside object o, at one position the words of the object are the same
pub held_words_equal_at_cuts : (f : FittedTrace) (run : List Step) → IsRunOf f.guest f.recorded run → (t o : ℕ) (p q : Cut)
    → IsCut (machine_of f) (start_of f) run p → Consistent (machine_of f) (start_of f) run p
    → IsCut (machine_of f) (start_of f) run q → Consistent (machine_of f) (start_of f) run q → p t ≡ q t
    → ((machine_of f).held (thread_at f run t (p t)) o ≡ None → ⊥)
    → (object_at (machine_of f) (start_of f) run p o).words ≡ (object_at (machine_of f) (start_of f) run q o).words
held_words_equal_at_cuts f run of t o p q cutp cp cutq cq same held =
    let m = machine_of f in
    let s = start_of f in
    let low : Cut = λ w. min (p w) (q w) in
    let c = min_is_consistent m s run p q cp cq in
    let here : low t ≡ p t = omega (arith, same) in
    let held' : (m.held (thread_at f run t (low t)) o ≡ None → ⊥) =
    λ none. held (ap (λ k. m.held (thread_at f run t k) o) (sym here) ∙ none) in
    held_words_kept_later f run of t o (sum_below (length f.guest.entries) (λ w. p w - low w)) low p c cp cutp (λ w. omega arith) here held' (omega arith)
    ∙ sym (held_words_kept_later f run of t o (sum_below (length f.guest.entries) (λ w. q w - low w)) low q c cq cutq (λ w. omega arith) (here ∙ same) held' (omega arith))

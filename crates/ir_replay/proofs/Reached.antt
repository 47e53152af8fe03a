-- Where threads rest, and that all are then at their targets.
use Rattle.std.proofs.Common.{◌≡◌, ℕ, ◌+◌, ◌-◌, ◌<◌, ◌≤◌, List, length, sym, refl, subst, arith, inl, inr, ◌⊎◌}
use Rattle.std.proofs.Math.Path.{fun_ext}
use Rattle.std.proofs.lemmas.Bool.{cases_lt}
use Rattle.std.proofs.lemmas.List.{get_or_past}
use Rattle.std.specs.List.{slice_index_or}
use Rattle.ir_flat.specs.Flat.{Flat, IsFlat, idle}
use Rattle.ir_runs.specs.Run.{Step, Cut}
use Rattle.ir_fit.specs.Ahead.{steps_ahead}
use Rattle.ir_runs.specs.Admitted.{Admitted}
use Rattle.ir_fit.specs.Fit.{FittedTrace, HasRun, IsRunOf}
use Rattle.ir_cut.specs.Positions.{machine_of, start_of, cut_of, IsConsistentCut}
use Rattle.ir_runs.proofs.CallerLemmas.{Progress, progress_to_consistent}
use Rattle.ir_weave.specs.Standing.{Standing, StandsAtCut, flat_in, IsBetween, StandsAtPlace, IsStateAt, positions}
use Rattle.ir_weave.specs.Stepping.{LogsNext, IsTarget, IsUnder, HasGone, IsSameSeat, RestsAtTarget, steps_left}
use Rattle.ir_weave.proofs.CallerLemmas.{guest_machine_is_lawful, guest_start_invariant, admitted_logs_next}
use Rattle.ir_replay.specs.Rounds.{Goes}

-- a thread below its target is below its last step
pub below_has_steps_ahead : (f : FittedTrace) (target : List ℕ) (s : Flat) (t n : ℕ) → IsTarget f target → t < length target
    → n ≡ cut_of target t - positions s t → 0 < n → 0 < steps_ahead f.recorded s t
below_has_steps_ahead f target s t n aim l is some =
    let within = (aim.consistent aim.run.run aim.run.whole).0 t in
    let steps = aim.run.whole.1.steps t (subst (λ k. t < k) aim.size l) in
    omega (arith, is, some, within, steps)

-- a thread that can't log what comes next isn't admitted
pub none_logs_next_rests : (f : FittedTrace) (target : List ℕ) (s : Flat) (t : ℕ) → IsTarget f target → IsUnder f target s → t < length target
    → ((v : ℕ) → LogsNext f.recorded s t v → ⊥) → RestsAtTarget f target s t
none_logs_next_rests f target s t aim under l none = inr
    (λ run is ad. let next = admitted_logs_next f s under.state run is t (subst (λ k. t < k) aim.size l) ad in none next.0 next.1)

-- there is no thread past the last
pub below_target_in_range : (target : List ℕ) (s : Flat) (t : ℕ) → positions s t < cut_of target t → t < length target
below_target_in_range target s t less = elim (cases_lt t (length target)) [
  | inl l ↦ l
  | inr past ↦ let none : cut_of target t ≡ 0 = get_or_past target t 0 past in absurd (omega (arith, none, less))
]

-- where all threads rest, all are at their targets
pub all_rest_reaches_target : (f : FittedTrace) (target : List ℕ) (s : Flat) → IsTarget f target → IsUnder f target s
    → ((t : ℕ) → t < length target → RestsAtTarget f target s t) → (t : ℕ) → positions s t ≡ cut_of target t
all_rest_reaches_target f target s aim under rest t = elim (cases_lt (positions s t) (cut_of target t)) [
  | inr past ↦ let b = under.below t in omega (arith, b, past)
  | inl less ↦
      let run : List Step = aim.run.run in
      let is : IsRunOf f.guest f.recorded run = aim.run.whole in
      let at : StandsAtPlace f (positions s) s run = under.state.each run is in
      let goal = aim.consistent run is in
      let k : Progress (machine_of f) (start_of f) run (positions s) (cut_of target) =
      progress_to_consistent (machine_of f) (guest_machine_is_lawful f) (start_of f) (guest_start_invariant f) run is.1.runs (positions s) (cut_of target) at.consistent goal.1 goal.0 t
      less in
      let before : positions s k.thread < cut_of target k.thread = k.below in
      absurd (elim (rest k.thread (below_target_in_range target s k.thread before)) [
        | inl done ↦ omega (arith, done, before)
        | inr none ↦ none run is (let b = goal.0 k.thread in omega (arith, before, b), k.consistent)
      ])
]

-- ---- positions that are the same

pub rests_in_same_state : (f : FittedTrace) (target : List ℕ) (old new : Flat) (t : ℕ) → IsSameSeat old new → RestsAtTarget f target old t → RestsAtTarget f target new t
rests_in_same_state f target old new t same rest = subst (λ (p : Cut). (cut_of target t ≤ p t)
    ⊎ ((run : List Step) → IsRunOf f.guest f.recorded run → Admitted (machine_of f) (start_of f) run p t → ⊥)) (λ i u. sym (same u) i) rest

-- ---- before and after all steps

pub consistent_is_target : (f : FittedTrace) (target aim : List ℕ) → aim ≡ target → HasRun f → (length target ≡ length f.guest.entries)
    × IsConsistentCut f target → IsTarget f aim
consistent_is_target f target aim same run h = subst (IsTarget f) (sym same) (record { run = run; size = h.0; consistent = h.1 })

pub standing_is_under : (f : FittedTrace) (target aim : List ℕ) (state : Standing) (s : Flat) → s ≡ flat_in f state → aim ≡ target
    → StandsAtCut f (positions (flat_in f state)) state → ((t : ℕ) → positions (flat_in f state) t ≤ cut_of target t) → IsUnder f aim s
standing_is_under f target aim state s is same stands below =
    subst (λ (z : List ℕ × Flat). IsUnder f z.0 z.1) (λ i. (sym same i, sym is i)) (record { state = stands.at; below = below })

-- a state of these threads and objects
pub flat_stands_at_cut : (f : FittedTrace) (p : Cut) (s : Flat) (state : Standing) → state ≡ record { threads = s.threads; objects = s.objects }
    → IsFlat s → IsStateAt f p s → StandsAtCut f p state
flat_stands_at_cut f p s state is flat at =
    let same : s ≡ flat_in f (record { threads = s.threads; objects = s.objects }) =
    λ i. record { code = at.code i; threads = s.threads; objects = s.objects } in
    subst (StandsAtCut f p) (sym is) (record { flat = subst IsFlat same flat; at = subst (IsStateAt f p) same at })

pub reached_stands_at : (f : FittedTrace) (target aim : List ℕ) (s : Flat) (state : Standing) → aim ≡ target → IsUnder f aim s
    → ((t : ℕ) → positions s t ≡ cut_of aim t) → state ≡ record { threads = s.threads; objects = s.objects } → IsFlat s
    → StandsAtCut f (cut_of target) state
reached_stands_at f target aim s state same under reached is flat =
    flat_stands_at_cut f (cut_of target) s state is flat
    (subst (λ z. IsStateAt f (cut_of z) s) same (subst (λ p. IsStateAt f p s) (λ i t. reached t i) under.state))

-- the state after steps from another
pub standing_is_between : (f : FittedTrace) (target aim : List ℕ) (old state : Standing) (first s : Flat) → first ≡ flat_in f old → aim ≡ target
    → IsUnder f aim s → ((t : ℕ) → positions first t ≤ positions s t) → state ≡ record { threads = s.threads; objects = s.objects }
    → IsFlat s → IsBetween f target old state
standing_is_between f target aim old state first s was same under above is flat =
    subst (IsBetween f target old) (sym is) (record {
      stands = flat_stands_at_cut f (positions s) s (record { threads = s.threads; objects = s.objects }) refl flat under.state;
      above = λ t. subst (λ z. positions z t ≤ positions s t) was (above t);
      below = λ t. subst (λ z. positions s t ≤ cut_of z t) same (under.below t);
    })

pub standing_goes_on : (f : FittedTrace) (target aim : List ℕ) (old state : Standing) (first s : Flat) → first ≡ flat_in f old → aim ≡ target
    → ((t : ℕ) → positions first t < cut_of aim t → steps_left aim s < steps_left aim first)
    → state ≡ record { threads = s.threads; objects = s.objects } → Goes f target old state
standing_goes_on f target aim old state first s was same h is =
    subst (Goes f target old) (sym is) (subst (λ (z : List ℕ × Flat). (t : ℕ) → positions z.1 t < cut_of z.0 t
    → steps_left z.0 s < steps_left z.0 z.1) (λ i. (same i, was i)) h)

-- a state between whose threads are all at the target
pub between_stands_reached : (f : FittedTrace) (target : List ℕ) (old s : Standing) → IsBetween f target old s → length target ≡ length f.guest.entries
    → ((t : ℕ) → t < length s.threads → cut_of target t ≤ (slice_index_or s.threads t idle).steps) → StandsAtCut f (cut_of target) s
between_stands_reached f target old s b size there =
    subst (λ (p : Cut). StandsAtCut f p s) (fun_ext (λ t. elim (cases_lt t (length s.threads)) [
      | inl l ↦ let up = there t l in let below = b.below t in omega (arith, up, below)
      | inr past ↦ let none : cut_of target t ≡ 0 = get_or_past target t 0 (let e = b.stands.at.threads in omega (arith, past, e, size)) in
          let below = b.below t in omega (arith, none, below)
    ])) b.stands

-- ---- one thread that has gone on alone

pub under_stands_at_own : (f : FittedTrace) (aim : List ℕ) (s : Flat) (state : Standing) → IsUnder f aim s
    → state ≡ record { threads = s.threads; objects = s.objects } → IsFlat s → StandsAtCut f (positions (flat_in f state)) state
under_stands_at_own f aim s state under is flat =
    subst (λ (z : Standing). StandsAtCut f (positions (flat_in f z)) z) (sym is)
    (flat_stands_at_cut f (positions s) s (record { threads = s.threads; objects = s.objects }) refl flat under.state)

pub under_not_past_target : (f : FittedTrace) (target aim : List ℕ) (s : Flat) (state : Standing) → aim ≡ target → IsUnder f aim s
    → state ≡ record { threads = s.threads; objects = s.objects } → (u : ℕ) → positions (flat_in f state) u ≤ cut_of target u
under_not_past_target f target aim s state same under is u =
    subst (λ (z : List ℕ × Standing). positions (flat_in f z.1) u ≤ cut_of z.0 u) (λ i. (same i, sym is i)) (under.below u)

pub standing_has_gone : (f : FittedTrace) (old state : Standing) (first s : Flat) (t n : ℕ) → first ≡ flat_in f old → HasGone first s t n
    → state ≡ record { threads = s.threads; objects = s.objects } → HasGone (flat_in f old) (flat_in f state) t n
standing_has_gone f old state first s t n was gone is = record {
  own = subst (λ (z : Standing × Flat). positions (flat_in f z.0) t ≡ positions z.1 t + n) (λ i. (sym is i, was i)) gone.own;
  others = λ u ne. subst (λ (z : Standing × Flat). positions (flat_in f z.0) u ≡ positions z.1 u) (λ i. (sym is i, was i))
      (gone.others u ne);
}

pub standing_rests : (f : FittedTrace) (target aim : List ℕ) (state : Standing) (s : Flat) (t : ℕ) → aim ≡ target → RestsAtTarget f aim s t
    → state ≡ record { threads = s.threads; objects = s.objects } → RestsAtTarget f target (flat_in f state) t
standing_rests f target aim state s t same rest is =
    subst (λ (z : List ℕ × Standing). (cut_of z.0 t ≤ positions (flat_in f z.1) t)
    ⊎ ((run : List Step) → IsRunOf f.guest f.recorded run
    → Admitted (machine_of f) (start_of f) run (positions (flat_in f z.1)) t → ⊥)) (λ i. (same i, sym is i)) rest

-- What a round leaves: the state where its threads are, and that one of them has advanced.
use Rattle.std.proofs.Common.{◌≡◌, ℕ, suc, zero, ◌<◌, ◌≤◌, ◌⊎◌, List, length, refl, sym, ap, ◌∙◌, subst, arith, inl, inr}
use Rattle.std.proofs.lemmas.Bool.{cases_lt, cases_eq}
use Rattle.std.proofs.lemmas.List.{get_or_past, ext_get_or}
use Rattle.std.specs.List.{slice_index_or}
use Rattle.ir_thread.specs.State as thread
use Rattle.ir_object.specs.Cell.{Cell}
use Rattle.ir_flat.specs.Flat.{Flat, IsFlat, idle, thread_of}
use Rattle.ir_runs.specs.Run.{Step}
use Rattle.ir_fit.specs.Fit.{FittedTrace, HasRun, IsRunOf}
use Rattle.ir_cut.specs.Positions.{machine_of, start_of, cut_of, IsConsistentCut, thread_at}
use Rattle.ir_runs.proofs.CallerLemmas.{Progress, progress_to_consistent, admitted_persists}
use Rattle.ir_weave.specs.Ahead.{IsAhead, AreAlone}
use Rattle.ir_weave.specs.Standing.{StandsAtCut, flat_in, IsStateAt, positions}
use Rattle.ir_weave.specs.Woven.{trace_in, opened_in, opened_at, WasStopped}
use Rattle.ir_weave.specs.declared.plan.Plan.{Plan}
use Rattle.ir_weave.proofs.CallerLemmas.{guest_machine_is_lawful, guest_start_invariant, CaughtUp, catches_up_alone}

-- ---- threads that are ahead of the table's views by steps of their own

-- the first m threads have caught up with these
pub record HasCaughtUp (f : FittedTrace) (s : Flat) (xs : List thread.ThreadState) (m : ℕ) : Type 0 where
  pub state : Flat
  pub flat : IsFlat state
  pub at : IsStateAt f (positions state) state
  pub objects : state.objects ≡ s.objects
  pub size : length state.threads ≡ length s.threads
  pub own : (t : ℕ) → t < m → thread_of state t ≡ slice_index_or xs t idle
  pub others : (t : ℕ) → m ≤ t → positions state t ≡ positions s t

-- threads at the same position are the same
same_position_equal : (f : FittedTrace) (a b : Flat) (t : ℕ) → HasRun f → IsStateAt f (positions a) a → IsStateAt f (positions b) b
    → positions a t ≡ positions b t → thread_of a t ≡ thread_of b t
same_position_equal f a b t h at bt same = (at.each h.run h.whole).threads t ∙ ap (thread_at f h.run t) same
    ∙ sym ((bt.each h.run h.whole).threads t)

pub caught_up_with_threads : (m : ℕ) (f : FittedTrace) (s : Flat) (xs : List thread.ThreadState) → HasRun f → IsFlat s → IsStateAt f (positions s) s
    → m ≤ length s.threads → ((t : ℕ) → t < length s.threads → IsAhead f t (positions s t) (slice_index_or xs t idle)) → HasCaughtUp f s xs m
caught_up_with_threads zero f s xs h flat at few ahead = record {
  state = s;
  flat = flat;
  at = at;
  objects = refl;
  size = refl;
  own = λ t l. absurd (omega (arith, l));
  others = λ t l. refl;
}
caught_up_with_threads (suc m) f s xs h flat at few ahead =
    let g : HasCaughtUp f s xs m = caught_up_with_threads m f s xs h flat at (omega (arith, few)) ahead in
    let x : thread.ThreadState = slice_index_or xs m idle in
    let a : IsAhead f m (positions s m) x = ahead m (omega (arith, few)) in
    let here : positions g.state m ≡ positions s m = g.others m (omega arith) in
    let size = g.size in
    let c : CaughtUp f g.state m x = catches_up_alone f g.state m x h g.flat g.at (omega (arith, few, size)) a.at
    (subst (λ i. AreAlone f m i x.steps) (sym here) a.alone) (subst (λ i. i ≤ x.steps) (sym here) a.past) in
    record {
      state = c.state;
      flat = c.flat;
      at = c.at;
      objects = c.objects ∙ g.objects;
      size = c.size ∙ g.size;
      own = λ t l. elim (cases_eq t m) [
        | inl same ↦ subst (λ z. thread_of c.state z ≡ slice_index_or xs z idle) (sym same) c.own
        | inr ne ↦ same_position_equal f c.state g.state t h c.at g.at (c.others t ne) ∙ g.own t (omega (arith, l, ne))
      ];
      others = λ t l. c.others t (λ e. omega (arith, e, l)) ∙ g.others t (omega (arith, l));
    }

-- the state of these threads and of the objects at the end of the table
pub ahead_stands_at_own : (f : FittedTrace) (s : Flat) (xs : List thread.ThreadState) (cells : List Cell) → HasRun f → IsFlat s
    → IsStateAt f (positions s) s → ((t : ℕ) → t < length s.threads → IsAhead f t (positions s t) (slice_index_or xs t idle))
    → length xs ≡ length s.threads → cells ≡ s.objects
    → StandsAtCut f (positions (flat_in f (record { threads = xs; objects = cells }))) (record { threads = xs; objects = cells })
ahead_stands_at_own f s xs cells h flat at ahead size objects =
    let g : HasCaughtUp f s xs (length s.threads) =
    caught_up_with_threads (length s.threads) f s xs h flat at (let e : length s.threads ≤ length s.threads = omega arith in e) ahead in
    let threads : g.state.threads ≡ xs = ext_get_or idle g.state.threads xs (g.size ∙ sym size)
    (λ t l. g.own t (let e = g.size in omega (arith, l, e))) in
    let same : g.state ≡ flat_in f (record { threads = xs; objects = cells }) =
    λ i. record { code = g.at.code i; threads = threads i; objects = (g.objects ∙ sym objects) i } in
    record { flat = subst IsFlat same g.flat; at = subst (λ z. IsStateAt f (positions z) z) same g.at }

-- ---- a round in which no thread moves

-- if no thread has advanced and each rests, all are at their targets
pub all_there_reaches_target : (k : Plan) (target : List ℕ) → HasRun (trace_in k) → IsStateAt (trace_in k) (opened_at k) (opened_in k)
    → length target ≡ length (trace_in k).guest.entries → IsConsistentCut (trace_in k) target → ((t : ℕ) → opened_at k t ≤ cut_of target t)
    → ((t : ℕ) → t < length target → (opened_at k t ≡ cut_of target t) ⊎ WasStopped k t (opened_at k t)) → (t : ℕ)
    → opened_at k t ≡ cut_of target t
all_there_reaches_target k target h at size consistent below rests t = elim (cases_lt (opened_at k t) (cut_of target t)) [
  | inr past ↦ let b = below t in omega (arith, b, past)
  | inl less ↦
      let f : FittedTrace = trace_in k in
      let run : List Step = h.run in
      let of : IsRunOf f.guest f.recorded run = h.whole in
      let goal = consistent run of in
      let p : Progress (machine_of f) (start_of f) run (opened_at k) (cut_of target) =
      progress_to_consistent (machine_of f) (guest_machine_is_lawful f) (start_of f) (guest_start_invariant f) run of.1.runs (opened_at k) (cut_of target) (at.each run of).consistent
      goal.1 goal.0 t less in
      let before : opened_at k p.thread < cut_of target p.thread = p.below in
      let inside : p.thread < length target = elim (cases_lt p.thread (length target)) [
        | inl l ↦ l
        | inr past ↦ let none : cut_of target p.thread ≡ 0 = get_or_past target p.thread 0 past in absurd (omega (arith, none, before))
      ] in
      absurd (elim (rests p.thread inside) [
        | inl done ↦ omega (arith, done, before)
        | inr w ↦ w.stopped run of (admitted_persists (machine_of f) (start_of f) run (opened_at k) w.cut p.thread
            (let b = goal.0 p.thread in omega (arith, before, b), p.consistent) (w.consistent run of) w.above w.here)
      ])
]

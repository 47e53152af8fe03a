-- What a round makes of the threads at their seats, and of the guest.
use Rattle.std.proofs.Common.{◌≡◌, ℕ, suc, zero, ◌-◌, ◌<◌, ◌≤◌, ◌⊎◌, List, [], ◌∷◌, ◌++◌, length, refl, sym, ap, ◌∙◌, subst, arith, inl, inr, append-nil}
use Rattle.std.proofs.lemmas.Bool.{cases_lt, cases_eq}
use Rattle.std.proofs.lemmas.List.{get_or_past}
use Rattle.std.specs.List.{AllByRecursion, slice_index_or, AllZip}
use Rattle.atomic_table.specs.Seated.{TableId}
use Rattle.atomic_table.specs.declared.shared.Seat.{Seat}
use Rattle.ir_thread.specs.State as thread
use Rattle.ir_object.specs.Cell.{Cell}
use Rattle.ir_flat.specs.Flat.{Flat, idle}
use Rattle.ir_runs.specs.Run.{Cut}
use Rattle.ir_fit.specs.Fit.{FittedTrace, HasRun}
use Rattle.ir_runs.proofs.CallerLemmas.{sum_below_less}
use Rattle.ir_cut.specs.Positions.{cut_of, IsConsistentCut}
use Rattle.ir_weave.specs.Ahead.{IsAhead}
use Rattle.ir_weave.specs.Standing.{Standing, StandsAtCut, flat_in, IsBetween, positions}
use Rattle.ir_weave.specs.Woven.{View, M, trace_in, opened_in, opened_at, AreSeats, IsSeated, WasStopped, IsClosedTable, AreAt}
use Rattle.ir_weave.specs.declared.plan.Plan.{Plan}
use Rattle.ir_replay.specs.Rounds.{Goes, backwards, round_threads, seats_of, views_of, IsOfTable}
use Rattle.ir_replay.specs.Workers.{IsWorkerReady, HasWorked}
use Rattle.ir_replay.specs.declared.worker.Worker.{Worker}
use Rattle.ir_replay.proofs.Down.{AllByNumber, all_by_number_implied, all_by_number_of_both, all_from_by_number, by_number_exists}
use Rattle.ir_replay.proofs.Down.{by_number_related, length-threads_backward, worker_has_own_thread, worker_has_own_seat, IsSeatAtOpening}
use Rattle.ir_replay.proofs.Gathered.{ahead_stands_at_own, all_there_reaches_target}
use Rattle.ir_weave.proofs.CallerLemmas.{state_ahead_at_position}

-- the guest at a cut below the target
pub record StandsBelowTarget (f : FittedTrace) (target : List ℕ) (s : Standing) : Type 0 where
  pub run : HasRun f
  pub stands : StandsAtCut f (positions (flat_in f s)) s
  pub size : length target ≡ length f.guest.entries
  pub consistent : IsConsistentCut f target
  pub below : (t : ℕ) → positions (flat_in f s) t ≤ cut_of target t

pub stands_below_target : (k : Plan) (f : FittedTrace) (target : List ℕ) (s : Standing) → trace_in k ≡ f → k.opened.value ≡ s → StandsBelowTarget f target s
    → StandsBelowTarget (trace_in k) target k.opened.value
stands_below_target k f target s for is h = subst (λ (z : FittedTrace × Standing). StandsBelowTarget z.0 target z.1) (λ i. (sym for i, sym is i)) h

-- ---- before the workers go on

-- thread t as the table is opened
pub record IsAssigned (id : TableId) (k : Plan) (target : List ℕ) (t : ℕ) (w : Worker) : Type 0 where
  pub ready : IsWorkerReady id k target w
  pub number : w.thread.number ≡ t
  pub steps : w.thread.steps ≡ opened_at k t

worker_is_assigned : (id : TableId) (k : Plan) (target : List ℕ) (t : ℕ) (w : Worker) → StandsBelowTarget (trace_in k) target k.opened.value
    → t < length k.opened.value.threads → IsSeatAtOpening id k t w.seat → w.thread ≡ slice_index_or k.opened.value.threads t idle
    → IsAssigned id k target t w
worker_is_assigned id k target t w h there first same =
    let ahead : IsAhead (trace_in k) t (opened_at k t) w.thread =
    subst (IsAhead (trace_in k) t (opened_at k t)) (sym same)
    (state_ahead_at_position (trace_in k) (opened_in k) t h.run h.stands.flat h.stands.at there) in
    let steps : w.thread.steps ≡ opened_at k t = ap (λ (x : thread.ThreadState). x.steps) same in
    record {
      ready = record {
        table = first.0;
        slots = ap (λ (z : M). z.1) first.1;
        seated = subst (λ (v : View). IsSeated k v w.thread) (sym (ap (λ (z : M). z.0) first.1)) (refl, ahead);
        below = subst (λ n. w.thread.steps ≤ cut_of target n) (sym ahead.number) (let b = h.below t in omega (arith, steps, b));
      };
      number = ahead.number;
      steps = steps;
    }

pub workers_are_assigned : (id : TableId) (k : Plan) (target : List ℕ) (ws : List Worker) (seats : List (Seat (Unit {0}) View))
    → StandsBelowTarget (trace_in k) target k.opened.value → AreSeats id k 0 seats → backwards (seats_of ws) ≡ seats
    → backwards (round_threads ws) ≡ k.opened.value.threads → AllByNumber (IsAssigned id k target) ws
workers_are_assigned id k target ws seats h are of_seats of_threads =
    let size : length ws ≡ length k.opened.value.threads = sym (length-threads_backward ws) ∙ ap (λ z. length z) of_threads in
    all_by_number_implied (λ t w. IsSeatAtOpening id k t w.seat × (w.thread ≡ slice_index_or k.opened.value.threads t idle)) (IsAssigned id k target) ws
    (λ t w l x. worker_is_assigned id k target t w h (omega (arith, l, size)) x.0 x.1)
    (all_by_number_of_both (λ t w. IsSeatAtOpening id k t w.seat) (λ t w. w.thread ≡ slice_index_or k.opened.value.threads t idle) ws
    (worker_has_own_seat id k ws [] (subst (AreSeats id k 0) (sym (append-nil (backwards (seats_of ws)) ∙ of_seats)) are))
    (worker_has_own_thread ws [] k.opened.value.threads (append-nil (backwards (round_threads ws)) ∙ of_threads)))

pub assigned_are_ready : (id : TableId) (k : Plan) (target : List ℕ) (ws : List Worker) → AllByNumber (IsAssigned id k target) ws
    → AllByRecursion (IsWorkerReady id k target) ws
assigned_are_ready id k target ws h = all_from_by_number (IsAssigned id k target) (IsWorkerReady id k target) ws (λ t w l m. m.ready) h

-- ---- and after that

-- thread t has gone on as far as it could
pub record IsAfterRound (id : TableId) (k : Plan) (target : List ℕ) (t : ℕ) (w : Worker) : Type 0 where
  pub ready : IsWorkerReady id k target w
  pub number : w.thread.number ≡ t
  pub up : opened_at k t ≤ w.thread.steps
  pub rests : (w.thread.steps ≡ cut_of target t) ⊎ WasStopped k t w.thread.steps

worker_is_after_round : (id : TableId) (k : Plan) (target : List ℕ) (t : ℕ) (v w : Worker) → IsAssigned id k target t v → HasWorked id k target v w
    → IsAfterRound id k target t w
worker_is_after_round id k target t v w m h = record {
  ready = h.ready;
  number = h.number ∙ m.number;
  up = let a = m.steps in let b = h.up in omega (arith, a, b);
  rests = subst (λ n. (w.thread.steps ≡ cut_of target n) ⊎ WasStopped k n w.thread.steps) (h.number ∙ m.number) h.rests;
}

pub workers_are_after_round : (id : TableId) (k : Plan) (target : List ℕ) (vs ws : List Worker) → AllByNumber (IsAssigned id k target) vs
    → AllZip (HasWorked id k target) vs ws → AllByNumber (IsAfterRound id k target) ws
workers_are_after_round id k target vs ws h p = all_by_number_implied (λ t w. (v : Worker) × IsAssigned id k target t v × HasWorked id k target v w)
    (IsAfterRound id k target) ws (λ t w l x. worker_is_after_round id k target t x.0 w x.1 x.2)
    (by_number_related (IsAssigned id k target) (HasWorked id k target) vs ws h p)

pub workers_are_of_table : (id : TableId) (k : Plan) (target : List ℕ) (ws : List Worker) → AllByNumber (IsAfterRound id k target) ws
    → AllByRecursion (IsOfTable id) ws
workers_are_of_table id k target ws h = all_from_by_number (IsAfterRound id k target) (IsOfTable id) ws
    (λ t w l p. record { table = p.ready.table; slots = p.ready.slots }) h

-- ---- where the threads are

parts_are_at_cut : (p : Cut) (v w : View) → AreAt p (v ++ w) → AreAt p v × AreAt p w
parts_are_at_cut p [] w h = (tt, h)
parts_are_at_cut p (q ∷ v) w h = let r = parts_are_at_cut p v w h.1 in ((h.0, r.0), r.1)

worker_views_at_cut : (p : Cut) (ws : List Worker) → AreAt p (views_of ws) → AllByNumber (λ t w. AreAt p w.seat.me.0) ws
worker_views_at_cut p [] h = tt
worker_views_at_cut p (w ∷ ws) h = let r = parts_are_at_cut p (views_of ws) w.seat.me.0 h in (r.1, worker_views_at_cut p ws r.0)

seated_thread_is_ahead : (k : Plan) (p : Cut) (v : View) (x : thread.ThreadState) (t : ℕ) → IsSeated k v x → AreAt p v → x.number ≡ t
    → IsAhead (trace_in k) t (p t) x
seated_thread_is_ahead k p [] x t seated at e = absurd seated
seated_thread_is_ahead k p (q ∷ r ∷ qs) x t seated at e = absurd seated
seated_thread_is_ahead k p (q ∷ []) x t seated at e =
    let same : q.thread ≡ t = sym seated.1.number ∙ e in
    let here : q.position ≡ p t = sym at.0 ∙ ap p same in
    subst (λ (z : Plan × (ℕ × ℕ)). IsAhead (trace_in z.0) z.1.0 z.1.1 x) (λ i. (seated.0 i, (same i, here i))) seated.1

-- thread t after the round
record IsThreadAfterRound (k : Plan) (target : List ℕ) (p : Cut) (t : ℕ) (x : thread.ThreadState) : Type 0 where
  ahead : IsAhead (trace_in k) t (p t) x
  up : opened_at k t ≤ x.steps
  below : x.steps ≤ cut_of target t
  rests : (x.steps ≡ cut_of target t) ⊎ WasStopped k t x.steps

worker_after_round : (id : TableId) (k : Plan) (target : List ℕ) (p : Cut) (t : ℕ) (w : Worker) → IsAfterRound id k target t w → AreAt p w.seat.me.0
    → IsThreadAfterRound k target p t w.thread
worker_after_round id k target p t w h at = record {
  ahead = seated_thread_is_ahead k p w.seat.me.0 w.thread t h.ready.seated at h.number;
  up = h.up;
  below = subst (λ n. w.thread.steps ≤ cut_of target n) h.number h.ready.below;
  rests = h.rests;
}

thread_after_round : (id : TableId) (k : Plan) (target : List ℕ) (p : Cut) (ws : List Worker) → AllByNumber (IsAfterRound id k target) ws
    → AreAt p (views_of ws) → (t : ℕ) → t < length ws → IsThreadAfterRound k target p t (slice_index_or (backwards (round_threads ws)) t idle)
thread_after_round id k target p ws h at t l =
    let xs : List thread.ThreadState = backwards (round_threads ws) in
    let all : AllByNumber (λ n w. IsThreadAfterRound k target p n (slice_index_or xs n idle)) ws =
    all_by_number_implied (λ n w. (IsAfterRound id k target n w × AreAt p w.seat.me.0) × (w.thread ≡ slice_index_or xs n idle))
    (λ n w. IsThreadAfterRound k target p n (slice_index_or xs n idle)) ws
    (λ n w less x. subst (IsThreadAfterRound k target p n) x.1 (worker_after_round id k target p n w x.0.0 x.0.1))
    (all_by_number_of_both (λ n w. IsAfterRound id k target n w × AreAt p w.seat.me.0) (λ n w. w.thread ≡ slice_index_or xs n idle) ws
    (all_by_number_of_both (IsAfterRound id k target) (λ n w. AreAt p w.seat.me.0) ws h (worker_views_at_cut p ws at))
    (worker_has_own_thread ws [] xs (append-nil xs))) in
    (by_number_exists (λ n w. IsThreadAfterRound k target p n (slice_index_or xs n idle)) ws all t l).1

missing_has_zero_steps : (xs : List thread.ThreadState) (t : ℕ) → length xs ≤ t → (slice_index_or xs t idle).steps ≡ 0
missing_has_zero_steps xs t l = ap (λ (x : thread.ThreadState). x.steps) (get_or_past xs t idle l)

-- ---- the guest after the round

abbrev standing_after_round : List Worker → List Cell → Standing
standing_after_round ws cells = record { threads = backwards (round_threads ws); objects = cells }

round_is_between : (id : TableId) (k : Plan) (target : List ℕ) (ws : List Worker) (cells : List Cell) → StandsBelowTarget (trace_in k) target k.opened.value
    → length ws ≡ length k.opened.value.threads → AllByNumber (IsAfterRound id k target) ws → IsClosedTable k (views_of ws) cells
    → IsBetween (trace_in k) target k.opened.value (standing_after_round ws cells)
round_is_between id k target ws cells h size p c =
    let xs : List thread.ThreadState = backwards (round_threads ws) in
    let back : length xs ≡ length ws = length-threads_backward ws in
    let there = h.stands.at.threads in
    let closed = c.at.threads in
    let left : (t : ℕ) → t < length ws → IsThreadAfterRound k target (positions c.state) t (slice_index_or xs t idle) =
    thread_after_round id k target (positions c.state) ws p c.view in
    record {
      stands = ahead_stands_at_own (trace_in k) c.state xs cells h.run c.flat c.at (λ t l. (left t (omega (arith, l, size, there, closed))).ahead)
          (omega (arith, back, size, there, closed)) c.objects;
      above = λ t. elim (cases_lt t (length ws)) [
        | inl l ↦ (left t l).up
        | inr past ↦ let none = missing_has_zero_steps k.opened.value.threads t (omega (arith, past, size)) in omega (arith, none)
      ];
      below = λ t. elim (cases_lt t (length ws)) [
        | inl l ↦ (left t l).below
        | inr past ↦ let none = missing_has_zero_steps xs t (omega (arith, past, back)) in omega (arith, none)
      ];
    }

-- whether any has moved
equal_or_some_increase : (n : ℕ) (a b : ℕ → ℕ) → ((t : ℕ) → a t ≤ b t) → ((t : ℕ) → t < n → a t ≡ b t) ⊎ ((t : ℕ) × (t < n) × (a t < b t))
equal_or_some_increase zero a b up = inl (λ t l. absurd (omega (arith, l)))
equal_or_some_increase (suc n) a b up = elim (cases_lt (a n) (b n)) [
  | inl less ↦ inr (n, omega arith, less)
  | inr not ↦ elim (equal_or_some_increase n a b up) [
    | inr some ↦ inr (some.0, (let l = some.1 in omega (arith, l)), some.2)
    | inl same ↦ inl (λ t l. elim (cases_eq t n) [
      | inl e ↦ subst (λ z. a z ≡ b z) (sym e) (let u = up n in omega (arith, not, u))
      | inr ne ↦ same t (omega (arith, l, ne))
    ])
  ]
]

round_goes_on : (id : TableId) (k : Plan) (target : List ℕ) (ws : List Worker) (cells : List Cell) → StandsBelowTarget (trace_in k) target k.opened.value
    → length ws ≡ length k.opened.value.threads → AllByNumber (IsAfterRound id k target) ws → IsClosedTable k (views_of ws) cells
    → IsBetween (trace_in k) target k.opened.value (standing_after_round ws cells) → Goes (trace_in k) target k.opened.value (standing_after_round ws cells)
round_goes_on id k target ws cells h size p c b t less =
    let new : Flat = flat_in (trace_in k) (standing_after_round ws cells) in
    let there = h.stands.at.threads in
    let whole = h.size in
    elim (equal_or_some_increase (length target) (opened_at k) (positions new) b.above) [
      | inr some ↦ sum_below_less (length target) some.0 (λ u. cut_of target u - positions new u) (λ u. cut_of target u - opened_at k u) some.1
          (let up = some.2 in let below = b.below some.0 in omega (arith, up, below)) (λ u. let up = b.above u in omega (arith, up))
      | inl same ↦
          let rests : (u : ℕ) → u < length target → (opened_at k u ≡ cut_of target u) ⊎ WasStopped k u (opened_at k u) =
          λ u l. subst (λ n. (n ≡ cut_of target u) ⊎ WasStopped k u n) (sym (same u l))
          (thread_after_round id k target (positions c.state) ws p c.view u (omega (arith, l, size, there, whole))).rests in
          let at = all_there_reaches_target k target h.run h.stands.at h.size h.consistent h.below rests t in
          absurd (omega (arith, at, less))
    ]

pub round_is_between_and_goes : (id : TableId) (k : Plan) (f : FittedTrace) (target : List ℕ) (s new : Standing) (ws : List Worker) (cells : List Cell)
    → trace_in k ≡ f → k.opened.value ≡ s → StandsBelowTarget f target s → length ws ≡ length s.threads → AllByNumber (IsAfterRound id k target) ws
    → IsClosedTable k (views_of ws) cells → new ≡ record { threads = backwards (round_threads ws); objects = cells }
    → IsBetween f target s new × Goes f target s new
round_is_between_and_goes id k f target s new ws cells for is h size p c e =
    let start : StandsBelowTarget (trace_in k) target k.opened.value = stands_below_target k f target s for is h in
    let long : length ws ≡ length k.opened.value.threads = size ∙ ap (λ (z : Standing). length z.threads) (sym is) in
    let b : IsBetween (trace_in k) target k.opened.value (standing_after_round ws cells) = round_is_between id k target ws cells start long p c in
    subst (λ (z : FittedTrace × Standing). IsBetween z.0 target z.1 new × Goes z.0 target z.1 new) (λ i. (for i, is i))
    (subst (λ z. IsBetween (trace_in k) target k.opened.value z × Goes (trace_in k) target k.opened.value z) (sym e)
    (b, round_goes_on id k target ws cells start long p c b))

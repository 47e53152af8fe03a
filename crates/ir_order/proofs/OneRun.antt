-- There is one run by an order.
use Rattle.std.proofs.Common.{◌≡◌, ℕ, zero, suc, ◌+◌, ◌-◌, ◌<◌, ◌≤◌, Bool, true, List, [], ◌∷◌, ◌++◌, length, sym, ap, ◌∙◌, subst, arith, inl, inr, append_assoc}
use Rattle.std.specs.List.{range_with_len}
use Rattle.std.proofs.lemmas.Bool.{cases_lt}
use Rattle.ir_runs.specs.Machine.{Act, act_of, Machine, upd, target, Admits}
use Rattle.ir_runs.specs.Run.{State, Step, asked, act, after, end, log, IsDone, rounds}
use Rattle.ir_runs.specs.Orders.{InTurn, IsByOrder}
use Rattle.ir_runs.specs.Bounds.{IsIdle}
use Rattle.ir_image.specs.Guest.{Guest}
use Rattle.ir_runs.proofs.CallerLemmas.{idle_stays_idle}
use Rattle.ir_flat.specs.Flat.{start_flat, tables, machine}
use Rattle.ir_flat.proofs.CallerLemmas.{guest_start_is_idle}
use Rattle.ir_thread.specs.declared.profile.Profile.{Profile}
use Rattle.ir_record.specs.Refusing.{Turn, plain_turns, InTurns, IsByTurns}
use Rattle.ir_record.specs.Worlds.{answers_in}
use Rattle.ir_record.proofs.CallerLemmas.{plain_turns_of_append, plain_turns_from_order, order_from_plain_turns}
use Rattle.ir_world.specs.Sources.{MadeWith, Source, source, from_sources, Gave}
use Rattle.ir_order.specs.OneRun.{AreSameRuns, AreAnswered, IsAnsweredByOrder, IsAnsweredByTurns, OneRunByAnOrder, OneRunByTurns, PlainTurnsAreOrders}
use Rattle.ir_order.proofs.Given.{source_left_by, AreGiven, first_takes_next_answer, rest_is_given, trying_enters_if_it_can, source_act_unique}
use Rattle.ir_order.proofs.Alike.{Alike, acted_by, alike_if_equal, alike_step, same_runs_if_alike}

-- where all threads are done, no turns have a step
done_run_is_empty : {T : Type 0} (m : Machine T) (s : State T) (turns : List Turn) (run : List Step) → IsDone m s → InTurns m s turns run → run ≡ []
done_run_is_empty m s [] run done h = h
done_run_is_empty m s ((t, refused) ∷ turns) run done (inl none) = done_run_is_empty m s turns run done none.1
done_run_is_empty m s ((t, refused) ∷ turns) run done (inr some) =
    absurd (subst (λ q. Admits m (act_of q some.0) (s.objects (target (act_of q some.0)))) (done t) some.3)

-- what two turns of one thread leave to the turns after them
rest_after_equal_act : {T : Type 0} (m : Machine T) (s : State T) (n : ℕ) (sources : ℕ → Source) (t r w : ℕ) (turns : List Turn) (run : List Step)
    → act m s (t, r) ≡ act m s (t, w) → InTurns m (after m s (t, w)) turns run
    → AreGiven m s n sources ((t, w) ∷ run)
    → InTurns m (after m s (t, r)) turns run
    × AreGiven m (after m s (t, r)) n (upd sources t (source_left_by (act m s (t, r)) (sources t))) run
unfolding after
rest_after_equal_act m s n sources t r w turns run p rest gives = (
  subst (λ (q : Act). InTurns m (acted_by m s t q) turns run) (sym p) rest,
  subst (λ (q : Act). AreGiven m (acted_by m s t q) n (upd sources t (source_left_by q (sources t))) run) (sym p)
      (rest_is_given m s n sources (t, w) run gives),
)

-- where a run by turns ends with all threads done, each run by these turns and more is the same
extended_turns_alike : {T : Type 0} (m : Machine T) (n : ℕ) (more : List Turn) (turns : List Turn) (s : State T) (sources : ℕ → Source) (a b : List Step) → IsIdle m s n
    → InTurns m s turns a → IsDone m (end m s a) → InTurns m s (turns ++ more) b → AreGiven m s n sources a → AreGiven m s n sources b
    → Alike m s a b
unfolding after
extended_turns_alike m n more [] s sources a b idle in_turns done in_turns' gives gives' = alike_if_equal m s a b
    (in_turns ∙ sym (done_run_is_empty m s more b (subst (λ z. IsDone m (end m s z)) in_turns done) in_turns'))
extended_turns_alike m n more ((t, refused) ∷ turns) s sources a b idle (inl none) done (inl none') gives gives' =
    extended_turns_alike m n more turns s sources a b idle none.1 done none'.1 gives gives'
extended_turns_alike m n more ((t, refused) ∷ turns) s sources a b idle (inl none) done (inr some') gives gives' = absurd (none.0 some'.0 some'.3)
extended_turns_alike m n more ((t, refused) ∷ turns) s sources a b idle (inr some) done (inl none') gives gives' = absurd (none'.0 some.0 some.3)
extended_turns_alike m n more ((t, refused) ∷ turns) s sources a b idle (inr some) done (inr some') gives gives' =
    let r : ℕ = some.0 in
    let w : ℕ = some'.0 in
    let below = idle_stays_idle m s n idle (t, r) some.3 in
    let given_a : AreGiven m s n sources ((t, r) ∷ some.1) = subst (AreGiven m s n sources) some.2 gives in
    let given_b : AreGiven m s n sources ((t, w) ∷ some'.1) = subst (AreGiven m s n sources) some'.2 gives' in
    let p : act m s (t, r) ≡ act m s (t, w) = source_act_unique m s.objects (sources t) refused (asked m s t) r w some.3 some'.3
    (trying_enters_if_it_can m s t r refused some.4) (trying_enters_if_it_can m s t w refused some'.4)
    (first_takes_next_answer m s n sources (t, r) some.1 given_a below.0) (first_takes_next_answer m s n sources (t, w) some'.1 given_b below.0) in
    let rest = rest_after_equal_act m s n sources t r w (turns ++ more) some'.1 p some'.5 given_b in
    let h : Alike m s ((t, r) ∷ some.1) ((t, w) ∷ some'.1) = alike_step m s t r w some.1 some'.1 p
    (extended_turns_alike m n more turns (after m s (t, r)) (upd sources t (source_left_by (act m s (t, r)) (sources t))) some.1 some'.1 below.1 some.5
    (subst (λ z. IsDone m (end m s z)) some.2 done) rest.0 (rest_is_given m s n sources (t, r) some.1 given_a) rest.1) in
    subst (λ z. Alike m s z b) (sym some.2) (subst (Alike m s ((t, r) ∷ some.1)) (sym some'.2) h)

-- more rounds
rounds_of_sum : (n c d : ℕ) → rounds n (c + d) ≡ rounds n c ++ rounds n d
rounds_of_sum n zero d = let e : zero + d ≡ d = omega arith in ap (rounds n) e
rounds_of_sum n (suc c) d = let e : suc c + d ≡ suc (c + d) = omega arith in
    ap (rounds n) e ∙ ap (λ (z : List ℕ). range_with_len 0 n ++ z) (rounds_of_sum n c d)
    ∙ sym (append_assoc (range_with_len 0 n) (rounds n c) (rounds n d))

rounds_split_in_turns : {T : Type 0} (m : Machine T) (s : State T) (n c d : ℕ) (turns : List Turn) (run : List Step) → c ≤ d
    → InTurns m s (turns ++ plain_turns (rounds n d)) run → InTurns m s ((turns ++ plain_turns (rounds n c)) ++ plain_turns (rounds n (d - c))) run
rounds_split_in_turns m s n c d turns run l h =
    let e : c + (d - c) ≡ d = omega (arith, l) in
    subst (λ (z : List Turn). InTurns m s z run)
    (ap (λ (k : ℕ). turns ++ plain_turns (rounds n k)) (sym e) ∙ ap (λ (z : List ℕ). turns ++ plain_turns z) (rounds_of_sum n c (d - c))
    ∙ ap (λ (z : List Turn). turns ++ z) (plain_turns_of_append (rounds n c) (rounds n (d - c)))
    ∙ sym (append_assoc turns (plain_turns (rounds n c)) (plain_turns (rounds n (d - c))))) h

-- runs by turns are alike where the one takes no more rounds than the other
alike_if_fewer_rounds : {T : Type 0} (m : Machine T) (s : State T) (n : ℕ) (sources : ℕ → Source) (turns : List Turn) (a b : List Step) → IsIdle m s n
    → (x : IsByTurns m s n turns a) (y : IsByTurns m s n turns b) → x.count ≤ y.count → AreGiven m s n sources a
    → AreGiven m s n sources b → Alike m s a b
alike_if_fewer_rounds m s n sources turns a b idle x y l gives gives' =
    extended_turns_alike m n (plain_turns (rounds n (y.count - x.count))) (turns ++ plain_turns (rounds n x.count)) s sources a b idle x.in_turns x.done
    (rounds_split_in_turns m s n x.count y.count turns b l y.in_turns) gives gives'

-- they are the same
runs_by_turns_are_same : {T : Type 0} (m : Machine T) (s : State T) (n : ℕ) (sources : ℕ → Source) (turns : List Turn) (a b : List Step) → IsIdle m s n
    → IsByTurns m s n turns a → IsByTurns m s n turns b → AreGiven m s n sources a → AreGiven m s n sources b → AreSameRuns m s a b
runs_by_turns_are_same m s n sources turns a b idle x y gives gives' = elim (cases_lt x.count y.count) [
  | inl l ↦ same_runs_if_alike m s a b (alike_if_fewer_rounds m s n sources turns a b idle x y (omega (arith, l)) gives gives')
  | inr g ↦ turned m s a b (same_runs_if_alike m s b a (alike_if_fewer_rounds m s n sources turns b a idle y x g gives' gives))
]
  where
    turned : {T : Type 0} (m : Machine T) (s : State T) (a b : List Step) → AreSameRuns m s b a → AreSameRuns m s a b
    turned m s a b h = record { steps = sym h.steps; trails = λ t. sym (h.trails t); traces = sym h.traces; ends = sym h.ends }

-- worlds in which calls for the time are counted answer from their sources alone
given_by_counted_worlds : {T : Type 0} (m : Machine T) (s : State T) (n : ℕ) (made : ℕ → MadeWith) (run : List Step)
    → ((t : ℕ) → t < n → (made t).counted ≡ true) → AreAnswered m s n made run
    → AreGiven m s n (λ t. source (made t).seed (made t).file) run
given_by_counted_worlds m s n made run counted h t l =
    subst (λ (c : Bool). (left : Source) × Gave (source (made t).seed (made t).file) (from_sources c (answers_in (log m s run t))) left)
    (counted t l) (h t l)

pub one_run_by_turns : OneRunByTurns
one_run_by_turns guest budget profile turns made a b counted x y =
    let f = start_flat guest budget profile in
    runs_by_turns_are_same (machine f) (tables f) (length guest.entries) (λ t. source (made t).seed (made t).file) turns a b
    (guest_start_is_idle guest budget profile) x.by_turns y.by_turns
    (given_by_counted_worlds (machine f) (tables f) (length guest.entries) made a counted x.answered)
    (given_by_counted_worlds (machine f) (tables f) (length guest.entries) made b counted y.answered)

-- a run by an order is one by its turns
pub answered_by_plain_turns : (guest : Guest) (budget : ℕ) (profile : Profile) (order : List ℕ) (made : ℕ → MadeWith) (run : List Step)
    → IsAnsweredByOrder guest budget profile order made run → IsAnsweredByTurns guest budget profile (plain_turns order) made run
answered_by_plain_turns guest budget profile order made run x = record {
  by_turns = plain_turns_from_order (machine (start_flat guest budget profile)) (tables (start_flat guest budget profile)) (length guest.entries) order run
      x.by_order;
  answered = x.answered;
}

pub one_run_by_order : OneRunByAnOrder
one_run_by_order guest budget profile order made a b counted x y = one_run_by_turns guest budget profile (plain_turns order) made a b counted
    (answered_by_plain_turns guest budget profile order made a x) (answered_by_plain_turns guest budget profile order made b y)

pub plain_turns_are_orders : PlainTurnsAreOrders
plain_turns_are_orders m s n order run = (order_from_plain_turns m s n order run, plain_turns_from_order m s n order run)

-- Turns in which tries may be refused.
use Rattle.std.proofs.Common.{◌≡◌, ℕ, false, List, [], ◌∷◌, ◌++◌, sym, ap, subst, inl, inr}
use Rattle.std.proofs.lemmas.List.{map-append}
use Rattle.ir_runs.specs.Machine.{Machine}
use Rattle.ir_runs.specs.Run.{State, Step, after, IsRun, end, rounds}
use Rattle.ir_runs.specs.Orders.{InTurn, IsByOrder}
use Rattle.ir_record.specs.Refusing.{Turn, plain_turns, InTurns, IsByTurns}

pub plain_turns_of_append : (xs ys : List ℕ) → plain_turns (xs ++ ys) ≡ plain_turns xs ++ plain_turns ys
plain_turns_of_append xs ys = map-append (λ t. (t, false)) xs ys

-- turns make a run
pub is_run_if_in_turns : {T : Type 0} (m : Machine T) (s : State T) (turns : List Turn) (run : List Step) → InTurns m s turns run → IsRun m s run
is_run_if_in_turns m s [] run e = subst (IsRun m s) (sym e) tt
is_run_if_in_turns m s ((t, refused) ∷ turns) run (inl none) = is_run_if_in_turns m s turns run none.1
is_run_if_in_turns m s ((t, refused) ∷ turns) run (inr some) =
    subst (IsRun m s) (sym some.2) (some.3, is_run_if_in_turns m (after m s (t, some.0)) turns some.1 some.5)

-- turns, and then others
pub in_turns_of_append : {T : Type 0} (m : Machine T) (s : State T) (turns more : List Turn) (run rest : List Step) → InTurns m s turns run
    → InTurns m (end m s run) more rest → InTurns m s (turns ++ more) (run ++ rest)
in_turns_of_append m s [] more run rest e h = subst (λ z. InTurns m s more (z ++ rest)) (sym e) (subst (λ z. InTurns m (end m s z) more rest) e h)
in_turns_of_append m s ((t, refused) ∷ turns) more run rest (inl none) h = inl (none.0, in_turns_of_append m s turns more run rest none.1 h)
in_turns_of_append m s ((t, refused) ∷ turns) more run rest (inr some) h = inr (
  some.0,
  some.1 ++ rest,
  ap (λ z. z ++ rest) some.2,
  some.3,
  some.4,
  in_turns_of_append m (after m s (t, some.0)) turns more some.1 rest some.5 (subst (λ z. InTurns m (end m s z) more rest) some.2 h),
)

-- ---- turns in which no try is refused that may enter

pub plain_turns_of_order : {T : Type 0} (m : Machine T) (s : State T) (order : List ℕ) (run : List Step) → InTurn m s order run
    → InTurns m s (plain_turns order) run
plain_turns_of_order m s [] run e = e
plain_turns_of_order m s (t ∷ order) run (inl none) = inl (none.0, plain_turns_of_order m s order run none.1)
plain_turns_of_order m s (t ∷ order) run (inr some) =
    inr (some.0, some.1, some.2, some.3, some.4, plain_turns_of_order m (after m s (t, some.0)) order some.1 some.5)

pub order_of_plain_turns : {T : Type 0} (m : Machine T) (s : State T) (order : List ℕ) (run : List Step) → InTurns m s (plain_turns order) run
    → InTurn m s order run
order_of_plain_turns m s [] run e = e
order_of_plain_turns m s (t ∷ order) run (inl none) = inl (none.0, order_of_plain_turns m s order run none.1)
order_of_plain_turns m s (t ∷ order) run (inr some) =
    inr (some.0, some.1, some.2, some.3, some.4, order_of_plain_turns m (after m s (t, some.0)) order some.1 some.5)

pub plain_turns_from_order : {T : Type 0} (m : Machine T) (s : State T) (n : ℕ) (order : List ℕ) (run : List Step) → IsByOrder m s n order run
    → IsByTurns m s n (plain_turns order) run
plain_turns_from_order m s n order run h = record {
  count = h.count;
  in_turns = subst (λ z. InTurns m s z run) (plain_turns_of_append order (rounds n h.count))
      (plain_turns_of_order m s (order ++ rounds n h.count) run h.turns);
  done = h.done;
}

pub order_from_plain_turns : {T : Type 0} (m : Machine T) (s : State T) (n : ℕ) (order : List ℕ) (run : List Step) → IsByTurns m s n (plain_turns order) run
    → IsByOrder m s n order run
order_from_plain_turns m s n order run h = record {
  count = h.count;
  turns = order_of_plain_turns m s (order ++ rounds n h.count) run
      (subst (λ z. InTurns m s z run) (sym (plain_turns_of_append order (rounds n h.count))) h.in_turns);
  done = h.done;
}

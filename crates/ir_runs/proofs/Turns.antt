-- Turns one after the other.
use Rattle.std.proofs.Common.{ℕ, List, [], ◌∷◌, ◌++◌, refl, sym, ap, subst, inl, inr, append-nil}
use Rattle.ir_runs.specs.Machine.{Machine}
use Rattle.ir_runs.specs.Run.{State, Step, Can, after, IsRun, end, EntersIfFree, HasNone}
use Rattle.ir_runs.specs.Orders.{InTurn}

-- turns make a run
pub run_in_turn_is_run : {T : Type 0} (m : Machine T) (s : State T) (order : List ℕ) (run : List Step) → InTurn m s order run → IsRun m s run
run_in_turn_is_run m s [] run e = subst (IsRun m s) (sym e) tt
run_in_turn_is_run m s (t ∷ order) run (inl none) = run_in_turn_is_run m s order run none.1
run_in_turn_is_run m s (t ∷ order) run (inr some) = subst (IsRun m s) (sym some.2) (some.3, run_in_turn_is_run m (after m s (t, some.0)) order some.1 some.5)

-- turns, and then others
pub in_turn_of_append : {T : Type 0} (m : Machine T) (s : State T) (order more : List ℕ) (run rest : List Step) → InTurn m s order run
    → InTurn m (end m s run) more rest → InTurn m s (order ++ more) (run ++ rest)
in_turn_of_append m s [] more run rest e h = subst (λ z. InTurn m s more (z ++ rest)) (sym e) (subst (λ z. InTurn m (end m s z) more rest) e h)
in_turn_of_append m s (t ∷ order) more run rest (inl none) h = inl (none.0, in_turn_of_append m s order more run rest none.1 h)
in_turn_of_append m s (t ∷ order) more run rest (inr some) h = inr (
  some.0,
  some.1 ++ rest,
  ap (λ z. z ++ rest) some.2,
  some.3,
  some.4,
  in_turn_of_append m (after m s (t, some.0)) order more some.1 rest some.5 (subst (λ z. InTurn m (end m s z) more rest) some.2 h),
)

-- an entry more: a step of its thread
pub in_turn_after_taken : {T : Type 0} (m : Machine T) (s : State T) (order : List ℕ) (run : List Step) (t r : ℕ) → InTurn m s order run
    → Can m (end m s run) (t, r) → EntersIfFree m (end m s run) (t, r) → InTurn m s (order ++ t ∷ []) (run ++ (t, r) ∷ [])
in_turn_after_taken m s order run t r h can free = in_turn_of_append m s order (t ∷ []) run ((t, r) ∷ []) h (inr (r, [], refl, can, free, refl))

-- an entry more, of a thread that has no step
pub in_turn_after_skipped : {T : Type 0} (m : Machine T) (s : State T) (order : List ℕ) (run : List Step) (t : ℕ) → InTurn m s order run
    → HasNone m (end m s run) t → InTurn m s (order ++ t ∷ []) run
in_turn_after_skipped m s order run t h none = subst (InTurn m s (order ++ t ∷ [])) (append-nil run)
    (in_turn_of_append m s order (t ∷ []) run [] h (inl (none, refl)))

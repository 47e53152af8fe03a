-- Turns of many threads.
use Rattle.std.proofs.Common.{◌≡◌, ℕ, zero, suc, ◌+◌, ◌<◌, ◌≤◌, Bool, List, [], ◌∷◌, ◌++◌, length, sym, ap, ◌∙◌, subst, arith, inl, inr, length-append, append-nil, append_assoc}
use Rattle.std.proofs.lemmas.Bool.{cases_eq}
use Rattle.std.specs.List.{range_with_len}
use Rattle.ir_runs.specs.Machine.{Machine}
use Rattle.ir_runs.specs.Run.{State, rounds, HasNone}
use Rattle.ir_runs.specs.Orders.{InTurn}
use Rattle.ir_record.specs.Progress.{Progress, TookSteps, TookTurns, IsReadyToRecord, HasLogs}
use Rattle.ir_record.specs.Refusing.{Turn}

pub append_nonempty_first : {X : Type 0} (xs ys : List X) → 0 < length xs → 0 < length (xs ++ ys)
append_nonempty_first xs ys l = let n = length-append xs ys in omega (arith, n, l)

pub append_nonempty_second : {X : Type 0} (xs ys : List X) → 0 < length ys → 0 < length (xs ++ ys)
append_nonempty_second xs ys l = let n = length-append xs ys in omega (arith, n, l)

-- n numbers and the next one
pub range_with_last_number : (from n : ℕ) → range_with_len from n ++ (from + n) ∷ [] ≡ range_with_len from (suc n)
range_with_last_number from zero = ap (λ k. k ∷ []) (let e : from + 0 ≡ from = omega arith in e)
range_with_last_number from (suc n) = ap (λ xs. from ∷ xs)
    (ap (λ k. range_with_len (from + 1) n ++ k ∷ []) (let e : from + suc n ≡ from + 1 + n = omega arith in e) ∙ range_with_last_number (from + 1) n)

-- turns in which no thread takes a step
pub no_steps_in_empty_turns : {T : Type 0} (m : Machine T) (s : State T) (from n : ℕ) → InTurn m s (range_with_len from n) [] → (t : ℕ) → from ≤ t
    → t < from + n → HasNone m s t
no_steps_in_empty_turns m s from zero h t low high = absurd (omega arith)
no_steps_in_empty_turns m s from (suc n) (inl none) t low high = elim (cases_eq t from) [
  | inl e ↦ subst (HasNone m s) (sym e) none.0
  | inr ne ↦ no_steps_in_empty_turns m s (from + 1) n none.1 t (omega (arith, low, ne)) (omega (arith, high))
]
no_steps_in_empty_turns m s from (suc n) (inr some) t low high = absurd (cc some.2)

-- rounds, and a round more
pub rounds_with_round_added : (n count : ℕ) → rounds n count ++ range_with_len 0 n ≡ rounds n (suc count)
rounds_with_round_added n zero = sym (append-nil (range_with_len 0 n))
rounds_with_round_added n (suc count) = append_assoc (range_with_len 0 n) (rounds n count) (range_with_len 0 n)
    ∙ ap (λ z. range_with_len 0 n ++ z) (rounds_with_round_added n count)

pub rounds_add_up : (n first more : ℕ) → rounds n first ++ rounds n more ≡ rounds n (first + more)
rounds_add_up n zero more = ap (rounds n) (let e : more ≡ 0 + more = omega arith in e)
rounds_add_up n (suc first) more = append_assoc (range_with_len 0 n) (rounds n first) (rounds n more)
    ∙ ap (λ z. range_with_len 0 n ++ z) (rounds_add_up n first more)
    ∙ ap (rounds n) (let e : suc (first + more) ≡ suc first + more = omega arith in e)

-- what holds before turns holds after them
pub ready_after_took_order : (order : List ℕ) (a b : Progress) (was : List Bool) → IsReadyToRecord a was → TookSteps order a b → HasLogs b.flat b.logs
    → b.answers ≡ a.answers → IsReadyToRecord b was
ready_after_took_order order a b was ready took has_logs same =
    record { has_logs = has_logs; worlds = ap (λ xs. length xs) same ∙ ready.worlds ∙ sym took.threads; works = ready.works }

-- the same of turns in which tries may be refused
pub ready_after_took_turns : (turns : List Turn) (a b : Progress) (was : List Bool) → IsReadyToRecord a was → TookTurns turns a b → HasLogs b.flat b.logs
    → b.answers ≡ a.answers → IsReadyToRecord b was
ready_after_took_turns turns a b was ready took has_logs same =
    record { has_logs = has_logs; worlds = ap (λ xs. length xs) same ∙ ready.worlds ∙ sym took.moved.threads; works = ready.works }

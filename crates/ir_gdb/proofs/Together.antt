-- Threads that a move meets on its way, one by one.
use Rattle.std.proofs.Common.{◌≡◌, ◌≢◌, ◌<◌, ◌+◌, ◌-◌, ◌∙◌, ◌⊎◌, ℕ, zero, suc, Bool, true, false, List, inl, inr, refl, sym, ap, subst, arith}
use Rattle.std.specs.Prelude.{◌&&◌, ◌||◌}
use Rattle.ir_lemmas.proofs.CallerLemmas.{conjunction_with_false}
use Rattle.ir_command.specs.declared.command.Direction.{Direction}
use Rattle.ir_gdb.specs.declared.stopped.Stopped.{Stopped}
use Rattle.ir_gdb.specs.Stub.{Stub}
use Rattle.ir_gdb.specs.Together.{passes, is_free, moves, moves_other}

-- ---- whether none has a hit on its way

is_free_step : (s : Stub) (d : Direction) (each : List Stopped) (cut : List ℕ) (t u : ℕ)
    → is_free s d each cut t (u + 1) ≡ (is_free s d each cut t u && passes s d each cut t u)
unfolding is_free
is_free_step s d each cut t u = let same : u + 1 ≡ suc u = omega arith in ap (λ (n : ℕ). is_free s d each cut t n) same

pub is_free_of_no_threads : (s : Stub) (d : Direction) (each : List Stopped) (cut : List ℕ) (t : ℕ) → is_free s d each cut t 0 ≡ true
unfolding is_free
is_free_of_no_threads s d each cut t = refl

pub is_free_if_next_passes : (s : Stub) (d : Direction) (each : List Stopped) (cut : List ℕ) (t u : ℕ) → is_free s d each cut t u ≡ true
    → passes s d each cut t u ≡ true → is_free s d each cut t (u + 1) ≡ true
is_free_if_next_passes s d each cut t u so next =
    is_free_step s d each cut t u ∙ ap (λ (b : Bool). b && passes s d each cut t u) so ∙ next

not_free_past_one : (s : Stub) (d : Direction) (each : List Stopped) (cut : List ℕ) (t u more : ℕ) → passes s d each cut t u ≡ false
    → is_free s d each cut t (more + (u + 1)) ≡ false
not_free_past_one s d each cut t u zero hit =
    let same : zero + (u + 1) ≡ u + 1 = omega arith in
    ap (λ (n : ℕ). is_free s d each cut t n) same ∙ is_free_step s d each cut t u ∙ ap (λ (b : Bool). is_free s d each cut t u && b) hit ∙ conjunction_with_false (is_free s d each cut t u)
not_free_past_one s d each cut t u (suc more) hit =
    let same : suc more + (u + 1) ≡ more + (u + 1) + 1 = omega arith in
    ap (λ (n : ℕ). is_free s d each cut t n) same ∙ is_free_step s d each cut t (more + (u + 1))
    ∙ ap (λ (b : Bool). b && passes s d each cut t (more + (u + 1))) (not_free_past_one s d each cut t u more hit)

pub not_free_by_one : (s : Stub) (d : Direction) (each : List Stopped) (cut : List ℕ) (t u n : ℕ) → passes s d each cut t u ≡ false → u < n
    → is_free s d each cut t n ≡ false
not_free_by_one s d each cut t u n hit below =
    let same : n ≡ n - (u + 1) + (u + 1) = omega (arith, below) in
    ap (λ (k : ℕ). is_free s d each cut t k) same ∙ not_free_past_one s d each cut t u (n - (u + 1)) hit

-- ---- whether another moves

moves_other_step : (s : Stub) (cut : List ℕ) (t u : ℕ) → moves_other s cut t (u + 1) ≡ (moves_other s cut t u || moves s cut t u)
unfolding moves_other
moves_other_step s cut t u = let same : u + 1 ≡ suc u = omega arith in ap (λ (n : ℕ). moves_other s cut t n) same

pub moves_other_nobody : (s : Stub) (cut : List ℕ) (t : ℕ) → moves_other s cut t 0 ≡ false
unfolding moves_other
moves_other_nobody s cut t = refl

pub moves_other_false_step : (s : Stub) (cut : List ℕ) (t u : ℕ) → moves_other s cut t u ≡ false → moves s cut t u ≡ false
    → moves_other s cut t (u + 1) ≡ false
moves_other_false_step s cut t u so next = moves_other_step s cut t u ∙ ap (λ (b : Bool). b || moves s cut t u) so ∙ next

disjunction_with_true : (b : Bool) → (b || true) ≡ true
disjunction_with_true true = refl
disjunction_with_true false = refl

moves_other_past_one : (s : Stub) (cut : List ℕ) (t u more : ℕ) → moves s cut t u ≡ true → moves_other s cut t (more + (u + 1)) ≡ true
moves_other_past_one s cut t u zero moved =
    let same : zero + (u + 1) ≡ u + 1 = omega arith in
    ap (λ (n : ℕ). moves_other s cut t n) same ∙ moves_other_step s cut t u ∙ ap (λ (b : Bool). moves_other s cut t u || b) moved ∙ disjunction_with_true (moves_other s cut t u)
moves_other_past_one s cut t u (suc more) moved =
    let same : suc more + (u + 1) ≡ more + (u + 1) + 1 = omega arith in
    ap (λ (n : ℕ). moves_other s cut t n) same ∙ moves_other_step s cut t (more + (u + 1))
    ∙ ap (λ (b : Bool). b || moves s cut t (more + (u + 1))) (moves_other_past_one s cut t u more moved)

pub moves_other_by_one : (s : Stub) (cut : List ℕ) (t u n : ℕ) → moves s cut t u ≡ true → u < n → moves_other s cut t n ≡ true
moves_other_by_one s cut t u n moved below =
    let same : n ≡ n - (u + 1) + (u + 1) = omega (arith, below) in
    ap (λ (k : ℕ). moves_other s cut t k) same ∙ moves_other_past_one s cut t u (n - (u + 1)) moved

-- ---- the first that is met

pub below_next_cases : (u n : ℕ) → u < n + 1 → (u < n) ⊎ (u ≡ n)
below_next_cases u zero below = inr (omega (arith, below))
below_next_cases zero (suc n) below = inl (omega arith)
below_next_cases (suc u) (suc n) below = next (below_next_cases u n (omega (arith, below)))
  where
    next : (u < n) ⊎ (u ≡ n) → (suc u < suc n) ⊎ (suc u ≡ suc n)
    next (inl less) = inl (omega (arith, less))
    next (inr same) = inr (ap suc same)

-- a fact of all threads below n but t, and of thread n if it isn't t
pub holds_below_except_one : (P : ℕ → Type 0) (t n : ℕ) → ((u : ℕ) → u < n → u ≢ t → P u) → (n ≢ t → P n) → (u : ℕ) → u < n + 1 → u ≢ t → P u
holds_below_except_one P t n all next u below other = by (below_next_cases u n below)
  where
    by : (u < n) ⊎ (u ≡ n) → P u
    by (inl less) = all u less other
    by (inr same) = subst P (sym same) (next (λ at. other (same ∙ at)))

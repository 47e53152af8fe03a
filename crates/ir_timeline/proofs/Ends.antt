-- The first and the last cut.
use Rattle.std.specs.List.{range_with_len}
use Rattle.std.proofs.Common.{◌≡◌, subst, ℕ, zero, suc, ◌+◌, ◌<◌, List, [], ◌∷◌, ◌++◌, length, sym, ap, ◌∙◌, arith, inl, inr, refl}
use Rattle.std.specs.Prelude.{map}
use Rattle.std.proofs.Math.Path.{fun_ext}
use Rattle.std.proofs.lemmas.Bool.{cases_lt}
use Rattle.std.proofs.lemmas.List.{get_or_past}
use Rattle.ir_flat.proofs.CallerLemmas.{guest_start_is_idle}
use Rattle.ir_runs.specs.Run.{Step, trail, count, Cut}
use Rattle.ir_fit.specs.Fit.{FittedTrace, IsRunOf}
use Rattle.ir_fit.proofs.CallerLemmas.{idle_has_empty_trail, at_is_get_or}
use Rattle.ir_cut.specs.Positions.{machine_of, start_of, cut_of, IsConsistentCut, threads_of, last_of, first_cut, last_cut}
use Rattle.ir_weave.specs.Standing.{Standing, StandsAtCut}
use Rattle.ir_cut.proofs.CallerLemmas.{cut_of_zeros_is_zero}

-- ---- the first

first_cut_zero : (f : FittedTrace) (at : List ℕ) (t : ℕ) → at ≡ first_cut f → cut_of at t ≡ 0
first_cut_zero f at t is = ap (λ xs. cut_of xs t) is ∙ cut_of_zeros_is_zero (threads_of f) t

-- the guest at its start is at the first cut
pub start_at_first_cut : (f : FittedTrace) (s : Standing) (at : List ℕ) → at ≡ first_cut f → StandsAtCut f (λ t. 0) s → StandsAtCut f (cut_of at) s
start_at_first_cut f s at is h = subst (λ (p : Cut). StandsAtCut f p s) (fun_ext (λ t. sym (first_cut_zero f at t is))) h

-- ---- the last

-- the last positions of n threads, from this one on
abbrev pub last_positions : FittedTrace → ℕ → ℕ → List ℕ
last_positions f from n = map (last_of f) (range_with_len from n)

pub length-last_positions : (f : FittedTrace) (from n : ℕ) → length (last_positions f from n) ≡ n
length-last_positions f from zero = refl
length-last_positions f from (suc n) = ap suc (length-last_positions f (from + 1) n)

last_positions_at : (f : FittedTrace) (from n t : ℕ) → t < n → cut_of (last_positions f from n) t ≡ last_of f (from + t)
last_positions_at f from zero t l = absurd (omega (arith, l))
last_positions_at f from (suc n) zero l = ap (last_of f) (let e : from ≡ from + 0 = omega arith in e)
last_positions_at f from (suc n) (suc t) l =
    last_positions_at f (from + 1) n t (omega (arith, l)) ∙ ap (last_of f) (let e : from + 1 + t ≡ from + suc t = omega arith in e)

pub no_threads_no_positions : (f : FittedTrace) (xs : List ℕ) → xs ≡ [] → xs ≡ last_positions f 0 0
no_threads_no_positions f xs is = is

last_positions_step : (f : FittedTrace) (from n : ℕ) → last_positions f from n ++ last_of f (from + n) ∷ [] ≡ last_positions f from (suc n)
last_positions_step f from zero = ap (λ t. last_of f t ∷ []) (let e : from + 0 ≡ from = omega arith in e)
last_positions_step f from (suc n) = ap (λ xs. last_of f from ∷ xs)
    (ap (λ t. last_positions f (from + 1) n ++ last_of f t ∷ []) (let e : from + suc n ≡ from + 1 + n = omega arith in e)
    ∙ last_positions_step f (from + 1) n)

-- one more thread
pub last_positions_push : (f : FittedTrace) (n : ℕ) (xs ys : List ℕ) (last : ℕ) → last ≡ last_of f n → ys ≡ xs ++ last ∷ []
    → xs ≡ last_positions f 0 n → ys ≡ last_positions f 0 (n + 1)
last_positions_push f n xs ys last is more so_far =
    more ∙ ap (λ z. xs ++ z ∷ []) is ∙ ap (λ zs. zs ++ last_of f n ∷ []) so_far
    ∙ ap (λ t. last_positions f 0 n ++ last_of f t ∷ []) (let e : n ≡ 0 + n = omega arith in e) ∙ last_positions_step f 0 n
    ∙ ap (last_positions f 0) (let e : suc n ≡ n + 1 = omega arith in e)

-- each thread's position is the number of its steps
last_cut_is_count : (f : FittedTrace) (run : List Step) → IsRunOf f.guest f.recorded run → (t : ℕ)
    → cut_of (last_cut f) t ≡ count (machine_of f) (start_of f) run t
last_cut_is_count f run whole t = elim (cases_lt t (threads_of f)) [
  | inl l ↦ last_positions_at f 0 (threads_of f) t l ∙ ap (last_of f) (let e : 0 + t ≡ t = omega arith in e) ∙ sym (whole.1.steps t l)
  | inr past ↦ get_or_past (last_cut f) t 0 (let n = length-last_positions f 0 (threads_of f) in omega (arith, n, past)) ∙
      sym (ap length (idle_has_empty_trail (machine_of f) (start_of f) (threads_of f) (guest_start_is_idle f.guest f.recorded.budget f.recorded.profile) run whole.1.runs t past))
]

pub last_cut_is_consistent : (f : FittedTrace) → IsConsistentCut f (last_cut f)
last_cut_is_consistent f run whole = (
  λ t. let all = last_cut_is_count f run whole t in omega (arith, all),
  λ t k u j a b emitted needed needs less. let all = last_cut_is_count f run whole u in
      let within = (at_is_get_or (trail (machine_of f) (start_of f) run u) j (needed.0, b) needed.1).0 in
      omega (arith, all, within),
)

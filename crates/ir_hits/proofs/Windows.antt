-- Windows of a thread's positions, one after the other.
use Rattle.std.proofs.Common.{◌≡◌, ◌∙◌, ap, ℕ, suc, zero, ◌+◌, ◌≤◌, List, Option, Some, None, sym, subst, inl, inr, arith}
use Rattle.std.proofs.lemmas.Bool.{cases_eq}
use Rattle.ir_runs.specs.Run.{Step}
use Rattle.ir_fit.specs.Fit.{FittedTrace}
use Rattle.ir_hits.specs.Hits.{Numbered, HitByNumber, NoneWithin, IsLowest, IsLastHit}
use Rattle.ir_hits.specs.Searching.{IsNextHit, IsLastFrom, reached_position, window_start}
use Rattle.ir_command.specs.declared.hit.Hit.{Hit}
use Rattle.ir_hits.proofs.CallerLemmas.{last_hit_extends_above}

-- an empty window
pub no_hit_in_empty_window : (f : FittedTrace) (run : List Step) (points : List Numbered) (t from to : ℕ) → to ≤ from → NoneWithin f run points t from to
no_hit_in_empty_window f run points t from to empty j n low high h = omega (arith, empty, low, high)

-- one more position
pub no_hit_extends : (f : FittedTrace) (run : List Step) (points : List Numbered) (t from k : ℕ) → NoneWithin f run points t from k
    → ((n : ℕ) → HitByNumber f run points t k n → ⊥) → NoneWithin f run points t from (suc k)
no_hit_extends f run points t from k before here j n low high h = elim (cases_eq j k) [
  | inl same ↦ here n (subst (λ i. HitByNumber f run points t i n) same h)
  | inr ne ↦ before j n low (omega (arith, high, ne)) h
]

-- the position of a thread that has advanced to a hit
pub reached_is_hit_position : (to p : ℕ) (found : Option Hit) (h : Hit) → p ≡ reached_position to found → found ≡ Some h → p ≡ h.position
reached_is_hit_position to p found h there is = there ∙ ap (reached_position to) is

-- a window begins at most one position above
pub window_start_le_suc : (p : ℕ) → window_start p ≤ p + 1
window_start_le_suc zero = omega arith
window_start_le_suc (suc p) = omega arith

-- a hit is the last up to its own position
pub next_hit_is_last_to : (f : FittedTrace) (run : List Step) (points : List Numbered) (t from p to q : ℕ) (h : Hit) → from ≤ p → q ≡ h.position
    → IsNextHit f run points t p to (Some h) → IsLastFrom f run points t (window_start from) (q + 1) (Some h)
next_hit_is_last_to f run points t from p to q h low at next = (
  (let near = window_start_le_suc from in let above = next.0 in omega (arith, near, low, above)),
  omega (arith, at),
  no_hit_in_empty_window f run points t (suc h.position) (q + 1) (omega (arith, at)),
  next.3,
)

-- and stays it where none comes
pub last_hit_without_next : (f : FittedTrace) (run : List Step) (points : List Numbered) (t from p to : ℕ) → p ≤ to → (found : Option Hit)
    → IsLastFrom f run points t from (p + 1) found → IsNextHit f run points t p to None → IsLastFrom f run points t from (to + 1) found
last_hit_without_next f run points t from p to within found last next =
    last_hit_extends_above f run points t from (p + 1) (to + 1) found (omega (arith, within)) last
    (λ j n low high. next j n (omega (arith, low)) (omega (arith, high)))

-- the start is the last position so far
pub start_hit_last_at_start : (f : FittedTrace) (run : List Step) (points : List Numbered) (t p : ℕ) (h : Hit) → p ≡ 0 → h.position ≡ 0
    → IsLowest f run points t 0 h.number → IsLastHit f run points t (p + 1) (Some h)
start_hit_last_at_start f run points t p h start at here = (
  omega (arith, start, at),
  no_hit_in_empty_window f run points t (suc h.position) (p + 1) (omega (arith, start, at)),
  subst (λ k. IsLowest f run points t k h.number) (sym at) here,
)

pub no_start_hit_last_none : (f : FittedTrace) (run : List Step) (points : List Numbered) (t p : ℕ) → p ≡ 0
    → ((n : ℕ) → HitByNumber f run points t 0 n → ⊥) → IsLastHit f run points t (p + 1) None
no_start_hit_last_none f run points t p start none j n low high h =
    none n (subst (λ i. HitByNumber f run points t i n) (let e : j ≡ 0 = omega (arith, start, high) in e) h)
